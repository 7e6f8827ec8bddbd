-- Types in environments, and what is pending.
use Rattle.std.proofs.Common.{◌≡◌, ℕ, zero, suc, ◌+◌, ◌<◌, ◌≤◌, List, [], ◌∷◌, ◌++◌, length, get_or, map, take, drop, Option, None, Some, refl, sym, ap, subst, ◌∙◌, append_assoc, append-nil, arith, length-append}
use Rattle.std.proofs.lemmas.List.{take-append-le, drop-append-le, length-drop}
use Rattle.std.proofs.Math.Seq.{get_or-append_seam}
use Rattle.hdc_resolved.specs.Mirror.{type_tree_of}
use Rattle.hdc_resolved.specs.Syntax.{SynonymOf}
use Rattle.hdc_value.specs.declared.ty.TypeNode.{TypeNode}
use Rattle.hdc_datas.specs.declared.expand.Environment.{Environment}
use Rattle.hdc_datas.specs.declared.expand.Closure.{Closure}
use Rattle.hdc_datas.specs.Closures.{arguments_of, in_environment, value_of, values_behind, output_by, IsWithin, AreWithin, AreBehind}
use Rattle.hdc_datas.specs.Expanded.{replaced, substituted, expanded}
use Rattle.hdc_datas.proofs.Substitution.{substituted_append, substituted_twice}

-- ---- environments

pub in_append : (values : List (List TypeNode)) (e : Option Environment) (ms ns : List TypeNode) → in_environment values e (ms ++ ns) ≡ in_environment values e ms ++ in_environment values e ns
in_append values None ms ns = refl
in_append values (Some e) ms ns = substituted_append (arguments_of values e) ms ns

map_same : (xs : List (List TypeNode)) → map (λ (x : List TypeNode). x) xs ≡ xs
map_same [] = refl
map_same (x ∷ xs) = ap (λ z. x ∷ z) (map_same xs)

pub in_substituted : (values : List (List TypeNode)) (e : Option Environment) (inner : List (List TypeNode)) (ns : List TypeNode) → in_environment values e (substituted inner ns) ≡ substituted (map (in_environment values e) inner) ns
in_substituted values None inner ns = ap (λ z. substituted z ns) (sym (map_same inner))
in_substituted values (Some e) inner ns = substituted_twice (arguments_of values e) inner ns

pub in_nothing : (values : List (List TypeNode)) (e : Option Environment) → in_environment values e [] ≡ []
in_nothing values None = refl
in_nothing values (Some e) = refl

-- a node that is no variable stays
pub in_node : (values : List (List TypeNode)) (e : Option Environment) (n : TypeNode) (ns : List TypeNode) → ((xs : List (List TypeNode)) → replaced xs n ≡ n ∷ []) → in_environment values e (n ∷ ns) ≡ n ∷ in_environment values e ns
in_node values None n ns plain = refl
in_node values (Some e) n ns plain = ap (λ z. z ++ substituted (arguments_of values e) ns) (plain (arguments_of values e))

-- more arguments at the end change nothing
arguments_kept : (values more : List (List TypeNode)) (e : Environment) → e.start + e.count ≤ length values → arguments_of (values ++ more) e ≡ arguments_of values e
arguments_kept values more e le =
    let start : e.start ≤ length values = omega (arith, le) in
    let room : e.count ≤ length (drop e.start values) = let l = length-drop e.start values in omega (arith, l, le) in
    ap (take e.count) (drop-append-le e.start values more start) ∙ take-append-le e.count (drop e.start values) more room

pub in_kept : (values more : List (List TypeNode)) (e : Option Environment) (ns : List TypeNode) → IsWithin (length values) e → in_environment (values ++ more) e ns ≡ in_environment values e ns
in_kept values more None ns within = refl
in_kept values more (Some e) ns within = ap (λ z. substituted z ns) (arguments_kept values more e within)

pub within_more : (n m : ℕ) (e : Option Environment) → n ≤ m → IsWithin n e → IsWithin m e
within_more n m None le within = tt
within_more n m (Some e) le within = let w : e.start + e.count ≤ n = within in omega (arith, le, w)

pub all_within_more : (n m : ℕ) (cs : List Closure) → n ≤ m → AreWithin n cs → AreWithin m cs
all_within_more n m [] le within = tt
all_within_more n m (c ∷ cs) le within = (within_more n m c.environment le within.0, all_within_more n m cs le within.1)

-- ---- arguments

pub length_values : (ss : List SynonymOf) (values : List (List TypeNode)) (cs : List Closure) → length (values_behind ss values cs) ≡ length values + length cs
length_values ss values [] = omega arith
length_values ss values (c ∷ cs) =
    let l = length-append values (value_of ss values c ∷ []) in
    let more = length_values ss (values ++ value_of ss values c ∷ []) cs in
    omega (arith, l, more)

pub values_more : (ss : List SynonymOf) (values : List (List TypeNode)) (cs : List Closure) (c : Closure) → values_behind ss values (cs ++ c ∷ []) ≡ values_behind ss values cs ++ value_of ss (values_behind ss values cs) c ∷ []
values_more ss values [] c = refl
values_more ss values (d ∷ cs) c = values_more ss (values ++ value_of ss values d ∷ []) cs c

pub behind_more : (n : ℕ) (cs : List Closure) (c : Closure) → AreBehind n cs → IsWithin (n + length cs) c.environment → AreBehind n (cs ++ c ∷ [])
behind_more n [] c behind within = (subst (λ (z : ℕ). IsWithin z c.environment) (omega arith) within, tt)
behind_more n (d ∷ cs) c behind within =
    (behind.0, behind_more (suc n) cs c behind.1 (subst (λ (z : ℕ). IsWithin z c.environment) (omega arith) within))

-- the values begin with those that were there
pub values_begin : (ss : List SynonymOf) (values : List (List TypeNode)) (cs : List Closure) → (more : List (List TypeNode)) × (values_behind ss values cs ≡ values ++ more)
values_begin ss values [] = ([], sym (append-nil values))
values_begin ss values (c ∷ cs) =
    let begun = values_begin ss (values ++ value_of ss values c ∷ []) cs in
    (value_of ss values c ∷ begun.0, begun.1 ∙ append_assoc values (value_of ss values c ∷ []) begun.0)

-- an argument has the value that is kept for it, and its environment is among the arguments
pub argument_value : (ss : List SynonymOf) (values : List (List TypeNode)) (cs : List Closure) (i : ℕ) (c : Closure) → AreBehind (length values) cs → i < length cs → c ≡ get_or cs i c
    → value_of ss (values_behind ss values cs) c ≡ get_or (values_behind ss values cs) (length values + i) []
argument_value ss values [] i c behind lt is = absurd (omega (arith, lt))
argument_value ss values (d ∷ cs) zero c behind lt is =
    let own = value_of ss values d in
    let begun = values_begin ss (values ++ own ∷ []) cs in
    let whole : values_behind ss (values ++ own ∷ []) cs ≡ values ++ (own ∷ begun.0) = begun.1 ∙ append_assoc values (own ∷ []) begun.0 in
    ap (λ z. value_of ss z c) whole
    ∙ ap (λ (z : Closure). value_of ss (values ++ (own ∷ begun.0)) z) is
    ∙ in_kept values (own ∷ begun.0) d.environment (expanded ss (type_tree_of d.part.now)) behind.0
    ∙ sym (get_or-append_seam values own begun.0 [])
    ∙ ap (λ (z : ℕ). get_or (values ++ (own ∷ begun.0)) z []) (omega arith)
    ∙ ap (λ z. get_or z (length values + 0) []) (sym whole)
argument_value ss values (d ∷ cs) (suc i) c behind lt is =
    let own = value_of ss values d in
    let l = length-append values (own ∷ []) in
    argument_value ss (values ++ own ∷ []) cs i c (subst (λ (z : ℕ). AreBehind z cs) (omega (arith, l)) behind.1) (omega (arith, lt)) is
    ∙ ap (λ (z : ℕ). get_or (values_behind ss (values ++ own ∷ []) cs) z []) (omega (arith, l))

pub argument_within : (n : ℕ) (cs : List Closure) (i : ℕ) (c : Closure) → AreBehind n cs → i < length cs → c ≡ get_or cs i c → IsWithin (n + length cs) c.environment
argument_within n [] i c behind lt is = absurd (omega (arith, lt))
argument_within n (d ∷ cs) zero c behind lt is =
    subst (λ (z : Closure). IsWithin (n + length (d ∷ cs)) z.environment) (sym is) (within_more n (n + length (d ∷ cs)) d.environment (omega arith) behind.0)
argument_within n (d ∷ cs) (suc i) c behind lt is =
    subst (λ (z : ℕ). IsWithin z c.environment) (omega arith) (argument_within (suc n) cs i c behind.1 (omega (arith, lt)) is)

-- ---- what is pending

pub output_more : (ss : List SynonymOf) (values : List (List TypeNode)) (cs : List Closure) (c : Closure) → output_by ss values (cs ++ c ∷ []) ≡ value_of ss values c ++ output_by ss values cs
output_more ss values [] c = sym (append-nil (value_of ss values c))
output_more ss values (d ∷ cs) c = ap (λ z. z ++ value_of ss values d) (output_more ss values cs c) ∙ append_assoc (value_of ss values c) (output_by ss values cs) (value_of ss values d)

pub output_kept : (ss : List SynonymOf) (values more : List (List TypeNode)) (cs : List Closure) → AreWithin (length values) cs → output_by ss (values ++ more) cs ≡ output_by ss values cs
output_kept ss values more [] within = refl
output_kept ss values more (c ∷ cs) within =
    ap (λ z. z ++ value_of ss (values ++ more) c) (output_kept ss values more cs within.1)
    ∙ ap (λ z. output_by ss values cs ++ z) (in_kept values more c.environment (expanded ss (type_tree_of c.part.now)) within.0)

pub all_within_one : (n : ℕ) (cs : List Closure) (c : Closure) → AreWithin n cs → IsWithin n c.environment → AreWithin n (cs ++ c ∷ [])
all_within_one n [] c within one = (one, tt)
all_within_one n (d ∷ cs) c within one = (within.0, all_within_one n cs c within.1 one)

pub all_within_front : (n : ℕ) (cs : List Closure) (c : Closure) → AreWithin n (cs ++ c ∷ []) → AreWithin n cs × IsWithin n c.environment
all_within_front n [] c within = (tt, within.0)
all_within_front n (d ∷ cs) c within = let front = all_within_front n cs c within.1 in ((within.0, front.0), front.1)
