-- Needs that are added to a graph.
use Rattle.std.proofs.Common.{◌≡◌, ℕ, zero, suc, ◌+◌, ◌<◌, ◌≤◌, List, [], ◌∷◌, ◌++◌, Some, if◌then◌else◌, Bool, true, false, length, get_or, refl, sym, ap, subst, ◌∙◌, arith, append_assoc, append-nil, get_or-set_same, length-set, length-append}
use Rattle.std.proofs.Math.ListN.{set}
use Rattle.std.proofs.Math.Seq.{set-append_seam, get_or-append_seam}
use Rattle.std.proofs.lemmas.List.{set-get_or}
use Rattle.std.specs.Str.{bytes_eq}
use Rattle.hdc_tree.specs.declared.program.NextTop.{NextTop}
use Rattle.hdc_tree.specs.declared.program.Top.{Top}
use Rattle.hdc_tree.specs.declared.program.Top.TheVariants as top
use Rattle.hdc_graph.specs.Needs.{Nodes}
use Rattle.hdc_written.specs.Mirror.{tops_behind}
use Rattle.hdc_written.specs.Scopes.{Binding, standing_for}
use Rattle.hdc_written.specs.TypeMirror.{type_exp_of}
use Rattle.hdc_written.specs.WrittenTypes.{WrittenType, type_constructor, type_variable, unit_type, type_in_parentheses, tuple_type, list_type, arrow_type, Types, no_type, next_type}
use Rattle.hdc_synonyms.specs.Synonyms.{top_types, declared_types, number_of, type_needs, each_type_needs, top_needs, each_top_needs, synonym_needs}
use Rattle.hdc_synonyms.specs.Adding.{unlinked, with_needs, top_added, each_added, AllBelow, AreWithin}

-- ---- one node

-- the second of two writes at one place counts
set_twice : {A : Type 0} (l : List A) (i : ℕ) (a b : A) → set (set l i a) i b ≡ set l i b
set_twice [] i a b = refl
set_twice (x ∷ xs) zero a b = refl
set_twice (x ∷ xs) (suc i) a b = ap (λ z. x ∷ z) (set_twice xs i a b)

-- no more needs
pub with_nothing : (n : ℕ) (g : Nodes) → with_needs n [] g ≡ g
with_nothing n g = ap (set g n) (append-nil (get_or g n [])) ∙ set-get_or g n []

-- needs in two parts
pub with_joined : (n : ℕ) (xs ys : List ℕ) (g : Nodes) → n < length g → with_needs n (xs ++ ys) g ≡ with_needs n ys (with_needs n xs g)
with_joined n xs ys g lt =
    let old = get_or g n [] in
    sym (set_twice g n (old ++ xs) (old ++ (xs ++ ys)))
    ∙ ap (set (set g n (old ++ xs)) n) (sym (append_assoc old xs ys) ∙ ap (λ z. z ++ ys) (sym (get_or-set_same g n (old ++ xs) [] lt)))

-- a node that needs more is no further node
pub same_size : (n : ℕ) (xs : List ℕ) (g : Nodes) → length (with_needs n xs g) ≡ length g
same_size n xs g = length-set g n (get_or g n [] ++ xs)

-- ---- all nodes

-- one more node at the end
pub one_more_unlinked : (n : ℕ) → unlinked n ++ [] ∷ [] ≡ unlinked (suc n)
one_more_unlinked zero = refl
one_more_unlinked (suc n) = ap (λ (z : Nodes). [] ∷ z) (one_more_unlinked n)

-- so many nodes are so many
pub size_unlinked : (n : ℕ) → length (unlinked n) ≡ n
size_unlinked zero = refl
size_unlinked (suc n) = ap (λ (k : ℕ). suc k) (size_unlinked n)

-- needs that are added are no further nodes
pub size_each_added : (declared : List (Binding ℕ)) (n : ℕ) (ts : List Top) (g : Nodes) → length (each_added declared n ts g) ≡ length g
size_each_added declared n [] g = refl
size_each_added declared n (t ∷ ts) g = size_each_added declared (suc n) ts (top_added declared n t g) ∙ same_size n (top_needs declared t) g

-- behind nodes that have their needs, the next one gets its own
seam : (done : Nodes) (xs : List ℕ) (rest : Nodes) → with_needs (length done) xs (done ++ [] ∷ rest) ≡ done ++ xs ∷ rest
seam done xs rest =
    ap (λ z. set (done ++ [] ∷ rest) (length done) (z ++ xs)) (get_or-append_seam done [] rest [])
    ∙ set-append_seam done [] rest xs

-- behind declarations that have their needs, the others get theirs
each_added_behind : (declared : List (Binding ℕ)) (n : ℕ) (ts : List Top) (done : Nodes) → length done ≡ n → each_added declared n ts (done ++ unlinked (length ts)) ≡ done ++ each_top_needs declared ts
each_added_behind declared n [] done e = refl
each_added_behind declared n (t ∷ ts) done e =
    let xs = top_needs declared t in
    let rest = unlinked (length ts) in
    let size : length (done ++ xs ∷ []) ≡ suc n = omega (arith, length-append done (xs ∷ []), e) in
    ap (λ k. each_added declared (suc n) ts (with_needs k xs (done ++ [] ∷ rest))) (sym e)
    ∙ ap (each_added declared (suc n) ts) (seam done xs rest ∙ sym (append_assoc done (xs ∷ []) rest))
    ∙ each_added_behind declared (suc n) ts (done ++ xs ∷ []) size
    ∙ append_assoc done (xs ∷ []) (each_top_needs declared ts)

-- all declarations get their needs
pub all_added : (declared : List (Binding ℕ)) (ts : List Top) → each_added declared 0 ts (unlinked (length ts)) ≡ each_top_needs declared ts
all_added declared ts = each_added_behind declared 0 ts [] refl

-- as many declarations are read as are held
pub size_tops_behind : (ns : List NextTop) → length (tops_behind ns) ≡ length ns
size_tops_behind [] = refl
size_tops_behind (n ∷ ns) = ap (λ (k : ℕ). suc k) (size_tops_behind ns)

-- each declaration is a node
pub size_each_top_needs : (declared : List (Binding ℕ)) (ts : List Top) → length (each_top_needs declared ts) ≡ length ts
size_each_top_needs declared [] = refl
size_each_top_needs declared (t ∷ ts) = ap (λ (k : ℕ). suc k) (size_each_top_needs declared ts)

-- ---- the numbers are those of declarations

-- one list behind another
within_joined : (limit : ℕ) (bs cs : List (Binding ℕ)) → AreWithin limit bs → AreWithin limit cs → AreWithin limit (bs ++ cs)
within_joined limit [] cs first second = second
within_joined limit (b ∷ bs) cs first second = (first.0, within_joined limit bs cs first.1 second)

-- those of one declaration
top_within : (limit n : ℕ) (t : Top) → n < limit → AreWithin limit (top_types n t)
top_within limit n (top.Data d) lt = (lt, tt)
top_within limit n (top.Synonym s) lt = (lt, tt)
top_within limit n top.Empty lt = tt
top_within limit n (top.Fixity f) lt = tt
top_within limit n (top.Signature x xs a t) lt = tt
top_within limit n (top.Equation h r) lt = tt

-- those of a text
pub declared_within : (limit n : ℕ) (ts : List Top) → n + length ts ≤ limit → AreWithin limit (declared_types n ts)
declared_within limit n [] le = tt
declared_within limit n (t ∷ ts) le = within_joined limit (top_types n t) (declared_types (suc n) ts) (top_within limit n t (omega arith)) (declared_within limit (suc n) ts (omega arith))

-- what a name stands for
number_below : (limit : ℕ) (t : List ℕ) (bs : List (Binding ℕ)) → AreWithin limit bs → AllBelow limit (number_of (standing_for t bs))
number_below limit t [] all = tt
number_below limit t (b ∷ bs) all = by (bytes_eq t b.name) (number_below limit t bs all.1)
  where
    by : (c : Bool) → AllBelow limit (number_of (standing_for t bs)) → AllBelow limit (number_of (if c then Some b.what else standing_for t bs))
    by true rest = (all.0, tt)
    by false rest = rest

-- one list behind another
below_joined : (limit : ℕ) (xs ys : List ℕ) → AllBelow limit xs → AllBelow limit ys → AllBelow limit (xs ++ ys)
below_joined limit [] ys first second = second
below_joined limit (x ∷ xs) ys first second = (first.0, below_joined limit xs ys first.1 second)

-- what a type needs is declared
mutual
  type_below : (limit : ℕ) (bs : List (Binding ℕ)) → AreWithin limit bs → (t : WrittenType) → AllBelow limit (type_needs bs t)
  type_below limit bs all (type_constructor c ts) = below_joined limit (number_of (standing_for c.text bs)) (each_type_needs bs ts) (number_below limit c.text bs all) (each_type_below limit bs all ts)
  type_below limit bs all (type_variable x) = tt
  type_below limit bs all (unit_type a) = tt
  type_below limit bs all (type_in_parentheses a t) = type_below limit bs all t
  type_below limit bs all (tuple_type a ts) = each_type_below limit bs all ts
  type_below limit bs all (list_type a t) = type_below limit bs all t
  type_below limit bs all (arrow_type t ts) = below_joined limit (type_needs bs t) (each_type_needs bs ts) (type_below limit bs all t) (each_type_below limit bs all ts)

  each_type_below : (limit : ℕ) (bs : List (Binding ℕ)) → AreWithin limit bs → (ts : Types) → AllBelow limit (each_type_needs bs ts)
  each_type_below limit bs all no_type = tt
  each_type_below limit bs all (next_type t ts) = below_joined limit (type_needs bs t) (each_type_needs bs ts) (type_below limit bs all t) (each_type_below limit bs all ts)

-- what a declaration needs is declared
pub top_below : (limit : ℕ) (bs : List (Binding ℕ)) → AreWithin limit bs → (t : Top) → AllBelow limit (top_needs bs t)
top_below limit bs all (top.Synonym s) = type_below limit bs all (type_exp_of s.meaning)
top_below limit bs all top.Empty = tt
top_below limit bs all (top.Data d) = tt
top_below limit bs all (top.Fixity f) = tt
top_below limit bs all (top.Signature x xs a t) = tt
top_below limit bs all (top.Equation h r) = tt

-- each of the numbers, by its place
pub below_at : (limit : ℕ) (xs : List ℕ) (k d : ℕ) → AllBelow limit xs → k < length xs → get_or xs k d < limit
below_at limit [] k d all lt = absurd (omega arith)
below_at limit (x ∷ xs) zero d all lt = all.0
below_at limit (x ∷ xs) (suc k) d all lt = below_at limit xs k d all.1 (omega arith)

-- ---- the graph of a text

-- the types of a text are those of so many declarations
pub text_within : (limit : ℕ) (first : Top) (rest : List NextTop) (declared : List (Binding ℕ)) → declared ≡ declared_types 0 (first ∷ tops_behind rest) → length rest < limit → AreWithin limit declared
text_within limit first rest declared e lt =
    let size = size_tops_behind rest in
    subst (AreWithin limit) (sym e) (declared_within limit 0 (first ∷ tops_behind rest) (omega (arith, size, lt)))

-- a graph without needs, to which those of a text are added, is the graph of the text
pub text_added : (first : Top) (rest : List NextTop) (declared : List (Binding ℕ)) (start now all : Nodes) → declared ≡ declared_types 0 (first ∷ tops_behind rest) → start ≡ unlinked (suc (length rest)) → now ≡ top_added declared 0 first start → all ≡ each_added declared 1 (tops_behind rest) now → all ≡ synonym_needs (first ∷ tops_behind rest)
text_added first rest declared start now all d e f g =
    let ts = first ∷ tops_behind rest in
    g
    ∙ ap (each_added declared 1 (tops_behind rest)) (f ∙ ap (top_added declared 0 first) (e ∙ ap (λ n. unlinked (suc n)) (sym (size_tops_behind rest))))
    ∙ all_added declared ts
    ∙ ap (λ z. each_top_needs z ts) d
