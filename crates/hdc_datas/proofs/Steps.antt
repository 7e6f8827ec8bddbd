-- What the steps of an expansion do.
use Rattle.std.proofs.Common.{◌≡◌, ℕ, suc, ◌+◌, ◌<◌, ◌≤◌, List, [], ◌∷◌, ◌++◌, length, get_or, map, take, drop, Option, None, Some, MatchOption, refl, sym, ap, subst, ◌∙◌, append_assoc, append-nil, arith, length-append}
use Rattle.std.proofs.lemmas.List.{length-map, get_or-take, get_or-drop}
use Rattle.std.proofs.Math.Seq.{drop-cons, drop-append_seam, take-suc, take-length}
use Rattle.hdc_resolved.proofs.Mirror.{type_int, type_char, type_list, type_tuple, type_fun, type_data, type_synonym, type_var, type_unknown}
use Rattle.hdc_resolved.specs.declared.type_exp.Type as T
use Rattle.hdc_resolved.specs.declared.type_exp.Type.TheVariants as v
use Rattle.hdc_resolved.specs.Mirror.{type_tree_of, types}
use Rattle.hdc_resolved.specs.Syntax.{SynonymOf, TypeTree, int_type, char_type, list_type, tuple_type, function_type, data_type, synonym_type, type_variable, unknown_type, no_type}
use Rattle.hdc_value.specs.declared.ty.TypeNode.{TypeNode}
use Rattle.hdc_value.specs.declared.ty.TypeNode.TheVariants as node
use Rattle.hdc_datas.specs.declared.expand.Environment.{Environment}
use Rattle.hdc_datas.specs.declared.expand.Closure.{Closure}
use Rattle.hdc_datas.specs.declared.expand.Expansion.{Expansion}
use Rattle.hdc_datas.specs.Closures.{arguments_of, in_environment, value_of, values_behind, output_by, values_in, output_of, type_in, types_in, each_expanded, IsWithin, AreWithin, AreBehind, IsWell, Goes, Puts, Takes, IsPut, Opens}
use Rattle.hdc_datas.specs.Expanded.{replaced, substituted, count_of, all_flat, each_flat, expanded, expanded_meaning}
use Rattle.hdc_datas.specs.Settled.{meaning_of, StandsFor}
use Rattle.hdc_datas.proofs.Closing.{argument_value, argument_within, in_append, in_substituted, in_nothing, in_node, in_kept, within_more, all_within_more, length_values, values_more, behind_more, output_more, output_kept, all_within_one, all_within_front}

-- ---- what is pending

-- one more is pending
pub push_puts : (x y : Expansion) (c : Closure) → y.arguments ≡ x.arguments → y.pending ≡ x.pending ++ c ∷ [] → IsWell x → IsWithin (length x.arguments) c.environment → Puts (λ ss. value_of ss (values_in ss x) c) x y
push_puts x y c same more well within = record {
  well = record {
    arguments = subst (AreBehind 0) (sym same) well.arguments;
    pending =
        subst (λ (z : List Closure). AreWithin (length z) y.pending) (sym same)
        (subst (AreWithin (length x.arguments)) (sym more) (all_within_one (length x.arguments) x.pending c well.pending within));
  };
  arguments = same;
  output = λ ss.
      ap (λ (z : List Closure). output_by ss (values_behind ss [] z) y.pending) same
      ∙ ap (output_by ss (values_in ss x)) more
      ∙ output_more ss (values_in ss x) x.pending c;
}

pub puts_nothing : (x : Expansion) (e : Option Environment) → IsWell x → Puts (λ ss. types_in ss x e no_type) x x
puts_nothing x e well = record { well = well; arguments = refl; output = λ ss. ap (λ z. z ++ output_of ss x) (sym (in_nothing (values_in ss x) e)) }

-- what is put before what was put
pub both_put : (x y z : Expansion) (e : Option Environment) (first then : List SynonymOf → List TypeNode) → Puts (λ ss. in_environment (values_in ss x) e (then ss)) x y → Puts (λ ss. in_environment (values_in ss y) e (first ss)) y z → Puts (λ ss. in_environment (values_in ss x) e (first ss ++ then ss)) x z
both_put x y z e first then one other = record {
  well = other.well;
  arguments = other.arguments ∙ one.arguments;
  output = λ ss.
      other.output ss
      ∙ ap (λ (w : List Closure). in_environment (values_behind ss [] w) e (first ss) ++ output_of ss y) one.arguments
      ∙ ap (λ w. in_environment (values_in ss x) e (first ss) ++ w) (one.output ss)
      ∙ sym (append_assoc (in_environment (values_in ss x) e (first ss)) (in_environment (values_in ss x) e (then ss)) (output_of ss x))
      ∙ ap (λ w. w ++ output_of ss x) (sym (in_append (values_in ss x) e (first ss) (then ss)));
}

-- one more of the types in a list, before those behind it
pub all_step : (x y z : Expansion) (e : Option Environment) (parts : List T.Type) (k m : ℕ) (part : T.Type) → k < length parts → m ≡ suc k → part ≡ get_or parts k part
    → Puts (λ ss. types_in ss x e (types (map type_tree_of (drop m parts)))) x y → Puts (λ ss. type_in ss y e (type_tree_of part)) y z → Puts (λ ss. types_in ss x e (types (map type_tree_of (drop k parts)))) x z
all_step x y z e parts k m part lt is at one other =
    subst (λ w. Puts (λ ss. types_in ss x e (types (map type_tree_of w))) x z) (sym cons)
    (both_put x y z e (λ ss. expanded ss (type_tree_of part)) (λ ss. all_flat (expanded_meaning (length ss) ss) (types (map type_tree_of (drop m parts)))) one other)
  where
    cons : drop k parts ≡ part ∷ drop m parts
    cons = drop-cons parts k part lt ∙ ap (λ w. w ∷ drop (suc k) parts) (sym at) ∙ ap (λ (n : ℕ). part ∷ drop n parts) (sym is)

-- ---- the next one

pub takes : (x y : Expansion) (r : Option Closure) → y.arguments ≡ x.arguments → MatchOption r ((x.pending ≡ []) × (y.pending ≡ [])) (λ c. x.pending ≡ y.pending ++ c ∷ []) → IsWell x → Takes x y r
takes x y None same popped well = record {
  well = record {
    arguments = subst (AreBehind 0) (sym same) well.arguments;
    pending = subst (AreWithin (length y.arguments)) (sym popped.1) tt;
  };
  output = λ ss. ap (output_by ss (values_in ss x)) popped.0;
}
takes x y (Some c) same popped well =
    let front = all_within_front (length x.arguments) y.pending c (subst (AreWithin (length x.arguments)) popped well.pending) in
    record {
      well = record {
        arguments = subst (AreBehind 0) (sym same) well.arguments;
        pending = subst (λ (z : List Closure). AreWithin (length z) y.pending) (sym same) front.0;
      };
      output = record {
        within = subst (λ (z : List Closure). IsWithin (length z) c.environment) (sym same) front.1;
        output = λ ss.
            ap (output_by ss (values_in ss x)) popped
            ∙ output_more ss (values_in ss x) y.pending c
            ∙ ap (λ (z : List Closure). value_of ss (values_behind ss [] z) c ++ output_by ss (values_behind ss [] z) y.pending) (sym same);
      };
    }

-- ---- the root of a type is put out

module _ (ss : List SynonymOf) (ns nodes made : List TypeNode) (n : TypeNode) (x y : Expansion) (one : made ≡ nodes ++ n ∷ []) where
  pub put_leaf : IsWell x → ns ≡ n ∷ [] → IsPut ss ns nodes x made x
  put_leaf well is = record {
    well = well;
    output = ap (λ z. z ++ output_of ss x) one ∙ append_assoc nodes (n ∷ []) (output_of ss x) ∙ ap (λ z. nodes ++ (z ++ output_of ss x)) (sym is);
  }

  pub put_root : (f : List SynonymOf → List TypeNode) → ns ≡ n ∷ f ss → Puts f x y → IsPut ss ns nodes x made y
  put_root f is puts = record {
    well = puts.well;
    output =
        ap (λ z. z ++ output_of ss y) one
        ∙ append_assoc nodes (n ∷ []) (output_of ss y)
        ∙ ap (λ z. nodes ++ (n ∷ z)) (puts.output ss)
        ∙ ap (λ z. nodes ++ (z ++ output_of ss x)) (sym is);
  }

-- nothing is put out, and something comes to what is pending
pub put_none : (ss : List SynonymOf) (ns nodes : List TypeNode) (x y : Expansion) → Goes ss ns x y → IsPut ss ns nodes x nodes y
put_none ss ns nodes x y goes = record { well = goes.well; output = ap (λ z. nodes ++ z) goes.output }

-- ---- a synonym

length_each : (m : ℕ → List TypeNode) (ts : List T.Type) → length (each_flat m (types (map type_tree_of ts))) ≡ length ts
length_each m [] = refl
length_each m (t ∷ ts) = ap (λ (n : ℕ). suc n) (length_each m ts)

module _ (ss : List SynonymOf) (e : Option Environment) (n count : ℕ) (ts : List T.Type) (x : Expansion) (sized : count ≡ length ts) where
  given : List (List TypeNode)
  given = map (in_environment (values_in ss x) e) (each_expanded ss (types (map type_tree_of ts)))

  size_given : length given ≡ count
  unfolding given
  size_given = length-map (each_expanded ss (types (map type_tree_of ts))) (in_environment (values_in ss x) e) ∙ length_each (meaning_of ss) ts ∙ sym sized

  means : (meant : List TypeNode) → StandsFor ss n count meant → type_in ss x e (synonym_type n (types (map type_tree_of ts))) ≡ substituted given meant
  unfolding given
  means meant stands = in_substituted (values_in ss x) e (each_expanded ss (types (map type_tree_of ts))) (meaning_of ss n) ∙ stands given size_given

  -- an argument list is opened, and the meaning of the synonym is pending in it
  pub entered : (y z : Expansion) (inner : Environment) (t : TypeTree) → StandsFor ss n count (expanded ss t) → Opens ss e (types (map type_tree_of ts)) inner x y → Puts (λ rs. type_in rs y (Some inner) t) y z
      → Goes ss (type_in ss x e (synonym_type n (types (map type_tree_of ts)))) x z
  unfolding given
  entered y z inner t stands opens puts = record {
    well = puts.well;
    output =
        puts.output ss
        ∙ ap (λ w. substituted w (expanded ss t) ++ output_of ss y) opens.values
        ∙ ap (λ w. w ++ output_of ss y) (sym (means (expanded ss t) stands))
        ∙ ap (λ w. type_in ss x e (synonym_type n (types (map type_tree_of ts))) ++ w) opens.output;
  }

  pub entered_none : IsWell x → StandsFor ss n count [] → Goes ss (type_in ss x e (synonym_type n (types (map type_tree_of ts)))) x x
  entered_none well stands = record { well = well; output = ap (λ w. w ++ output_of ss x) (sym (means [] stands)) }

-- ---- arguments

-- each of these types in an environment
abbrev pub each_in : List SynonymOf → Expansion → Option Environment → List T.Type → List (List TypeNode)
each_in ss x e ts = map (in_environment (values_in ss x) e) (each_expanded ss (types (map type_tree_of ts)))

each_more : (ss : List SynonymOf) (x : Expansion) (e : Option Environment) (ts : List T.Type) (t : T.Type) → each_in ss x e (ts ++ t ∷ []) ≡ each_in ss x e ts ++ type_in ss x e (type_tree_of t) ∷ []
each_more ss x e [] t = refl
each_more ss x e (u ∷ ts) t = ap (λ z. type_in ss x e (type_tree_of u) ∷ z) (each_more ss x e ts t)

-- so many of the arguments are kept
pub record AreOpened (ss : List SynonymOf) (e : Option Environment) (ts : List T.Type) (count : ℕ) (x y : Expansion) : Type 0 where
  pub behind : AreBehind 0 y.arguments
  pub pending : y.pending ≡ x.pending
  pub size : length y.arguments ≡ length x.arguments + count
  pub values : values_in ss y ≡ values_in ss x ++ each_in ss x e (take count ts)

module _ (ss : List SynonymOf) (e : Option Environment) (ts : List T.Type) (x : Expansion) (well : IsWell x) where
  pub opened_none : AreOpened ss e ts 0 x x
  opened_none = record { behind = well.arguments; pending = refl; size = omega arith; values = sym (append-nil (values_in ss x)) }

  pub opened_well : (y : Expansion) (count : ℕ) → AreOpened ss e ts count x y → IsWell y
  opened_well y count opened = record {
    arguments = opened.behind;
    pending =
        subst (AreWithin (length y.arguments)) (sym opened.pending)
        (all_within_more (length x.arguments) (length y.arguments) x.pending (omega (arith, opened.size)) well.pending);
  }

  pub opened_within : (y : Expansion) (count : ℕ) → AreOpened ss e ts count x y → IsWithin (length x.arguments) e → IsWithin (length y.arguments) e
  opened_within y count opened within = within_more (length x.arguments) (length y.arguments) e (omega (arith, opened.size)) within

  pub opened_more : (y z : Expansion) (count next : ℕ) (t : T.Type) (c : Closure) → IsWithin (length x.arguments) e → count < length ts → next ≡ suc count → t ≡ get_or ts count t
      → value_of ss (values_in ss y) c ≡ type_in ss y e (type_tree_of t) → IsWithin (length y.arguments) c.environment → z.pending ≡ y.pending → z.arguments ≡ y.arguments ++ c ∷ []
      → AreOpened ss e ts count x y → AreOpened ss e ts next x z
  opened_more y z count next t c within lt is at closes inside same more opened = record {
    behind = subst (AreBehind 0) (sym more) (behind_more 0 y.arguments c opened.behind (subst (λ (n : ℕ). IsWithin n c.environment) (omega arith) inside));
    pending = same ∙ opened.pending;
    size = let l = ap length more in let one = length-append y.arguments (c ∷ []) in omega (arith, l, one, opened.size, is);
    values =
        ap (values_behind ss []) more
        ∙ values_more ss [] y.arguments c
        ∙ ap (λ w. values_in ss y ++ w ∷ []) closes
        ∙ ap (λ w. values_in ss y ++ in_environment w e (expanded ss (type_tree_of t)) ∷ []) opened.values
        ∙ ap (λ w. values_in ss y ++ w ∷ []) (in_kept (values_in ss x) (each_in ss x e (take count ts)) e (expanded ss (type_tree_of t)) (subst (λ (n : ℕ). IsWithin n e) (sym (length_values ss [] x.arguments ∙ omega arith)) within))
        ∙ ap (λ w. w ++ type_in ss x e (type_tree_of t) ∷ []) opened.values
        ∙ append_assoc (values_in ss x) (each_in ss x e (take count ts)) (type_in ss x e (type_tree_of t) ∷ [])
        ∙ ap (λ w. values_in ss x ++ w) (sym (each_more ss x e (take count ts) t))
        ∙ ap (λ w. values_in ss x ++ each_in ss x e w) (sym front);
  }
    where
      front : take next ts ≡ take count ts ++ t ∷ []
      front = ap (λ (n : ℕ). take n ts) is ∙ take-suc ts count t lt ∙ ap (λ w. take count ts ++ w ∷ []) (sym at)

  pub opens_all : (y : Expansion) (inner : Environment) → inner.start ≡ length x.arguments → inner.count ≡ length ts → AreOpened ss e ts (length ts) x y → Opens ss e (types (map type_tree_of ts)) inner x y
  opens_all y inner start count opened = record {
    well = opened_well y (length ts) opened;
    within = omega (arith, opened.size, start, count);
    values =
        ap (λ w. take inner.count (drop inner.start w)) whole
        ∙ ap (λ (n : ℕ). take inner.count (drop n (values_in ss x ++ each_in ss x e ts))) (start ∙ sym (length_values ss [] x.arguments ∙ omega arith))
        ∙ ap (take inner.count) (drop-append_seam (values_in ss x) (each_in ss x e ts))
        ∙ ap (λ (n : ℕ). take n (each_in ss x e ts)) (count ∙ sym (length-map (each_expanded ss (types (map type_tree_of ts))) (in_environment (values_in ss x) e) ∙ length_each (meaning_of ss) ts))
        ∙ take-length (each_in ss x e ts);
    output =
        ap (output_by ss (values_in ss y)) opened.pending
        ∙ ap (λ w. output_by ss w x.pending) whole
        ∙ output_kept ss (values_in ss x) (each_in ss x e ts) x.pending (subst (λ (n : ℕ). AreWithin n x.pending) (sym (length_values ss [] x.arguments ∙ omega arith)) well.pending);
  }
    where
      whole : values_in ss y ≡ values_in ss x ++ each_in ss x e ts
      whole = opened.values ∙ ap (λ w. values_in ss x ++ each_in ss x e w) (take-length ts)

-- ---- a variable

module _ (x : Expansion) (e : Environment) (n : ℕ) (c : Closure) (well : IsWell x) (within : IsWithin (length x.arguments) (Some e)) (lt : n < e.count) (is : c ≡ get_or x.arguments (e.start + n) c) where
  inside : e.start + n < length x.arguments
  inside = let w : e.start + e.count ≤ length x.arguments = within in omega (arith, w, lt)

  pub place_within : IsWithin (length x.arguments) c.environment
  place_within = subst (λ (k : ℕ). IsWithin k c.environment) (omega arith) (argument_within 0 x.arguments (e.start + n) c well.arguments inside is)

  pub place_value : (ss : List SynonymOf) → value_of ss (values_in ss x) c ≡ type_in ss x (Some e) (type_variable n)
  place_value ss =
      argument_value ss [] x.arguments (e.start + n) c well.arguments inside is
      ∙ ap (λ (k : ℕ). get_or (values_in ss x) k []) (omega arith)
      ∙ sym (append-nil (get_or (arguments_of (values_in ss x) e) n []) ∙ get_or-take e.count (drop e.start (values_in ss x)) n [] lt ∙ get_or-drop e.start (values_in ss x) n [])

-- ---- what the root of a type is, and what stands behind it

count_types : (ts : List T.Type) → count_of (types (map type_tree_of ts)) ≡ length ts
count_types [] = refl
count_types (t ∷ ts) = ap (λ (n : ℕ). suc n) (count_types ts)

module _ (ss : List SynonymOf) (x : Expansion) (e : Option Environment) (part : T.Type) where
  same_tree : (t : TypeTree) (u : T.Type) → part ≡ u → type_tree_of u ≡ t → type_in ss x e (type_tree_of part) ≡ type_in ss x e t
  same_tree t u is tree = ap (λ z. type_in ss x e (type_tree_of z)) is ∙ ap (type_in ss x e) tree

  leaf : (t : TypeTree) (u : T.Type) (n : TypeNode) → part ≡ u → type_tree_of u ≡ t → expanded ss t ≡ n ∷ [] → ((xs : List (List TypeNode)) → replaced xs n ≡ n ∷ []) → type_in ss x e (type_tree_of part) ≡ n ∷ []
  leaf t u n is tree flat_is plain =
      same_tree t u is tree
      ∙ ap (in_environment (values_in ss x) e) flat_is
      ∙ in_node (values_in ss x) e n [] plain
      ∙ ap (λ z. n ∷ z) (in_nothing (values_in ss x) e)

  pub root_int : part ≡ v.Int → type_in ss x e (type_tree_of part) ≡ node.Int ∷ []
  root_int is = leaf int_type v.Int node.Int is type_int refl (λ xs. refl)

  pub root_char : part ≡ v.Char → type_in ss x e (type_tree_of part) ≡ node.Char ∷ []
  root_char is = leaf char_type v.Char node.Char is type_char refl (λ xs. refl)

  pub root_unknown : (ts : List T.Type) → part ≡ v.Unknown ts → type_in ss x e (type_tree_of part) ≡ node.Tuple 0 ∷ []
  root_unknown ts is = leaf (unknown_type (types (map type_tree_of ts))) (v.Unknown ts) (node.Tuple 0) is (type_unknown ts) refl (λ xs. refl)

  pub root_list : (t u : T.Type) → part ≡ v.List t → u ≡ t → type_in ss x e (type_tree_of part) ≡ node.List ∷ type_in ss x e (type_tree_of u)
  root_list t u is got =
      same_tree (list_type (type_tree_of t)) (v.List t) is (type_list t)
      ∙ in_node (values_in ss x) e node.List (expanded ss (type_tree_of t)) (λ xs. refl)
      ∙ ap (λ z. node.List ∷ type_in ss x e (type_tree_of z)) (sym got)

  pub root_tuple : (ts us : List T.Type) (n : ℕ) → part ≡ v.Tuple ts → n ≡ length ts → us ≡ ts → type_in ss x e (type_tree_of part) ≡ node.Tuple n ∷ types_in ss x e (types (map type_tree_of us))
  root_tuple ts us n is count got =
      same_tree (tuple_type (types (map type_tree_of ts))) (v.Tuple ts) is (type_tuple ts)
      ∙ in_node (values_in ss x) e (node.Tuple (count_of (types (map type_tree_of ts)))) (all_flat (meaning_of ss) (types (map type_tree_of ts))) (λ xs. refl)
      ∙ ap (λ z. node.Tuple z ∷ types_in ss x e (types (map type_tree_of ts))) (count_types ts ∙ sym count)
      ∙ ap (λ z. node.Tuple n ∷ types_in ss x e (types (map type_tree_of z))) (sym got)

  pub root_data : (k : ℕ) (ts us : List T.Type) (n : ℕ) → part ≡ v.Data k ts → n ≡ length ts → us ≡ ts → type_in ss x e (type_tree_of part) ≡ node.Data k n ∷ types_in ss x e (types (map type_tree_of us))
  root_data k ts us n is count got =
      same_tree (data_type k (types (map type_tree_of ts))) (v.Data k ts) is (type_data k ts)
      ∙ in_node (values_in ss x) e (node.Data k (count_of (types (map type_tree_of ts)))) (all_flat (meaning_of ss) (types (map type_tree_of ts))) (λ xs. refl)
      ∙ ap (λ z. node.Data k z ∷ types_in ss x e (types (map type_tree_of ts))) (count_types ts ∙ sym count)
      ∙ ap (λ z. node.Data k n ∷ types_in ss x e (types (map type_tree_of z))) (sym got)

  pub root_fun : (a b c d : T.Type) → part ≡ v.Fun a b → c ≡ a → d ≡ b → type_in ss x e (type_tree_of part) ≡ node.Fun ∷ in_environment (values_in ss x) e (expanded ss (type_tree_of c) ++ expanded ss (type_tree_of d))
  root_fun a b c d is first then =
      same_tree (function_type (type_tree_of a) (type_tree_of b)) (v.Fun a b) is (type_fun a b)
      ∙ in_node (values_in ss x) e node.Fun (expanded ss (type_tree_of a) ++ expanded ss (type_tree_of b)) (λ xs. refl)
      ∙ ap (λ z. node.Fun ∷ in_environment (values_in ss x) e (expanded ss (type_tree_of z) ++ expanded ss (type_tree_of b))) (sym first)
      ∙ ap (λ z. node.Fun ∷ in_environment (values_in ss x) e (expanded ss (type_tree_of c) ++ expanded ss (type_tree_of z))) (sym then)

  pub root_synonym : (k : ℕ) (ts us : List T.Type) → part ≡ v.Synonym k ts → us ≡ ts → type_in ss x e (synonym_type k (types (map type_tree_of us))) ≡ type_in ss x e (type_tree_of part)
  root_synonym k ts us is got =
      ap (λ z. type_in ss x e (synonym_type k (types (map type_tree_of z)))) got
      ∙ sym (same_tree (synonym_type k (types (map type_tree_of ts))) (v.Synonym k ts) is (type_synonym k ts))

  pub root_variable : (k : ℕ) → part ≡ v.Var k → type_in ss x e (type_variable k) ≡ type_in ss x e (type_tree_of part)
  root_variable k is = sym (same_tree (type_variable k) (v.Var k) is (type_var k))
