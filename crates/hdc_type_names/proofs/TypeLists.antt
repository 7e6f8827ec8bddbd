-- Types one behind another.
use Rattle.std.proofs.Common.{◌≡◌, ℕ, ◌+◌, ◌<◌, ◌≤◌, List, [], ◌∷◌, ◌++◌, length, get_or, drop, refl, sym, ap, ◌∙◌}
use Rattle.std.proofs.Math.ListN.{drop_of_length-le}
use Rattle.hdc_resolved.specs.declared.type_exp.Type as T
use Rattle.hdc_resolved.specs.Mirror.{type_tree_of}
use Rattle.hdc_resolved.specs.Syntax.{TypeTree, TypeTrees, no_type, next_type}
use Rattle.hdc_written.specs.Scopes.{Binding}
use Rattle.hdc_written.specs.TypeMirror.{each_type}
use Rattle.hdc_written.specs.WrittenTypes.{WrittenType}
use Rattle.hdc_written.proofs.Loops.{stepped}
use Rattle.hdc_type_names.specs.ResolvedTypes.{resolved_type, each_resolved}
use Rattle.hdc_type_names.specs.TypeLists.{types_of, joined}
use Rattle.hdc_type_names.specs.TypeNames.{TypeNames}

pub joined_behind : (ts us vs : TypeTrees) → joined (joined ts us) vs ≡ joined ts (joined us vs)
joined_behind no_type us vs = refl
joined_behind (next_type t ts) us vs = ap (λ z. next_type t z) (joined_behind ts us vs)

pub joined_nothing : (ts : TypeTrees) → joined ts no_type ≡ ts
joined_nothing no_type = refl
joined_nothing (next_type t ts) = ap (λ z. next_type t z) (joined_nothing ts)

pub one_more_type : (ts : List T.Type) (t : T.Type) → types_of (ts ++ t ∷ []) ≡ joined (types_of ts) (next_type (type_tree_of t) no_type)
one_more_type [] t = refl
one_more_type (u ∷ ts) t = ap (λ z. next_type (type_tree_of u) z) (one_more_type ts t)

-- one more type, and more behind it
pub pushed_type : (ts : List T.Type) (t : T.Type) (us : TypeTrees) → joined (types_of (ts ++ t ∷ [])) us ≡ joined (types_of ts) (next_type (type_tree_of t) us)
pushed_type ts t us = ap (λ z. joined z us) (one_more_type ts t) ∙ joined_behind (types_of ts) (next_type (type_tree_of t) no_type) us

pub ruleset types_in_order = (pushed_type, joined_nothing, joined_behind, one_more_type)

module _ {X : Type 0} (f : X → WrittenType) (names : TypeNames) (variables : List (Binding ℕ)) (xs : List X) (i : ℕ) where
  -- one more type is resolved
  pub pushed_step : (x : X) (t : T.Type) (ts us : List T.Type) → us ≡ ts ++ t ∷ [] → i < length xs → x ≡ get_or xs i x → type_tree_of t ≡ resolved_type names variables (f x)
      → joined (types_of ts) (each_resolved names variables (each_type f (drop i xs))) ≡ joined (types_of us) (each_resolved names variables (each_type f (drop (i + 1) xs)))
  pushed_step x t ts us p lt e b =
      ap (λ z. joined (types_of ts) (each_resolved names variables (each_type f z))) (stepped xs i x lt e)
      ∙ ap (λ z. joined (types_of ts) (next_type z (each_resolved names variables (each_type f (drop (i + 1) xs))))) (sym b)
      ∙ sym (pushed_type ts t (each_resolved names variables (each_type f (drop (i + 1) xs))))
      ∙ ap (λ z. joined (types_of z) (each_resolved names variables (each_type f (drop (i + 1) xs)))) (sym p)

  -- none is left
  pub pushed_all : (ts : List T.Type) → length xs ≤ i → joined (types_of ts) (each_resolved names variables (each_type f (drop i xs))) ≡ types_of ts
  pushed_all ts ge = ap (λ z. joined (types_of ts) (each_resolved names variables (each_type f z))) (drop_of_length-le xs ge) ∙ joined_nothing (types_of ts)

-- one type, and those behind it
pub first_and_more : (t : T.Type) (ts us vs : List T.Type) (r : TypeTree) (rs : TypeTrees) → ts ≡ [] → us ≡ ts ++ t ∷ [] → type_tree_of t ≡ r → types_of vs ≡ joined (types_of us) rs → types_of vs ≡ next_type r rs
first_and_more t ts us vs r rs none one b more =
    more
    ∙ ap (λ z. joined (types_of z) rs) (one ∙ ap (λ z. z ++ t ∷ []) none)
    ∙ ap (λ z. next_type z rs) b
