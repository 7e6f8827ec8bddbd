-- Synonyms that mean one of their arguments.
use Rattle.std.proofs.Common.{◌≡◌, ◌⊎◌, inl, inr, ℕ, zero, suc, ◌<◌, ◌≤◌, List, [], ◌∷◌, Option, None, Some, IfSome, length, get_or, map, sym, ap, subst, ◌∙◌, append-nil, arith, get_or-set_same, get_or-set_other}
use Rattle.std.proofs.lemmas.Bool.{cases_lt}
use Rattle.std.proofs.Math.ListN.{set}
use Rattle.hdc_resolved.proofs.Mirror.{type_synonym}
use Rattle.hdc_resolved.specs.declared.type_exp.Type as T
use Rattle.hdc_resolved.specs.declared.type_exp.Type.TheVariants as v
use Rattle.hdc_resolved.specs.Mirror.{types, type_tree_of}
use Rattle.hdc_resolved.specs.Syntax.{SynonymOf, TypeTree}
use Rattle.hdc_value.specs.declared.ty.TypeNode.{TypeNode}
use Rattle.hdc_value.specs.declared.ty.TypeNode.TheVariants as node
use Rattle.hdc_datas.specs.Expanded.{substituted, flat, each_flat, expanded}
use Rattle.hdc_datas.specs.Settled.{meaning_of, IsProjection, AreProjections}

each_at : (m : ℕ → List TypeNode) (ts : List T.Type) (i : ℕ) (t : T.Type) → i < length ts → t ≡ get_or ts i t → get_or (each_flat m (types (map type_tree_of ts))) i [] ≡ flat m (type_tree_of t)
each_at m [] i t lt is = absurd (omega (arith, lt))
each_at m (u ∷ ts) zero t lt is = ap (λ z. flat m (type_tree_of z)) (sym is)
each_at m (u ∷ ts) (suc i) t lt is = each_at m ts i t (omega (arith, lt)) is

-- a use of such a synonym stands for the argument
pub projected : (ss : List SynonymOf) (projections : List (Option ℕ)) (n place : ℕ) (ts : List T.Type) (part t : T.Type) → AreProjections ss projections → part ≡ v.Synonym n ts → Some place ≡ get_or projections n None → place < length ts → t ≡ get_or ts place t
    → expanded ss (type_tree_of t) ≡ expanded ss (type_tree_of part)
projected ss projections n place ts part t all is found lt at =
    sym (ap (λ z. expanded ss (type_tree_of z)) is
    ∙ ap (expanded ss) (type_synonym n ts)
    ∙ ap (substituted (each_flat (meaning_of ss) (types (map type_tree_of ts)))) (subst (IsProjection ss n) (sym found) (all n))
    ∙ append-nil (get_or (each_flat (meaning_of ss) (types (map type_tree_of ts))) place [])
    ∙ each_at (meaning_of ss) ts place t lt at)

-- no synonym is said to mean an argument
pub projections_none : (projections : List (Option ℕ)) → ((n : ℕ) → get_or projections n None ≡ None) → (ss : List SynonymOf) → AreProjections ss projections
projections_none projections none ss n = subst (IsProjection ss n) (sym (none n)) tt

-- one more is said to
pub projection_set : (ss : List SynonymOf) (projections made : List (Option ℕ)) (n place : ℕ) → AreProjections ss projections → meaning_of ss n ≡ node.Var place ∷ [] → n < length projections → made ≡ set projections n (Some place) → AreProjections ss made
projection_set ss projections made n place all one lt put k = subst (λ (z : List (Option ℕ)). IsProjection ss k (get_or z k None)) (sym put) (by (cases_lt k n) (cases_lt n k))
  where
    other : (k ≡ n → ⊥) → IsProjection ss k (get_or (set projections n (Some place)) k None)
    other apart = subst (IsProjection ss k) (sym (get_or-set_other projections n k (Some place) None apart)) (all k)

    here : k ≡ n → IsProjection ss k (get_or (set projections n (Some place)) k None)
    here same =
        subst (λ (z : ℕ). IsProjection ss z (get_or (set projections n (Some place)) z None)) (sym same)
        (subst (IsProjection ss n) (sym (get_or-set_same projections n (Some place) None lt)) one)

    by : (k < n) ⊎ (n ≤ k) → (n < k) ⊎ (k ≤ n) → IsProjection ss k (get_or (set projections n (Some place)) k None)
    by (inl less) more = other (λ e. omega (arith, less, e))
    by (inr ge) (inl less) = other (λ e. omega (arith, less, e))
    by (inr ge) (inr le) = here (omega (arith, ge, le))

-- a synonym whose meaning has a variable at its root means that argument
pub some_means : (ss : List SynonymOf) (n : ℕ) (t u : TypeTree) (r : Option ℕ) → meaning_of ss n ≡ expanded ss t → expanded ss u ≡ expanded ss t → IfSome r (λ place. (rs : List SynonymOf) → expanded rs u ≡ node.Var place ∷ []) → IfSome r (λ place. meaning_of ss n ≡ node.Var place ∷ [])
some_means ss n t u None meant same found = tt
some_means ss n t u (Some place) meant same found = meant ∙ sym same ∙ found ss
