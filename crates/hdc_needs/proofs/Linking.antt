-- What nodes need where one need or one node comes to a graph.
use Rattle.std.proofs.Common.{◌≡◌, ℕ, ◌+◌, ◌<◌, ◌≤◌, ◌⊎◌, inl, inr, Bool, true, false, nat_lt, List, [], ◌∷◌, ◌++◌, length, get_or, if◌then◌else◌, refl, sym, ap, ◌∙◌, subst, arith, Contains, length-append, length-set}
use Rattle.std.proofs.lemmas.List.{get_or_append_left, get_or_push, get_or_past, get_or-set_same, get_or-set_other}
use Rattle.std.proofs.lemmas.List.Elements.{Contains-push_cases, Contains-push, Contains-append_left}
use Rattle.std.proofs.lemmas.Bool.{cases_eq, cases_lt}
use borrow.Author.Tests.{ltb-false}
use Rattle.hdc_graph.specs.Needs.{Nodes, Needs, needs_of}
use Rattle.hdc_needs.specs.Frames.{linked, linked_within}

pub none_needed : (b : ℕ) → Contains [] b → ⊥
none_needed b n = omega (arith, n.1)

-- a node that needs something is in the graph
pub needing_lies : (g : Nodes) (a b : ℕ) → Needs g a b → a < length g
needing_lies g a b n = elim (cases_lt a (length g)) [
  | inl lt ↦ lt
  | inr ge ↦ absurd (none_needed b (subst (λ (xs : List ℕ). Contains xs b) (get_or_past g a [] ge) n))
]

-- one node more
grown_same : (g : Nodes) (a : ℕ) → needs_of (g ++ [] ∷ []) a ≡ needs_of g a
grown_same g a =
    let size : length (g ++ [] ∷ []) ≡ length g + 1 = length-append g ([] ∷ []) in
    elim (cases_lt a (length g)) [
      | inl lt ↦ get_or_append_left g ([] ∷ []) [] a lt
      | inr ge ↦ (let past : get_or g a [] ≡ [] = get_or_past g a [] ge in elim (cases_eq a (length g)) [
        | inl is ↦ get_or_push g [] [] a (sym is) ∙ sym past
        | inr apart ↦ (let far : length (g ++ [] ∷ []) ≤ a = omega (arith, size, ge, apart) in get_or_past (g ++ [] ∷ []) a [] far ∙ sym past)
      ])
    ]

pub grown_needs : (g : Nodes) (a b : ℕ) → Needs (g ++ [] ∷ []) a b → Needs g a b
grown_needs g a b = subst (λ (xs : List ℕ). Contains xs b) (grown_same g a)

pub needs_grown : (g : Nodes) (a b : ℕ) → Needs g a b → Needs (g ++ [] ∷ []) a b
needs_grown g a b = subst (λ (xs : List ℕ). Contains xs b) (sym (grown_same g a))

-- one need more
module _ (g : Nodes) (f t : ℕ) (lies : f < length g) where
  here : needs_of (linked g f t) f ≡ needs_of g f ++ t ∷ []
  here = get_or-set_same g f (needs_of g f ++ t ∷ []) [] lies

  pub linked_needs : (a b : ℕ) → Needs (linked g f t) a b → Needs g a b ⊎ ((a ≡ f) × (b ≡ t))
  linked_needs a b n = elim (cases_eq a f) [
    | inl is ↦ elim (Contains-push_cases (needs_of g f) t b (subst (λ (xs : List ℕ). Contains xs b) (ap (needs_of (linked g f t)) is ∙ here) n)) [
      | inl old ↦ inl (subst (λ (x : ℕ). Needs g x b) (sym is) old)
      | inr same ↦ inr (is, sym same)
    ]
    | inr apart ↦ inl (subst (λ (xs : List ℕ). Contains xs b) (get_or-set_other g f a (needs_of g f ++ t ∷ []) [] apart) n)
  ]

  pub needs_before : (a b : ℕ) → Needs g a b → Needs (linked g f t) a b
  needs_before a b n = elim (cases_eq a f) [
    | inl is ↦ subst (λ (x : ℕ). Needs (linked g f t) x b) (sym is) (subst (λ (xs : List ℕ). Contains xs b) (sym here) (Contains-append_left (needs_of g f) (t ∷ []) b (subst (λ (x : ℕ). Needs g x b) is n)))
    | inr apart ↦ subst (λ (xs : List ℕ). Contains xs b) (sym (get_or-set_other g f a (needs_of g f ++ t ∷ []) [] apart)) n
  ]

  pub need_linked : Needs (linked g f t) f t
  need_linked = subst (λ (xs : List ℕ). Contains xs t) (sym here) (Contains-push (needs_of g f) t)

  pub linked_size : length (linked g f t) ≡ length g
  linked_size = length-set g f (needs_of g f ++ t ∷ [])

if_less : {A : Type 0} (a b : ℕ) (x y : A) → a < b → (if nat_lt a b then x else y) ≡ x
if_less {A} a b x y lt = by (nat_lt a b) refl
  where
    by : (t : Bool) → nat_lt a b ≡ t → (if t then x else y) ≡ x
    by true e = refl
    by false e = let le : b ≤ a = ltb-false a b e in absurd (omega arith)

-- where both are nodes
pub within_is : (g : Nodes) (f t : ℕ) → f < length g → t < length g → linked_within g f t ≡ linked g f t
within_is g f t lf lt = if_less f (length g) (if nat_lt t (length g) then linked g f t else g) g lf ∙ if_less t (length g) (linked g f t) g lt
