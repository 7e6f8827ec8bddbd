-- What nodes need stays within the graph.
use Rattle.std.proofs.Common.{◌≡◌, ℕ, ◌+◌, ◌<◌, inl, inr, List, [], ◌∷◌, ◌++◌, length, get_or, set, sym, ap, ◌∙◌, subst, arith, Contains, length-append, length-set, Result, Ok, Err, OnOk, OnErr}
use Rattle.std.proofs.lemmas.List.{get_or_append_left, get_or_push, get_or_past, get_or-set_same, get_or-set_other, get_or_read, set-get_or}
use Rattle.std.specs.declared.alloc.AllocError.{AllocError}
use Rattle.std.proofs.lemmas.List.Elements.{Contains-push_cases}
use Rattle.std.proofs.lemmas.Bool.{cases_eq, cases_lt}
use Rattle.hdc_graph.specs.Needs.{Nodes, needs_of, IsClosed}

none_in_nothing : (b : ℕ) → Contains [] b → ⊥
none_in_nothing b n = omega (arith, n.1)

-- one more node that needs nothing
pub closed_push : (g : Nodes) → IsClosed g → IsClosed (g ++ [] ∷ [])
closed_push g h a b n =
    let size : length (g ++ [] ∷ []) ≡ length g + 1 = length-append g ([] ∷ []) in
    elim (cases_lt a (length g)) [
      | inl lt ↦ (let m = h a b (subst (λ (xs : List ℕ). Contains xs b) (get_or_append_left g ([] ∷ []) [] a lt) n) in omega (arith, m, size))
      | inr ge ↦ elim (cases_eq a (length g)) [
        | inl is ↦ absurd (none_in_nothing b (subst (λ (xs : List ℕ). Contains xs b) (get_or_push g [] [] a (sym is)) n))
        | inr apart ↦ absurd (none_in_nothing b (subst (λ (xs : List ℕ). Contains xs b) (get_or_past (g ++ [] ∷ []) a [] (omega (arith, size, ge, apart))) n))
      ]
    ]

-- one need more
pub closed_set : (g : Nodes) (a b : ℕ) → IsClosed g → a < length g → b < length g → IsClosed (set g a (needs_of g a ++ b ∷ []))
closed_set g a b h la lb c d n =
    let size : length (set g a (needs_of g a ++ b ∷ [])) ≡ length g = length-set g a (needs_of g a ++ b ∷ []) in
    elim (cases_eq c a) [
      | inl is ↦ elim (Contains-push_cases (needs_of g a) b d (subst (λ (xs : List ℕ). Contains xs d) (ap (λ (j : ℕ). get_or (set g a (needs_of g a ++ b ∷ [])) j []) is ∙ get_or-set_same g a (needs_of g a ++ b ∷ []) [] la) n)) [
        | inl old ↦ (let m = h a d old in omega (arith, m, size))
        | inr same ↦ omega (arith, lb, same, size)
      ]
      | inr apart ↦ (let m = h c d (subst (λ (xs : List ℕ). Contains xs d) (get_or-set_other g a c (needs_of g a ++ b ∷ []) [] apart) n) in omega (arith, m, size))
    ]

-- one need more, if there was memory for it
pub closed_pushed : (g : Nodes) (a b : ℕ) (xs ys : List ℕ) (r : Result (Unit {0}) AllocError) → IsClosed g → a < length g → b < length g → xs ≡ get_or g a xs → OnOk r (ys ≡ xs ++ b ∷ []) → OnErr r (ys ≡ xs) → IsClosed (set g a ys)
closed_pushed g a b xs ys (Ok u) h la lb is ok err = rw (ok, get_or_read g a xs la is []) (closed_set g a b h la lb)
closed_pushed g a b xs ys (Err e) h la lb is ok err = rw (err, get_or_read g a xs la is [], set-get_or g a []) h
