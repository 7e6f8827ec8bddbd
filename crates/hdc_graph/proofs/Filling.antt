-- Each node comes into the group at the place of its component.
use Rattle.std.proofs.Common.{◌≡◌, ℕ, ◌+◌, ◌<◌, ◌↔◌, inl, inr, List, [], ◌∷◌, ◌++◌, length, get_or, set, sym, ap, ◌∙◌, subst, arith, length-append, length-set, Contains, Option, Some, None}
use Rattle.std.proofs.lemmas.List.{get_or-set_same, get_or-set_other, get_or_append_left, get_or_push}
use Rattle.std.proofs.lemmas.List.Elements.{Contains-append_left, Contains-push, Contains-push_cases, Contains-get_or}
use Rattle.std.proofs.lemmas.Bool.{cases_eq, cases_lt}
use Rattle.std.specs.List.Sorted.{IsStrictlyIncreasing}
use Rattle.hdc_graph.specs.Lists.{list_at, place_in, AreEmpty}
use Rattle.hdc_graph.specs.Filling.{AreFilled, AreFilledTo}

-- one more that is above all others
increasing_push : (xs : List ℕ) (n : ℕ) → IsStrictlyIncreasing xs → ((u : ℕ) → Contains xs u → u < n) → IsStrictlyIncreasing (xs ++ n ∷ [])
increasing_push xs n h above k l =
    let size : length (xs ++ n ∷ []) ≡ length xs + 1 = length-append xs (n ∷ []) in
    let lies : k < length xs = omega (arith, l, size) in
    let here : get_or (xs ++ n ∷ []) k 0 ≡ get_or xs k 0 = get_or_append_left xs (n ∷ []) 0 k lies in
    elim (cases_lt (k + 1) (length xs)) [
      | inl lt ↦ (let next : get_or (xs ++ n ∷ []) (k + 1) 0 ≡ get_or xs (k + 1) 0 = get_or_append_left xs (n ∷ []) 0 (k + 1) lt in let r = h k lt in omega (arith, r, here, next))
      | inr ge ↦ (let last : length xs ≡ k + 1 = omega (arith, ge, lies) in let next : get_or (xs ++ n ∷ []) (k + 1) 0 ≡ n = get_or_push xs n 0 (k + 1) last in
          let r = above (get_or xs k 0) (Contains-get_or xs k 0 lies) in omega (arith, r, here, next))
    ]

module _ (labels : List ℕ) (places : List (Option ℕ)) (count : ℕ) (groups new : List (List ℕ)) (n : ℕ) (h : AreFilledTo labels places count groups n) where
  -- a node of a component with a place
  module _ (i : ℕ) (is : place_in places (get_or labels n 0) ≡ Some i) (lies : i < length groups) (e : new ≡ set groups i (list_at groups i ++ n ∷ [])) where
    here : list_at new i ≡ list_at groups i ++ n ∷ []
    here = ap (λ (gs : List (List ℕ)). list_at gs i) e ∙ get_or-set_same groups i _ [] lies

    other : (j : ℕ) → (j ≡ i → ⊥) → list_at new j ≡ list_at groups j
    other j apart = ap (λ (gs : List (List ℕ)). list_at gs j) e ∙ get_or-set_other groups i j _ [] apart

    f_increasing : (j : ℕ) → IsStrictlyIncreasing (list_at new j)
    f_increasing j = elim (cases_eq j i) [
      | inl same ↦ subst IsStrictlyIncreasing (sym (ap (list_at new) same ∙ here)) (increasing_push (list_at groups i) n (h.increasing i) (λ u m. ((h.members i u).0 m).0))
      | inr apart ↦ subst IsStrictlyIncreasing (sym (other j apart)) (h.increasing j)
    ]

    f_in : (j u : ℕ) → Contains (list_at new j) u → (u < n + 1) × (place_in places (get_or labels u 0) ≡ Some j)
    f_in j u m = elim (cases_eq j i) [
      | inl same ↦ elim (Contains-push_cases (list_at groups i) n u (subst (λ (xs : List ℕ). Contains xs u) (ap (list_at new) same ∙ here) m)) [
        | inl old ↦ (let w = (h.members i u).0 old in (omega (arith, w.0), w.1 ∙ ap Some (sym same)))
        | inr last ↦ (omega (arith, last), ap (λ (x : ℕ). place_in places (get_or labels x 0)) (sym last) ∙ is ∙ ap Some (sym same))
      ]
      | inr apart ↦ (let w = (h.members j u).0 (subst (λ (xs : List ℕ). Contains xs u) (other j apart) m) in (omega (arith, w.0), w.1))
    ]

    f_out : (j u : ℕ) → (u < n + 1) × (place_in places (get_or labels u 0) ≡ Some j) → Contains (list_at new j) u
    f_out j u (l, p) = elim (cases_eq j i) [
      | inl same ↦ subst (λ (xs : List ℕ). Contains xs u) (sym (ap (list_at new) same ∙ here)) (elim (cases_lt u n) [
        | inl lt ↦ Contains-append_left (list_at groups i) (n ∷ []) u ((h.members i u).1 (lt, p ∙ ap Some same))
        | inr ge ↦ subst (λ (x : ℕ). Contains (list_at groups i ++ n ∷ []) x) (omega (arith, l, ge)) (Contains-push (list_at groups i) n)
      ])
      | inr apart ↦ subst (λ (xs : List ℕ). Contains xs u) (sym (other j apart)) (elim (cases_lt u n) [
        | inl lt ↦ (h.members j u).1 (lt, p)
        | inr ge ↦ absurd (let same : u ≡ n = omega (arith, l, ge) in let f : Some j ≡ Some i = sym p ∙ ap (λ (x : ℕ). place_in places (get_or labels x 0)) same ∙ is in let z : j ≡ i = cc in apart z)
      ])
    ]

    pub filled_some : AreFilledTo labels places count new (n + 1)
    filled_some = record { each = ap length e ∙ length-set groups i _ ∙ h.each; increasing = f_increasing; members = λ j u. (f_in j u, f_out j u) }

  -- a node of a component with none
  pub filled_none : place_in places (get_or labels n 0) ≡ None → new ≡ groups → AreFilledTo labels places count new (n + 1)
  filled_none is e = subst (λ (gs : List (List ℕ)). AreFilledTo labels places count gs (n + 1)) (sym e) (record {
    each = h.each;
    increasing = h.increasing;
    members = λ j u. (
      λ m. (let w = (h.members j u).0 m in (omega (arith, w.0), w.1)),
      λ w. elim (cases_lt u n) [
        | inl lt ↦ (h.members j u).1 (lt, w.1)
        | inr ge ↦ absurd (let l = w.0 in let same : u ≡ n = omega (arith, l, ge) in let f : Some j ≡ None = sym w.1 ∙ ap (λ (x : ℕ). place_in places (get_or labels x 0)) same ∙ is in cc)
      ],
    );
  })

pub filled_empty : (labels : List ℕ) (places : List (Option ℕ)) (count : ℕ) (groups : List (List ℕ)) → AreEmpty count groups → AreFilledTo labels places count groups 0
filled_empty labels places count groups h = record {
  each = h.0;
  increasing = λ i k l. absurd (let e : length (list_at groups i) ≡ 0 = ap length (h.1 i) in omega (arith, l, e));
  members = λ i u. (λ m. absurd (let e : length (list_at groups i) ≡ 0 = ap length (h.1 i) in omega (arith, m.1, e)), λ w. absurd (omega (arith, w.0)));
}

pub filled_all : (labels : List ℕ) (places : List (Option ℕ)) (count : ℕ) (groups : List (List ℕ)) (n : ℕ) → n ≡ length labels → AreFilledTo labels places count groups n → AreFilled labels places count groups
filled_all labels places count groups n e h = record {
  each = h.each;
  increasing = h.increasing;
  members = subst (λ (m : ℕ). (i u : ℕ) → Contains (list_at groups i) u ↔ ((u < m) × (place_in places (get_or labels u 0) ≡ Some i))) e h.members;
}
