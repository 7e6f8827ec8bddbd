-- Functions come first, and values behind them.
use Rattle.std.proofs.Common.{◌≡◌, ℕ, zero, suc, ◌+◌, ◌<◌, inl, inr, ◌⊎◌, Bool, true, false, cond, List, [], ◌∷◌, ◌++◌, length, get_or, refl, sym, ap, ◌∙◌, subst, arith, length-append, filter}
use Rattle.std.specs.Prelude.{not}
use Rattle.std.specs.List.{range_with_len}
use Rattle.std.proofs.lemmas.List.{get_or_default}
use Rattle.std.proofs.lemmas.List.FromFn.{length-range_with_len}
use Rattle.std.proofs.lemmas.List.Elements.{Contains-get_or}
use Rattle.std.proofs.lemmas.Bool.{cases_Bool, cases_eq, cases_lt, not_from_false}
use Rattle.hdc_graph.specs.Lists.{Has}
use Rattle.hdc_graph.proofs.Noting.{has_contained, contains_had}
use Rattle.hdc_graph.proofs.Scheduling.{has_left, has_right, has_cases}
use Rattle.hdc_order.specs.Order.{is_value}
use Rattle.hdc_order.specs.Places.{functions_first, IsArrangement, ArePlaces}
use Rattle.hdc_order.proofs.Members.{not_both, not_true, kept_has, has_kept, has_range, range_has}

-- a node comes before another: a function before a value, and else by their numbers
abbrev pub Comes : (ℕ → Bool) → ℕ → ℕ → Type 0
Comes value x y = ((value x ≡ value y) × (x < y)) ⊎ ((value x ≡ false) × (value y ≡ true))

-- each comes before all later ones
abbrev InTurn : (ℕ → Bool) → List ℕ → Type 0
InTurn value [] = Unit {0}
InTurn value (x ∷ xs) = ((y : ℕ) → Has xs y → Comes value x y) × InTurn value xs

joined : (value : ℕ → Bool) (xs ys : List ℕ) → InTurn value xs → InTurn value ys → ((x y : ℕ) → Has xs x → Has ys y → Comes value x y) → InTurn value (xs ++ ys)
joined value [] ys h k between = k
joined value (x ∷ xs) ys h k between = (
  λ y m. elim (has_cases xs ys y m) [ inl a ↦ h.0 y a | inr b ↦ between x y (inl refl) b ],
  joined value xs ys h.1 k (λ z y a b. between z y (inr a) b),
)

kept_range : (value p : ℕ → Bool) (b : Bool) → ((x : ℕ) → p x ≡ true → value x ≡ b) → (s n : ℕ) → InTurn value (filter p (range_with_len s n))
kept_range value p b h s zero = tt
kept_range value p b h s (suc n) =
    let rest = kept_range value p b h (s + 1) n in
    elim (cases_Bool (p s)) [
      | inl t ↦ subst (λ (c : Bool). InTurn value (cond c (s ∷ filter p (range_with_len (s + 1) n)) (filter p (range_with_len (s + 1) n)))) (sym t) (
        λ y m. (let r = kept_has p (range_with_len (s + 1) n) y m in
            let l = (range_has (s + 1) n y r.0).0 in
            inl (h s t ∙ sym (h y r.1), omega (arith, l))),
        rest,
      )
      | inr f ↦ subst (λ (c : Bool). InTurn value (cond c (s ∷ filter p (range_with_len (s + 1) n)) (filter p (range_with_len (s + 1) n)))) (sym f) rest
    ]

at_places : (value : ℕ → Bool) (xs : List ℕ) → InTurn value xs → (m k : ℕ) → m < k → k < length xs → Comes value (get_or xs m 0) (get_or xs k 0)
at_places value [] h m k l lk = absurd (omega (arith, lk))
at_places value (x ∷ xs) h m zero l lk = absurd (omega (arith, l))
at_places value (x ∷ xs) h zero (suc k) l lk = h.0 (get_or xs k 0) (has_contained xs (get_or xs k 0) (Contains-get_or xs k 0 (omega (arith, lk))))
at_places value (x ∷ xs) h (suc m) (suc k) l lk = at_places value xs h.1 m k (omega (arith, l)) (omega (arith, lk))

not_itself : (value : ℕ → Bool) (x y : ℕ) → x ≡ y → Comes value x y → ⊥
not_itself value x y e (inl (same, l)) = omega (arith, e, l)
not_itself value x y e (inr (f, t)) = not_both (value y) t (subst (λ (z : ℕ). value z ≡ false) e f)

parted : (p : ℕ → Bool) (xs : List ℕ) → length (filter (λ x. not (p x)) xs) + length (filter p xs) ≡ length xs
parted p [] = refl
parted p (x ∷ xs) =
    let r = parted p xs in
    elim (cases_Bool (p x)) [
      | inl t ↦ (let a : length (cond (not (p x)) (x ∷ filter (λ y. not (p y)) xs) (filter (λ y. not (p y)) xs)) ≡ length (filter (λ y. not (p y)) xs) = ap (λ (b : Bool). length (cond (not b) (x ∷ filter (λ y. not (p y)) xs) (filter (λ y. not (p y)) xs))) t in
          let b : length (cond (p x) (x ∷ filter p xs) (filter p xs)) ≡ suc (length (filter p xs)) = ap (λ (b : Bool). length (cond b (x ∷ filter p xs) (filter p xs))) t in
          omega (arith, r, a, b))
      | inr f ↦ (let a : length (cond (not (p x)) (x ∷ filter (λ y. not (p y)) xs) (filter (λ y. not (p y)) xs)) ≡ suc (length (filter (λ y. not (p y)) xs)) = ap (λ (b : Bool). length (cond (not b) (x ∷ filter (λ y. not (p y)) xs) (filter (λ y. not (p y)) xs))) f in
          let b : length (cond (p x) (x ∷ filter p xs) (filter p xs)) ≡ length (filter p xs) = ap (λ (b : Bool). length (cond b (x ∷ filter p xs) (filter p xs))) f in
          omega (arith, r, a, b))
    ]

module _ (values : List Bool) where
  abbrev function : ℕ → Bool
  function node = not (is_value values node)

  abbrev all : List ℕ
  all = range_with_len 0 (length values)

  pub arranged_each : length (functions_first values) ≡ length values
  arranged_each = length-append (filter function all) (filter (is_value values) all) ∙ parted (is_value values) all ∙ length-range_with_len 0 (length values)

  in_turn : InTurn (is_value values) (functions_first values)
  in_turn = joined (is_value values) (filter function all) (filter (is_value values) all)
      (kept_range (is_value values) function false (λ x e. not_true (is_value values x) e) 0 (length values))
      (kept_range (is_value values) (is_value values) true (λ x e. e) 0 (length values))
      (λ x y a b. inr (not_true (is_value values x) (kept_has function all x a).1, (kept_has (is_value values) all y b).1))

  pub comes : (m k : ℕ) → m < k → k < length (functions_first values) → Comes (is_value values) (get_or (functions_first values) m 0) (get_or (functions_first values) k 0)
  comes = at_places (is_value values) (functions_first values) in_turn

  arranged_has : (x : ℕ) → x < length values → Has (functions_first values) x
  arranged_has x l =
      let m = has_range 0 (length values) x (omega arith) (omega (arith, l)) in
      elim (cases_Bool (is_value values x)) [
        | inl t ↦ has_right (filter function all) (filter (is_value values) all) x (has_kept (is_value values) all x m t)
        | inr f ↦ has_left (filter function all) (filter (is_value values) all) x (has_kept function all x m (not_from_false (is_value values x) f))
      ]

  has_arranged : (x : ℕ) → Has (functions_first values) x → x < length values
  has_arranged x h = elim (has_cases (filter function all) (filter (is_value values) all) x h) [
    | inl m ↦ (let r = (range_has 0 (length values) x (kept_has function all x m).0).1 in omega (arith, r))
    | inr m ↦ (let r = (range_has 0 (length values) x (kept_has (is_value values) all x m).0).1 in omega (arith, r))
  ]

  pub arranged : IsArrangement (functions_first values)
  arranged = record {
    within = λ m l. (let r = has_arranged (get_or (functions_first values) m 0) (has_contained (functions_first values) (get_or (functions_first values) m 0) (Contains-get_or (functions_first values) m 0 l)) in
        let e = arranged_each in omega (arith, r, e));
    once = λ m k lm lk e. elim (cases_eq m k) [
      | inl is ↦ is
      | inr apart ↦ elim (cases_lt m k) [
        | inl lt ↦ absurd (not_itself (is_value values) (get_or (functions_first values) m 0) (get_or (functions_first values) k 0) e (comes m k lt lk))
        | inr ge ↦ absurd (not_itself (is_value values) (get_or (functions_first values) k 0) (get_or (functions_first values) m 0) (sym e) (comes k m (omega (arith, ge, apart)) lm))
      ]
    ];
  }

  -- each node stands at its place
  pub record IsAt (places : List ℕ) (a : ℕ) : Type 0 where
    pub lies : get_or places a 0 < length values
    pub is : get_or (functions_first values) (get_or places a 0) 0 ≡ a

  pub is_at : (places : List ℕ) → ArePlaces (functions_first values) places → (a : ℕ) → a < length values → IsAt places a
  is_at places h a l =
      let nodes = functions_first values in
      let (m, lm, e) = contains_had nodes a (arranged_has a l) in
      let here : get_or nodes m 0 ≡ a = get_or_default nodes m 0 a lm ∙ e in
      let place : get_or places a 0 ≡ m = ap (λ (z : ℕ). get_or places z 0) (sym here) ∙ h.place_of m lm in
      let size = arranged_each in record {
        lies = omega (arith, place, lm, size);
        is = ap (λ (z : ℕ). get_or nodes z 0) place ∙ here;
      }
