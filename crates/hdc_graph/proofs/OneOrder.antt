-- A graph has one order of its groups.
use Rattle.std.proofs.Common.{◌≡◌, ℕ, zero, suc, ◌+◌, ◌<◌, ◌≤◌, inl, inr, List, [], ◌∷◌, length, get_or, refl, sym, ap, ◌∙◌, subst, arith, Contains, le_antisymm}
use Rattle.std.proofs.lemmas.List.Elements.{Contains-get_or}
use Rattle.std.proofs.lemmas.List.{get_or_default, same_lists}
use Rattle.std.proofs.lemmas.Bool.{cases_eq, cases_lt}
use Rattle.std.specs.List.Sorted.{IsStrictlyIncreasing}
use Rattle.hdc_graph.specs.Needs.{Nodes}
use Rattle.hdc_graph.specs.Groups.{IsGroup, AreGroups, NeedsOnlyBefore, group_at}
use Rattle.hdc_graph.specs.Lists.{Has}
use Rattle.hdc_graph.proofs.Noting.{has_contained, contains_had}
use Rattle.hdc_graph.proofs.Finishing.{first_least}

-- each number is below all later ones
abbrev Rises : List ℕ → Type 0
Rises [] = Unit {0}
Rises (x ∷ xs) = ((y : ℕ) → Has xs y → x < y) × Rises xs

tail_increasing : (x : ℕ) (xs : List ℕ) → IsStrictlyIncreasing (x ∷ xs) → IsStrictlyIncreasing xs
tail_increasing x xs h k l =
    let r = h (suc k) (omega (arith, l)) in
    let same : get_or (x ∷ xs) (suc k + 1) 0 ≡ get_or xs (k + 1) 0 = ap (λ (j : ℕ). get_or (x ∷ xs) j 0) (let e : suc k + 1 ≡ suc (k + 1) = omega arith in e) in
    omega (arith, r, same)

rises : (xs : List ℕ) → IsStrictlyIncreasing xs → Rises xs
rises [] h = tt
rises (x ∷ xs) h = (
  λ y m. (let inner = tail_increasing x xs h in
      let lies = contains_had xs y m in
      let l = lies.1 in
      let next : x < get_or (x ∷ xs) (0 + 1) 0 = h 0 (omega (arith, l)) in
      let same : get_or (x ∷ xs) (0 + 1) 0 ≡ get_or xs 0 0 = ap (λ (j : ℕ). get_or (x ∷ xs) j 0) (let e : 0 + 1 ≡ suc 0 = omega arith in e) in
      let low = first_least xs y inner lies in
      omega (arith, next, same, low)),
  rises xs (tail_increasing x xs h),
)

-- lists that rise are the same where they have the same numbers
same_rising : (xs ys : List ℕ) → Rises xs → Rises ys → ((z : ℕ) → Has xs z → Has ys z) → ((z : ℕ) → Has ys z → Has xs z) → xs ≡ ys
same_rising [] [] h k a b = refl
same_rising [] (y ∷ ys) h k a b = absurd (b y (inl refl))
same_rising (x ∷ xs) [] h k a b = absurd (a x (inl refl))
same_rising (x ∷ xs) (y ∷ ys) h k a b =
    let up : y ≤ x = elim (a x (inl refl)) [ inl e ↦ omega (arith, e) | inr m ↦ (let l = k.0 x m in omega (arith, l)) ] in
    let down : x ≤ y = elim (b y (inl refl)) [ inl e ↦ omega (arith, e) | inr m ↦ (let l = h.0 y m in omega (arith, l)) ] in
    let same : x ≡ y = le_antisymm down up in
    let rest : xs ≡ ys = same_rising xs ys h.1 k.1
    (λ z m. elim (a z (inr m)) [ inl e ↦ absurd (let l = h.0 z m in omega (arith, l, e, same)) | inr n ↦ n ])
    (λ z m. elim (b z (inr m)) [ inl e ↦ absurd (let l = k.0 z m in omega (arith, l, e, same)) | inr n ↦ n ]) in
    cc

-- groups with a node in common are the same
same_group : (g : Nodes) (xs ys : List ℕ) (a : ℕ) → IsGroup g xs → IsGroup g ys → Contains xs a → Contains ys a → xs ≡ ys
same_group g xs ys a h k m n = same_rising xs ys (rises xs h.increasing) (rises ys k.increasing)
    (λ z r. has_contained ys z ((k.whole a z n).1 ((h.whole a z m).0 (contains_had xs z r))))
    (λ z r. has_contained xs z ((h.whole a z m).1 ((k.whole a z n).0 (contains_had ys z r))))

module _ (g : Nodes) (L M : List (List ℕ)) (l : AreGroups g L) (m : AreGroups g M) where
  head : (N : List (List ℕ)) → AreGroups g N → (i : ℕ) → i < length N → Contains (group_at N i) (get_or (group_at N i) 0 0) × (get_or (group_at N i) 0 0 < length g)
  head N n i lt =
      let group = n.each i lt in
      let first = Contains-get_or (group_at N i) 0 0 group.some in
      (first, ((group.whole (get_or (group_at N i) 0 0) (get_or (group_at N i) 0 0) first).0 first).0)

  -- what comes before a position in one order comes before it in the other
  moved : (N O : List (List ℕ)) (i : ℕ) → ((j : ℕ) → j < i → group_at N j ≡ group_at O j) → (xs ys : List ℕ) → xs ≡ ys → NeedsOnlyBefore g N i xs → NeedsOnlyBefore g O i ys
  moved N O i before xs ys e n a b ma need = elim (n a b (subst (λ (zs : List ℕ). Contains zs a) (sym e) ma) need) [
    | inl own ↦ inl (subst (λ (zs : List ℕ). Contains zs b) e own)
    | inr (j, lt, mb) ↦ inr (j, lt, subst (λ (zs : List ℕ). Contains zs b) (before j lt) mb)
  ]

  -- where the groups before are the same, the next is the same
  next : (i : ℕ) → ((j : ℕ) → j < i → group_at L j ≡ group_at M j) → i < length L → (i < length M) × (group_at L i ≡ group_at M i)
  next i before lt =
      let x = head L l i lt in
      let (p, lp, mp) = m.all (get_or (group_at L i) 0 0) x.1 in
      let p_late : i ≤ p = elim (cases_lt p i) [
        | inl low ↦ absurd (let e : p ≡ i = l.once p i (get_or (group_at L i) 0 0) (subst (λ (zs : List ℕ). Contains zs (get_or (group_at L i) 0 0)) (sym (before p low)) mp) x.0 in omega (arith, e, low))
        | inr high ↦ high
      ] in
      let lm : i < length M = omega (arith, p_late, lp) in
      let y = head M m i lm in
      let (q, lq, mq) = l.all (get_or (group_at M i) 0 0) y.1 in
      let q_late : i ≤ q = elim (cases_lt q i) [
        | inl low ↦ absurd (let e : q ≡ i = m.once q i (get_or (group_at M i) 0 0) (subst (λ (zs : List ℕ). Contains zs (get_or (group_at M i) 0 0)) (before q low) mq) y.0 in omega (arith, e, low))
        | inr high ↦ high
      ] in
      let there : group_at L i ≡ group_at M p = same_group g (group_at L i) (group_at M p) (get_or (group_at L i) 0 0) (l.each i lt) (m.each p lp) x.0 mp in
      let back : group_at M i ≡ group_at L q = same_group g (group_at M i) (group_at L q) (get_or (group_at M i) 0 0) (m.each i lm) (l.each q lq) y.0 mq in (
        lm,
        elim (cases_eq p i) [
          | inl same ↦ there ∙ ap (group_at M) same
          | inr p_apart ↦ elim (cases_eq q i) [
            | inl same ↦ sym (back ∙ ap (group_at L) same)
            | inr q_apart ↦ absurd (
                let a = m.least i p (omega (arith, p_late, p_apart)) lp (moved L M i before (group_at L i) (group_at M p) there (l.needs i lt)) in
                let b = l.least i q (omega (arith, q_late, q_apart)) lq (moved M L i (λ j r. sym (before j r)) (group_at M i) (group_at L q) back (m.needs i lm)) in
                let c : get_or (group_at L i) 0 0 ≡ get_or (group_at M p) 0 0 = ap (λ (zs : List ℕ). get_or zs 0 0) there in
                let d : get_or (group_at M i) 0 0 ≡ get_or (group_at L q) 0 0 = ap (λ (zs : List ℕ). get_or zs 0 0) back in
                omega (arith, a, b, c, d))
          ]
        ],
      )

  -- so all are the same
  agree : (n j : ℕ) → j < n → j < length L → (j < length M) × (group_at L j ≡ group_at M j)
  agree zero j low lt = absurd (omega (arith, low))
  agree (suc n) j low lt = elim (cases_lt j n) [
    | inl lower ↦ agree n j lower lt
    | inr high ↦ (let same : j ≡ n = omega (arith, low, high) in
        next j (λ i before. (agree n i (omega (arith, before, same)) (omega (arith, before, lt))).1) lt)
  ]

  pub no_longer : length L ≤ length M
  no_longer = elim (cases_lt (length M) (length L)) [
    | inl lt ↦ absurd (let r = (agree (length M + 1) (length M) (omega arith) lt).0 in omega (arith, r))
    | inr ge ↦ ge
  ]

  pub same_at : (j : ℕ) → j < length L → group_at L j ≡ group_at M j
  same_at j lt = (agree (j + 1) j (omega arith) lt).1

-- two orders of a graph's groups are the same
pub one_order : (g : Nodes) (first second : List (List ℕ)) → AreGroups g first → AreGroups g second → first ≡ second
one_order g first second l m =
    let size : length first ≡ length second = le_antisymm (no_longer g first second l m) (no_longer g second first m l) in
    same_lists first second size (λ k d lt. get_or_default first k d [] lt ∙ same_at g first second l m k lt ∙ get_or_default second k [] d (omega (arith, lt, size)))
