-- The values among the groups of a graph whose functions have the lowest numbers come in the order of their evaluation.
use Rattle.std.proofs.Common.{◌≡◌, ℕ, zero, suc, ◌+◌, ◌<◌, ◌≤◌, inl, inr, Bool, true, false, List, [], ◌∷◌, ◌++◌, length, take, drop, get_or, refl, sym, ap, ◌∙◌, subst, arith, append_assoc, append-nil, filter, cond, Contains, map, add-one}
use Rattle.std.proofs.lemmas.List.{map-append}
use Rattle.std.specs.List.Sorted.{IsStrictlyIncreasing}
use Rattle.std.proofs.lemmas.List.Elements.{Contains-get_or}
use Rattle.std.proofs.lemmas.Bool.{cases_Bool, cases_eq, cases_lt}
use Rattle.hdc_graph.specs.Needs.{Nodes, Needs, IsClosed, Reaches, one, further, AreMutual}
use Rattle.hdc_graph.specs.Groups.{AreGroups, NeedsOnlyBefore, group_at}
use Rattle.hdc_graph.specs.Lists.{Has}
use Rattle.hdc_graph.proofs.Noting.{has_contained, contains_had}
use Rattle.hdc_graph.proofs.Scheduling.{has_left, has_right, has_cases}
use Rattle.hdc_graph.proofs.Reaching.{through}
use Rattle.hdc_order.specs.Order.{LeadsTo, directly, by_function, NeedsValue, IsReady, GoesOn}
use Rattle.hdc_order.specs.Kept.{kept_of}
use Rattle.hdc_order.proofs.Members.{not_both, kept_has, has_kept}

-- the values of the groups before a position
pub before_has : (value : ℕ → Bool) (gs : List (List ℕ)) (i a : ℕ) → Has (kept_of value (take i gs)) a → ((j : ℕ) × (j < i) × Contains (group_at gs j) a) × (value a ≡ true)
before_has value [] zero a h = absurd h
before_has value [] (suc i) a h = absurd h
before_has value (g ∷ gs) zero a h = absurd h
before_has value (g ∷ gs) (suc i) a h = elim (has_cases (filter value g) (kept_of value (take i gs)) a h) [
  | inl m ↦ (let r = kept_has value g a m in ((0, omega arith, contains_had g a r.0), r.1))
  | inr m ↦ (let r = before_has value gs i a m in let j = r.0.0 in let l = r.0.1 in ((suc j, omega (arith, l), r.0.2), r.1))
]

pub has_before : (value : ℕ → Bool) (gs : List (List ℕ)) (i j a : ℕ) → j < i → Contains (group_at gs j) a → value a ≡ true → Has (kept_of value (take i gs)) a
has_before value [] i j a l m t = absurd (let n = m.1 in omega (arith, n))
has_before value (g ∷ gs) zero j a l m t = absurd (omega (arith, l))
has_before value (g ∷ gs) (suc i) zero a l m t = has_left (filter value g) (kept_of value (take i gs)) a (has_kept value g a (has_contained g a m) t)
has_before value (g ∷ gs) (suc i) (suc j) a l m t = has_right (filter value g) (kept_of value (take i gs)) a (has_before value gs i j a (omega (arith, l)) m t)

kept_more : (value : ℕ → Bool) (gs : List (List ℕ)) (i : ℕ) → i < length gs → kept_of value (take (suc i) gs) ≡ kept_of value (take i gs) ++ filter value (group_at gs i)
kept_more value [] i l = absurd (omega (arith, l))
kept_more value (g ∷ gs) zero l = append-nil (filter value g)
kept_more value (g ∷ gs) (suc i) l = ap (λ (xs : List ℕ). filter value g ++ xs) (kept_more value gs i (omega (arith, l))) ∙ sym (append_assoc (filter value g) (kept_of value (take i gs)) (filter value (group_at gs i)))

-- those of one group more
pub kept_one : (old : ℕ → ℕ) (value : ℕ → Bool) (gs : List (List ℕ)) (i : ℕ) (kept new : List ℕ) → i < length gs → kept ≡ map old (kept_of value (take i gs)) → new ≡ kept ++ map old (filter value (group_at gs i)) → new ≡ map old (kept_of value (take (i + 1) gs))
kept_one old value gs i kept new l e f =
    let more : kept_of value (take (i + 1) gs) ≡ kept_of value (take i gs) ++ filter value (group_at gs i) = rw add-one (kept_more value gs i l) in
    f ∙ ap (λ (xs : List ℕ). xs ++ map old (filter value (group_at gs i))) e ∙ sym (ap (map old) more ∙ map-append old (kept_of value (take i gs)) (filter value (group_at gs i)))

kept_rest : (value : ℕ → Bool) (gs : List (List ℕ)) (i : ℕ) → i < length gs → kept_of value (drop i gs) ≡ filter value (group_at gs i) ++ kept_of value (drop (suc i) gs)
kept_rest value [] i l = absurd (omega (arith, l))
kept_rest value (g ∷ gs) zero l = refl
kept_rest value (g ∷ gs) (suc i) l = kept_rest value gs i (omega (arith, l))

-- a list that rises and has one number alone
alone : (xs : List ℕ) (v : ℕ) → IsStrictlyIncreasing xs → Has xs v → ((b : ℕ) → Has xs b → b ≡ v) → xs ≡ v ∷ []
alone [] v rises h only = absurd h
alone (x ∷ []) v rises h only = ap (λ (y : ℕ). y ∷ []) (only x (inl refl))
alone (x ∷ (y ∷ ys)) v rises h only = absurd (
    let a = only x (inl refl) in
    let b = only y (inr (inl refl)) in
    let r : x < y = rises 0 (omega arith) in
    omega (arith, a, b, r))

none_kept : (value : ℕ → Bool) (xs : List ℕ) → ((b : ℕ) → Has xs b → value b ≡ false) → filter value xs ≡ []
none_kept value [] h = refl
none_kept value (x ∷ xs) h = ap (λ (b : Bool). cond b (x ∷ filter value xs) (filter value xs)) (h x (inl refl)) ∙ none_kept value xs (λ b m. h b (inr m))

nothing_left : (value : ℕ → Bool) (gs : List (List ℕ)) (i : ℕ) → length gs ≤ i → kept_of value (drop i gs) ≡ []
nothing_left value [] zero l = refl
nothing_left value [] (suc i) l = refl
nothing_left value (g ∷ gs) zero l = absurd (omega (arith, l))
nothing_left value (g ∷ gs) (suc i) l = nothing_left value gs i (omega (arith, l))

module _ (h : Nodes) (value : ℕ → Bool) (groups : List (List ℕ)) (are : AreGroups h groups) (closed : IsClosed h) (low : (a b : ℕ) → a < length h → b < length h → value a ≡ false → value b ≡ true → a < b) (no : (a : ℕ) → value a ≡ true → Reaches h a a → ⊥) where
  abbrev Before : ℕ → ℕ → Type 0
  Before i a = (j : ℕ) × (j < i) × Contains (group_at groups j) a

  reaches : (a b : ℕ) → LeadsTo h value a b → Reaches h a b
  reaches a b (directly a' b' n) = one a b n
  reaches a b (by_function a' f b' n e r) = further a f b n (reaches f b r)

  -- a function of a group is with functions alone
  mutual_function : (f a : ℕ) → value f ≡ false → AreMutual h f a → value a ≡ false
  mutual_function f a e m = elim m [
    | inl is ↦ subst (λ (z : ℕ). value z ≡ false) is e
    | inr r ↦ elim (cases_Bool (value a)) [ inl t ↦ absurd (no a t (through r.1 r.0)) | inr x ↦ x ]
  ]

  -- what a function of its group leads to
  along : (f a b : ℕ) → Reaches h f a → Reaches h a f → LeadsTo h value a b → LeadsTo h value f b
  along f a b (one f' a' n) back r = by_function f a b n (elim (cases_Bool (value a)) [ inl t ↦ absurd (no a t (through back (one f a n))) | inr x ↦ x ]) r
  along f a b (further f' c a' n s) back r = by_function f c b n
      (elim (cases_Bool (value c)) [ inl t ↦ absurd (no c t (through s (through back (one f c n)))) | inr x ↦ x ])
      (along c a b s (through back (one f c n)) r)

  shared : (f a b : ℕ) → AreMutual h f a → LeadsTo h value a b → LeadsTo h value f b
  shared f a b m r = elim m [
    | inl is ↦ subst (λ (z : ℕ). LeadsTo h value z b) (sym is) r
    | inr (there, back) ↦ along f a b there back r
  ]

  -- what a group leads to comes no later
  no_later : (a b k : ℕ) → k < length groups → Contains (group_at groups k) a → LeadsTo h value a b → (j : ℕ) × (j ≤ k) × Contains (group_at groups j) b
  no_later a b k l m (directly a' b' n) = elim (are.needs k l a b m n) [
    | inl own ↦ (k, omega arith, own)
    | inr (j, lt, mb) ↦ (j, omega (arith, lt), mb)
  ]
  no_later a b k l m (by_function a' f b' n e r) = elim (are.needs k l a f m n) [
    | inl own ↦ no_later f b k l own r
    | inr (j, lt, mf) ↦ (let s = no_later f b j (omega (arith, lt, l)) mf r in let i = s.0 in let w = s.1 in (i, omega (arith, w, lt), s.2))
  ]

  -- a value is alone in its group
  value_alone : (i v : ℕ) → i < length groups → Contains (group_at groups i) v → value v ≡ true → group_at groups i ≡ v ∷ []
  value_alone i v l m t = alone (group_at groups i) v (are.each i l).increasing (has_contained (group_at groups i) v m)
      (λ b mb. elim (((are.each i l).whole v b m).0 (contains_had (group_at groups i) b mb)).1 [
        | inl is ↦ sym is
        | inr r ↦ absurd (no v t (through r.0 r.1))
      ])

  lies : (i a : ℕ) → i < length groups → Contains (group_at groups i) a → a < length h
  lies i a l m = (((are.each i l).whole a a m).0 m).0

  -- where a value's group comes next, each function all of whose values come before is in a group before
  module _ (i v : ℕ) (li : i < length groups) (is : group_at groups i ≡ v ∷ []) (t : value v ≡ true) where
    member_is : (b : ℕ) → Contains (group_at groups i) b → b ≡ v
    member_is b m = elim (has_contained (v ∷ []) b (subst (λ (xs : List ℕ). Contains xs b) is m)) [ inl e ↦ sym e | inr x ↦ absurd x ]

    here : Contains (group_at groups i) v
    here = subst (λ (xs : List ℕ). Contains xs v) (sym is) (contains_had (v ∷ []) v (inl refl))

    first_is : get_or (group_at groups i) 0 0 ≡ v
    first_is = ap (λ (xs : List ℕ). get_or xs 0 0) is

    early : (n k f : ℕ) → k < n → k < length groups → Contains (group_at groups k) f → value f ≡ false → ((b : ℕ) → NeedsValue h value f b → Before i b) → Before i f
    early zero k f ln l m e met = absurd (omega (arith, ln))
    early (suc n) k f ln l m e met = elim (cases_lt k i) [
      | inl lt ↦ (k, lt, m)
      | inr ge ↦ elim (cases_eq k i) [
        | inl same ↦ absurd (not_both (value f) (subst (λ (z : ℕ). value z ≡ true) (sym (member_is f (subst (λ (z : ℕ). Contains (group_at groups z) f) same m))) t) e)
        | inr apart ↦ absurd (
            let only : NeedsOnlyBefore h groups i (group_at groups k) = λ a b ma need.
            (let mutual' : AreMutual h f a = (((are.each k l).whole f a m).0 ma).1 in
            elim (cases_Bool (value b)) [
              | inl tb ↦ inr (met b (tb, shared f a b mutual' (directly a b need)))
              | inr fb ↦ elim (are.needs k l a b ma need) [
                | inl own ↦ inl own
                | inr (j, lt, mb) ↦ inr (early n j b (omega (arith, lt, ln)) (omega (arith, lt, l)) mb fb (λ c nc. met c (nc.0, shared f a c mutual' (by_function a b c need fb nc.1))))
              ]
            ]) in
            let less = are.least i k (omega (arith, ge, apart)) l only in
            let head = Contains-get_or (group_at groups k) 0 0 (are.each k l).some in
            let x = get_or (group_at groups k) 0 0 in
            let function : value x ≡ false = mutual_function f x e (((are.each k l).whole f x m).0 head).1 in
            let below : x < v = low x v (lies k x l head) (lies i v li here) function t in
            let first : get_or (group_at groups i) 0 0 ≡ v = first_is in
            omega (arith, less, below, first))
      ]
    ]

    ready : IsReady h value (kept_of value (take i groups)) v
    ready = record {
      within = lies i v li here;
      valued = t;
      left = λ m. (let r = before_has value groups i v m in let j = r.0.0 in let lt = r.0.1 in let same : i ≡ j = are.once i j v here r.0.2 in omega (arith, lt, same));
      met = λ b n. (let r = no_later v b i li here n.1 in
          let j = r.0 in let le = r.1 in
          elim (cases_eq j i) [
            | inl same ↦ absurd (no v t (reaches v v (subst (LeadsTo h value v) (member_is b (subst (λ (z : ℕ). Contains (group_at groups z) b) same r.2)) n.1)))
            | inr apart ↦ has_before value groups i j b (omega (arith, le, apart)) r.2 n.0
          ]);
    }

    least : (y : ℕ) → IsReady h value (kept_of value (take i groups)) y → v ≤ y
    least y r =
        let place = are.all y r.within in
        let p = place.0 in
        let lp = place.1 in
        let mp = place.2 in
        elim (cases_lt p i) [
          | inl lt ↦ absurd (r.left (has_before value groups i p y lt mp r.valued))
          | inr ge ↦ elim (cases_eq p i) [
            | inl same ↦ (let e = member_is y (subst (λ (z : ℕ). Contains (group_at groups z) y) same mp) in omega (arith, e))
            | inr apart ↦ (
                let single = value_alone p y lp mp r.valued in
                let met : (b : ℕ) → NeedsValue h value y b → Before i b = λ b n. (before_has value groups i b (r.met b n)).0 in
                let only : NeedsOnlyBefore h groups i (group_at groups p) = λ a b ma need.
                (let own : y ≡ a = elim (has_contained (y ∷ []) a (subst (λ (xs : List ℕ). Contains xs a) single ma)) [ inl e ↦ e | inr x ↦ absurd x ] in
                let of_y : Needs h y b = subst (λ (z : ℕ). Needs h z b) (sym own) need in
                elim (cases_Bool (value b)) [
                  | inl tb ↦ inr (met b (tb, directly y b of_y))
                  | inr fb ↦ (let at_b = are.all b (closed y b of_y) in
                      let q = at_b.0 in
                      inr (early (suc q) q b (omega arith) at_b.1 at_b.2 fb (λ c nc. met c (nc.0, by_function y b c of_y fb nc.1))))
                ]) in
                let less = are.least i p (omega (arith, ge, apart)) lp only in
                let first : get_or (group_at groups i) 0 0 ≡ v = first_is in
                let last : get_or (group_at groups p) 0 0 ≡ y = ap (λ (xs : List ℕ). get_or xs 0 0) single in
                omega (arith, less, first, last))
          ]
        ]

  -- from each position on
  goes : (k i : ℕ) → i + k ≡ length groups → GoesOn h value (kept_of value (take i groups)) (kept_of value (drop i groups))
  goes zero i size =
      let all : kept_of value (drop i groups) ≡ [] = nothing_left value groups i (omega (arith, size)) in
      subst (GoesOn h value (kept_of value (take i groups))) (sym all) (λ node r.
      (let place = are.all node r.within in let p = place.0 in let lp = place.1 in
      r.left (has_before value groups i p node (omega (arith, lp, size)) place.2 r.valued)))
  goes (suc k) i size =
      let li : i < length groups = omega (arith, size) in
      let x = get_or (group_at groups i) 0 0 in
      let head : Contains (group_at groups i) x = Contains-get_or (group_at groups i) 0 0 (are.each i li).some in
      let rest = goes k (suc i) (omega (arith, size)) in
      elim (cases_Bool (value x)) [
        | inl t ↦ (
            let is : group_at groups i ≡ x ∷ [] = value_alone i x li head t in
            let kept : filter value (group_at groups i) ≡ x ∷ [] = ap (filter value) is ∙ ap (λ (b : Bool). cond b (x ∷ []) []) t in
            subst (GoesOn h value (kept_of value (take i groups))) (sym (kept_rest value groups i li ∙ ap (λ (xs : List ℕ). xs ++ kept_of value (drop (suc i) groups)) kept)) (
              ready i x li is t,
              least i x li is t,
              subst (λ (taken : List ℕ). GoesOn h value taken (kept_of value (drop (suc i) groups))) (kept_more value groups i li ∙ ap (λ (xs : List ℕ). kept_of value (take i groups) ++ xs) kept) rest,
            ))
        | inr f ↦ (
            let kept : filter value (group_at groups i) ≡ [] = none_kept value (group_at groups i) (λ b m. mutual_function x b f (((are.each i li).whole x b head).0 (contains_had (group_at groups i) b m)).1) in
            subst (GoesOn h value (kept_of value (take i groups))) (sym (kept_rest value groups i li ∙ ap (λ (xs : List ℕ). xs ++ kept_of value (drop (suc i) groups)) kept))
            (subst (λ (taken : List ℕ). GoesOn h value taken (kept_of value (drop (suc i) groups))) (kept_more value groups i li ∙ ap (λ (xs : List ℕ). kept_of value (take i groups) ++ xs) kept ∙ append-nil (kept_of value (take i groups))) rest))
      ]

  pub in_order : GoesOn h value [] (kept_of value groups)
  in_order = goes (length groups) 0 (omega arith)
