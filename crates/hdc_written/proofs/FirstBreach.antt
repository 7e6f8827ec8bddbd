-- The first breach of a list.
use Rattle.std.proofs.Common.{◌≡◌, ◌⊎◌, ◌<◌, ◌≤◌, ℕ, ◌==◌, nat_lt, Bool, true, false, List, [], ◌∷◌, ◌++◌, Option, Some, None, if◌then◌else◌, refl, sym, ap, subst, ◌∙◌, inl, inr, arith}
use Rattle.std.proofs.lemmas.Bool.{eqb-true, eqb-false, ltb-true, ltb-false}
use Rattle.hdc_base.specs.declared.place.At.{At}
use Rattle.hdc_written.specs.declared.breach.Breach.{Breach}
use Rattle.hdc_written.specs.declared.breach.Found.{Found}
use Rattle.hdc_written.specs.Breaches.{ComesBefore, IsFirst, IsOneOf, comes_before, nothing_found, first_of, noted, all_noted, joined_with}

-- one list behind another
pub noted_joined : (f : Found) (bs cs : List Breach) → all_noted f (bs ++ cs) ≡ all_noted (all_noted f bs) cs
noted_joined f [] cs = refl
noted_joined f (b ∷ bs) cs = noted_joined (noted f b) bs cs

pub ruleset in_order = (noted_joined)

-- ---- the order of breaches, by numbers

abbrev Less : Breach → Breach → Type 0
Less b c = (b.at.line < c.at.line) ⊎ ((b.at.line ≡ c.at.line) × ((b.at.col < c.at.col) ⊎ ((b.at.col ≡ c.at.col) × (b.rule < c.rule))))

less_of : (b c : Breach) → ComesBefore b c → Less b c
less_of b c (inl (inl h)) = inl h
less_of b c (inl (inr h)) = inr (h.0, inl h.1)
less_of b c (inr h) = inr (ap (λ (a : At). a.line) h.0, inr (ap (λ (a : At). a.col) h.0, h.1))

same_at : (p q : At) → p.line ≡ q.line → p.col ≡ q.col → p ≡ q
same_at p q e f = ap (λ n. record { line = n; col = p.col }) e ∙ ap (λ n. record { line = q.line; col = n }) f

of_less : (b c : Breach) → Less b c → ComesBefore b c
of_less b c (inl h) = inl (inl h)
of_less b c (inr (e, inl h)) = inl (inr (e, h))
of_less b c (inr (e, inr h)) = inr (same_at b.at c.at e h.0, h.1)

less_both : (l1 c1 r1 l2 c2 r2 l3 c3 r3 : ℕ) → (l1 < l2) ⊎ ((l1 ≡ l2) × ((c1 < c2) ⊎ ((c1 ≡ c2) × (r1 < r2)))) → (l2 < l3) ⊎ ((l2 ≡ l3) × ((c2 < c3) ⊎ ((c2 ≡ c3) × (r2 < r3)))) → (l1 < l3) ⊎ ((l1 ≡ l3) × ((c1 < c3) ⊎ ((c1 ≡ c3) × (r1 < r3))))
less_both l1 c1 r1 l2 c2 r2 l3 c3 r3 (inl h) (inl g) = inl (omega (arith, h, g))
less_both l1 c1 r1 l2 c2 r2 l3 c3 r3 (inl h) (inr (e, g)) = inl (omega (arith, h, e))
less_both l1 c1 r1 l2 c2 r2 l3 c3 r3 (inr (d, h)) (inl g) = inl (omega (arith, d, g))
less_both l1 c1 r1 l2 c2 r2 l3 c3 r3 (inr (d, inl h)) (inr (e, inl g)) = inr (d ∙ e, inl (omega (arith, h, g)))
less_both l1 c1 r1 l2 c2 r2 l3 c3 r3 (inr (d, inl h)) (inr (e, inr g)) = let f = g.0 in inr (d ∙ e, inl (omega (arith, h, f)))
less_both l1 c1 r1 l2 c2 r2 l3 c3 r3 (inr (d, inr h)) (inr (e, inl g)) = let f = h.0 in inr (d ∙ e, inl (omega (arith, f, g)))
less_both l1 c1 r1 l2 c2 r2 l3 c3 r3 (inr (d, inr h)) (inr (e, inr g)) = let f = h.1 in let k = g.1 in inr (d ∙ e, inr (h.0 ∙ g.0, omega (arith, f, k)))

which_less : (m n : ℕ) → (m < n) ⊎ ((m ≡ n) ⊎ (n < m))
which_less m n = by (nat_lt m n) (nat_lt n m) refl refl
  where
    by : (s t : Bool) → nat_lt m n ≡ s → nat_lt n m ≡ t → (m < n) ⊎ ((m ≡ n) ⊎ (n < m))
    by true t e f = inl (ltb-true m n e)
    by false true e f = inr (inr (ltb-true n m f))
    by false false e f = let g : n ≤ m = ltb-false m n e in let h : m ≤ n = ltb-false n m f in inr (inl (omega (arith, g, h)))

abbrev Below : ℕ → ℕ → ℕ → ℕ → ℕ → ℕ → Type 0
Below l1 c1 r1 l2 c2 r2 = (l1 < l2) ⊎ ((l1 ≡ l2) × ((c1 < c2) ⊎ ((c1 ≡ c2) × (r1 < r2))))

below_through : (l1 c1 r1 l2 c2 r2 l3 c3 r3 : ℕ) → Below l1 c1 r1 l2 c2 r2 → (Below l3 c3 r3 l2 c2 r2 → ⊥) → Below l1 c1 r1 l3 c3 r3
below_through l1 c1 r1 l2 c2 r2 l3 c3 r3 h never = lines (which_less l3 l2) h
  where
    rules : l3 ≡ l2 → c3 ≡ c2 → (r3 < r2) ⊎ ((r3 ≡ r2) ⊎ (r2 < r3)) → Below l1 c1 r1 l2 c2 r2 → Below l1 c1 r1 l3 c3 r3
    rules e f (inl k) g = absurd (never (inr (e, inr (f, k))))
    rules e f (inr k) (inl g) = inl (omega (arith, g, e))
    rules e f (inr k) (inr (d, inl g)) = inr (d ∙ sym e, inl (omega (arith, g, f)))
    rules e f (inr (inl k)) (inr (d, inr g)) = let m = g.1 in inr (d ∙ sym e, inr (g.0 ∙ sym f, omega (arith, m, k)))
    rules e f (inr (inr k)) (inr (d, inr g)) = let m = g.1 in inr (d ∙ sym e, inr (g.0 ∙ sym f, omega (arith, m, k)))

    columns : l3 ≡ l2 → (c3 < c2) ⊎ ((c3 ≡ c2) ⊎ (c2 < c3)) → Below l1 c1 r1 l2 c2 r2 → Below l1 c1 r1 l3 c3 r3
    columns e (inl k) g = absurd (never (inr (e, inl k)))
    columns e (inr (inl k)) g = rules e k (which_less r3 r2) g
    columns e (inr (inr k)) (inl g) = inl (omega (arith, g, e))
    columns e (inr (inr k)) (inr (d, inl g)) = inr (d ∙ sym e, inl (omega (arith, g, k)))
    columns e (inr (inr k)) (inr (d, inr g)) = let m = g.0 in inr (d ∙ sym e, inl (omega (arith, m, k)))

    lines : (l3 < l2) ⊎ ((l3 ≡ l2) ⊎ (l2 < l3)) → Below l1 c1 r1 l2 c2 r2 → Below l1 c1 r1 l3 c3 r3
    lines (inl k) g = absurd (never (inl k))
    lines (inr (inl k)) g = columns k (which_less c3 c2) g
    lines (inr (inr k)) (inl g) = inl (omega (arith, g, k))
    lines (inr (inr k)) (inr (d, g)) = inl (omega (arith, d, k))

none_below : (l1 c1 r1 l2 c2 r2 : ℕ) → (Below l1 c1 r1 l2 c2 r2 → ⊥) → (Below l2 c2 r2 l1 c1 r1 → ⊥) → (l1 ≡ l2) × (c1 ≡ c2) × (r1 ≡ r2)
none_below l1 c1 r1 l2 c2 r2 h g = lines (which_less l1 l2)
  where
    rules : l1 ≡ l2 → c1 ≡ c2 → (r1 < r2) ⊎ ((r1 ≡ r2) ⊎ (r2 < r1)) → (l1 ≡ l2) × (c1 ≡ c2) × (r1 ≡ r2)
    rules d e (inl k) = absurd (h (inr (d, inr (e, k))))
    rules d e (inr (inl k)) = (d, e, k)
    rules d e (inr (inr k)) = absurd (g (inr (sym d, inr (sym e, k))))

    columns : l1 ≡ l2 → (c1 < c2) ⊎ ((c1 ≡ c2) ⊎ (c2 < c1)) → (l1 ≡ l2) × (c1 ≡ c2) × (r1 ≡ r2)
    columns d (inl k) = absurd (h (inr (d, inl k)))
    columns d (inr (inl k)) = rules d k (which_less r1 r2)
    columns d (inr (inr k)) = absurd (g (inr (sym d, inl k)))

    lines : (l1 < l2) ⊎ ((l1 ≡ l2) ⊎ (l2 < l1)) → (l1 ≡ l2) × (c1 ≡ c2) × (r1 ≡ r2)
    lines (inl k) = absurd (h (inl k))
    lines (inr (inl k)) = columns k (which_less c1 c2)
    lines (inr (inr k)) = absurd (g (inl k))

never_less : (l c r : ℕ) → (l < l) ⊎ ((l ≡ l) × ((c < c) ⊎ ((c ≡ c) × (r < r)))) → ⊥
never_less l c r (inl h) = omega (arith, h)
never_less l c r (inr (e, inl h)) = omega (arith, h)
never_less l c r (inr (e, inr h)) = let k = h.1 in omega (arith, k)

before_both : (a b c : Breach) → ComesBefore a b → ComesBefore b c → ComesBefore a c
before_both a b c h g = of_less a c (less_both a.at.line a.at.col a.rule b.at.line b.at.col b.rule c.at.line c.at.col c.rule (less_of a b h) (less_of b c g))

pub never_before : (a : Breach) → ComesBefore a a → ⊥
never_before a h = never_less a.at.line a.at.col a.rule (less_of a a h)

before_through : (a b c : Breach) → ComesBefore a b → (ComesBefore c b → ⊥) → ComesBefore a c
before_through a b c h never =
    of_less a c (below_through a.at.line a.at.col a.rule b.at.line b.at.col b.rule c.at.line c.at.col c.rule (less_of a b h) (λ g. never (of_less c b g)))

same_breach : (a b : Breach) → (ComesBefore a b → ⊥) → (ComesBefore b a → ⊥) → a ≡ b
same_breach a b h g =
    let same = none_below a.at.line a.at.col a.rule b.at.line b.at.col b.rule (λ k. h (of_less a b k)) (λ k. g (of_less b a k)) in
    ap (λ n. record { rule = n; at = a.at }) same.2 ∙ ap (λ (p : At). record { rule = b.rule; at = p }) (same_at a.at b.at same.0 same.1)

-- there is one first breach at most
pub first_once : (Broken : Breach → Type 0) (r s : Option Breach) → IsFirst Broken r → IsFirst Broken s → r ≡ s
first_once Broken None None h g = refl
first_once Broken None (Some b) h g = absurd (h b g.0)
first_once Broken (Some a) None h g = absurd (g a h.0)
first_once Broken (Some a) (Some b) h g = ap Some (same_breach a b (g.1 a h.0) (h.1 b g.0))

-- ---- what the code compares

abbrev Says : Bool → Type 0 → Type 0
Says true P = P
Says false P = P → ⊥

by_rule : (b c : Breach) → b.at.line ≡ c.at.line → b.at.col ≡ c.at.col → (t : Bool) → nat_lt b.rule c.rule ≡ t → Says t (ComesBefore b c)
by_rule b c e f true h = of_less b c (inr (e, inr (f, ltb-true b.rule c.rule h)))
by_rule b c e f false h = λ g. no (less_of b c g)
  where
    le : c.rule ≤ b.rule
    le = ltb-false b.rule c.rule h

    no : Less b c → ⊥
    no (inl k) = omega (arith, k, e)
    no (inr (d, inl k)) = omega (arith, k, f)
    no (inr (d, inr k)) = let lt = k.1 in omega (arith, lt, le)

by_col : (b c : Breach) → b.at.line ≡ c.at.line → (b.at.col ≡ c.at.col → ⊥) → (t : Bool) → nat_lt b.at.col c.at.col ≡ t → Says t (ComesBefore b c)
by_col b c e f true h = of_less b c (inr (e, inl (ltb-true b.at.col c.at.col h)))
by_col b c e f false h = λ g. no (less_of b c g)
  where
    le : c.at.col ≤ b.at.col
    le = ltb-false b.at.col c.at.col h

    no : Less b c → ⊥
    no (inl k) = omega (arith, k, e)
    no (inr (d, inl k)) = omega (arith, k, le)
    no (inr (d, inr k)) = f k.0

by_line : (b c : Breach) → (b.at.line ≡ c.at.line → ⊥) → (t : Bool) → nat_lt b.at.line c.at.line ≡ t → Says t (ComesBefore b c)
by_line b c f true h = of_less b c (inl (ltb-true b.at.line c.at.line h))
by_line b c f false h = λ g. no (less_of b c g)
  where
    le : c.at.line ≤ b.at.line
    le = ltb-false b.at.line c.at.line h

    no : Less b c → ⊥
    no (inl k) = omega (arith, k, le)
    no (inr k) = f k.0

in_line : (b c : Breach) → b.at.line ≡ c.at.line → (s t : Bool) → (b.at.col == c.at.col) ≡ s → (if s then nat_lt b.rule c.rule else nat_lt b.at.col c.at.col) ≡ t → Says t (ComesBefore b c)
in_line b c e true t same h = by_rule b c e (eqb-true b.at.col c.at.col same) t h
in_line b c e false t other h = by_col b c e (eqb-false b.at.col c.at.col other) t h

in_text : (b c : Breach) (s t : Bool) → (b.at.line == c.at.line) ≡ s → (if s then (if b.at.col == c.at.col then nat_lt b.rule c.rule else nat_lt b.at.col c.at.col) else nat_lt b.at.line c.at.line) ≡ t → Says t (ComesBefore b c)
in_text b c true t same h = in_line b c (eqb-true b.at.line c.at.line same) (b.at.col == c.at.col) t refl h
in_text b c false t other h = by_line b c (eqb-false b.at.line c.at.line other) t h

decided : (b c : Breach) (t : Bool) → comes_before b c ≡ t → Says t (ComesBefore b c)
decided b c t h = in_text b c (b.at.line == c.at.line) t refl h

-- ---- the first of those that were seen

-- one more is seen
abbrev Among : (Breach → Type 0) → Breach → Breach → Type 0
Among Seen b c = Seen c ⊎ (c ≡ b)

seen_more : (Seen : Breach → Type 0) (a b : Breach) → IsFirst Seen (Some a) → (t : Bool) → comes_before b a ≡ t → IsFirst (Among Seen b) (Some (if t then b else a))
seen_more Seen a b first true h = (inr refl, none)
  where
    none : (c : Breach) → Among Seen b c → ComesBefore c b → ⊥
    none c (inl seen) before = first.1 c seen (before_both c b a before (decided b a true h))
    none c (inr same) before = never_before b (subst (λ z. ComesBefore z b) same before)
seen_more Seen a b first false h = (inl first.0, none)
  where
    none : (c : Breach) → Among Seen b c → ComesBefore c a → ⊥
    none c (inl seen) before = first.1 c seen before
    none c (inr same) before = decided b a false h (subst (λ z. ComesBefore z a) same before)

first_more : (Seen : Breach → Type 0) (r : Option Breach) (b : Breach) → IsFirst Seen r → IsFirst (Among Seen b) (Some (first_of r b))
first_more Seen None b first = (inr refl, none)
  where
    none : (c : Breach) → Among Seen b c → ComesBefore c b → ⊥
    none c (inl seen) before = first c seen
    none c (inr same) before = never_before b (subst (λ z. ComesBefore z b) same before)
first_more Seen (Some a) b first = seen_more Seen a b first (comes_before b a) refl

-- the same breaches have the same first one
pub first_of_same : (Broken Other : Breach → Type 0) (r : Option Breach) → ((b : Breach) → Broken b → Other b) → ((b : Breach) → Other b → Broken b) → IsFirst Broken r → IsFirst Other r
first_of_same Broken Other None to from first = λ b other. first b (from b other)
first_of_same Broken Other (Some a) to from first = (to a first.0, λ c other before. first.1 c (from c other) before)

one_more : (Seen : Breach → Type 0) (b : Breach) (bs : List Breach) (c : Breach) → (Among Seen b c ⊎ IsOneOf c bs) → Seen c ⊎ IsOneOf c (b ∷ bs)
one_more Seen b bs c (inl (inl h)) = inl h
one_more Seen b bs c (inl (inr h)) = inr (inl h)
one_more Seen b bs c (inr h) = inr (inr h)

one_less : (Seen : Breach → Type 0) (b : Breach) (bs : List Breach) (c : Breach) → Seen c ⊎ IsOneOf c (b ∷ bs) → (Among Seen b c ⊎ IsOneOf c bs)
one_less Seen b bs c (inl h) = inl (inl h)
one_less Seen b bs c (inr (inl h)) = inl (inr h)
one_less Seen b bs c (inr (inr h)) = inr h

left_of : (P : Type 0) → P ⊎ ⊥ → P
left_of P (inl h) = h
left_of P (inr h) = absurd h

first_of_all : (bs : List Breach) (Seen : Breach → Type 0) (f : Found) → IsFirst Seen f.breach → IsFirst (λ c. Seen c ⊎ IsOneOf c bs) (all_noted f bs).breach
first_of_all [] Seen f first = first_of_same Seen (λ c. Seen c ⊎ ⊥) f.breach (λ b h. inl h) (λ b h. left_of (Seen b) h) first
first_of_all (b ∷ bs) Seen f first =
    first_of_same (λ c. Among Seen b c ⊎ IsOneOf c bs) (λ c. Seen c ⊎ IsOneOf c (b ∷ bs)) (all_noted f (b ∷ bs)).breach (one_more Seen b bs) (one_less Seen b bs)
    (first_of_all bs (Among Seen b) (noted f b) (first_more Seen f.breach b first))

right_of : (P : Type 0) → ⊥ ⊎ P → P
right_of P (inl h) = absurd h
right_of P (inr h) = h

-- what is noted of a list is its first breach
pub first_of_list : (bs : List Breach) → IsFirst (λ b. IsOneOf b bs) (all_noted nothing_found bs).breach
first_of_list bs =
    first_of_same (λ c. ⊥ ⊎ IsOneOf c bs) (λ c. IsOneOf c bs) (all_noted nothing_found bs).breach (λ b h. right_of (IsOneOf b bs) h) (λ b h. inr h)
    (first_of_all bs (λ c. ⊥) nothing_found (λ b h. h))

-- one of two lists
pub one_of_left : (b : Breach) (bs cs : List Breach) → IsOneOf b bs → IsOneOf b (bs ++ cs)
one_of_left b [] cs h = absurd h
one_of_left b (a ∷ bs) cs (inl h) = inl h
one_of_left b (a ∷ bs) cs (inr h) = inr (one_of_left b bs cs h)

pub one_of_right : (b : Breach) (bs cs : List Breach) → IsOneOf b cs → IsOneOf b (bs ++ cs)
one_of_right b [] cs h = h
one_of_right b (a ∷ bs) cs h = inr (one_of_right b bs cs h)

pub one_of_either : (b : Breach) (bs cs : List Breach) → IsOneOf b (bs ++ cs) → IsOneOf b bs ⊎ IsOneOf b cs
one_of_either b [] cs h = inr h
one_of_either b (a ∷ bs) cs (inl h) = inl (inl h)
one_of_either b (a ∷ bs) cs (inr h) = by (one_of_either b bs cs h)
  where
    by : IsOneOf b bs ⊎ IsOneOf b cs → IsOneOf b (a ∷ bs) ⊎ IsOneOf b cs
    by (inl k) = inl (inr k)
    by (inr k) = inr k

-- ---- what was found in one way and in another

both_first : (P Q : Breach → Type 0) (a b : Breach) → IsFirst P (Some a) → IsFirst Q (Some b) → (t : Bool) → comes_before b a ≡ t → IsFirst (λ c. P c ⊎ Q c) (Some (if t then b else a))
both_first P Q a b first second true h = (inr second.0, none)
  where
    none : (c : Breach) → P c ⊎ Q c → ComesBefore c b → ⊥
    none c (inl p) before = first.1 c p (before_both c b a before (decided b a true h))
    none c (inr q) before = second.1 c q before
both_first P Q a b first second false h = (inl first.0, none)
  where
    none : (c : Breach) → P c ⊎ Q c → ComesBefore c a → ⊥
    none c (inl p) before = first.1 c p before
    none c (inr q) before = second.1 c q (before_through c a b before (decided b a false h))

pub first_of_both : (P Q : Breach → Type 0) (f : Found) (s : Option Breach) → IsFirst P f.breach → IsFirst Q s → IsFirst (λ c. P c ⊎ Q c) (joined_with f s).breach
first_of_both P Q f s first second = by f.breach s first second
  where
    none_of : (c : Breach) → IsFirst P None → IsFirst Q None → P c ⊎ Q c → ⊥
    none_of c h g (inl p) = h c p
    none_of c h g (inr q) = g c q

    only_left : (a c : Breach) → IsFirst P (Some a) → IsFirst Q None → P c ⊎ Q c → ComesBefore c a → ⊥
    only_left a c h g (inl p) before = h.1 c p before
    only_left a c h g (inr q) before = g c q

    only_right : (b c : Breach) → IsFirst P None → IsFirst Q (Some b) → P c ⊎ Q c → ComesBefore c b → ⊥
    only_right b c h g (inl p) before = h c p
    only_right b c h g (inr q) before = g.1 c q before

    by : (r t : Option Breach) → IsFirst P r → IsFirst Q t → IsFirst (λ c. P c ⊎ Q c) (joined_with (record { breach = r }) t).breach
    by None None h g = λ c either. none_of c h g either
    by (Some a) None h g = (inl h.0, λ c either before. only_left a c h g either before)
    by None (Some b) h g = (inr g.0, λ c either before. only_right b c h g either before)
    by (Some a) (Some b) h g = both_first P Q a b h g (comes_before b a) refl
