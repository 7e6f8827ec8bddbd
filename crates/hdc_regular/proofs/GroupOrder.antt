-- Groups in the order of dependency give an order of the synonyms.
use Rattle.std.proofs.Common.{◌≡◌, ◌⊎◌, inl, inr, ℕ, zero, suc, ◌+◌, ◌<◌, ◌≤◌, List, [], ◌∷◌, ◌++◌, length, Contains, refl, sym, ap, subst, ◌∙◌, arith, append_assoc, length-append}
use Rattle.std.proofs.Math.Seq.{get_or-append_seam}
use Rattle.std.proofs.lemmas.Bool.{cases_lt}
use Rattle.hdc_graph.specs.Lists.{Has}
use Rattle.hdc_graph.specs.Needs.{Nodes, Needs, Reaches, one, further, AreMutual}
use Rattle.hdc_graph.specs.Groups.{group_at, AreGroups}
use Rattle.hdc_synonyms.specs.Adding.{AllBelow}
use Rattle.hdc_regular.specs.Order.{IsOrder, shifted_by, group_order}

-- ---- orders one behind another

module _ (Names : ℕ → ℕ → Type 0) where
  -- more may come before
  pub order_behind_more : (Before More : ℕ → Type 0) (ns : List ℕ) → ((x : ℕ) → Before x → More x) → IsOrder Names Before ns → IsOrder Names More ns
  order_behind_more Before More [] more o = tt
  order_behind_more Before More (n ∷ ns) more o =
      (λ b i. more b (o.0 b i), order_behind_more (λ x. Before x ⊎ (n ≡ x)) (λ x. More x ⊎ (n ≡ x)) ns (λ x h. by x h) o.1)
    where
      by : (x : ℕ) → Before x ⊎ (n ≡ x) → More x ⊎ (n ≡ x)
      by x (inl h) = inl (more x h)
      by x (inr e) = inr e

  -- two orders, of which the second comes behind the first
  pub both_orders : (Before : ℕ → Type 0) (ms ns : List ℕ) → IsOrder Names Before ms → IsOrder Names (λ x. Before x ⊎ Has ms x) ns → IsOrder Names Before (ms ++ ns)
  both_orders Before [] ns o p = order_behind_more (λ x. Before x ⊎ ⊥) Before ns (λ x h. by x h) p
    where
      by : (x : ℕ) → Before x ⊎ ⊥ → Before x
      by x (inl h) = h
      by x (inr h) = absurd h
  both_orders Before (m ∷ ms) ns o p = (o.0, both_orders (λ x. Before x ⊎ (m ≡ x)) ms ns o.1 (order_behind_more (λ x. Before x ⊎ Has (m ∷ ms) x) (λ x. (Before x ⊎ (m ≡ x)) ⊎ Has ms x) ns (λ x h. by x h) p))
    where
      by : (x : ℕ) → Before x ⊎ ((m ≡ x) ⊎ Has ms x) → (Before x ⊎ (m ≡ x)) ⊎ Has ms x
      by x (inl h) = inl (inl h)
      by x (inr (inl e)) = inl (inr e)
      by x (inr (inr h)) = inr h

  -- numbers that name only what comes before all of them
  pub order_of_all : (Before : ℕ → Type 0) (ns : List ℕ) → ((n b : ℕ) → Has ns n → Names n b → Before b) → IsOrder Names Before ns
  order_of_all Before [] h = tt
  order_of_all Before (n ∷ ns) h = (λ b i. h n b (inl refl) i, order_of_all (λ x. Before x ⊎ (n ≡ x)) ns (λ m b i j. inl (h m b (inr i) j)))

-- ---- numbers in groups

has_shifted : (base : ℕ) (ns : List ℕ) (n : ℕ) → Has (shifted_by base ns) n → (i : ℕ) × (base + i ≡ n) × Has ns i
has_shifted base [] n h = absurd h
has_shifted base (m ∷ ns) n (inl e) = (m, e, inl refl)
has_shifted base (m ∷ ns) n (inr h) = let r = has_shifted base ns n h in (r.0, r.1, inr r.2)

shifted_has : (base : ℕ) (ns : List ℕ) (i : ℕ) → Has ns i → Has (shifted_by base ns) (base + i)
shifted_has base [] i h = absurd h
shifted_has base (m ∷ ns) i (inl e) = inl (ap (λ z. base + z) e)
shifted_has base (m ∷ ns) i (inr h) = inr (shifted_has base ns i h)

pub has_left : (ms ns : List ℕ) (x : ℕ) → Has ms x → Has (ms ++ ns) x
has_left [] ns x h = absurd h
has_left (m ∷ ms) ns x (inl e) = inl e
has_left (m ∷ ms) ns x (inr h) = inr (has_left ms ns x h)

pub has_right : (ms ns : List ℕ) (x : ℕ) → Has ns x → Has (ms ++ ns) x
has_right [] ns x h = h
has_right (m ∷ ms) ns x h = inr (has_right ms ns x h)

pub has_contained : (xs : List ℕ) (x : ℕ) → Contains xs x → Has xs x
has_contained [] x (k, lt, e) = absurd (omega (arith, lt))
has_contained (y ∷ ys) x (zero, lt, e) = inl e
has_contained (y ∷ ys) x (suc k, lt, e) = inr (has_contained ys x (k, omega (arith, lt), e))

pub contained_has : (xs : List ℕ) (x : ℕ) → Has xs x → Contains xs x
contained_has [] x h = absurd h
contained_has (y ∷ ys) x (inl e) = (zero, omega arith, e)
contained_has (y ∷ ys) x (inr h) = let r = contained_has ys x h in (suc r.0, let lt = r.1 in omega (arith, lt), r.2)

-- what is in a group is in the order
pub in_group_order : (base : ℕ) (groups : List (List ℕ)) (k i : ℕ) → k < length groups → Has (group_at groups k) i → Has (group_order base groups) (base + i)
in_group_order base [] k i lt h = absurd (omega (arith, lt))
in_group_order base (ns ∷ groups) zero i lt h = has_left (shifted_by base ns) (group_order base groups) (base + i) (shifted_has base ns i h)
in_group_order base (ns ∷ groups) (suc k) i lt h = has_right (shifted_by base ns) (group_order base groups) (base + i) (in_group_order base groups k i (omega (arith, lt)) h)

pub has_two : (ms ns : List ℕ) (x : ℕ) → Has (ms ++ ns) x → Has ms x ⊎ Has ns x
has_two [] ns x k = inr k
has_two (m ∷ ms) ns x (inl f) = inl (inl f)
has_two (m ∷ ms) ns x (inr k) = by (has_two ms ns x k)
  where
    by : Has ms x ⊎ Has ns x → Has (m ∷ ms) x ⊎ Has ns x
    by (inl q) = inl (inr q)
    by (inr q) = inr q

ways_through : {g : Nodes} {a b c : ℕ} → Reaches g a b → Reaches g b c → Reaches g a c
ways_through (one a b n) r = further a b _ n r
ways_through (further a b c n s) r = further a b _ n (ways_through s r)

module _ (g : Nodes) (groups : List (List ℕ)) (are : AreGroups g groups) (Names : ℕ → ℕ → Type 0) (Base : ℕ → Type 0) (base : ℕ)
    (needs : (i b : ℕ) → i < length g → Names (base + i) b → Base b ⊎ ((j : ℕ) × (base + j ≡ b) × Needs g i j))
    (never : (i b : ℕ) → i < length g → Names (base + i) b → Reaches g i i → ⊥) where
  -- what is in the groups before a position, or before all of them
  abbrev InBefore : ℕ → ℕ → Type 0
  InBefore k b = Base b ⊎ ((l : ℕ) × (l < k) × (j : ℕ) × (base + j ≡ b) × Contains (group_at groups l) j)

  -- a node of a group names only what is before
  of_group : (k : ℕ) → k < length groups → (i b : ℕ) → Contains (group_at groups k) i → Names (base + i) b → InBefore k b
  of_group k lt i b c name = by (needs i b inside name)
    where
      inside : i < length g
      inside = (((are.each k lt).whole i i c).0 c).0

      itself : (j : ℕ) → Needs g i j → Contains (group_at groups k) j → ⊥
      itself j need d = mutual_never (((are.each k lt).whole i j c).0 d)
        where
          mutual_never : (j < length g) × AreMutual g i j → ⊥
          mutual_never (less, inl e) = never i b inside name (subst (Reaches g i) (sym e) (one i j need))
          mutual_never (less, inr r) = never i b inside name (ways_through r.0 r.1)

      by_need : (j : ℕ) → base + j ≡ b → Needs g i j → Contains (group_at groups k) j ⊎ ((l : ℕ) × (l < k) × Contains (group_at groups l) j) → InBefore k b
      by_need j e need (inl d) = absurd (itself j need d)
      by_need j e need (inr (l, less, d)) = inr (l, less, j, e, d)

      by : Base b ⊎ ((j : ℕ) × (base + j ≡ b) × Needs g i j) → InBefore k b
      by (inl h) = inl h
      by (inr (j, e, need)) = by_need j e need (are.needs k lt i j c need)

  at_seam : (done rest : List (List ℕ)) (ns : List ℕ) → groups ≡ done ++ ns ∷ rest → group_at groups (length done) ≡ ns
  at_seam done rest ns e = ap (λ z. group_at z (length done)) e ∙ get_or-append_seam done ns rest []

  seam_below : (done rest : List (List ℕ)) (ns : List ℕ) → groups ≡ done ++ ns ∷ rest → length done < length groups
  seam_below done rest ns e = subst (λ z. length done < length z) (sym e) (let size = length-append done (ns ∷ rest) in omega (arith, size))

  from_done : (done rest : List (List ℕ)) → groups ≡ done ++ rest → IsOrder Names (InBefore (length done)) (group_order base rest)
  from_done done [] e = tt
  from_done done (ns ∷ rest) e =
      both_orders Names (InBefore (length done)) (shifted_by base ns) (group_order base rest)
      (order_of_all Names (InBefore (length done)) (shifted_by base ns) (λ n b h i. here n b (has_shifted base ns n h) i))
      (order_behind_more Names (InBefore (length (done ++ ns ∷ []))) (λ x. InBefore (length done) x ⊎ Has (shifted_by base ns) x) (group_order base rest) (λ x h. there x h)
      (from_done (done ++ ns ∷ []) rest (e ∙ sym (append_assoc done (ns ∷ []) rest))))
    where
      same : group_at groups (length done) ≡ ns
      same = at_seam done rest ns e

      here : (n b : ℕ) → (i : ℕ) × (base + i ≡ n) × Has ns i → Names n b → InBefore (length done) b
      here n b (i, f, h) name = of_group (length done) (seam_below done rest ns e) i b (subst (λ z. Contains z i) (sym same) (contained_has ns i h)) (subst (λ z. Names z b) (sym f) name)

      last_group : (x l j : ℕ) → (l < length done) ⊎ (l ≡ length done) → base + j ≡ x → Contains (group_at groups l) j → InBefore (length done) x ⊎ Has (shifted_by base ns) x
      last_group x l j (inl less) f c = inl (inr (l, less, j, f, c))
      last_group x l j (inr is) f c = inr (subst (Has (shifted_by base ns)) f (shifted_has base ns j (has_contained ns j (subst (λ z. Contains z j) (ap (group_at groups) is ∙ same) c))))

      before_or_last : (l : ℕ) → l < length (done ++ ns ∷ []) → (l < length done) ⊎ (l ≡ length done)
      before_or_last l lt = by (cases_lt l (length done))
        where
          by : (l < length done) ⊎ (length done ≤ l) → (l < length done) ⊎ (l ≡ length done)
          by (inl less) = inl less
          by (inr ge) = inr (let size = length-append done (ns ∷ []) in omega (arith, size, lt, ge))

      there : (x : ℕ) → InBefore (length (done ++ ns ∷ [])) x → InBefore (length done) x ⊎ Has (shifted_by base ns) x
      there x (inl h) = inl (inl h)
      there x (inr (l, less, j, f, c)) = last_group x l j (before_or_last l less) f c

  -- the groups one after another are an order
  pub groups_order : IsOrder Names Base (group_order base groups)
  groups_order = order_behind_more Names (InBefore 0) Base (group_order base groups) (λ x h. by x h) (from_done [] groups refl)
    where
      by : (x : ℕ) → InBefore 0 x → Base x
      by x (inl h) = h
      by x (inr (l, less, j, f, c)) = absurd (omega (arith, less))

  -- each node is in it
  pub groups_complete : (i : ℕ) → i < length g → Has (group_order base groups) (base + i)
  groups_complete i lt = let r = are.all i lt in in_group_order base groups r.0 i r.1 (has_contained (group_at groups r.0) i r.2)

  in_here : (done rest : List (List ℕ)) (ns : List ℕ) → groups ≡ done ++ ns ∷ rest → (i : ℕ) → Has ns i → i < length g
  in_here done rest ns e i k =
      let c : Contains (group_at groups (length done)) i = subst (λ z. Contains z i) (sym (at_seam done rest ns e)) (contained_has ns i k) in
      (((are.each (length done) (seam_below done rest ns e)).whole i i c).0 c).0

  of_two_groups : (done rest : List (List ℕ)) (ns : List ℕ) → groups ≡ done ++ ns ∷ rest → (x : ℕ) → (Has (group_order base rest) x → (i : ℕ) × (base + i ≡ x) × (i < length g))
      → Has (shifted_by base ns) x ⊎ Has (group_order base rest) x → (i : ℕ) × (base + i ≡ x) × (i < length g)
  of_two_groups done rest ns e x more (inl k) = let r = has_shifted base ns x k in (r.0, r.1, in_here done rest ns e r.0 r.2)
  of_two_groups done rest ns e x more (inr k) = more k

  of_order : (done rest : List (List ℕ)) → groups ≡ done ++ rest → (x : ℕ) → Has (group_order base rest) x → (i : ℕ) × (base + i ≡ x) × (i < length g)
  of_order done [] e x h = absurd h
  of_order done (ns ∷ rest) e x h = of_two_groups done rest ns e x (of_order (done ++ ns ∷ []) rest (e ∙ sym (append_assoc done (ns ∷ []) rest)) x) (has_two (shifted_by base ns) (group_order base rest) x h)

  -- and it has no other
  pub groups_within : (x : ℕ) → Has (group_order base groups) x → (i : ℕ) × (base + i ≡ x) × (i < length g)
  groups_within x h = of_order [] groups refl x h

-- numbers that are each below a limit
pub all_below : (limit : ℕ) (ns : List ℕ) → ((x : ℕ) → Has ns x → x < limit) → AllBelow limit ns
all_below limit [] h = tt
all_below limit (n ∷ ns) h = (h n (inl refl), all_below limit ns (λ x i. h x (inr i)))
