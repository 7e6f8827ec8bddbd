-- A pending node on the path below the top segment joins that segment with the one below it.
use Rattle.std.proofs.Common.{◌≡◌, ℕ, ◌<◌, ◌≤◌, ◌⊎◌, inl, inr, List, [], ◌∷◌, ◌++◌, length, get_or, refl, sym, subst, arith, length-append}
use Rattle.std.proofs.lemmas.List.{get_or_push}
use Rattle.std.proofs.lemmas.Bool.{cases_lt}
use Rattle.hdc_graph.specs.declared.search.State.{State}
use Rattle.hdc_graph.specs.declared.search.State.TheVariants.{OnPath}
use Rattle.hdc_graph.specs.declared.stack.Segment.{Segment}
use Rattle.hdc_graph.specs.Needs.{Nodes, Reaches}
use Rattle.hdc_graph.specs.Search.{Leads, IsIn, IsSearch}
use Rattle.hdc_graph.proofs.Reaching.{through, then_leads}
use Rattle.hdc_graph.proofs.Segmented.{under_floor, joined}

module _ (g : Nodes) (at : ℕ → State) (path ps : List ℕ) (t place : ℕ) (top : Segment) (ss : List Segment) (count : ℕ)
    (h : IsSearch g at path (ps ++ t ∷ []) (top ∷ ss) count) (low : top.pending_from ≤ length ps)
    (here : at t ≡ OnPath place) (below : place < top.path_from) where
  -- the last pending node
  last_lies : length ps < length (ps ++ t ∷ [])
  last_lies = omega (arith, length-append {A = ℕ})

  -- every node of the path reaches the pending one
  reach : (u p : ℕ) → at u ≡ OnPath p → Reaches g u t
  reach u p e = elim (h.waits u p (length ps) e last_lies) [
    | inl (s, i, l, f) ↦ absurd (let under : s.pending_from ≤ top.pending_from = under_floor (length path) _ (top ∷ ss) s h.falls i in omega (arith, under, low, l))
    | inr r ↦ subst (λ (x : ℕ). Reaches g u x) (get_or_push ps t 0 (length ps) refl) r
  ]

  -- the pending node leads to each node with no segment's start between
  leads_on : (u p q : ℕ) → at u ≡ OnPath p → top.path_from ≤ q → ((s : Segment) × IsIn s ss × (p < s.path_from) × (s.path_from ≤ q)) ⊎ Leads g t u
  leads_on u p q e l = elim (cases_lt p place) [
    | inr ge ↦ inr (h.forward t u place p here e ge)
    | inl lt ↦ elim (h.back u t p place e here lt) [
      | inl (s, inl is, a, b) ↦ absurd (let c : top.path_from ≤ place = subst (λ (z : Segment). z.path_from ≤ place) (sym is) b in omega (arith, c, below))
      | inl (s, inr i, a, b) ↦ inl (s, i, a, omega (arith, b, below, l))
      | inr r ↦ inr r
    ]
  ]

  -- what holds of the search, part by part
  j_back : (u v p q : ℕ) → at u ≡ OnPath p → at v ≡ OnPath q → p < q → ((s : Segment) × IsIn s ss × (p < s.path_from) × (s.path_from ≤ q)) ⊎ Leads g v u
  j_back u v p q e f l = elim (h.back u v p q e f l) [
    | inl (s, inl is, a, b) ↦ elim (leads_on u p q e (subst (λ (z : Segment). z.path_from ≤ q) (sym is) b)) [
      | inl w ↦ inl w
      | inr r ↦ inr (inr (then_leads (reach v q f) r))
    ]
    | inl (s, inr i, a, b) ↦ inl (s, i, a, b)
    | inr r ↦ inr r
  ]

  j_waits : (u p k : ℕ) → at u ≡ OnPath p → k < length (ps ++ t ∷ []) → ((s : Segment) × IsIn s ss × (k < s.pending_from) × (s.path_from ≤ p)) ⊎ Reaches g u (get_or (ps ++ t ∷ []) k 0)
  j_waits u p k e l = elim (h.waits u p k e l) [
    | inl (s, inl is, a, b) ↦ (let c : top.path_from ≤ p = subst (λ (z : Segment). z.path_from ≤ p) (sym is) b in
        elim (h.waits t place k here l) [
          | inl (s', inl is', a', b') ↦ absurd (let d : top.path_from ≤ place = subst (λ (z : Segment). z.path_from ≤ place) (sym is') b' in omega (arith, d, below))
          | inl (s', inr i', a', b') ↦ inl (s', i', a', omega (arith, b', below, c))
          | inr r ↦ inr (through (reach u p e) r)
        ])
    | inl (s, inr i, a, b) ↦ inl (s, i, a, b)
    | inr r ↦ inr r
  ]

  -- the search goes on
  pub joined_search : IsSearch g at path (ps ++ t ∷ []) ss count
  joined_search = record {
    falls = joined (length path) _ top ss h.falls (omega (arith, below));
    placed = h.placed;
    found = h.found;
    forward = h.forward;
    back = j_back;
    waits = j_waits;
    covered = λ s i. h.covered s (inr i);
    closed = h.closed;
    together = h.together;
    whole = h.whole;
    counted = h.counted;
    left = h.left;
    inside = h.inside;
  }
