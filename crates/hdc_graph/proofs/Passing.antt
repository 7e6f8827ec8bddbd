-- A pending node that is finished, or on the path from the top segment on, is passed over.
use Rattle.std.proofs.Common.{◌≡◌, ℕ, ◌<◌, ◌≤◌, ◌≢◌, ◌⊎◌, inl, inr, List, [], ◌∷◌, ◌++◌, length, get_or, refl, sym, ap, ◌∙◌, subst, arith, length-append}
use Rattle.std.proofs.lemmas.List.{get_or_append_left, get_or_push}
use Rattle.hdc_graph.specs.declared.search.State.{State}
use Rattle.hdc_graph.specs.declared.search.State.TheVariants.{Unseen, OnPath}
use Rattle.hdc_graph.specs.declared.stack.Segment.{Segment}
use Rattle.hdc_graph.specs.Needs.{Nodes, Needs, Reaches}
use Rattle.hdc_graph.specs.Search.{IsIn, floor, IsFinished, IsFrom, IsPending, IsSearch}
use Rattle.hdc_graph.proofs.Segmented.{floored}
use Rattle.hdc_graph.proofs.Entering.{below_last}

module _ (g : Nodes) (at : ℕ → State) (path ps : List ℕ) (t : ℕ) (ss : List Segment) (count : ℕ)
    (h : IsSearch g at path (ps ++ t ∷ []) ss count) (low : floor ss ≤ length ps) (seen : at t ≢ Unseen)
    (found : (s : Segment) → IsIn s ss → IsFinished at t ⊎ IsFrom at s.path_from t) where
  -- the last pending node
  last_lies : length ps < length (ps ++ t ∷ [])
  last_lies = omega (arith, length-append {A = ℕ})

  -- what is pending before it
  stays : (k : ℕ) → k < length ps → get_or ps k 0 ≡ get_or (ps ++ t ∷ []) k 0
  stays k l = sym (get_or_append_left ps (t ∷ []) 0 k l)

  -- what was pending is pending, or is the node
  pending_or : (from x : ℕ) → IsPending (ps ++ t ∷ []) from x → IsPending ps from x ⊎ (t ≡ x)
  pending_or from x (k, l, m, e) = elim (below_last ps t k m) [
    | inl lt ↦ inl (k, l, lt, stays k lt ∙ e)
    | inr is ↦ inr (sym (ap (λ (j : ℕ). get_or (ps ++ t ∷ []) j 0) is ∙ get_or_push ps t 0 (length ps) refl) ∙ e)
  ]

  -- what holds of the search, part by part
  p_waits : (u p k : ℕ) → at u ≡ OnPath p → k < length ps → ((s : Segment) × IsIn s ss × (k < s.pending_from) × (s.path_from ≤ p)) ⊎ Reaches g u (get_or ps k 0)
  p_waits u p k e l = elim (h.waits u p k e (omega (arith, last_lies, l))) [
    | inl w ↦ inl w
    | inr r ↦ inr (subst (λ (x : ℕ). Reaches g u x) (sym (stays k l)) r)
  ]

  again : (s : Segment) → IsIn s ss → (x : ℕ) → t ≡ x → IsFinished at x ⊎ IsFrom at s.path_from x
  again s i x e = subst (λ (y : ℕ). IsFinished at y ⊎ IsFrom at s.path_from y) e (found s i)

  p_covered : (s : Segment) → IsIn s ss → (v p x : ℕ) → at v ≡ OnPath p → s.path_from ≤ p → Needs g v x → IsFinished at x ⊎ IsPending ps s.pending_from x ⊎ IsFrom at s.path_from x
  p_covered s i v p x e l n = elim (h.covered s i v p x e l n) [
    | inl f ↦ inl f
    | inr (inl w) ↦ elim (pending_or s.pending_from x w) [
      | inl w' ↦ inr (inl w')
      | inr is ↦ elim (again s i x is) [ inl f ↦ inl f | inr f ↦ inr (inr f) ]
    ]
    | inr (inr f) ↦ inr (inr f)
  ]

  p_left : (v : ℕ) → v < length g → at v ≡ Unseen → IsPending ps 0 v
  p_left v l e = elim (pending_or 0 v (h.left v l e)) [ inl w ↦ w | inr is ↦ absurd (seen (ap at is ∙ e)) ]

  -- the search goes on
  pub passed : IsSearch g at path ps ss count
  passed = record {
    falls = floored (length path) _ (length ps) ss h.falls low;
    placed = h.placed;
    found = h.found;
    forward = h.forward;
    back = h.back;
    waits = p_waits;
    covered = p_covered;
    closed = h.closed;
    together = h.together;
    whole = h.whole;
    counted = h.counted;
    left = p_left;
    inside = λ k l. subst (λ (x : ℕ). x < length g) (sym (stays k l)) (h.inside k (omega (arith, last_lies, l)));
  }
