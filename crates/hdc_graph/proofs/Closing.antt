-- The top segment with nothing pending is a component.
use Rattle.std.proofs.Common.{◌≡◌, ℕ, ◌+◌, ◌<◌, ◌≤◌, ◌⊎◌, inl, inr, List, ◌∷◌, length, get_or, take, refl, sym, ap, ◌∙◌, subst, arith}
use Rattle.std.proofs.lemmas.List.{get_or-take, length-take-le}
use Rattle.std.proofs.lemmas.Bool.{cases_lt}
use Rattle.hdc_graph.specs.declared.search.State.{State}
use Rattle.hdc_graph.specs.declared.search.State.TheVariants.{Unseen, OnPath, Finished}
use Rattle.hdc_graph.specs.declared.stack.Segment.{Segment}
use Rattle.hdc_graph.specs.Needs.{Nodes, Needs, Reaches, one, further, AreMutual}
use Rattle.hdc_graph.specs.Search.{Leads, IsIn, Falls, IsFinished, IsFrom, IsPending, IsSearch, IsClosedFrom}
use Rattle.hdc_graph.proofs.Reaching.{mutual_from}
use Rattle.hdc_graph.proofs.Segmented.{within}

module _ (g : Nodes) (at new : ℕ → State) (path pending : List ℕ) (top : Segment) (ss : List Segment) (count : ℕ)
    (h : IsSearch g at path pending (top ∷ ss) count) (none : length pending ≡ top.pending_from)
    (changed : (v : ℕ) → IsClosedFrom at new top.path_from count v) where
  -- what a node of the top segment needs is finished, or in the segment
  need_in_top : (v x : ℕ) → IsFrom at top.path_from v → Needs g v x → IsFinished at x ⊎ IsFrom at top.path_from x
  need_in_top v x (p, e, l) n = elim (h.covered top (inl refl) v p x e l n) [
    | inl f ↦ inl f
    | inr (inl (k, low, high, is)) ↦ absurd (omega (arith, low, high, none))
    | inr (inr f) ↦ inr f
  ]

  -- what a finished node reaches is finished
  reach_finished : (v x : ℕ) → Reaches g v x → IsFinished at v → IsFinished at x
  reach_finished v x (one a b n) f = let r = h.closed v x f.0 f.1 n in (r.0, r.1)
  reach_finished v x (further a b c n s) f = let r = h.closed v b f.0 f.1 n in reach_finished b x s (r.0, r.1)

  -- what a node of the top segment reaches is finished, or in the segment
  reach_top : (v x : ℕ) → Reaches g v x → IsFrom at top.path_from v → IsFinished at x ⊎ IsFrom at top.path_from x
  reach_top v x (one a b n) f = need_in_top v x f n
  reach_top v x (further a b c n s) f = elim (need_in_top v b f n) [ inl done ↦ inl (reach_finished b x s done) | inr f' ↦ reach_top b x s f' ]

  -- the nodes of the top segment lead to one another
  leads_in_top : (u v : ℕ) → IsFrom at top.path_from u → IsFrom at top.path_from v → Leads g u v
  leads_in_top u v (p, e, l) (q, f, m) = elim (cases_lt q p) [
    | inr up ↦ h.forward u v p q e f up
    | inl down ↦ elim (h.back v u q p f e down) [
      | inl (s, inl is, a, b) ↦ absurd (let c : q < top.path_from = subst (λ (z : Segment). q < z.path_from) (sym is) a in omega (arith, c, m))
      | inl (s, inr i, a, b) ↦ absurd (let c = within top.path_from top.pending_from ss s h.falls.2 i in omega (arith, c.0, a, m))
      | inr r ↦ r
    ]
  ]

  -- a finished node is not on the path
  not_both : (v c : ℕ) → at v ≡ Finished c → IsFrom at top.path_from v → ⊥
  not_both v c e (p, f, l) = cc

  -- what was finished stays
  stays_finished : (v c : ℕ) → at v ≡ Finished c → new v ≡ Finished c
  stays_finished v c e = elim (changed v) [ inl (same, lies) ↦ same ∙ e | inr (is, f) ↦ absurd (not_both v c e f) ]

  -- the nodes of the top segment are finished
  becomes_finished : (v : ℕ) → IsFrom at top.path_from v → new v ≡ Finished count
  becomes_finished v (p, e, l) = elim (changed v) [ inl (same, lies) ↦ absurd (let m = lies p e in omega (arith, m, l)) | inr (is, f) ↦ is ]

  -- both are finished now
  finished_or_top : (v : ℕ) → IsFinished at v ⊎ IsFrom at top.path_from v → IsFinished new v
  finished_or_top v (inl (c, e)) = (c, stays_finished v c e)
  finished_or_top v (inr f) = (count, becomes_finished v f)

  -- a finished node was finished, or has the new number
  was : (v c : ℕ) → new v ≡ Finished c → (at v ≡ Finished c) ⊎ ((c ≡ count) × IsFrom at top.path_from v)
  was v c e = elim (changed v) [ inl (same, lies) ↦ inl (sym same ∙ e) | inr (is, f) ↦ inr ((let w : Finished c ≡ Finished count = sym e ∙ is in cc), f) ]

  -- what is on the path was, below the top segment
  stood : (v p : ℕ) → new v ≡ OnPath p → (at v ≡ OnPath p) × (p < top.path_from)
  stood v p e = elim (changed v) [ inl (same, lies) ↦ (sym same ∙ e, lies p (sym same ∙ e)) | inr (is, f) ↦ absurd (let w : Finished count ≡ OnPath p = sym is ∙ e in cc) ]

  -- and stays
  stands : (v p : ℕ) → at v ≡ OnPath p → p < top.path_from → new v ≡ OnPath p
  stands v p e l = elim (changed v) [ inl (same, lies) ↦ same ∙ e | inr (is, (q, f, m)) ↦ absurd (let w : OnPath p ≡ OnPath q = sym e ∙ f in let z : p ≡ q = cc in omega (arith, z, l, m)) ]

  -- how long the path is now
  shorter : length (take top.path_from path) ≡ top.path_from
  shorter = length-take-le top.path_from path (omega (arith, h.falls.0))

  -- what holds of the search, part by part
  c_falls : Falls (length (take top.path_from path)) (length pending) ss
  c_falls = subst (λ (k : ℕ). Falls (length (take top.path_from path)) k ss) (sym none) (subst (λ (a : ℕ). Falls a top.pending_from ss) (sym shorter) h.falls.2)

  c_placed : (p : ℕ) → p < length (take top.path_from path) → new (get_or (take top.path_from path) p 0) ≡ OnPath p
  c_placed p l =
      let m : p < top.path_from = omega (arith, shorter, l) in
      let d = h.falls.0 in
      ap new (get_or-take top.path_from path p 0 m) ∙ stands (get_or path p 0) p (h.placed p (omega (arith, m, d))) m

  c_found : (v p : ℕ) → new v ≡ OnPath p → (p < length (take top.path_from path)) × (get_or (take top.path_from path) p 0 ≡ v)
  c_found v p e = let w = stood v p e in (omega (arith, shorter, w.1), get_or-take top.path_from path p 0 w.1 ∙ (h.found v p w.0).1)

  c_back : (u v p q : ℕ) → new u ≡ OnPath p → new v ≡ OnPath q → p < q → ((s : Segment) × IsIn s ss × (p < s.path_from) × (s.path_from ≤ q)) ⊎ Leads g v u
  c_back u v p q e f l = let x = stood u p e in let y = stood v q f in elim (h.back u v p q x.0 y.0 l) [
    | inl (s, inl is, a, b) ↦ absurd (let c : top.path_from ≤ q = subst (λ (z : Segment). z.path_from ≤ q) (sym is) b in omega (arith, c, y.1))
    | inl (s, inr i, a, b) ↦ inl (s, i, a, b)
    | inr r ↦ inr r
  ]

  c_waits : (u p k : ℕ) → new u ≡ OnPath p → k < length pending → ((s : Segment) × IsIn s ss × (k < s.pending_from) × (s.path_from ≤ p)) ⊎ Reaches g u (get_or pending k 0)
  c_waits u p k e l = let x = stood u p e in elim (h.waits u p k x.0 l) [
    | inl (s, inl is, a, b) ↦ absurd (let c : top.path_from ≤ p = subst (λ (z : Segment). z.path_from ≤ p) (sym is) b in omega (arith, c, x.1))
    | inl (s, inr i, a, b) ↦ inl (s, i, a, b)
    | inr r ↦ inr r
  ]

  c_covered : (s : Segment) → IsIn s ss → (v p x : ℕ) → new v ≡ OnPath p → s.path_from ≤ p → Needs g v x → IsFinished new x ⊎ IsPending pending s.pending_from x ⊎ IsFrom new s.path_from x
  c_covered s i v p x e l n = let y = stood v p e in elim (h.covered s (inr i) v p x y.0 l n) [
    | inl (c, f) ↦ inl (c, stays_finished x c f)
    | inr (inl w) ↦ inr (inl w)
    | inr (inr (q, f, m)) ↦ elim (cases_lt q top.path_from) [
      | inl lt ↦ inr (inr (q, stands x q f lt, m))
      | inr ge ↦ inl (count, becomes_finished x (q, f, ge))
    ]
  ]

  c_closed : (v x c : ℕ) → new v ≡ Finished c → Needs g v x → (d : ℕ) × (new x ≡ Finished d) × (d ≤ c)
  c_closed v x c e n = elim (was v c e) [
    | inl f ↦ (let r = h.closed v x c f n in (r.0, stays_finished x r.0 r.1, r.2))
    | inr (is, f) ↦ elim (need_in_top v x f n) [
      | inl (d, g') ↦ (d, stays_finished x d g', (let m = h.counted x d g' in omega (arith, m, is)))
      | inr t ↦ (count, becomes_finished x t, omega (arith, is))
    ]
  ]

  c_together : (u v c : ℕ) → new u ≡ Finished c → new v ≡ Finished c → AreMutual g u v
  c_together u v c e f = elim (was u c e) [
    | inl x ↦ elim (was v c f) [
      | inl y ↦ h.together u v c x y
      | inr (is, y) ↦ absurd (let m = h.counted u c x in omega (arith, m, is))
    ]
    | inr (is, x) ↦ elim (was v c f) [
      | inl y ↦ absurd (let m = h.counted v c y in omega (arith, m, is))
      | inr (is', y) ↦ mutual_from (leads_in_top u v x y) (leads_in_top v u y x)
    ]
  ]

  -- what is mutual with a node of the top segment is in the segment
  mutual_top : (u v : ℕ) → IsFrom at top.path_from u → AreMutual g u v → new v ≡ Finished count
  mutual_top u v f (inl e) = becomes_finished v (subst (λ (x : ℕ). IsFrom at top.path_from x) e f)
  mutual_top u v f (inr (a, b)) = elim (reach_top u v a f) [
    | inl done ↦ absurd (let r = reach_finished v u b done in not_both u r.0 r.1 f)
    | inr f' ↦ becomes_finished v f'
  ]

  c_whole : (u v c : ℕ) → new u ≡ Finished c → AreMutual g u v → new v ≡ Finished c
  c_whole u v c e m = elim (was u c e) [
    | inl x ↦ stays_finished v c (h.whole u v c x m)
    | inr (is, x) ↦ mutual_top u v x m ∙ ap Finished (sym is)
  ]

  c_counted : (v c : ℕ) → new v ≡ Finished c → c < count + 1
  c_counted v c e = elim (was v c e) [
    | inl x ↦ (let m = h.counted v c x in omega (arith, m))
    | inr (is, x) ↦ omega (arith, is)
  ]

  c_left : (v : ℕ) → v < length g → new v ≡ Unseen → IsPending pending 0 v
  c_left v l e = elim (changed v) [
    | inl (same, lies) ↦ h.left v l (sym same ∙ e)
    | inr (is, f) ↦ absurd (let w : Finished count ≡ Unseen = sym is ∙ e in cc)
  ]

  -- the search goes on
  pub closed_search : IsSearch g new (take top.path_from path) pending ss (count + 1)
  closed_search = record {
    falls = c_falls;
    placed = c_placed;
    found = c_found;
    forward = λ u v p q e f. h.forward u v p q (stood u p e).0 (stood v q f).0;
    back = c_back;
    waits = c_waits;
    covered = c_covered;
    closed = c_closed;
    together = c_together;
    whole = c_whole;
    counted = c_counted;
    left = c_left;
    inside = h.inside;
  }
