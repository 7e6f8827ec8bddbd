-- A pending node that is not seen yet comes onto the path, and what it needs is pending.
use Rattle.std.proofs.Common.{◌≡◌, ℕ, ◌+◌, ◌-◌, ◌<◌, ◌≤◌, ◌≢◌, ◌⊎◌, inl, inr, List, [], ◌∷◌, ◌++◌, length, get_or, refl, sym, ap, ◌∙◌, subst, arith, length-append}
use Rattle.std.proofs.lemmas.List.{get_or_append_left, get_or_push, get_or-append_right, get_or-append-add, get_or_default}
use Rattle.std.proofs.lemmas.Bool.{cases_eq, cases_lt}
use Rattle.hdc_graph.specs.declared.search.State.{State}
use Rattle.hdc_graph.specs.declared.search.State.TheVariants.{Unseen, OnPath, Finished}
use Rattle.hdc_graph.specs.declared.stack.Segment.{Segment}
use Rattle.hdc_graph.specs.Needs.{Nodes, needs_of, Needs, IsClosed, Reaches, one}
use Rattle.hdc_graph.specs.Search.{Leads, IsIn, Falls, floor, IsFinished, IsFrom, IsPending, IsSearch}
use Rattle.hdc_graph.proofs.Reaching.{through}
use Rattle.hdc_graph.proofs.Segmented.{within, under_floor, floored}

-- what is pending below the last one
pub below_last : (ps : List ℕ) (t k : ℕ) → k < length (ps ++ t ∷ []) → (k < length ps) ⊎ (k ≡ length ps)
below_last ps t k l =
    let size : length (ps ++ t ∷ []) ≡ length ps + 1 = length-append ps (t ∷ []) in
    elim (cases_lt k (length ps)) [ inl low ↦ inl low | inr high ↦ inr (omega arith) ]

module _ (g : Nodes) (at new : ℕ → State) (path ps : List ℕ) (t : ℕ) (ss : List Segment) (count : ℕ)
    (h : IsSearch g at path (ps ++ t ∷ []) ss count) (unseen : at t ≡ Unseen) (low : floor ss ≤ length ps)
    (here : new t ≡ OnPath (length path)) (other : (v : ℕ) → v ≢ t → new v ≡ at v) (closed : IsClosed g) where
  abbrev pending : List ℕ
  pending = ps ++ needs_of g t

  abbrev top : Segment
  top = record { path_from = length path; pending_from = length ps }

  -- the last pending node
  last_lies : length ps < length (ps ++ t ∷ [])
  last_lies = omega (arith, length-append {A = ℕ})

  -- a node on the path is the new one, or was there
  stood : (v p : ℕ) → new v ≡ OnPath p → ((v ≡ t) × (p ≡ length path)) ⊎ ((v ≢ t) × (at v ≡ OnPath p))
  stood v p e = elim (cases_eq v t) [ inl same ↦ inl (same, (let f : new t ≡ OnPath p = ap new (sym same) ∙ e in cc)) | inr apart ↦ inr (apart, sym (other v apart) ∙ e) ]

  -- what was on the path stays
  stands : (v p : ℕ) → at v ≡ OnPath p → new v ≡ OnPath p
  stands v p e = elim (cases_eq v t) [ inl same ↦ absurd (let f : at t ≡ OnPath p = ap at (sym same) ∙ e in cc) | inr apart ↦ other v apart ∙ e ]

  -- what is finished was
  was_finished : (v c : ℕ) → new v ≡ Finished c → at v ≡ Finished c
  was_finished v c e = elim (cases_eq v t) [ inl same ↦ absurd (let f : new t ≡ Finished c = ap new (sym same) ∙ e in cc) | inr apart ↦ sym (other v apart) ∙ e ]

  -- what was finished stays
  stays_finished : (v c : ℕ) → at v ≡ Finished c → new v ≡ Finished c
  stays_finished v c e = elim (cases_eq v t) [ inl same ↦ absurd (let f : at t ≡ Finished c = ap at (sym same) ∙ e in cc) | inr apart ↦ other v apart ∙ e ]

  -- each node of the path reaches the new one
  reach_new : (u p : ℕ) → at u ≡ OnPath p → Reaches g u t
  reach_new u p e = elim (h.waits u p (length ps) e last_lies) [
    | inl (s, i, l, f) ↦ absurd (let low' : s.pending_from ≤ floor ss = under_floor (length path) _ ss s h.falls i in omega (arith, low', low, l))
    | inr r ↦ subst (λ (x : ℕ). Reaches g u x) (get_or_push ps t 0 (length ps) refl) r
  ]

  -- how much is pending now
  grown : length pending ≡ length ps + length (needs_of g t)
  grown = length-append ps (needs_of g t)

  -- what the new node needs is pending
  needed_pending : (x : ℕ) → Needs g t x → IsPending pending (length ps) x
  needed_pending x n =
      (length ps + n.0, omega arith, omega (arith, grown, n.1), get_or-append-add ps (needs_of g t) n.0 0 ∙ get_or_default (needs_of g t) n.0 0 x n.1 ∙ n.2)

  -- what stays pending, and what the new node needs
  pending_low : (k : ℕ) → k < length ps → get_or pending k 0 ≡ get_or (ps ++ t ∷ []) k 0
  pending_low k l = get_or_append_left ps (needs_of g t) 0 k l ∙ sym (get_or_append_left ps (t ∷ []) 0 k l)

  pending_high : (k : ℕ) → length ps ≤ k → k < length pending → Needs g t (get_or pending k 0)
  pending_high k l m =
      let here' : get_or pending k 0 ≡ get_or (needs_of g t) (k - length ps) 0 = get_or-append_right ps (needs_of g t) (length ps) k 0 refl l in
      let lies : k - length ps < length (needs_of g t) = omega (arith, grown) in
      (k - length ps, lies, get_or_default (needs_of g t) (k - length ps) (get_or pending k 0) 0 lies ∙ sym here')

  -- what was pending and is not the new node still is
  still : (from : ℕ) (x : ℕ) → x ≢ t → IsPending (ps ++ t ∷ []) from x → IsPending pending from x
  still from x apart (k, l, m, e) = elim (below_last ps t k m) [
    | inl low' ↦ (k, l, omega (arith, grown), pending_low k low' ∙ e)
    | inr is ↦ absurd (apart (sym e ∙ ap (λ (j : ℕ). get_or (ps ++ t ∷ []) j 0) is ∙ get_or_push ps t 0 (length ps) refl))
  ]

  -- how long the path is now
  longer : length (path ++ t ∷ []) ≡ length path + 1
  longer = length-append path (t ∷ [])

  -- what holds of the search, part by part
  e_falls : Falls (length (path ++ t ∷ [])) (length pending) (top ∷ ss)
  e_falls = (omega (arith, longer), omega (arith, grown), floored (length path) _ (length ps) ss h.falls low)

  e_placed : (p : ℕ) → p < length (path ++ t ∷ []) → new (get_or (path ++ t ∷ []) p 0) ≡ OnPath p
  e_placed p l = elim (below_last path t p l) [
    | inl lt ↦ ap new (get_or_append_left path (t ∷ []) 0 p lt) ∙ stands (get_or path p 0) p (h.placed p lt)
    | inr is ↦ ap (λ (j : ℕ). new (get_or (path ++ t ∷ []) j 0)) is ∙ ap new (get_or_push path t 0 (length path) refl) ∙ here ∙ ap OnPath (sym is)
  ]

  e_found : (v p : ℕ) → new v ≡ OnPath p → (p < length (path ++ t ∷ [])) × (get_or (path ++ t ∷ []) p 0 ≡ v)
  e_found v p e = elim (stood v p e) [
    | inl (same, is) ↦ (omega (arith, longer, is), ap (λ (j : ℕ). get_or (path ++ t ∷ []) j 0) is ∙ get_or_push path t 0 (length path) refl ∙ sym same)
    | inr (apart, was) ↦ (let f : (p < length path) × (get_or path p 0 ≡ v) = h.found v p was in (omega (arith, longer, f.0), get_or_append_left path (t ∷ []) 0 p f.0 ∙ f.1))
  ]

  e_forward : (u v p q : ℕ) → new u ≡ OnPath p → new v ≡ OnPath q → p ≤ q → Leads g u v
  e_forward u v p q e f l = elim (stood u p e) [
    | inl (same, is) ↦ elim (stood v q f) [
      | inl (same', is') ↦ inl (same ∙ sym same')
      | inr (no', was') ↦ absurd (let m = (h.found v q was').0 in omega (arith, m, is, l))
    ]
    | inr (apart, was) ↦ elim (stood v q f) [
      | inl (same', is') ↦ inr (subst (λ (x : ℕ). Reaches g u x) (sym same') (reach_new u p was))
      | inr (no', was') ↦ h.forward u v p q was was' l
    ]
  ]

  e_back : (u v p q : ℕ) → new u ≡ OnPath p → new v ≡ OnPath q → p < q → ((s : Segment) × IsIn s (top ∷ ss) × (p < s.path_from) × (s.path_from ≤ q)) ⊎ Leads g v u
  e_back u v p q e f l = elim (stood v q f) [
    | inl (same', is') ↦ inl (top, inl refl, omega (arith, is', l), omega (arith, is'))
    | inr (no', was') ↦ elim (stood u p e) [
      | inl (same, is) ↦ absurd (let m = (h.found v q was').0 in omega (arith, m, is, l))
      | inr (apart, was) ↦ elim (h.back u v p q was was' l) [
        | inl (s, i, a, b) ↦ inl (s, inr i, a, b)
        | inr r ↦ inr r
      ]
    ]
  ]

  e_waits : (u p k : ℕ) → new u ≡ OnPath p → k < length pending → ((s : Segment) × IsIn s (top ∷ ss) × (k < s.pending_from) × (s.path_from ≤ p)) ⊎ Reaches g u (get_or pending k 0)
  e_waits u p k e l = elim (cases_lt k (length ps)) [
    | inl lt ↦ elim (stood u p e) [
      | inl (same, is) ↦ inl (top, inl refl, lt, omega (arith, is))
      | inr (apart, was) ↦ elim (h.waits u p k was (omega (arith, last_lies, lt))) [
        | inl (s, i, a, b) ↦ inl (s, inr i, a, b)
        | inr r ↦ inr (subst (λ (x : ℕ). Reaches g u x) (sym (pending_low k lt)) r)
      ]
    ]
    | inr ge ↦ (let n : Needs g t (get_or pending k 0) = pending_high k ge l in
        elim (stood u p e) [
          | inl (same, is) ↦ inr (subst (λ (x : ℕ). Reaches g x (get_or pending k 0)) (sym same) (one t (get_or pending k 0) n))
          | inr (apart, was) ↦ inr (through (reach_new u p was) (one t (get_or pending k 0) n))
        ])
  ]

  -- what an older segment needs is where it was, or is the new node
  moved : (s : Segment) → s.path_from ≤ length path → (x : ℕ) → IsFinished at x ⊎ IsPending (ps ++ t ∷ []) s.pending_from x ⊎ IsFrom at s.path_from x → IsFinished new x ⊎ IsPending pending s.pending_from x ⊎ IsFrom new s.path_from x
  moved s l x (inl (c, e)) = inl (c, stays_finished x c e)
  moved s l x (inr (inl w)) = elim (cases_eq x t) [
    | inl same ↦ inr (inr (length path, ap new same ∙ here, l))
    | inr apart ↦ inr (inl (still s.pending_from x apart w))
  ]
  moved s l x (inr (inr (q, e, f))) = inr (inr (q, stands x q e, f))

  -- what the new node needs is pending
  needs_of_new : (v p x : ℕ) → new v ≡ OnPath p → length path ≤ p → Needs g v x → IsPending pending (length ps) x
  needs_of_new v p x e l n = elim (stood v p e) [
    | inl (same, is) ↦ needed_pending x (subst (λ (a : ℕ). Needs g a x) same n)
    | inr (apart, was) ↦ absurd (let m = (h.found v p was).0 in omega (arith, m, l))
  ]

  -- what is pending from a place on is pending from a lower one on
  lower : (from x : ℕ) → from ≤ length ps → IsPending pending (length ps) x → IsPending pending from x
  lower from x l (k, m, r, e) = (k, omega (arith, l, m), r, e)

  e_covered : (s : Segment) → IsIn s (top ∷ ss) → (v p x : ℕ) → new v ≡ OnPath p → s.path_from ≤ p → Needs g v x → IsFinished new x ⊎ IsPending pending s.pending_from x ⊎ IsFrom new s.path_from x
  e_covered s (inl is) v p x e l n =
      let at_top : length path ≤ p = subst (λ (z : Segment). z.path_from ≤ p) (sym is) l in
      inr (inl (subst (λ (z : Segment). IsPending pending z.pending_from x) is (needs_of_new v p x e at_top n)))
  e_covered s (inr i) v p x e l n =
      let lies = within (length path) _ ss s h.falls i in
      let under = under_floor (length path) _ ss s h.falls i in
      elim (stood v p e) [
        | inl (same, is) ↦ inr (inl (lower s.pending_from x (omega (arith, under, low)) (needed_pending x (subst (λ (a : ℕ). Needs g a x) same n))))
        | inr (apart, was) ↦ moved s (omega (arith, lies.0)) x (h.covered s i v p x was l n)
      ]

  e_closed : (v x c : ℕ) → new v ≡ Finished c → Needs g v x → (d : ℕ) × (new x ≡ Finished d) × (d ≤ c)
  e_closed v x c e n = let r = h.closed v x c (was_finished v c e) n in (r.0, stays_finished x r.0 r.1, r.2)

  e_left : (v : ℕ) → v < length g → new v ≡ Unseen → IsPending pending 0 v
  e_left v l e = elim (cases_eq v t) [
    | inl same ↦ absurd (let f : new t ≡ Unseen = ap new (sym same) ∙ e in cc)
    | inr apart ↦ still 0 v apart (h.left v l (sym (other v apart) ∙ e))
  ]

  e_inside : (k : ℕ) → k < length pending → get_or pending k 0 < length g
  e_inside k l = elim (cases_lt k (length ps)) [
    | inl lt ↦ subst (λ (x : ℕ). x < length g) (sym (pending_low k lt)) (h.inside k (omega (arith, last_lies, lt)))
    | inr ge ↦ closed t (get_or pending k 0) (pending_high k ge l)
  ]

  -- the search goes on
  pub entered : IsSearch g new (path ++ t ∷ []) pending (top ∷ ss) count
  entered = record {
    falls = e_falls;
    placed = e_placed;
    found = e_found;
    forward = e_forward;
    back = e_back;
    waits = e_waits;
    covered = e_covered;
    closed = e_closed;
    together = λ u v c e f. h.together u v c (was_finished u c e) (was_finished v c f);
    whole = λ u v c e m. stays_finished v c (h.whole u v c (was_finished u c e) m);
    counted = λ v c e. h.counted v c (was_finished v c e);
    left = e_left;
    inside = e_inside;
  }
