-- Components are taken one by one, the least of those that can be taken first.
use Rattle.std.proofs.Common.{◌≡◌, ℕ, ◌+◌, ◌<◌, ◌≤◌, ◌≢◌, ◌⊎◌, inl, inr, List, [], ◌∷◌, ◌++◌, refl, sym, ap, ◌∙◌, subst, arith, Option, Some, None}
use Rattle.std.proofs.lemmas.Bool.{cases_eq, cases_lt}
use Rattle.hdc_graph.specs.Lists.{Has}
use Rattle.hdc_graph.specs.Schedule.{IsPlaced, IsMet, ArePlaced, AreKept}

-- one more at the end
pub has_last : (xs : List ℕ) (y : ℕ) → Has (xs ++ y ∷ []) y
has_last [] y = inl refl
has_last (x ∷ xs) y = inr (has_last xs y)

-- what was in a list is in a longer one
pub has_left : (xs ys : List ℕ) (x : ℕ) → Has xs x → Has (xs ++ ys) x
has_left [] ys x h = absurd h
has_left (y ∷ xs) ys x (inl e) = inl e
has_left (y ∷ xs) ys x (inr h) = inr (has_left xs ys x h)

pub has_right : (xs ys : List ℕ) (x : ℕ) → Has ys x → Has (xs ++ ys) x
has_right [] ys x h = h
has_right (y ∷ xs) ys x h = inr (has_right xs ys x h)

-- and nothing else
pub has_cases : (xs ys : List ℕ) (x : ℕ) → Has (xs ++ ys) x → Has xs x ⊎ Has ys x
has_cases [] ys x h = inr h
has_cases (y ∷ xs) ys x (inl e) = inl (inl e)
has_cases (y ∷ xs) ys x (inr h) = elim (has_cases xs ys x h) [ inl a ↦ inl (inr a) | inr b ↦ inr b ]

pub has_push : (xs : List ℕ) (y x : ℕ) → Has (xs ++ y ∷ []) x → Has xs x ⊎ (y ≡ x)
has_push xs y x h = elim (has_cases xs (y ∷ []) x h) [ inl a ↦ inl a | inr (inl e) ↦ inr e | inr (inr n) ↦ absurd n ]

module _ (Used : ℕ → Type 0) (N : ℕ → ℕ → Type 0) (place : ℕ → Option ℕ) (unmet waiting : ℕ → List ℕ) (rs ready : List ℕ) (c : ℕ)
    (h : AreKept Used N place unmet waiting (rs ++ c ∷ []) ready) where
  -- a component that is taken is passed over
  pub keeps_taken : (i : ℕ) → place c ≡ Some i → AreKept Used N place unmet waiting rs ready
  keeps_taken i taken = record {
    located = λ d u n. elim (h.located d u n) [
      | inl r ↦ elim (has_push rs c d r) [ inl r' ↦ inl r' | inr same ↦ absurd (let e : place c ≡ None = ap place same ∙ n in cc) ]
      | inr w ↦ inr w
    ];
    met = h.met;
    owed = h.owed;
    waits = h.waits;
    can = h.can;
    inside = λ d r. h.inside d (has_left rs (c ∷ []) d r);
  }

  -- one that owes nothing can be taken
  module _ (more : List ℕ) (none : unmet c ≡ []) (open' : place c ≡ None) (sooner : (d : ℕ) → Has ready d → Has more d) (here : Has more c) (only : (d : ℕ) → Has more d → Has ready d ⊎ (c ≡ d)) where
    -- all that it needs is taken
    is_met : IsMet Used N place c
    is_met k n = elim (h.met c k n) [ inl p ↦ inl p | inr (inl e) ↦ inr e | inr (inr u) ↦ absurd (subst (λ (xs : List ℕ). Has xs k) none u) ]

    -- it is a component
    used : Used c
    used = h.inside c (has_last rs c)

    -- the schedule goes on
    pub keeps_ready : AreKept Used N place unmet waiting rs more
    keeps_ready = record {
      located = λ d u n. elim (h.located d u n) [
        | inl r ↦ elim (has_push rs c d r) [ inl r' ↦ inl r' | inr same ↦ inr (inl (subst (λ (x : ℕ). Has more x) same here)) ]
        | inr (inl r) ↦ inr (inl (sooner d r))
        | inr (inr w) ↦ inr (inr w)
      ];
      met = h.met;
      owed = h.owed;
      waits = h.waits;
      can = λ d r. elim (only d r) [ inl old ↦ h.can d old | inr same ↦ subst (λ (x : ℕ). Used x × (place x ≡ None) × IsMet Used N place x) same (used, open', is_met) ];
      inside = λ d r. h.inside d (has_left rs (c ∷ []) d r);
    }

  -- what is taken, or the component itself, is owed no longer
  module _ (k : ℕ) (us : List ℕ) (new : ℕ → List ℕ) (last : unmet c ≡ k ∷ us) (fine : IsPlaced place k ⊎ (k ≡ c)) (here : new c ≡ us) (other : (d : ℕ) → d ≢ c → new d ≡ unmet d) where
    -- what it owes now
    paid : (d j : ℕ) → d ≡ c → Has (k ∷ us) j → IsPlaced place j ⊎ (j ≡ d) ⊎ Has (new d) j
    paid d j same (inr u) = inr (inr (subst (λ (xs : List ℕ). Has xs j) (sym (ap new same ∙ here)) u))
    paid d j same (inl is) = elim fine [ inl p ↦ inl (subst (λ (x : ℕ). IsPlaced place x) is p) | inr own ↦ inr (inl (sym is ∙ own ∙ sym same)) ]

    -- what holds of the others, part by part
    kept_met : (d j : ℕ) → N d j → IsPlaced place j ⊎ (j ≡ d) ⊎ Has (new d) j
    kept_met d j n = elim (h.met d j n) [
      | inl p ↦ inl p
      | inr (inl e) ↦ inr (inl e)
      | inr (inr u) ↦ elim (cases_eq d c) [
        | inl same ↦ paid d j same (subst (λ (xs : List ℕ). Has xs j) (ap unmet same ∙ last) u)
        | inr apart ↦ inr (inr (subst (λ (xs : List ℕ). Has xs j) (sym (other d apart)) u))
      ]
    ]

    kept_owed : (d j : ℕ) → Has (new d) j → N d j
    kept_owed d j u = elim (cases_eq d c) [
      | inl same ↦ h.owed d j (subst (λ (xs : List ℕ). Has xs j) (sym (ap unmet same ∙ last)) (inr (subst (λ (xs : List ℕ). Has xs j) (ap new same ∙ here) u)))
      | inr apart ↦ h.owed d j (subst (λ (xs : List ℕ). Has xs j) (other d apart) u)
    ]

    -- the schedule goes on
    pub keeps_paid : AreKept Used N place new waiting (rs ++ c ∷ []) ready
    keeps_paid = record { located = h.located; met = kept_met; owed = kept_owed; waits = h.waits; can = h.can; inside = h.inside }

  -- one that owes what is not taken waits for it
  module _ (k : ℕ) (us : List ℕ) (new : ℕ → List ℕ) (last : unmet c ≡ k ∷ us) (open' : place k ≡ None) (differ : k ≢ c) (here : new k ≡ waiting k ++ c ∷ []) (other : (d : ℕ) → d ≢ k → new d ≡ waiting d) where
    -- what waited waits
    grown : (j d : ℕ) → Has (waiting j) d → Has (new j) d
    grown j d w = elim (cases_eq j k) [
      | inl same ↦ subst (λ (xs : List ℕ). Has xs d) (sym (ap new same ∙ here)) (has_left (waiting k) (c ∷ []) d (subst (λ (x : ℕ). Has (waiting x) d) same w))
      | inr apart ↦ subst (λ (xs : List ℕ). Has xs d) (sym (other j apart)) w
    ]

    -- and nothing else but the one
    only_new : (j d : ℕ) → Has (new j) d → N d j × (j ≢ d)
    only_new j d w = elim (cases_eq j k) [
      | inl same ↦ elim (has_push (waiting k) c d (subst (λ (xs : List ℕ). Has xs d) (ap new same ∙ here) w)) [
        | inl old ↦ h.waits j d (subst (λ (x : ℕ). Has (waiting x) d) (sym same) old)
        | inr is ↦ (let n : N c k = h.owed c k (subst (λ (xs : List ℕ). Has xs k) (sym last) (inl refl)) in
            (subst (λ (x : ℕ). N x j) is (subst (λ (x : ℕ). N c x) (sym same) n), λ e. differ (sym same ∙ e ∙ sym is)))
      ]
      | inr apart ↦ h.waits j d (subst (λ (xs : List ℕ). Has xs d) (other j apart) w)
    ]

    -- the schedule goes on
    pub keeps_waiting : AreKept Used N place unmet new rs ready
    keeps_waiting = record {
      located = λ d u n. elim (h.located d u n) [
        | inl r ↦ elim (has_push rs c d r) [
          | inl r' ↦ inl r'
          | inr same ↦ inr (inr (k, open', subst (λ (x : ℕ). Has (new k) x) same (subst (λ (xs : List ℕ). Has xs c) (sym here) (has_last (waiting k) c))))
        ]
        | inr (inl r) ↦ inr (inl r)
        | inr (inr (j, n', w)) ↦ inr (inr (j, n', grown j d w))
      ];
      met = h.met;
      owed = h.owed;
      waits = only_new;
      can = h.can;
      inside = λ d r. h.inside d (has_left rs (c ∷ []) d r);
    }

-- the least that can be taken is taken
module _ (Used : ℕ → Type 0) (N : ℕ → ℕ → Type 0) (place new : ℕ → Option ℕ) (unmet waiting : ℕ → List ℕ) (c : ℕ) (ready : List ℕ) (next : ℕ)
    (h : AreKept Used N place unmet waiting [] (c ∷ ready)) (p : ArePlaced Used N place next)
    (above : (d : ℕ) → Has ready d → c < d) (here : new c ≡ Some next) (other : (d : ℕ) → d ≢ c → new d ≡ place d)
    (uses : (d k : ℕ) → N d k → Used d) where
  -- the one that is taken
  chosen : Used c × (place c ≡ None) × IsMet Used N place c
  chosen = h.can c (inl refl)

  -- what has a place keeps it
  stays : (d i : ℕ) → place d ≡ Some i → new d ≡ Some i
  stays d i e = elim (cases_eq d c) [ inl same ↦ absurd (let f : place c ≡ Some i = ap place (sym same) ∙ e in let n = chosen.1 in cc) | inr apart ↦ other d apart ∙ e ]

  -- what has a place had it, or is the one taken
  was : (d i : ℕ) → new d ≡ Some i → (place d ≡ Some i) ⊎ ((d ≡ c) × (i ≡ next))
  was d i e = elim (cases_eq d c) [ inl same ↦ inr (same, (let f : new c ≡ Some i = ap new (sym same) ∙ e in cc)) | inr apart ↦ inl (sym (other d apart) ∙ e) ]

  stays_placed : (d : ℕ) → IsPlaced place d → IsPlaced new d
  stays_placed d (i, e) = (i, stays d i e)

  -- what has none had none
  was_open : (d : ℕ) → new d ≡ None → (place d ≡ None) × (d ≢ c)
  was_open d e = elim (cases_eq d c) [ inl same ↦ absurd (let f : new c ≡ None = ap new (sym same) ∙ e in cc) | inr apart ↦ (sym (other d apart) ∙ e, apart) ]

  -- what holds of the places, part by part
  t_needs : (d k i : ℕ) → new d ≡ Some i → N d k → (j : ℕ) × (new k ≡ Some j) × (j ≤ i)
  t_needs d k i e n = elim (was d i e) [
    | inl old ↦ (let r = p.needs d k i old n in (r.0, stays k r.0 r.1, r.2))
    | inr (same, is) ↦ elim (chosen.2 k (subst (λ (x : ℕ). N x k) same n)) [
      | inl (j, f) ↦ (j, stays k j f, (let l = (p.below k j f).0 in omega (arith, l, is)))
      | inr own ↦ (next, ap new own ∙ here, omega (arith, is))
    ]
  ]

  -- nothing that can be taken is less
  first : (d : ℕ) → Used d → place d ≡ None → c ≢ d → IsMet Used N place d → c < d
  first d u n differ met = elim (h.located d u n) [
    | inl r ↦ absurd r
    | inr (inl (inl e)) ↦ absurd (differ e)
    | inr (inl (inr r)) ↦ above d r
    | inr (inr (k, open', w)) ↦ absurd (let m = h.waits k d w in elim (met k m.0) [ inl (i, e) ↦ (let f : None ≡ Some i = sym open' ∙ e in cc) | inr own ↦ m.1 own ])
  ]

  -- what has an earlier place had it
  placed_before : (k j : ℕ) → new k ≡ Some j → j < next → place k ≡ Some j
  placed_before k j e l = elim (was k j e) [ inl old ↦ old | inr (same, is) ↦ absurd (omega (arith, l, is)) ]

  -- what has no place
  open_unless : (d : ℕ) (x : Option ℕ) → place d ≡ x → ((j : ℕ) → place d ≡ Some j → ⊥) → place d ≡ None
  open_unless d None e never = e
  open_unless d (Some j) e never = absurd (never j e)

  t_least : (b d i : ℕ) → new b ≡ Some i → Used d → b ≢ d → ((j : ℕ) → new d ≡ Some j → i < j) → ((k : ℕ) → N d k → ((j : ℕ) × (new k ≡ Some j) × (j < i)) ⊎ (k ≡ d)) → b < d
  t_least b d i e u differ later met = elim (was b i e) [
    | inl old ↦ p.least b d i old u differ (λ j f. later j (stays d j f)) (λ k n. elim (met k n) [
      | inl (j, f, l) ↦ (let lies = (p.below b i old).0 in inl (j, placed_before k j f (omega (arith, l, lies)), l))
      | inr own ↦ inr own
    ])
    | inr (same, is) ↦ (let c_less : c < d = first d u (open_unless d (place d) refl (λ j f. (let l = later j (stays d j f) in let m = (p.below d j f).0 in omega (arith, l, m, is)))) (λ f. differ (same ∙ f)) (λ k n. elim (met k n) [
      | inl (j, f, l) ↦ inl (j, placed_before k j f (omega (arith, l, is)))
      | inr own ↦ inr own
    ]) in omega (arith, c_less, same))
  ]

  -- the places are as they must be
  pub places_taken : ArePlaced Used N new (next + 1)
  places_taken = record {
    below = λ d i e. elim (was d i e) [
      | inl old ↦ (let b = p.below d i old in (omega (arith, b.0), b.1))
      | inr (same, is) ↦ (omega (arith, is), subst Used (sym same) chosen.0)
    ];
    filled = λ i l. elim (cases_lt i next) [
      | inl lt ↦ (let f = p.filled i lt in (f.0, stays f.0 i f.1))
      | inr ge ↦ (c, here ∙ ap Some (omega (arith, l, ge)))
    ];
    single = λ a d i e f. elim (was a i e) [
      | inl x ↦ elim (was d i f) [ inl y ↦ p.single a d i x y | inr (same, is) ↦ absurd (let l = (p.below a i x).0 in omega (arith, l, is)) ]
      | inr (same, is) ↦ elim (was d i f) [ inl y ↦ absurd (let l = (p.below d i y).0 in omega (arith, l, is)) | inr (same', is') ↦ same ∙ sym same' ]
    ];
    needs = t_needs;
    least = t_least;
  }

  -- the schedule goes on
  pub keeps_placed : AreKept Used N new unmet waiting (waiting c) ready
  keeps_placed = record {
    located = λ d u n. (let o = was_open d n in elim (h.located d u o.0) [
      | inl r ↦ absurd r
      | inr (inl (inl e)) ↦ absurd (o.1 (sym e))
      | inr (inl (inr r)) ↦ inr (inl r)
      | inr (inr (k, open', w)) ↦ elim (cases_eq k c) [
        | inl same ↦ inl (subst (λ (x : ℕ). Has (waiting x) d) same w)
        | inr apart ↦ inr (inr (k, other k apart ∙ open', w))
      ]
    ]);
    met = λ d k n. elim (h.met d k n) [ inl q ↦ inl (stays_placed k q) | inr (inl e) ↦ inr (inl e) | inr (inr u) ↦ inr (inr u) ];
    owed = h.owed;
    waits = h.waits;
    can = λ d r. (let m = h.can d (inr r) in let l = above d r in (m.0, other d (λ e. omega (arith, l, e)) ∙ m.1, λ k n. elim (m.2 k n) [ inl q ↦ inl (stays_placed k q) | inr e ↦ inr e ]));
    inside = λ d w. uses d c (h.waits c d w).0;
  }
