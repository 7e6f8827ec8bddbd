-- What leads to a value by functions alone.
use Rattle.std.proofs.Common.{◌≡◌, ℕ, zero, suc, ◌<◌, inl, inr, Bool, true, false, sym, ap, ◌∙◌, subst, arith, length}
use Rattle.std.specs.Prelude.{not, ◌&&◌}
use Rattle.std.specs.Cmp.{unsigned_Decides}
use Rattle.std.proofs.lemmas.Bool.{or_cases, and_parts, and_from, or_left, or_right, not_from_false, cases_eq}
use Rattle.std.proofs.lemmas.Map.Made.{is_member-Decides}
use Rattle.hdc_graph.specs.Needs.{Nodes, Needs, IsClosed, needs_of}
use Rattle.hdc_order.specs.Order.{LeadsTo, directly, by_function, leads_below}
use Rattle.hdc_order.proofs.Members.{not_true}

module _ (g : Nodes) (value : ℕ → Bool) where
  -- two ways through a function are one
  pub joined : (a f b : ℕ) → LeadsTo g value a f → value f ≡ false → LeadsTo g value f b → LeadsTo g value a b
  joined a f b (directly a' f' n) e r = by_function a f b n e r
  joined a f b (by_function a' c f' n d s) e r = by_function a c b n d (joined c f b s e r)

  -- what the test says is so
  pub sound : (n a b : ℕ) → leads_below g value n a b ≡ true → LeadsTo g value a b
  sound zero a b e = directly a b ((is_member-Decides unsigned_Decides (needs_of g a) b).0 e)
  sound (suc f) a b e = elim (or_cases (leads_below g value f a b) (not (value f) && (leads_below g value f a f && leads_below g value f f b)) e) [
    | inl l ↦ sound f a b l
    | inr r ↦ (let p = and_parts (not (value f)) (leads_below g value f a f && leads_below g value f f b) r in
        let q = and_parts (leads_below g value f a f) (leads_below g value f f b) p.1 in
        joined a f b (sound f a f q.0) (not_true (value f) p.0) (sound f f b q.1))
  ]

  -- a need passes the test at each number
  direct : (n a b : ℕ) → Needs g a b → leads_below g value n a b ≡ true
  direct zero a b m = (is_member-Decides unsigned_Decides (needs_of g a) b).1 m
  direct (suc f) a b m = or_left (leads_below g value f a b) (not (value f) && (leads_below g value f a f && leads_below g value f f b)) (direct f a b m)

  by_way_of : (f a b : ℕ) → value f ≡ false → leads_below g value f a f ≡ true → leads_below g value f f b ≡ true → leads_below g value (suc f) a b ≡ true
  by_way_of f a b e p q = or_right (leads_below g value f a b) (not (value f) && (leads_below g value f a f && leads_below g value f f b)) (and_from (not (value f)) (leads_below g value f a f && leads_below g value f f b) (not_from_false (value f) e) (and_from (leads_below g value f a f) (leads_below g value f f b) p q))

  -- one step before what passes it
  before : (n a f b : ℕ) → f < n → Needs g a f → value f ≡ false → leads_below g value n f b ≡ true → leads_below g value n a b ≡ true
  before zero a f b l m e r = absurd (omega (arith, l))
  before (suc n) a f b l m e r = elim (or_cases (leads_below g value n f b) (not (value n) && (leads_below g value n f n && leads_below g value n n b)) r) [
    | inl low ↦ elim (cases_eq f n) [
      | inl is ↦ by_way_of n a b (ap value (sym is) ∙ e) (direct n a n (subst (Needs g a) is m)) (subst (λ (z : ℕ). leads_below g value n z b ≡ true) is low)
      | inr apart ↦ or_left (leads_below g value n a b) (not (value n) && (leads_below g value n a n && leads_below g value n n b)) (before n a f b (omega (arith, l, apart)) m e low)
    ]
    | inr high ↦ (let p = and_parts (not (value n)) (leads_below g value n f n && leads_below g value n n b) high in
        let q = and_parts (leads_below g value n f n) (leads_below g value n n b) p.1 in
        by_way_of n a b (not_true (value n) p.0) (elim (cases_eq f n) [
          | inl is ↦ direct n a n (subst (Needs g a) is m)
          | inr apart ↦ before n a f n (omega (arith, l, apart)) m e q.0
        ]) q.1)
  ]

  -- and what is so passes the test
  pub complete : (a b : ℕ) → IsClosed g → LeadsTo g value a b → leads_below g value (length g) a b ≡ true
  complete a b c (directly a' b' n) = direct (length g) a b n
  complete a b c (by_function a' f b' n e r) = before (length g) a f b (c a f n) n e (complete f b c r)
