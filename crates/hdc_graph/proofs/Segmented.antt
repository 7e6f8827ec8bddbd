-- Segments lie above one another.
use Rattle.std.proofs.Common.{ℕ, ◌<◌, ◌≤◌, inl, inr, List, [], ◌∷◌, subst, arith, le_refl}
use Rattle.hdc_graph.specs.declared.stack.Segment.{Segment}
use Rattle.hdc_graph.specs.Search.{IsIn, Falls, floor}

-- each begins on the path, and its pending nodes among the pending ones
pub within : (h k : ℕ) (ss : List Segment) (s : Segment) → Falls h k ss → IsIn s ss → (s.path_from < h) × (s.pending_from ≤ k)
within h k [] s f i = absurd i
within h k (x ∷ xs) s f (inl e) = subst (λ (z : Segment). (z.path_from < h) × (z.pending_from ≤ k)) e (f.0, f.1)
within h k (x ∷ xs) s f (inr i) =
    let below = within x.path_from x.pending_from xs s f.2 i in (omega (arith, below.0, f.0), omega (arith, below.1, f.1))

-- none has its pending nodes above those of the top one
pub under_floor : (h k : ℕ) (ss : List Segment) (s : Segment) → Falls h k ss → IsIn s ss → s.pending_from ≤ floor ss
under_floor h k [] s f i = absurd i
under_floor h k (x ∷ xs) s f (inl e) = subst (λ (z : Segment). z.pending_from ≤ x.pending_from) e (le_refl x.pending_from)
under_floor h k (x ∷ xs) s f (inr i) = (within x.path_from x.pending_from xs s f.2 i).1

-- they stand as well where more or less is pending above them
pub floored : (h k m : ℕ) (ss : List Segment) → Falls h k ss → floor ss ≤ m → Falls h m ss
floored h k m [] f low = f
floored h k m (x ∷ xs) f low = (f.0, low, f.2)

-- the top one is joined with the one below it
pub joined : (h k : ℕ) (s : Segment) (ss : List Segment) → Falls h k (s ∷ ss) → 0 < s.path_from → Falls h k ss
joined h k s [] f positive = absurd (omega (arith, f.2, positive))
joined h k s (x ∷ xs) f positive = (omega (arith, f.0, f.2.0), omega (arith, f.1, f.2.1), f.2.2)
