use Rattle.std.proofs.Common.{◌≡◌, ℕ, ◌<◌, get_or}
use Rattle.hdc_graph.proofs.components.needs_number.Given as goal

abbrev pub invariant-loop-needed : goal.invariant-loop-needed
invariant-loop-needed l = (k : ℕ) → k < l.needed-index → get_or l.numbers (get_or l.needs k 0) 0 ≡ l.number → ⊥
