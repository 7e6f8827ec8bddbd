use Rattle.std.proofs.Common.{◌≡◌, ℕ, ◌<◌, length, get_or}
use Rattle.hdc_order.proofs.places.places_of.Given as goal

abbrev pub invariant-loop-place : goal.invariant-loop-place
invariant-loop-place l = record {
  each : length l.places ≡ length l.nodes;
  known : (m : ℕ) → m < l.place → get_or l.places (get_or l.nodes m 0) 0 ≡ m;
}
