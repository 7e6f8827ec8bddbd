use Rattle.std.proofs.Common.{◌≡◌, length}
use Rattle.hdc_order.proofs.places.zeros.Given as goal

abbrev pub invariant-loop : goal.invariant-loop
invariant-loop l = length l.zeros ≡ l.counter
