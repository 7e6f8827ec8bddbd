use Rattle.std.proofs.Common.{◌≡◌, ◌-◌, drop, length}
use Rattle.hdc_regular.specs.Walk.{in_order}
use Rattle.hdc_regular.proofs.judging.is_in_order.Given as goal

abbrev pub invariant-loop-index : goal.invariant-loop-index
invariant-loop-index l = in_order 0 (length l.aliases) l.aliases ≡ in_order l.index (length l.aliases - l.index) (drop l.index l.aliases)
