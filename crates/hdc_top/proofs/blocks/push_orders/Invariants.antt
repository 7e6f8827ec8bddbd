use Rattle.std.proofs.Common.{◌≡◌, ◌++◌, drop}
use Rattle.hdc_top.proofs.blocks.push_orders.Given as goal

abbrev pub invariant-loop-block : goal.invariant-loop-block
invariant-loop-block l = l.initial.orders ++ l.found ≡ l.orders ++ drop l.block l.found
