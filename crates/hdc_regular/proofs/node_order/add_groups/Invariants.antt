use Rattle.std.proofs.Common.{◌≡◌, ◌++◌, drop}
use Rattle.hdc_regular.specs.Order.{group_order}
use Rattle.hdc_regular.proofs.node_order.add_groups.Given as goal

abbrev pub invariant-loop-index : goal.invariant-loop-index
invariant-loop-index l = l.initial.order ++ group_order l.base l.groups ≡ l.order ++ group_order l.base (drop l.index l.groups)
