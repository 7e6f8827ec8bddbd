use Rattle.std.proofs.Common.{◌≡◌, ◌++◌, drop}
use Rattle.hdc_regular.specs.Order.{shifted_by}
use Rattle.hdc_regular.proofs.node_order.add_group.Given as goal

abbrev pub invariant-loop-node : goal.invariant-loop-node
invariant-loop-node l = l.initial.order ++ shifted_by l.base l.group ≡ l.order ++ shifted_by l.base (drop l.node-index l.group)
