use Rattle.std.proofs.Common.{◌≡◌, drop}
use Rattle.hdc_regular.specs.Demands.{with_order}
use Rattle.hdc_regular.proofs.demand.Demand.add_order.Given as goal

abbrev pub invariant-loop-index : goal.invariant-loop-index
invariant-loop-index l = with_order 0 l.aliases l.initial.self ≡ with_order l.index (drop l.index l.aliases) l.self
