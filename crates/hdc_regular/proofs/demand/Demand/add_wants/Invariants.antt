use Rattle.std.proofs.Common.{◌≡◌, drop}
use Rattle.hdc_regular.specs.Demands.{with_wants}
use Rattle.hdc_regular.proofs.demand.Demand.add_wants.Given as goal

abbrev pub invariant-loop-index : goal.invariant-loop-index
invariant-loop-index l = with_wants l.wanted l.aliases l.initial.self ≡ with_wants (drop l.index l.wanted) (drop l.index l.aliases) l.self
