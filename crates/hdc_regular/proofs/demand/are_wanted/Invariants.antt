use Rattle.std.proofs.Common.{◌≡◌, drop}
use Rattle.hdc_regular.specs.Demands.{all_wanted}
use Rattle.hdc_regular.proofs.demand.are_wanted.Given as goal

abbrev pub invariant-loop-index : goal.invariant-loop-index
invariant-loop-index l = all_wanted l.wanted l.aliases ≡ all_wanted (drop l.index l.wanted) (drop l.index l.aliases)
