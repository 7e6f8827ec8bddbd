use Rattle.std.proofs.Common.{◌≡◌, drop}
use Rattle.hdc_regular.specs.Demands.{no_demand}
use Rattle.hdc_regular.specs.Passes.{uses_demanded}
use Rattle.hdc_regular.proofs.passes.demand_of.Given as goal

abbrev pub invariant-loop-usage : goal.invariant-loop-usage
invariant-loop-usage l =
    uses_demanded l.synonyms l.demands l.numbers l.group l.uses no_demand
    ≡ uses_demanded l.synonyms l.demands l.numbers l.group (drop l.usage-index l.uses) l.demand
