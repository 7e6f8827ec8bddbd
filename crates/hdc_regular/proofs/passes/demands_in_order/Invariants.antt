use Rattle.std.proofs.Common.{◌≡◌, drop, length}
use Rattle.hdc_regular.specs.Demands.{no_demand}
use Rattle.hdc_regular.specs.Judged.{repeat_of}
use Rattle.hdc_regular.specs.Passes.{demands_set}
use Rattle.hdc_regular.proofs.passes.demands_in_order.Given as goal

abbrev pub invariant-loop-number : goal.invariant-loop-number
invariant-loop-number l =
    demands_set l.summaries l.synonyms l.numbers l.order (repeat_of no_demand (length l.summaries))
    ≡ demands_set l.summaries l.synonyms l.numbers (drop l.number-index l.order) l.demands
