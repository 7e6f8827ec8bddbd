use Rattle.std.proofs.Common.{◌≡◌, drop}
use Rattle.hdc_written.specs.Breaches.{all_noted}
use Rattle.hdc_regular.specs.Passes.{summaries_wrong}
use Rattle.hdc_regular.proofs.passes.note_from.Given as goal

abbrev pub invariant-loop-number : goal.invariant-loop-number
invariant-loop-number l =
    all_noted l.initial.found (summaries_wrong l.synonyms l.demands l.numbers l.from (drop l.from l.summaries))
    ≡ all_noted l.found (summaries_wrong l.synonyms l.demands l.numbers l.number (drop l.number l.summaries))
