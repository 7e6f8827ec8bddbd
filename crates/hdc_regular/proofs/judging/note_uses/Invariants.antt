use Rattle.std.proofs.Common.{◌≡◌, drop}
use Rattle.hdc_written.specs.Breaches.{all_noted}
use Rattle.hdc_regular.specs.Judging.{uses_wrong}
use Rattle.hdc_regular.proofs.judging.note_uses.Given as goal

abbrev pub invariant-loop-usage : goal.invariant-loop-usage
invariant-loop-usage l =
    all_noted l.initial.found (uses_wrong l.synonyms l.demands l.numbers l.group l.count l.uses)
    ≡ all_noted l.found (uses_wrong l.synonyms l.demands l.numbers l.group l.count (drop l.usage-index l.uses))
