use Rattle.std.proofs.Common.{◌≡◌, drop}
use Rattle.hdc_written.specs.Breaches.{all_noted}
use Rattle.hdc_written.specs.Mirror.{tops_behind}
use Rattle.hdc_rules.specs.Bindings.{uneven_tops}
use Rattle.hdc_rules.proofs.tops.note_next_uneven.Given as goal

abbrev pub invariant-loop-part : goal.invariant-loop-part
invariant-loop-part l = all_noted l.initial.found (uneven_tops l.initial.going (tops_behind l.parts)) ≡ all_noted l.found (uneven_tops l.going (tops_behind (drop l.part-index l.parts)))
