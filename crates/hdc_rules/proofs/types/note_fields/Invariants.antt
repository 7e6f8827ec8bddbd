use Rattle.std.proofs.Common.{◌≡◌, drop}
use Rattle.hdc_written.specs.Breaches.{all_noted}
use Rattle.hdc_rules.specs.Types.{field_breaches}
use Rattle.hdc_rules.proofs.types.note_fields.Given as goal

abbrev pub invariant-loop-part : goal.invariant-loop-part
invariant-loop-part l = all_noted l.initial.found (field_breaches l.types l.params l.parts) ≡ all_noted l.found (field_breaches l.types l.params (drop l.part-index l.parts))
