use Rattle.std.proofs.Common.{◌≡◌, drop}
use Rattle.hdc_written.specs.Breaches.{all_noted}
use Rattle.hdc_written.specs.Mirror.{tops_behind}
use Rattle.hdc_rules.specs.Bindings.{each_typed}
use Rattle.hdc_rules.proofs.tops.note_next_typed.Given as goal

abbrev pub invariant-loop-part : goal.invariant-loop-part
invariant-loop-part l = all_noted l.initial.found (each_typed l.types (tops_behind l.parts)) ≡ all_noted l.found (each_typed l.types (tops_behind (drop l.part-index l.parts)))
