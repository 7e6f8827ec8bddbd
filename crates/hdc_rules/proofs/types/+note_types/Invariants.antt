use Rattle.std.proofs.Common.{◌≡◌, drop}
use Rattle.hdc_written.specs.Breaches.{all_noted}
use Rattle.hdc_written.specs.TypeMirror.{each_type, atype_of, comma_type_of, arrow_type_of}
use Rattle.hdc_rules.specs.Types.{each_type_breaches}
use Rattle.hdc_rules.proofs.types.+note_types.Given as goal

abbrev pub invariant-note_atypes-loop-part : goal.invariant-note_atypes-loop-part
invariant-note_atypes-loop-part l = all_noted l.initial.found (each_type_breaches l.types (each_type atype_of l.parts)) ≡ all_noted l.found (each_type_breaches l.types (each_type atype_of (drop l.part-index l.parts)))

abbrev pub invariant-note_comma_types-loop-part : goal.invariant-note_comma_types-loop-part
invariant-note_comma_types-loop-part l = all_noted l.initial.found (each_type_breaches l.types (each_type comma_type_of l.parts)) ≡ all_noted l.found (each_type_breaches l.types (each_type comma_type_of (drop l.part-index l.parts)))

abbrev pub invariant-note_arrow_types-loop-part : goal.invariant-note_arrow_types-loop-part
invariant-note_arrow_types-loop-part l = all_noted l.initial.found (each_type_breaches l.types (each_type arrow_type_of l.parts)) ≡ all_noted l.found (each_type_breaches l.types (each_type arrow_type_of (drop l.part-index l.parts)))
