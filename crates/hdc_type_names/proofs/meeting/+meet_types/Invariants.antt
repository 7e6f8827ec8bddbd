use Rattle.std.proofs.Common.{◌≡◌, drop}
use Rattle.hdc_written.specs.TypeMirror.{each_type, atype_of, comma_type_of, arrow_type_of}
use Rattle.hdc_type_names.specs.Variables.{with_each_variables}
use Rattle.hdc_type_names.proofs.meeting.+meet_types.Given as goal

abbrev pub invariant-meet_atypes-loop-part : goal.invariant-meet_atypes-loop-part
invariant-meet_atypes-loop-part l = with_each_variables (each_type atype_of l.parts) l.initial.variables ≡ with_each_variables (each_type atype_of (drop l.part-index l.parts)) l.variables

abbrev pub invariant-meet_comma_types-loop-part : goal.invariant-meet_comma_types-loop-part
invariant-meet_comma_types-loop-part l = with_each_variables (each_type comma_type_of l.parts) l.initial.variables ≡ with_each_variables (each_type comma_type_of (drop l.part-index l.parts)) l.variables

abbrev pub invariant-meet_arrow_types-loop-part : goal.invariant-meet_arrow_types-loop-part
invariant-meet_arrow_types-loop-part l = with_each_variables (each_type arrow_type_of l.parts) l.initial.variables ≡ with_each_variables (each_type arrow_type_of (drop l.part-index l.parts)) l.variables
