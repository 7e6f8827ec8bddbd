use Rattle.std.proofs.Common.{◌≡◌, ◌++◌, drop}
use Rattle.hdc_written.specs.TypeMirror.{each_type, atype_of, comma_type_of, arrow_type_of}
use Rattle.hdc_rules.specs.Types.{each_type_variables}
use Rattle.hdc_rules.proofs.type_variables.+add_types.Given as goal

abbrev pub invariant-add_atypes-loop-part : goal.invariant-add_atypes-loop-part
invariant-add_atypes-loop-part l = l.initial.names ++ each_type_variables (each_type atype_of l.parts) ≡ l.names ++ each_type_variables (each_type atype_of (drop l.part-index l.parts))

abbrev pub invariant-add_comma_types-loop-part : goal.invariant-add_comma_types-loop-part
invariant-add_comma_types-loop-part l = l.initial.names ++ each_type_variables (each_type comma_type_of l.parts) ≡ l.names ++ each_type_variables (each_type comma_type_of (drop l.part-index l.parts))

abbrev pub invariant-add_arrow_types-loop-part : goal.invariant-add_arrow_types-loop-part
invariant-add_arrow_types-loop-part l = l.initial.names ++ each_type_variables (each_type arrow_type_of l.parts) ≡ l.names ++ each_type_variables (each_type arrow_type_of (drop l.part-index l.parts))
