use Rattle.std.proofs.Common.{◌≡◌, ◌++◌, drop}
use Rattle.hdc_written.specs.TypeMirror.{each_type, atype_of, comma_type_of, arrow_type_of}
use Rattle.hdc_synonyms.specs.Synonyms.{each_type_needs}
use Rattle.hdc_synonyms.proofs.needs.+add_types.Given as goal

abbrev pub invariant-add_atypes-loop-part : goal.invariant-add_atypes-loop-part
invariant-add_atypes-loop-part l = l.initial.needs ++ each_type_needs l.declared (each_type atype_of l.parts) ≡ l.needs ++ each_type_needs l.declared (each_type atype_of (drop l.part-index l.parts))

abbrev pub invariant-add_comma_types-loop-part : goal.invariant-add_comma_types-loop-part
invariant-add_comma_types-loop-part l = l.initial.needs ++ each_type_needs l.declared (each_type comma_type_of l.parts) ≡ l.needs ++ each_type_needs l.declared (each_type comma_type_of (drop l.part-index l.parts))

abbrev pub invariant-add_arrow_types-loop-part : goal.invariant-add_arrow_types-loop-part
invariant-add_arrow_types-loop-part l = l.initial.needs ++ each_type_needs l.declared (each_type arrow_type_of l.parts) ≡ l.needs ++ each_type_needs l.declared (each_type arrow_type_of (drop l.part-index l.parts))
