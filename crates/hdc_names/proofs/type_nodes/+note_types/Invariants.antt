use Rattle.std.proofs.Common.{◌≡◌, drop}
use Rattle.hdc_written.specs.TypeMirror.{each_type, atype_of, comma_type_of, arrow_type_of}
use Rattle.hdc_names.specs.Sites.{each_type_nodes, arrow_nodes}
use Rattle.hdc_names.specs.Trees.{all_found}
use Rattle.hdc_names.proofs.type_nodes.+note_types.Given as goal

abbrev pub invariant-note_atypes-loop-part : goal.invariant-note_atypes-loop-part
invariant-note_atypes-loop-part l = all_found l.initial.found (each_type_nodes l.depth (each_type atype_of l.parts)) ≡ all_found l.found (each_type_nodes l.depth (each_type atype_of (drop l.part-index l.parts)))

abbrev pub invariant-note_comma_types-loop-part : goal.invariant-note_comma_types-loop-part
invariant-note_comma_types-loop-part l = all_found l.initial.found (each_type_nodes l.depth (each_type comma_type_of l.parts)) ≡ all_found l.found (each_type_nodes l.depth (each_type comma_type_of (drop l.part-index l.parts)))

abbrev pub invariant-note_arrow_types-loop-index : goal.invariant-note_arrow_types-loop-index
invariant-note_arrow_types-loop-index l = all_found l.initial.found (arrow_nodes l.initial.depth (each_type arrow_type_of l.parts)) ≡ all_found l.found (arrow_nodes l.depth (each_type arrow_type_of (drop l.index l.parts)))
