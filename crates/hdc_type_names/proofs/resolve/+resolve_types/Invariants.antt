use Rattle.std.proofs.Common.{◌≡◌, ◌≤◌, length, drop}
use Rattle.hdc_resolved.specs.Syntax.{TypeTree}
use Rattle.hdc_written.specs.TypeMirror.{each_type, atype_of, comma_type_of, arrow_type_of}
use Rattle.hdc_type_names.specs.ResolvedTypes.{arrows, each_resolved}
use Rattle.hdc_type_names.specs.TypeLists.{arrow, joined, types_of}
use Rattle.hdc_type_names.proofs.resolve.+resolve_types.Given as goal

abbrev pub invariant-add_atypes-loop-part : goal.invariant-add_atypes-loop-part
invariant-add_atypes-loop-part l =
    joined (types_of l.initial.types) (each_resolved l.names l.variables (each_type atype_of l.parts))
    ≡ joined (types_of l.types) (each_resolved l.names l.variables (each_type atype_of (drop l.part-index l.parts)))

abbrev pub invariant-add_comma_types-loop-part : goal.invariant-add_comma_types-loop-part
invariant-add_comma_types-loop-part l =
    joined (types_of l.initial.types) (each_resolved l.names l.variables (each_type comma_type_of l.parts))
    ≡ joined (types_of l.types) (each_resolved l.names l.variables (each_type comma_type_of (drop l.part-index l.parts)))

abbrev pub invariant-resolve_results-loop-count : goal.invariant-resolve_results-loop-count
invariant-resolve_results-loop-count l = record {
  within : l.count ≤ length l.parts;
  put : (t : TypeTree) → arrow t l.behind ≡ arrows t (each_resolved l.names l.variables (each_type arrow_type_of (drop l.count l.parts)));
}

abbrev pub decreases-resolve_results-loop-count : goal.decreases-resolve_results-loop-count
decreases-resolve_results-loop-count l = l.count
