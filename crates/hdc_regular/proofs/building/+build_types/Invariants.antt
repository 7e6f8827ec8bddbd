use Rattle.std.proofs.Common.{◌≡◌, suc, drop}
use Rattle.hdc_written.specs.TypeMirror.{each_type, atype_of, comma_type_of, arrow_type_of}
use Rattle.hdc_regular.specs.Resolved.{part_at}
use Rattle.hdc_regular.specs.PartMirror.{parts_of, joined}
use Rattle.hdc_regular.specs.Building.{each_built, held_from, outline_at}
use Rattle.hdc_regular.proofs.building.+build_types.Given as goal

abbrev pub invariant-add_atypes-loop-part : goal.invariant-add_atypes-loop-part
invariant-add_atypes-loop-part l =
    joined (parts_of l.initial.built) (each_built l.outlines l.names l.params (each_type atype_of l.parts))
    ≡ joined (parts_of l.built) (each_built l.outlines l.names l.params (each_type atype_of (drop l.part-index l.parts)))

abbrev pub invariant-add_comma_types-loop-part : goal.invariant-add_comma_types-loop-part
invariant-add_comma_types-loop-part l =
    joined (parts_of l.initial.built) (each_built l.outlines l.names l.params (each_type comma_type_of l.parts))
    ≡ joined (parts_of l.built) (each_built l.outlines l.names l.params (each_type comma_type_of (drop l.part-index l.parts)))

abbrev pub invariant-add_arrow_types-loop-part : goal.invariant-add_arrow_types-loop-part
invariant-add_arrow_types-loop-part l =
    joined (parts_of l.initial.built) (each_built l.outlines l.names l.params (each_type arrow_type_of l.parts))
    ≡ joined (parts_of l.built) (each_built l.outlines l.names l.params (each_type arrow_type_of (drop l.part-index l.parts)))

abbrev pub invariant-add_held_atypes-loop-index : goal.invariant-add_held_atypes-loop-index
invariant-add_held_atypes-loop-index l =
    joined (parts_of l.initial.built) (held_from (outline_at l.outlines l.number).holds 1 (each_built l.outlines l.names l.params (each_type atype_of l.parts)))
    ≡ joined (parts_of l.built) (held_from (outline_at l.outlines l.number).holds (suc l.index) (each_built l.outlines l.names l.params (each_type atype_of (drop l.index l.parts))))

abbrev pub invariant-build_one-loop-part : goal.invariant-build_one-loop-part
invariant-build_one-loop-part l =
    part_at l.place (each_built l.outlines l.names l.params (each_type atype_of l.parts))
    ≡ part_at l.left (each_built l.outlines l.names l.params (each_type atype_of (drop l.part-index l.parts)))
