use Rattle.std.proofs.Common.{◌≡◌, drop}
use Rattle.hdc_written.specs.TypeMirror.{each_type, atype_of}
use Rattle.hdc_regular.specs.Building.{each_built}
use Rattle.hdc_regular.specs.PartMirror.{parts_of, joined}
use Rattle.hdc_regular.specs.Resolving.{fields_behind}
use Rattle.hdc_regular.proofs.bodies.add_fields_behind.Given as goal

abbrev pub invariant-loop-part : goal.invariant-loop-part
invariant-loop-part l =
    joined (parts_of l.initial.built) (each_built l.outlines l.names l.params (each_type atype_of (fields_behind l.parts)))
    ≡ joined (parts_of l.built) (each_built l.outlines l.names l.params (each_type atype_of (fields_behind (drop l.part-index l.parts))))
