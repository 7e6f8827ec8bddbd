use Rattle.std.proofs.Common.{◌<◌, ◌≤◌, ◌∙◌, length, sym, ap, arith}
use Rattle.hdc_written.specs.TypeMirror.{each_type, atype_of}
use Rattle.hdc_regular.specs.PartMirror.{parts_of, joined}
use Rattle.hdc_regular.specs.Building.{each_built}
use Rattle.hdc_regular.proofs.Pushing.{fields_step, fields_all}
use Rattle.hdc_regular.proofs.bodies.add_fields_behind.Goals as goal

pub loop-part-preserved : goal.loop-part-preserved
loop-part-preserved c =
    let lt : c.loop-part.part-index < length c.args.parts.now = omega arith in
    c.loop-part.invariant
    ∙ fields_step c.args.outlines.now c.args.names.now c.args.params.now c.args.parts.now c.loop-part.part-index c.part-item.result c.loop-part.built c.add_atypes.new.built lt c.part-item.is
    (c.in_ok-add_atypes.ensures ∙ ap (λ xs. joined (parts_of c.loop-part.built) (each_built c.args.outlines.now c.args.names.now c.args.params.now (each_type atype_of xs))) c.as_slice.ensures)

pub returns : goal.returns
returns c =
    let ge : length c.args.parts.now ≤ c.loop-part.part-index = omega arith in
    sym (c.loop-part.invariant ∙ fields_all c.args.outlines.now c.args.names.now c.args.params.now c.args.parts.now c.loop-part.part-index c.loop-part.built ge)
