use Rattle.std.proofs.Common.{refl, arith}
use Rattle.hdc_written.specs.TypeMirror.{atype_of}
use Rattle.hdc_rules.specs.Types.{head_breaches, field_breaches}
use Rattle.hdc_rules.proofs.Loops.{next_each}
use Rattle.hdc_rules.proofs.types.note_fields.Goals as goal

pub loop-part-preserved : goal.loop-part-preserved
loop-part-preserved c =
    let test = c.loop-part-test.true in
    next_each (field_breaches c.args.types.now c.args.params.now) (λ x. head_breaches c.args.types.now c.args.params.now (atype_of x)) (λ x xs. refl) c.args.parts.now c.loop-part.part-index c.part-item.result c.args.found.now c.loop-part.found c.note_field.new.found c.loop-part.invariant (omega (arith, test)) c.part-item.is c.in_ok-note_field.ensures
