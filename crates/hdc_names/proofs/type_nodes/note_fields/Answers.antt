use Rattle.std.proofs.Common.{refl, arith}
use Rattle.hdc_written.specs.TypeMirror.{atype_of}
use Rattle.hdc_names.specs.Sites.{field_nodes, type_nodes}
use Rattle.hdc_names.proofs.Loops.{next_found}
use Rattle.hdc_names.proofs.type_nodes.note_fields.Goals as goal

pub loop-part-preserved : goal.loop-part-preserved
loop-part-preserved c =
    let test = c.loop-part-test.true in
    next_found field_nodes (λ x. type_nodes 1 (atype_of x)) (λ x xs. refl) c.args.parts.now c.loop-part.part-index c.part-item.result _ c.args.found.now c.loop-part.found c.note_atype.new.found c.loop-part.invariant (omega (arith, test)) c.part-item.is refl c.in_ok-note_atype.ensures
