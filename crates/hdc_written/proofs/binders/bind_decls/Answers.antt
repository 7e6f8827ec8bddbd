use Rattle.std.proofs.Common.{arith}
use Rattle.hdc_written.specs.Mirror.{next_decl_of}
use Rattle.hdc_written.proofs.ExpressionMirror.{next_decl_parts}
use Rattle.hdc_written.proofs.Loops.{next_declaration}
use Rattle.hdc_written.proofs.binders.bind_decls.Goals as goal

pub loop-part-preserved : goal.loop-part-preserved
loop-part-preserved g c =
    let test = c.loop-part-test.true in
    next_declaration c.args.what next_decl_of c.args.parts.now c.loop-part.part-index c.part-item.result _ c.args.scope.now c.loop-part.scope c.bind_decl.new.scope c.loop-part.invariant (omega (arith, test)) c.part-item.is (next_decl_parts c.part-item.result) c.in_ok-bind_decl.ensures
