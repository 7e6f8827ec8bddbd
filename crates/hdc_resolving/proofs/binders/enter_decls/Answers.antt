use Rattle.std.proofs.Common.{arith}
use Rattle.hdc_written.specs.Mirror.{next_decl_of}
use Rattle.hdc_written.proofs.ExpressionMirror.{next_decl_parts}
use Rattle.hdc_resolving.proofs.Entering.{next_declaration}
use Rattle.hdc_resolving.proofs.binders.enter_decls.Goals as goal

pub loop-part-preserved : goal.loop-part-preserved
loop-part-preserved c =
    let test = c.loop-part-test.true in
    next_declaration next_decl_of c.args.parts.now c.loop-part.part-index c.part-item.result _ c.args.walk.now c.loop-part.walk c.enter_decl.new.walk c.loop-part.invariant (omega (arith, test)) c.part-item.is (next_decl_parts c.part-item.result) c.in_ok-enter_decl.ensures
