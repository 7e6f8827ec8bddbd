use Rattle.std.proofs.Common.{sym, subst, take, arith}
use Rattle.hdc_written.specs.Mirror.{tops_behind}
use Rattle.hdc_needs.specs.Agrees.{Describes}
use Rattle.hdc_needs.specs.Walk.{run_tops}
use Rattle.hdc_needs.proofs.Describing.{next_top}
use Rattle.hdc_needs.proofs.walk.Walk.run_tops.Goals as goal

pub loop-part-preserved : goal.loop-part-preserved
loop-part-preserved c state h =
    let test = c.loop-part-test.true in
    let before = run_tops (tops_behind (take c.loop-part.part-index c.args.tops.now)) state in
    subst (Describes c.run_top.new.self) (sym (next_top c.args.tops.now c.loop-part.part-index c.part-item.result state (omega (arith, test)) c.part-item.is))
    (c.in_ok-run_top.ensures before (c.loop-part.invariant state h))
