use Rattle.std.proofs.Common.{map, sym, subst, take, arith}
use Rattle.hdc_written.specs.Recorded.{event_of}
use Rattle.hdc_needs.specs.Agrees.{Describes}
use Rattle.hdc_needs.specs.Walk.{run}
use Rattle.hdc_needs.proofs.Describing.{next_event}
use Rattle.hdc_needs.proofs.walk.Walk.run_events.Goals as goal

pub loop-event-preserved : goal.loop-event-preserved
loop-event-preserved c state h =
    let test = c.loop-event-test.true in
    let before = run (map event_of (take c.loop-event.event-index c.args.events.now)) state in
    subst (Describes c.step.new.self) (sym (next_event c.args.events.now c.loop-event.event-index c.event-item.result state (omega (arith, test)) c.event-item.is))
    (c.in_ok-step.ensures before (c.loop-event.invariant state h))
