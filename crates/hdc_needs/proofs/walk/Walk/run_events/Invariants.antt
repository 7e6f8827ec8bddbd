use Rattle.std.proofs.Common.{map, take}
use Rattle.hdc_written.specs.Recorded.{event_of}
use Rattle.hdc_needs.specs.Agrees.{Describes}
use Rattle.hdc_needs.specs.Walk.{State, run}
use Rattle.hdc_needs.proofs.walk.Walk.run_events.Given as goal

abbrev pub invariant-loop-event : goal.invariant-loop-event
invariant-loop-event l = (state : State) → Describes l.initial.self state → Describes l.self (run (map event_of (take l.event-index l.events)) state)
