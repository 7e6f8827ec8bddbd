use Rattle.std.proofs.Common.{◌≡◌, ◌++◌, drop, map}
use Rattle.hdc_written.specs.Recorded.{event_of}
use Rattle.hdc_needs.specs.Binders.{introduced_in}
use Rattle.hdc_needs.specs.Kept.{mention_of}
use Rattle.hdc_needs.proofs.names.add_introduced.Given as goal

abbrev pub invariant-loop-event : goal.invariant-loop-event
invariant-loop-event l = map mention_of l.initial.names ++ introduced_in l.number (map event_of l.events) ≡ map mention_of l.names ++ introduced_in l.number (map event_of (drop l.event-index l.events))
