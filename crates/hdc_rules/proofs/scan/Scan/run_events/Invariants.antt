use Rattle.std.proofs.Common.{◌≡◌, drop, map}
use Rattle.hdc_written.specs.Recorded.{event_of}
use Rattle.hdc_rules.specs.Scan.{run}
use Rattle.hdc_rules.proofs.scan.Scan.run_events.Given as goal

abbrev pub invariant-loop-event : goal.invariant-loop-event
invariant-loop-event l = run l.known (map event_of l.events) l.initial.self ≡ run l.known (map event_of (drop l.event-index l.events)) l.self
