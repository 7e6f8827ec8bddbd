-- The events that are kept in memory.
use Rattle.std.specs.Prelude.{List, map, None, Some}
use Rattle.hdc_written.specs.declared.events.Event.{Event}
use Rattle.hdc_written.specs.declared.events.Events.{Events}
use Rattle.hdc_written.specs.declared.events.Event.TheVariants as kept
use Rattle.hdc_written.specs.Written.{no_declaration}
use Rattle.hdc_written.specs.Mirror.{block_of}
use Rattle.hdc_written.specs.Events as spec

abbrev pub event_of : Event → spec.Event
event_of (kept.Used x) = spec.used x.now
event_of (kept.Constructed c) = spec.constructed c.now
event_of (kept.Matched c n) = spec.matched c.now n
event_of (kept.Ranged a) = spec.ranged a
event_of (kept.Generated a) = spec.generated a
event_of kept.Opened = spec.opened
event_of (kept.Introduced x) = spec.introduced x.now
event_of (kept.Block None) = spec.block no_declaration
event_of (kept.Block (Some b)) = spec.block (block_of b.now)
event_of kept.Declaring = spec.declaring
event_of kept.Body = spec.body
event_of kept.Closed = spec.closed

unfoldable pub recorded : Events → List spec.Event
recorded events = map event_of events.events
