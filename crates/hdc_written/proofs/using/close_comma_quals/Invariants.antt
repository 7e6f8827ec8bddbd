use Rattle.std.proofs.Common.{◌≡◌, ◌++◌, ◌≤◌, drop, length}
use Rattle.hdc_written.specs.Events.{closings}
use Rattle.hdc_written.specs.Recorded.{recorded}
use Rattle.hdc_written.specs.Mirror.{each_qualifier, comma_qual_of}
use Rattle.hdc_written.proofs.using.close_comma_quals.Given as goal

-- those from the last one on are closed
abbrev pub invariant-loop-count : goal.invariant-loop-count
invariant-loop-count l = (l.count ≤ length l.parts) × (recorded l.events ≡ recorded l.initial.events ++ closings (each_qualifier comma_qual_of (drop l.count l.parts)))

abbrev pub decreases-loop-count : goal.decreases-loop-count
decreases-loop-count l = l.count
