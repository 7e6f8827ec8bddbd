use Rattle.std.proofs.Common.{◌≡◌, ◌≤◌, drop, take, length, map}
use Rattle.hdc_resolved.specs.Mirror.{pattern_of}
use Rattle.hdc_written.specs.Mirror.{each_pattern, cons_pat_of}
use Rattle.hdc_written.proofs.PatternMirror.{colon_of}
use Rattle.hdc_resolving.specs.Patterns.{each_first, joined_tail, tail_of}
use Rattle.hdc_resolving.proofs.pattern.join_tail.Given as goal

abbrev pub invariant-loop-count : goal.invariant-loop-count
invariant-loop-count l = record {
  within : l.count ≤ length l.parts;
  left : l.pats ≡ take l.count l.initial.pats;
  tail : tail_of l.tail ≡ joined_tail l.known (map colon_of (drop l.count l.parts)) (each_first (each_pattern cons_pat_of (drop l.count l.parts))) (map pattern_of (drop l.count l.initial.pats));
}

abbrev pub decreases-loop-count : goal.decreases-loop-count
decreases-loop-count l = l.count
