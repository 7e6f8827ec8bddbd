use Rattle.std.proofs.Common.{◌≡◌, ◌++◌, drop, map}
use Rattle.hdc_resolved.specs.Mirror.{pattern_of}
use Rattle.hdc_written.specs.Mirror.{each_pattern, apat_of, comma_pat_of, cons_pat_of}
use Rattle.hdc_resolving.specs.Patterns.{each_resolved}
use Rattle.hdc_resolving.proofs.pattern.+resolve_patterns.Given as goal

abbrev pub invariant-push_apats-loop-part : goal.invariant-push_apats-loop-part
invariant-push_apats-loop-part l = map pattern_of l.initial.pats ++ each_resolved (each_pattern apat_of l.parts) l.known l.walk.names ≡ map pattern_of l.pats ++ each_resolved (each_pattern apat_of (drop l.part-index l.parts)) l.known l.walk.names

abbrev pub invariant-push_comma_pats-loop-part : goal.invariant-push_comma_pats-loop-part
invariant-push_comma_pats-loop-part l = map pattern_of l.initial.pats ++ each_resolved (each_pattern comma_pat_of l.parts) l.known l.walk.names ≡ map pattern_of l.pats ++ each_resolved (each_pattern comma_pat_of (drop l.part-index l.parts)) l.known l.walk.names

abbrev pub invariant-push_cons_pats-loop-part : goal.invariant-push_cons_pats-loop-part
invariant-push_cons_pats-loop-part l = map pattern_of l.initial.pats ++ each_resolved (each_pattern cons_pat_of l.parts) l.known l.walk.names ≡ map pattern_of l.pats ++ each_resolved (each_pattern cons_pat_of (drop l.part-index l.parts)) l.known l.walk.names
