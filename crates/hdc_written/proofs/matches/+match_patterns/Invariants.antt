use Rattle.std.proofs.Common.{◌≡◌, ◌++◌, drop}
use Rattle.hdc_written.specs.Events.{each_matches}
use Rattle.hdc_written.specs.Recorded.{recorded}
use Rattle.hdc_written.specs.Mirror.{each_pattern, apat_of, comma_pat_of, cons_pat_of}
use Rattle.hdc_written.proofs.matches.+match_patterns.Given as goal

abbrev pub invariant-match_apats-loop-part : goal.invariant-match_apats-loop-part
invariant-match_apats-loop-part l = recorded l.initial.events ++ each_matches (each_pattern apat_of l.parts) ≡ recorded l.events ++ each_matches (each_pattern apat_of (drop l.part-index l.parts))

abbrev pub invariant-match_comma_pats-loop-part : goal.invariant-match_comma_pats-loop-part
invariant-match_comma_pats-loop-part l = recorded l.initial.events ++ each_matches (each_pattern comma_pat_of l.parts) ≡ recorded l.events ++ each_matches (each_pattern comma_pat_of (drop l.part-index l.parts))

abbrev pub invariant-match_cons_pats-loop-part : goal.invariant-match_cons_pats-loop-part
invariant-match_cons_pats-loop-part l = recorded l.initial.events ++ each_matches (each_pattern cons_pat_of l.parts) ≡ recorded l.events ++ each_matches (each_pattern cons_pat_of (drop l.part-index l.parts))
