use Rattle.std.proofs.Common.{◌≡◌, ◌++◌, drop}
use Rattle.hdc_written.specs.Events.{each_introduced}
use Rattle.hdc_written.specs.Written.{all_variables}
use Rattle.hdc_written.specs.Recorded.{recorded}
use Rattle.hdc_written.specs.Mirror.{each_pattern, apat_of, comma_pat_of, cons_pat_of}
use Rattle.hdc_written.proofs.variables.+introduce_patterns.Given as goal

abbrev pub invariant-introduce_apats-loop-part : goal.invariant-introduce_apats-loop-part
invariant-introduce_apats-loop-part l = recorded l.initial.events ++ each_introduced (all_variables (each_pattern apat_of l.parts)) ≡ recorded l.events ++ each_introduced (all_variables (each_pattern apat_of (drop l.part-index l.parts)))

abbrev pub invariant-introduce_comma_pats-loop-part : goal.invariant-introduce_comma_pats-loop-part
invariant-introduce_comma_pats-loop-part l = recorded l.initial.events ++ each_introduced (all_variables (each_pattern comma_pat_of l.parts)) ≡ recorded l.events ++ each_introduced (all_variables (each_pattern comma_pat_of (drop l.part-index l.parts)))

abbrev pub invariant-introduce_cons_pats-loop-part : goal.invariant-introduce_cons_pats-loop-part
invariant-introduce_cons_pats-loop-part l = recorded l.initial.events ++ each_introduced (all_variables (each_pattern cons_pat_of l.parts)) ≡ recorded l.events ++ each_introduced (all_variables (each_pattern cons_pat_of (drop l.part-index l.parts)))
