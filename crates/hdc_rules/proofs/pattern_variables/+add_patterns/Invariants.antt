use Rattle.std.proofs.Common.{◌≡◌, ◌++◌, drop}
use Rattle.hdc_written.specs.Written.{all_variables}
use Rattle.hdc_written.specs.Mirror.{each_pattern, apat_of, comma_pat_of, cons_pat_of}
use Rattle.hdc_rules.proofs.pattern_variables.+add_patterns.Given as goal

abbrev pub invariant-add_apats-loop-part : goal.invariant-add_apats-loop-part
invariant-add_apats-loop-part l = l.initial.names ++ all_variables (each_pattern apat_of l.parts) ≡ l.names ++ all_variables (each_pattern apat_of (drop l.part-index l.parts))

abbrev pub invariant-add_comma_pats-loop-part : goal.invariant-add_comma_pats-loop-part
invariant-add_comma_pats-loop-part l = l.initial.names ++ all_variables (each_pattern comma_pat_of l.parts) ≡ l.names ++ all_variables (each_pattern comma_pat_of (drop l.part-index l.parts))

abbrev pub invariant-add_cons_pats-loop-part : goal.invariant-add_cons_pats-loop-part
invariant-add_cons_pats-loop-part l = l.initial.names ++ all_variables (each_pattern cons_pat_of l.parts) ≡ l.names ++ all_variables (each_pattern cons_pat_of (drop l.part-index l.parts))
