use Rattle.std.proofs.Common.{◌≡◌, drop}
use Rattle.hdc_written.specs.Written.{all_variables}
use Rattle.hdc_written.specs.Mirror.{each_pattern, apat_of, comma_pat_of, cons_pat_of}
use Rattle.hdc_resolving.specs.Numbering.{entered}
use Rattle.hdc_resolving.proofs.binders.+enter_patterns.Given as goal

abbrev pub invariant-enter_apats-loop-part : goal.invariant-enter_apats-loop-part
invariant-enter_apats-loop-part l = entered (all_variables (each_pattern apat_of l.parts)) l.initial.walk ≡ entered (all_variables (each_pattern apat_of (drop l.part-index l.parts))) l.walk

abbrev pub invariant-enter_comma_pats-loop-part : goal.invariant-enter_comma_pats-loop-part
invariant-enter_comma_pats-loop-part l = entered (all_variables (each_pattern comma_pat_of l.parts)) l.initial.walk ≡ entered (all_variables (each_pattern comma_pat_of (drop l.part-index l.parts))) l.walk

abbrev pub invariant-enter_cons_pats-loop-part : goal.invariant-enter_cons_pats-loop-part
invariant-enter_cons_pats-loop-part l = entered (all_variables (each_pattern cons_pat_of l.parts)) l.initial.walk ≡ entered (all_variables (each_pattern cons_pat_of (drop l.part-index l.parts))) l.walk
