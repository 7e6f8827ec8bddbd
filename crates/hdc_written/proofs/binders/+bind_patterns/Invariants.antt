use Rattle.std.proofs.Common.{◌≡◌, drop}
use Rattle.hdc_written.specs.Scopes.{bound_to}
use Rattle.hdc_written.specs.Written.{all_variables}
use Rattle.hdc_written.specs.Mirror.{each_pattern, apat_of, comma_pat_of, cons_pat_of}
use Rattle.hdc_written.proofs.binders.+bind_patterns.Given as goal

abbrev pub invariant-bind_apats-loop-part : goal.invariant-bind_apats-loop-part
invariant-bind_apats-loop-part g l = bound_to l.what (all_variables (each_pattern apat_of l.parts)) l.initial.scope ≡ bound_to l.what (all_variables (each_pattern apat_of (drop l.part-index l.parts))) l.scope

abbrev pub invariant-bind_comma_pats-loop-part : goal.invariant-bind_comma_pats-loop-part
invariant-bind_comma_pats-loop-part g l = bound_to l.what (all_variables (each_pattern comma_pat_of l.parts)) l.initial.scope ≡ bound_to l.what (all_variables (each_pattern comma_pat_of (drop l.part-index l.parts))) l.scope

abbrev pub invariant-bind_cons_pats-loop-part : goal.invariant-bind_cons_pats-loop-part
invariant-bind_cons_pats-loop-part g l = bound_to l.what (all_variables (each_pattern cons_pat_of l.parts)) l.initial.scope ≡ bound_to l.what (all_variables (each_pattern cons_pat_of (drop l.part-index l.parts))) l.scope
