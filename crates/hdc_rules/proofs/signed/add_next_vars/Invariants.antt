use Rattle.std.proofs.Common.{◌≡◌, ◌++◌, drop}
use Rattle.hdc_written.specs.Mirror.{names_behind}
use Rattle.hdc_rules.proofs.signed.add_next_vars.Given as goal

abbrev pub invariant-loop-part : goal.invariant-loop-part
invariant-loop-part l = l.initial.names ++ names_behind l.parts ≡ l.names ++ names_behind (drop l.part-index l.parts)
