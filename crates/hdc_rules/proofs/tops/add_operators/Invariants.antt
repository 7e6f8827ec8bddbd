use Rattle.std.proofs.Common.{◌≡◌, ◌++◌, drop}
use Rattle.hdc_rules.specs.Bindings.{operators_named}
use Rattle.hdc_rules.proofs.tops.add_operators.Given as goal

abbrev pub invariant-loop-part : goal.invariant-loop-part
invariant-loop-part l = l.initial.names ++ operators_named l.rest ≡ l.names ++ operators_named (drop l.part-index l.rest)
