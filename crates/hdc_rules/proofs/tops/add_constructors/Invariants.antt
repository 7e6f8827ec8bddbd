use Rattle.std.proofs.Common.{◌≡◌, ◌++◌, drop}
use Rattle.hdc_rules.specs.Bindings.{constructors_named}
use Rattle.hdc_rules.proofs.tops.add_constructors.Given as goal

abbrev pub invariant-loop-part : goal.invariant-loop-part
invariant-loop-part l = l.initial.names ++ constructors_named l.rest ≡ l.names ++ constructors_named (drop l.part-index l.rest)
