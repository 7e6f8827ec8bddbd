use Rattle.std.proofs.Common.{◌≡◌, ◌++◌, drop}
use Rattle.hdc_written.specs.Mirror.{tops_behind}
use Rattle.hdc_rules.specs.Bindings.{top_bindings}
use Rattle.hdc_rules.proofs.tops.add_next_bound.Given as goal

abbrev pub invariant-loop-part : goal.invariant-loop-part
invariant-loop-part l = l.initial.names ++ top_bindings l.initial.going (tops_behind l.parts) ≡ l.names ++ top_bindings l.going (tops_behind (drop l.part-index l.parts))
