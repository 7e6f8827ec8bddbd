use Rattle.std.proofs.Common.{◌≡◌, length, map}
use Rattle.hdc_resolved.specs.Mirror.{expression_of}
use Rattle.hdc_bindings.specs.Blocks.{applied_each}
use Rattle.hdc_bindings.proofs.made_expression.apply_all.Given as goal

abbrev pub invariant-loop-argument : goal.invariant-loop-argument
invariant-loop-argument l = applied_each l.fn.skip l.place (expression_of l.fn.function) (map expression_of l.fn.args) ≡ applied_each l.skip l.place (expression_of l.whole) (map expression_of l.rest)

abbrev pub decreases-loop-argument : goal.decreases-loop-argument
decreases-loop-argument l = length l.rest
