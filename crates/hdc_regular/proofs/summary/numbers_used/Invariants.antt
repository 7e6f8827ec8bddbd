use Rattle.std.proofs.Common.{◌≡◌, ◌++◌, drop}
use Rattle.hdc_regular.specs.Passes.{numbers_used}
use Rattle.hdc_regular.proofs.summary.numbers_used.Given as goal

abbrev pub invariant-loop-usage : goal.invariant-loop-usage
invariant-loop-usage l = numbers_used l.uses ≡ l.numbers ++ numbers_used (drop l.usage-index l.uses)
