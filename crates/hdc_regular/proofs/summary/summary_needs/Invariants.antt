use Rattle.std.proofs.Common.{◌≡◌, ◌++◌, drop}
use Rattle.hdc_regular.specs.Passes.{summary_needs}
use Rattle.hdc_regular.proofs.summary.summary_needs.Given as goal

abbrev pub invariant-loop-summary : goal.invariant-loop-summary
invariant-loop-summary l = summary_needs l.summaries ≡ l.needs.items ++ summary_needs (drop l.summary-index l.summaries)
