use Rattle.std.proofs.Common.{◌≡◌, ◌++◌, drop}
use Rattle.hdc_regular.specs.Passes.{synonym_flags}
use Rattle.hdc_regular.proofs.summary.synonym_flags.Given as goal

abbrev pub invariant-loop-summary : goal.invariant-loop-summary
invariant-loop-summary l = synonym_flags l.summaries ≡ l.flags ++ synonym_flags (drop l.summary-index l.summaries)
