use Rattle.std.proofs.Common.{◌≡◌, ◌++◌, map, drop}
use Rattle.hdc_regular.specs.Passes.{summary_of, built_texts}
use Rattle.hdc_regular.proofs.summary.summaries.Given as goal

abbrev pub invariant-loop-number : goal.invariant-loop-number
invariant-loop-number l = map summary_of (built_texts l.outlines l.texts) ≡ l.summaries ++ map summary_of (drop l.number (built_texts l.outlines l.texts))
