use Rattle.std.proofs.Common.{◌≡◌, ◌++◌, drop}
use Rattle.hdc_datas.specs.Needs.{below}
use Rattle.hdc_datas.proofs.graph.below.Given as goal

abbrev pub invariant-loop-number : goal.invariant-loop-number
invariant-loop-number l = below l.limit l.numbers ≡ l.kept ++ below l.limit (drop l.number-index l.numbers)
