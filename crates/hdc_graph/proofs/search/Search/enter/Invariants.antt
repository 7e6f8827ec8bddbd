use Rattle.std.proofs.Common.{◌≡◌, ◌++◌, take}
use Rattle.hdc_graph.proofs.search.Search.enter.Given as goal

abbrev pub invariant-loop-needed : goal.invariant-loop-needed
invariant-loop-needed l = l.self ≡ record l.initial.self { pending = l.initial.self.pending ++ take l.needed-index l.needed-items }
