use Rattle.hdc_graph.specs.Search.{IsUnderWay, work}
use Rattle.hdc_graph.proofs.search.search_all.Given as goal

abbrev pub invariant-loop-search : goal.invariant-loop-search
invariant-loop-search l = IsUnderWay l.graph l.search

abbrev pub decreases-loop-search : goal.decreases-loop-search
decreases-loop-search l = work l.graph l.search
