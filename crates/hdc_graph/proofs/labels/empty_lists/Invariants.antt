use Rattle.hdc_graph.specs.Lists.{AreEmpty}
use Rattle.hdc_graph.proofs.labels.empty_lists.Given as goal

abbrev pub invariant-loop : goal.invariant-loop
invariant-loop l = AreEmpty l.counter l.lists
