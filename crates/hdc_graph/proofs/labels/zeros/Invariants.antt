use Rattle.hdc_graph.specs.Lists.{AreZero}
use Rattle.hdc_graph.proofs.labels.zeros.Given as goal

abbrev pub invariant-loop : goal.invariant-loop
invariant-loop l = AreZero l.counter l.zeros
