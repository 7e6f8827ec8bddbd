use Rattle.hdc_graph.specs.Lists.{AreNone}
use Rattle.hdc_graph.proofs.labels.nones.Given as goal

abbrev pub invariant-loop : goal.invariant-loop
invariant-loop l = AreNone l.counter l.nones
