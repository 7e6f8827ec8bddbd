use Rattle.std.proofs.Common.{subst}
use Rattle.hdc_graph.specs.Needs.{IsClosed}
use Rattle.hdc_graph.proofs.graph.Graph.len.Goals as goal

pub returns-clause-closed : goal.returns-clause-closed
returns-clause-closed c = subst IsClosed c.self.view_is c.self.invariant
