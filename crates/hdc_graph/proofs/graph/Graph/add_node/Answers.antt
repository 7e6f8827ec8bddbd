use Rattle.std.proofs.Common.{sym, subst}
use Rattle.hdc_graph.specs.Needs.{IsClosed}
use Rattle.hdc_graph.proofs.Closedness.{closed_push}
use Rattle.hdc_graph.proofs.graph.Graph.add_node.Goals as goal

pub invariant_of-self : goal.invariant_of-self
invariant_of-self c = subst IsClosed (sym c.in_err-push.ensures.items) c.self.invariant

pub invariant_of-self-2 : goal.invariant_of-self-2
invariant_of-self-2 c = rw (c.in_ok-push.ensures.items, c.new.ensures) (closed_push c.self.inside.needs.items c.self.invariant)
