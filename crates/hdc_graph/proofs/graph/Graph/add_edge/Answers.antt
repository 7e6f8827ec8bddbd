use Rattle.hdc_graph.proofs.Closedness.{closed_pushed}
use Rattle.hdc_graph.proofs.graph.Graph.add_edge.Goals as goal

pub invariant_of-self : goal.invariant_of-self
invariant_of-self c = closed_pushed c.self.inside.needs.items c.args.from c.args.to _ _ c.push.result c.self.invariant (rw c.self.view_is c.requires.from) (rw c.self.view_is c.requires.to) c.index_mut.ensures.value c.push.ensures.ok c.push.ensures.err
