use Rattle.hdc_graph.proofs.Inserting.{popped}
use Rattle.hdc_graph.proofs.ready.Ready.pop.Goals as goal

pub returns : goal.returns
returns c = let k = c.pop_first.ensures in popped c.self.inside.set.keys c.args.self.now c.pop_first.new.self.keys c.pop_first.result c.self.view_is k.removal k.all_above k.variant.1 k.unchanged
