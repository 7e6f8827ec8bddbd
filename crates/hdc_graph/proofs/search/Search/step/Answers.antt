use Rattle.hdc_graph.proofs.Stepping.{path_of, keeps_closed, under_top, none_in_top, over_taken}
use Rattle.hdc_graph.proofs.search.Search.step.Goals as goal

pub close-requires-clause-path : goal.close-requires-clause-path
close-requires-clause-path c = path_of c.args.graph.now _ (under_top c.args.graph.now c.args.self.now c.take_pending.new.self c.in-Some-pop.segment c.pop.new.self c.in_default.ensures.0 c.in-Some-pop.ensures c.requires)

pub returns-in-Some-pop-clause-under_way : goal.returns-in-Some-pop-clause-under_way
returns-in-Some-pop-clause-under_way c =
    let top = under_top c.args.graph.now c.args.self.now c.take_pending.new.self c.in-Some-pop.segment c.pop.new.self c.in_default.ensures.0 c.in-Some-pop.ensures c.requires in
    keeps_closed c.args.graph.now _ c.close.new.self c.in-Some-pop.segment top (none_in_top c.args.self.now c.take_pending.new.self c.in-Some-pop.segment c.pop.new.self c.in_default.ensures.0 c.in-Some-pop.ensures c.in_default.ensures.1) c.close.ensures.nodes c.close.ensures.count

pub returns-clause-over : goal.returns-clause-over
returns-clause-over c = over_taken c.args.graph.now c.args.self.now c.take_pending.new.self c.in_default.ensures.0 c.in_default-pop.ensures.0 c.in_default.ensures.1 c.requires
