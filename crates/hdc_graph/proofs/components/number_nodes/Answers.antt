use Rattle.std.proofs.Common.{ap, ◌∙◌, map, arith}
use Rattle.std.proofs.lemmas.List.{take_all}
use Rattle.hdc_graph.specs.Numbers.{number_of}
use Rattle.hdc_graph.proofs.Numbering.{numbered_all}
use Rattle.hdc_graph.proofs.components.number_nodes.Goals as goal

pub returns : goal.returns
returns c =
    let found = c.in_ok-search.ensures in
    let all = take_all c.loop-state.state-index c.as_slice-state-items.result.now (omega arith) in
    numbered_all c.args.graph.now c.in_ok-search.search c.loop-state.numbers found.under_way found.over (c.loop-state.invariant ∙ ap (map number_of) (all ∙ c.as_slice-state-items.ensures))
