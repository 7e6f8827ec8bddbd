use Rattle.std.proofs.Common.{◌∙◌, false, get_or, map, sym, ap, arith}
use Rattle.std.proofs.lemmas.List.{length-map}
use Rattle.hdc_resolved.specs.Mirror.{synonym_of}
use Rattle.hdc_datas.proofs.Ranks.{graph_size, each_unfolds}
use Rattle.hdc_datas.proofs.order.order_of.Goals as goal

pub find_components-requires : goal.find_components-requires
find_components-requires c =
    let size = graph_size (map synonym_of c.args.synonyms.now) c.in_ok-graph.graph c.in_ok-graph.ensures in
    let same = length-map c.args.synonyms.now synonym_of in
    omega (arith, size, same)

pub returns-clause-order : goal.returns-clause-order
returns-clause-order c =
    each_unfolds (map synonym_of c.args.synonyms.now) c.in_ok-graph.graph c.in_ok-components.components.numbers c.in_ok-components.components.cyclic c.in_ok-graph.ensures c.in_ok-components.ensures.cyclic
    c.in_ok-components.ensures.numbering c.in_ok-components.ensures.needs_first c.in_ok-components.ensures.below
    (λ n. ap (λ z. get_or z n false) (sym c.as_slice.ensures) ∙ c.is_one_set.ensures.unset c.if-is_one_set.false n)
