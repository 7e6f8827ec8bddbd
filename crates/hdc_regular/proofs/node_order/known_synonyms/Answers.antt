use Rattle.hdc_written.specs.Mirror.{tops_of}
use Rattle.hdc_regular.proofs.Steps.{known_by}
use Rattle.hdc_regular.proofs.node_order.known_synonyms.Goals as goal

pub returns : goal.returns
returns c =
    known_by (tops_of c.args.tree.now) c.in_ok-graph.graph c.in_ok-components.components c.in_ok-groups.groups c.in_ok-graph.ensures.needs c.in_ok-components.ensures.cyclic c.in_ok-components.ensures.numbering c.in_ok-components.ensures.needs_first
    c.in_ok-components.ensures.below c.len-size.ensures.closed c.in_ok-groups.ensures
