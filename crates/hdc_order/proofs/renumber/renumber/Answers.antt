use Rattle.std.proofs.Common.{ℕ, subst, arith, sym, get_or, ap, ◌∙◌, map}
use Rattle.std.proofs.lemmas.List.{take_all}
use Rattle.std.proofs.lemmas.List.Elements.{Contains-get_or}
use Rattle.hdc_graph.specs.Needs.{IsClosed, needs_of}
use Rattle.hdc_order.proofs.renumber.renumber.Goals as goal

pub at_places-requires : goal.at_places-requires
at_places-requires c =
    let node = get_or c.args.nodes.now c.loop-node.node-index 0 in
    rw c.needs.ensures (λ i l. (let lies = c.requires.graph node (get_or (needs_of c.args.graph.now node) i 0) (Contains-get_or (needs_of c.args.graph.now node) i 0 l) in
    let each = c.requires.each in
    omega (arith, lies, each)))

pub from_needs-requires : goal.from_needs-requires
from_needs-requires c =
    let all = take_all c.loop-node.node-index c.args.nodes.now (omega arith) in
    subst IsClosed (sym (c.loop-node.invariant ∙ ap (map (λ (node : ℕ). map (λ (b : ℕ). get_or c.args.places.now b 0) (needs_of c.args.graph.now node))) all)) c.requires.renumbered
