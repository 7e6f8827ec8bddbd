use Rattle.std.proofs.Common.{suc, [], ◌∷◌, ◌++◌, sym, ap, ◌∙◌, add-one}
use Rattle.hdc_graph.specs.Needs.{Nodes}
use Rattle.hdc_synonyms.specs.Adding.{unlinked}
use Rattle.hdc_synonyms.proofs.Adding.{one_more_unlinked}
use Rattle.hdc_synonyms.proofs.graph.unlinked.Goals as goal

pub loop-node-preserved : goal.loop-node-preserved
loop-node-preserved c =
    c.in_ok-add_node-2.ensures.ok
    ∙ ap (λ (g : Nodes). g ++ [] ∷ []) c.loop-node.invariant
    ∙ one_more_unlinked (suc c.loop-node._node)
    ∙ ap (λ n. unlinked (suc n)) (sym (add-one c.loop-node._node))
