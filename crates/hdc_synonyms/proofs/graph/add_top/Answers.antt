use Rattle.std.proofs.Common.{length, sym, subst, ◌∙◌}
use Rattle.hdc_synonyms.specs.Adding.{AllBelow}
use Rattle.hdc_synonyms.proofs.Adding.{top_below}
use Rattle.hdc_synonyms.proofs.graph.add_top.Goals as goal

pub add_needs-requires-clause-within : goal.add_needs-requires-clause-within
add_needs-requires-clause-within c =
    let limit = length c.args.graph.now in
    subst (AllBelow limit) (sym (c.as_slice.ensures ∙ c.in_ok-needs.ensures)) (top_below limit c.args.declared.now c.requires.within c.args.part.now)
