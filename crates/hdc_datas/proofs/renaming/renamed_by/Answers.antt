use Rattle.std.proofs.Common.{◌∙◌, map, sym, ap}
use Rattle.hdc_resolved.specs.Mirror.{synonym_of, type_tree_of, types}
use Rattle.hdc_datas.proofs.Finding.{renames_by}
use Rattle.hdc_datas.proofs.renaming.renamed_by.Goals as goal

pub returns-in-Synonym : goal.returns-in-Synonym
returns-in-Synonym c =
    renames_by c.args.synonyms.now c.args.number c.in-Synonym.renamed c.in-Some.synonym.now c.root_of-root.result.now c.in-Synonym.arguments c.requires.unfolds c.in-Some.ensures.lookup.3.0 c.in-Some.ensures.lookup.1
    (c.root_of-root.ensures (map synonym_of c.args.synonyms.now) c.requires.projections) c.in-Synonym.is
    (ap (λ z. types (map type_tree_of z)) (sym c.as_slice.ensures) ∙ c.are_parameters.ensures c.if-are_parameters.true) (sym c.params_of.ensures ∙ c.if-params_of-synonym.true)
