use Rattle.std.proofs.Common.{map}
use Rattle.hdc_resolved.specs.Mirror.{synonym_of, type_tree_of}
use Rattle.hdc_datas.proofs.Finding.{meaning_here}
use Rattle.hdc_datas.proofs.Projecting.{some_means}
use Rattle.hdc_datas.proofs.projection.projection_of.Goals as goal

pub returns-in-Some : goal.returns-in-Some
returns-in-Some c =
    some_means (map synonym_of c.args.synonyms.now) c.args.number (type_tree_of c.in-Some.synonym.now.meaning) (type_tree_of c.root_of.result.now) c.variable_of.result
    (meaning_here c.args.synonyms.now c.args.number c.in-Some.synonym.now c.requires.unfolds c.in-Some.ensures.lookup.3.0 c.in-Some.ensures.lookup.1)
    (c.root_of.ensures (map synonym_of c.args.synonyms.now) c.requires.projections) c.variable_of.ensures
