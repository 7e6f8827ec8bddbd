use Rattle.std.proofs.Common.{length, ap, ◌∙◌, arith}
use Rattle.hdc_written.specs.Mirror.{tops_of}
use Rattle.hdc_synonyms.specs.Synonyms.{declared_types}
use Rattle.hdc_synonyms.proofs.Adding.{size_tops_behind, size_each_top_needs}
use Rattle.hdc_synonyms.proofs.Noting.{first_found}
use Rattle.hdc_synonyms.proofs.cyclic.find_cyclic_synonyms.Goals as goal

pub note_tops-requires : goal.note_tops-requires
note_tops-requires c =
    let ts = tops_of c.args.tree.now in
    let looked = ap length c.as_slice.ensures in
    let each = c.in_ok-components.ensures.cyclic.each in
    let size = ap length c.in_ok-graph.ensures.needs ∙ size_each_top_needs (declared_types 0 ts) ts in
    let behind = size_tops_behind c.args.tree.now.rest in
    omega (arith, looked, each, size, behind)

pub returns : goal.returns
returns c = first_found (tops_of c.args.tree.now) c.in_ok-graph.graph c.in_ok-components.components.cyclic c.as_slice.result.now c.nothing-found.result c.note_tops.new.found c.in_ok-graph.ensures.needs c.in_ok-components.ensures.cyclic c.as_slice.ensures c.nothing-found.ensures c.note_tops.ensures
