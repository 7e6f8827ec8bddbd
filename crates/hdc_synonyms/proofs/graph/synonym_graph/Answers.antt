use Rattle.std.proofs.Common.{◌≡◌, suc, length, ap, ◌∙◌, arith}
use Rattle.hdc_written.specs.Mirror.{tops_behind}
use Rattle.hdc_synonyms.specs.Adding.{unlinked, top_added, each_added}
use Rattle.hdc_synonyms.specs.Synonyms.{top_needs}
use Rattle.hdc_synonyms.proofs.Adding.{size_unlinked, same_size, size_each_added, text_within, text_added}
use Rattle.hdc_synonyms.proofs.graph.synonym_graph.Goals as goal

pub add_top-requires-clause-within : goal.add_top-requires-clause-within
add_top-requires-clause-within c =
    let last : c.in_ok-last.last ≡ length c.args.tree.now.rest = c.in_ok-last.ensures ∙ c.len.ensures in
    let size = ap length c.in_ok-graph.ensures ∙ size_unlinked (suc c.in_ok-last.last) in
    text_within (length c.in_ok-graph.graph) c.args.tree.now.first c.args.tree.now.rest c.in_ok-declared.declared c.in_ok-declared.ensures (omega (arith, last, size))

pub add_next_tops-requires-clause-tops : goal.add_next_tops-requires-clause-tops
add_next_tops-requires-clause-tops c =
    let last : c.in_ok-last.last ≡ length c.args.tree.now.rest = c.in_ok-last.ensures ∙ c.len.ensures in
    let size = ap length c.in_ok-graph.ensures ∙ size_unlinked (suc c.in_ok-last.last) in
    let same = ap length c.in_ok-add_top.ensures ∙ same_size 0 (top_needs c.in_ok-declared.declared c.get.result.now) c.in_ok-graph.graph in
    let behind = ap length c.as_slice.ensures in
    omega (arith, last, size, same, behind)

pub add_next_tops-requires-clause-within : goal.add_next_tops-requires-clause-within
add_next_tops-requires-clause-within c =
    let last : c.in_ok-last.last ≡ length c.args.tree.now.rest = c.in_ok-last.ensures ∙ c.len.ensures in
    let size = ap length c.in_ok-graph.ensures ∙ size_unlinked (suc c.in_ok-last.last) in
    let same = ap length c.in_ok-add_top.ensures ∙ same_size 0 (top_needs c.in_ok-declared.declared c.get.result.now) c.in_ok-graph.graph in
    text_within (length c.add_top.new.graph) c.args.tree.now.first c.args.tree.now.rest c.in_ok-declared.declared c.in_ok-declared.ensures (omega (arith, last, size, same))

pub returns-clause-needs : goal.returns-clause-needs
returns-clause-needs c =
    let last : c.in_ok-last.last ≡ length c.args.tree.now.rest = c.in_ok-last.ensures ∙ c.len.ensures in
    let declared = c.in_ok-declared.declared in
    text_added c.args.tree.now.first c.args.tree.now.rest declared c.in_ok-graph.graph c.add_top.new.graph c.add_next_tops.new.graph
    c.in_ok-declared.ensures
    (c.in_ok-graph.ensures ∙ ap (λ n. unlinked (suc n)) last)
    (c.in_ok-add_top.ensures ∙ ap (λ t. top_added declared 0 t c.in_ok-graph.graph) c.get.ensures)
    (c.in_ok-add_next_tops.ensures ∙ ap (λ ns. each_added declared 1 (tops_behind ns) c.add_top.new.graph) c.as_slice.ensures)

pub returns-clause-size : goal.returns-clause-size
returns-clause-size c =
    let last : c.in_ok-last.last ≡ length c.args.tree.now.rest = c.in_ok-last.ensures ∙ c.len.ensures in
    let size = ap length c.in_ok-graph.ensures ∙ size_unlinked (suc c.in_ok-last.last) in
    let same = ap length c.in_ok-add_top.ensures ∙ same_size 0 (top_needs c.in_ok-declared.declared c.get.result.now) c.in_ok-graph.graph in
    let all = ap length c.in_ok-add_next_tops.ensures ∙ size_each_added c.in_ok-declared.declared 1 (tops_behind c.as_slice.result.now) c.add_top.new.graph in
    omega (arith, last, size, same, all)
