use Rattle.std.proofs.Common.{◌∙◌, List, map, drop, length, ap, arith}
use Rattle.hdc_written.specs.Breaches.{all_noted}
use Rattle.hdc_regular.specs.declared.summary.Summary.{Summary}
use Rattle.hdc_regular.specs.Demands.{no_demand}
use Rattle.hdc_regular.specs.Judged.{repeat_of}
use Rattle.hdc_regular.specs.Passes.{before_of, text_of, built_texts, summary_of, synonym_flags, summary_needs, demands_set, summaries_wrong}
use Rattle.hdc_regular.proofs.FoundInTexts.{needs_closed, needs_size, judged_found}
use Rattle.hdc_regular.proofs.find.find.Goals as goal

pub from_needs-graph-requires : goal.from_needs-graph-requires
from_needs-graph-requires c =
    let summed = c.in_ok-declarations.ensures ∙ ap (λ z. map summary_of (built_texts z c.args.texts.now)) c.as_slice.ensures in
    let needs = c.in_ok-needs.ensures ∙ ap summary_needs c.as_slice-3.ensures in
    needs_closed (before_of c.args.texts.now) (text_of c.args.texts.now) c.args.texts.now.sounds c.args.order.now c.in_ok-size.size c.in_ok-known.known c.in_ok-declarations.declarations
    c.in_ok-size.ensures.size c.in_ok-known.ensures summed c.in_ok-needs.needs.items needs

pub find_components-requires : goal.find_components-requires
find_components-requires c =
    let summed = c.in_ok-declarations.ensures ∙ ap (λ z. map summary_of (built_texts z c.args.texts.now)) c.as_slice.ensures in
    let needs = c.from_needs-graph.ensures ∙ c.in_ok-needs.ensures ∙ ap summary_needs c.as_slice-3.ensures in
    let same =
    needs_size (before_of c.args.texts.now) (text_of c.args.texts.now) c.args.texts.now.sounds c.args.order.now c.in_ok-size.size c.in_ok-known.known c.in_ok-declarations.declarations
    c.in_ok-size.ensures.size c.in_ok-known.ensures summed c.from_needs-graph.result needs in
    let small = c.in_ok-size.ensures.small in
    omega (arith, same, small)

pub returns : goal.returns
returns c =
    let ss = c.in_ok-declarations.declarations in
    let order = c.args.order.now in
    let synonyms = c.in_ok-synonyms.synonyms in
    let numbers = c.in_ok-components.components.numbers in
    let from = c.args.texts.now.count in
    let summed = c.in_ok-declarations.ensures ∙ ap (λ z. map summary_of (built_texts z c.args.texts.now)) c.as_slice.ensures in
    let needs = c.from_needs-graph.ensures ∙ c.in_ok-needs.ensures ∙ ap summary_needs c.as_slice-3.ensures in
    let flagged = c.in_ok-synonyms.ensures ∙ ap synonym_flags c.as_slice-2.ensures in
    let asked =
    c.in_ok-demands.ensures
    ∙ ap (λ (z : List Summary). demands_set z c.as_slice-5.result.now c.as_slice-6.result.now order (repeat_of no_demand (length z))) c.as_slice-4.ensures
    ∙ ap (λ z. demands_set ss z c.as_slice-6.result.now order (repeat_of no_demand (length ss))) c.as_slice-5.ensures
    ∙ ap (λ z. demands_set ss synonyms z order (repeat_of no_demand (length ss))) c.as_slice-6.ensures in
    let noted =
    c.note_from.ensures
    ∙ ap (λ z. all_noted c.nothing-found.result (summaries_wrong c.as_slice-8.result.now c.as_slice-9.result.now c.as_slice-10.result.now from (drop from z))) c.as_slice-7.ensures
    ∙ ap (λ z. all_noted c.nothing-found.result (summaries_wrong z c.as_slice-9.result.now c.as_slice-10.result.now from (drop from ss))) c.as_slice-8.ensures
    ∙ ap (λ z. all_noted c.nothing-found.result (summaries_wrong synonyms z c.as_slice-10.result.now from (drop from ss))) c.as_slice-9.ensures
    ∙ ap (λ z. all_noted c.nothing-found.result (summaries_wrong synonyms c.in_ok-demands.demands z from (drop from ss))) c.as_slice-10.ensures in
    judged_found (before_of c.args.texts.now) (text_of c.args.texts.now) c.args.texts.now.sounds order c.in_ok-size.size c.in_ok-known.known ss
    c.in_ok-size.ensures.size c.in_ok-known.ensures summed c.from_needs-graph.result numbers synonyms c.in_ok-demands.demands c.nothing-found.result c.note_from.new.found from
    needs c.in_ok-components.ensures.numbering flagged asked c.nothing-found.ensures c.requires.count noted
