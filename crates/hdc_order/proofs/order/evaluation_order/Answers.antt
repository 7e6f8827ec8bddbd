use Rattle.std.proofs.Common.{◌≡◌, ◌∙◌, ℕ, List, subst, sym, ap, arith, length, map, get_or}
use Rattle.std.proofs.lemmas.List.{length-map}
use Rattle.std.proofs.lemmas.Result.{IfOk-weaker}
use Rattle.hdc_graph.specs.Needs.{Nodes, needs_of}
use Rattle.hdc_order.specs.Order.{NoValueReachesItself, order_of}
use Rattle.hdc_order.specs.Kept.{kept_of, is_value_at, AreWithin}
use Rattle.hdc_order.specs.Places.{IsArrangement, ArePlaces, renumbered}
use Rattle.hdc_order.proofs.Arranging.{arranged}
use Rattle.hdc_order.proofs.Renumbering.{in_order_now, closed_now, within_groups, nodes_within}
use Rattle.hdc_order.proofs.order.evaluation_order.Goals as goal

pub places_of-requires-clause-small : goal.places_of-requires-clause-small
places_of-requires-clause-small c =
    let size = (nodes_within c.args.values.now c.as_slice.result.now (c.as_slice.ensures ∙ c.in_ok-nodes.ensures)).0 in
    let small = c.requires.small in
    let each = c.requires.each in
    omega (arith, size, small, each)

pub places_of-requires-clause-arranged : goal.places_of-requires-clause-arranged
places_of-requires-clause-arranged c = subst IsArrangement (sym (c.as_slice.ensures ∙ c.in_ok-nodes.ensures)) (arranged c.args.values.now)

pub renumber-requires-clause-within : goal.renumber-requires-clause-within
renumber-requires-clause-within c = λ m l. (
    let lies = (nodes_within c.args.values.now c.as_slice-2.result.now (c.as_slice-2.ensures ∙ c.in_ok-nodes.ensures)).1 m l in
    let each = c.requires.each in
    omega (arith, lies, each))

pub renumber-requires-clause-each : goal.renumber-requires-clause-each
renumber-requires-clause-each c =
    ap length c.as_slice-3.ensures ∙ c.in_ok-places.ensures.each ∙ (nodes_within c.args.values.now c.as_slice.result.now (c.as_slice.ensures ∙ c.in_ok-nodes.ensures)).0 ∙ c.requires.each

pub renumber-requires-clause-renumbered : goal.renumber-requires-clause-renumbered
renumber-requires-clause-renumbered c = closed_now c.args.graph.now c.args.values.now c.as_slice-2.result.now c.as_slice-3.result.now c.len-count.ensures.closed c.requires.each (c.as_slice-2.ensures ∙ c.in_ok-nodes.ensures)
    (subst (λ (ns : List ℕ). ArePlaces ns c.as_slice-3.result.now) (c.as_slice.ensures ∙ sym c.as_slice-2.ensures) (subst (ArePlaces c.as_slice.result.now) (sym c.as_slice-3.ensures) c.in_ok-places.ensures))

size_of : (g : Nodes) (nodes places : List ℕ) (h : Nodes) → h ≡ renumbered g nodes places → length h ≡ length nodes
size_of g nodes places h e = ap length e ∙ length-map nodes (λ (node : ℕ). map (λ (b : ℕ). get_or places b 0) (needs_of g node))

pub find_groups-requires : goal.find_groups-requires
find_groups-requires c =
    let h = size_of c.args.graph.now c.as_slice-2.result.now c.as_slice-3.result.now c.in_ok-renumbered.renumbered c.in_ok-renumbered.ensures in
    let size = (nodes_within c.args.values.now c.as_slice-2.result.now (c.as_slice-2.ensures ∙ c.in_ok-nodes.ensures)).0 in
    let small = c.requires.small in
    let each = c.requires.each in
    omega (arith, h, size, small, each)

pub keep_values-requires-clause-within : goal.keep_values-requires-clause-within
keep_values-requires-clause-within c = (nodes_within c.args.values.now c.as_slice-4.result.now (c.as_slice-4.ensures ∙ c.in_ok-nodes.ensures)).1

pub keep_values-requires-clause-places : goal.keep_values-requires-clause-places
keep_values-requires-clause-places c =
    let h = size_of c.args.graph.now c.as_slice-2.result.now c.as_slice-3.result.now c.in_ok-renumbered.renumbered c.in_ok-renumbered.ensures in
    subst (λ (n : ℕ). AreWithin n c.in_ok-groups.groups) (h ∙ ap length (c.as_slice-2.ensures ∙ sym c.as_slice-4.ensures)) (within_groups c.in_ok-renumbered.renumbered c.in_ok-groups.groups c.in_ok-groups.ensures)

pub returns : goal.returns
returns c =
    let nodes = c.as_slice-4.result.now in
    IfOk-weaker c.keep_values.result
    (λ kept. kept ≡ map (λ (m : ℕ). get_or nodes m 0) (kept_of (is_value_at nodes c.args.values.now) c.in_ok-groups.groups))
    (λ order. NoValueReachesItself c.args.graph.now c.args.values.now → order ≡ order_of c.args.graph.now c.args.values.now)
    (λ kept k none. in_order_now c.args.graph.now c.in_ok-renumbered.renumbered c.args.values.now nodes c.as_slice-3.result.now c.in_ok-groups.groups kept c.len-count.ensures.closed c.requires.each (c.as_slice-4.ensures ∙ c.in_ok-nodes.ensures)
    (subst (λ (ns : List ℕ). ArePlaces ns c.as_slice-3.result.now) (c.as_slice.ensures ∙ sym c.as_slice-4.ensures) (subst (ArePlaces c.as_slice.result.now) (sym c.as_slice-3.ensures) c.in_ok-places.ensures))
    (subst (λ (ns : List ℕ). c.in_ok-renumbered.renumbered ≡ renumbered c.args.graph.now ns c.as_slice-3.result.now) (c.as_slice-2.ensures ∙ sym c.as_slice-4.ensures) c.in_ok-renumbered.ensures)
    c.in_ok-groups.ensures k none)
    c.keep_values.ensures
