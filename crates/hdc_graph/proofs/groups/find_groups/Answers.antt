use Rattle.std.proofs.Common.{List, ℕ, sym, subst, ◌∙◌}
use Rattle.std.proofs.lemmas.Result.{IfOk-weaker}
use Rattle.hdc_graph.specs.Labels.{AreWithin, AreLabels}
use Rattle.hdc_graph.specs.Filling.{AreFilled}
use Rattle.hdc_graph.specs.Groups.{AreGroups}
use Rattle.hdc_graph.proofs.Finishing.{can_fill, are_groups_now}
use Rattle.hdc_graph.proofs.groups.find_groups.Goals as goal

pub start-requires : goal.start-requires
start-requires c = subst (λ (xs : List ℕ). AreWithin xs c.in_ok-needs.needs) c.as_slice-2.ensures c.in_ok-needs.ensures.within

pub fill-requires : goal.fill-requires
fill-requires c =
    let run = c.in_ok-run.ensures in
    can_fill c.args.graph.now c.run.new.self c.as_slice-3.result.now c.as_slice-4.result.now c.len-count.result c.requires (subst (AreLabels c.args.graph.now) (sym (run.later.labels ∙ c.in_ok-schedule.ensures.labels)) c.in_ok-labels.ensures) run.under_way c.as_slice-3.ensures c.as_slice-4.ensures c.len-count.ensures

pub returns : goal.returns
returns c =
    let numbers = c.in_ok-numbers.ensures in
    let labels = c.in_ok-labels.ensures in
    let needs = c.in_ok-needs.ensures.needs in
    let start = c.in_ok-schedule.ensures in
    let run = c.in_ok-run.ensures in
    IfOk-weaker c.fill.result (AreFilled c.as_slice-3.result.now c.as_slice-4.result.now c.len-count.result) (AreGroups c.args.graph.now)
    (λ groups f. are_groups_now c.args.graph.now c.in_ok-numbers.numbers c.in_ok-labels.labels c.as_slice-2.result.now c.in_ok-needs.needs c.in_ok-schedule.schedule c.run.new.self c.as_slice-4.result.now c.len-count.result groups
    numbers labels needs c.as_slice-2.ensures start.labels start.needs run.later run.under_way run.restless run.ready c.as_slice-3.result.now c.as_slice-3.ensures c.as_slice-4.ensures c.len-count.ensures f)
    c.fill.ensures
