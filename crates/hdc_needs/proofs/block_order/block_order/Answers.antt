use Rattle.std.proofs.lemmas.Result.{IfOk-weaker}
use Rattle.std.proofs.Common.{◌≡◌, ◌∙◌, List, Bool, subst}
use Rattle.hdc_order.specs.Order.{NoValueReachesItself, order_of}
use Rattle.hdc_needs.specs.Kept.{declarations_of}
use Rattle.hdc_needs.specs.Orders.{AreFirst, IsOrderIn}
use Rattle.hdc_needs.proofs.Ordering.{order_in}
use Rattle.hdc_needs.proofs.block_order.block_order.Goals as goal

pub returns : goal.returns
returns c =
    let g = c.args.block.now.graph in
    let ds = declarations_of c.args.block.now.declarations in
    let first = subst (λ (values : List Bool). AreFirst values c.len-count.result c.in_ok-values.values) (c.as_slice.ensures ∙ c.in_ok-declared.ensures) c.in_ok-values.ensures in
    IfOk-weaker c.evaluation_order.result
    (λ order. NoValueReachesItself g c.as_slice-2.result.now → order ≡ order_of g c.as_slice-2.result.now)
    (IsOrderIn g ds)
    (λ order o. order_in g ds c.len-count.result c.in_ok-values.values c.as_slice-2.result.now order c.len-count.ensures.closed c.len-count.ensures.len first c.as_slice-2.ensures o)
    c.evaluation_order.ensures
