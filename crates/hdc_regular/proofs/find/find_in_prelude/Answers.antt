use Rattle.std.proofs.Common.{◌++◌, ◌∙◌, ap}
use Rattle.hdc_written.specs.Mirror.{tops_of}
use Rattle.hdc_regular.specs.Order.{group_order}
use Rattle.hdc_regular.proofs.FirstIrregular.{cyclic_enough, first_in_prelude}
use Rattle.hdc_regular.proofs.find.find_in_prelude.Goals as goal

pub prelude_alone-requires : goal.prelude_alone-requires
prelude_alone-requires c = cyclic_enough c.args.prelude.now c.in_ok-known.known c.as_slice.result.now c.in_ok-known.ensures c.as_slice.ensures

pub returns : goal.returns
returns c =
    let order = c.as_slice-2.ensures ∙ c.in_ok-add_groups.ensures ∙ ap (λ z. z ++ group_order 0 c.in_ok-known.known.groups) c.new-order.ensures in
    first_in_prelude (tops_of c.args.prelude.now) c.in_ok-known.known c.in_ok-known.ensures c.in_ok-texts.texts c.as_slice.result.now c.as_slice-2.result.now c.find.result
    c.in_ok-texts.ensures.before c.in_ok-texts.ensures.text c.as_slice.ensures c.in_ok-texts.ensures.sounds order c.find.ensures
