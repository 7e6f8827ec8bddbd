use Rattle.std.proofs.Common.{◌++◌, ◌∙◌, length, ap}
use Rattle.hdc_written.specs.Mirror.{tops_of}
use Rattle.hdc_regular.specs.Order.{group_order}
use Rattle.hdc_regular.proofs.FirstIrregular.{cyclic_enough, first_in_program}
use Rattle.hdc_regular.proofs.find.find_in_program.Goals as goal

pub program_behind-requires-clause-before : goal.program_behind-requires-clause-before
program_behind-requires-clause-before c = cyclic_enough c.args.prelude.now c.in_ok-before.before c.as_slice.result.now c.in_ok-before.ensures c.as_slice.ensures

pub program_behind-requires-clause-text : goal.program_behind-requires-clause-text
program_behind-requires-clause-text c = cyclic_enough c.args.program.now c.in_ok-known.known c.as_slice-2.result.now c.in_ok-known.ensures c.as_slice-2.ensures

pub returns : goal.returns
returns c =
    let count = c.in_ok-texts.ensures.texts.count ∙ ap length c.in_ok-texts.ensures.before in
    let order =
    c.as_slice-3.ensures
    ∙ c.in_ok-add_groups-2.ensures
    ∙ ap (λ z. z ++ group_order c.in_ok-texts.texts.count c.in_ok-known.known.groups) (c.in_ok-add_groups.ensures ∙ ap (λ z. z ++ group_order 0 c.in_ok-before.before.groups) c.new-order.ensures)
    ∙ ap (λ z. group_order 0 c.in_ok-before.before.groups ++ group_order z c.in_ok-known.known.groups) count in
    first_in_program (tops_of c.args.prelude.now) (tops_of c.args.program.now) c.in_ok-before.before c.in_ok-known.known c.in_ok-before.ensures c.in_ok-known.ensures c.in_ok-texts.texts c.as_slice.result.now c.as_slice-2.result.now c.as_slice-3.result.now c.find.result
    c.in_ok-texts.ensures.before c.in_ok-texts.ensures.text c.as_slice.ensures c.as_slice-2.ensures c.in_ok-texts.ensures.sounds order c.find.ensures
