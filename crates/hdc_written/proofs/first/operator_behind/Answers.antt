use Rattle.std.proofs.Common.{get_or, sym, ap, ◌∙◌}
use Rattle.hdc_written.specs.Mirror.{Linked}
use Rattle.hdc_written.specs.Firsts.{first_of_op}
use Rattle.hdc_written.proofs.ExpressionMirror.{link_parts}
use Rattle.hdc_written.proofs.Numbered.{operator_some, operator_none}
use Rattle.hdc_written.proofs.first.operator_behind.Goals as goal

pub returns-then-number-links : goal.returns-then-number-links
returns-then-number-links c =
    let x = get_or c.args.links.now c.args.number c.index-links-number.result in
    c.first_of_op.ensures ∙ ap (λ (z : Linked). first_of_op z.op) (sym (link_parts x)) ∙ sym (operator_some c.args.links.now c.args.number c.index-links-number.result c.if-number-links.true)

pub returns-else-number-links : goal.returns-else-number-links
returns-else-number-links c = c.nowhere.ensures ∙ sym (operator_none c.args.links.now c.args.number c.if-number-links.false)
