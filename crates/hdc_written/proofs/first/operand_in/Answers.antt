use Rattle.std.proofs.Common.{get_or, sym, ap, ◌∙◌}
use Rattle.hdc_written.specs.Mirror.{Linked, operand_of}
use Rattle.hdc_written.specs.Firsts.{first_of_operand}
use Rattle.hdc_written.proofs.ExpressionMirror.{link_parts}
use Rattle.hdc_written.proofs.Numbered.{operand_some, operand_none}
use Rattle.hdc_written.proofs.first.operand_in.Goals as goal

pub returns-then-number-links : goal.returns-then-number-links
returns-then-number-links c =
    let x = get_or c.args.links.now c.args.number c.index-links-number.result in
    c.first_of_apply.ensures ∙ ap (λ (z : Linked). first_of_operand z.operand) (sym (link_parts x)) ∙ sym (operand_some c.args.links.now (operand_of c.args.last.now) c.args.number c.index-links-number.result c.if-number-links.true)

pub returns-else-number-links : goal.returns-else-number-links
returns-else-number-links c = c.first_of_operand.ensures ∙ sym (operand_none c.args.links.now (operand_of c.args.last.now) c.args.number c.if-number-links.false)
