use Rattle.std.proofs.Common.{get_or, sym, ap, ◌∙◌}
use Rattle.hdc_tree.specs.declared.expression.Link.{Link, out-Link}
use Rattle.hdc_written.specs.Mirror.{Linked, apply_of, operand_of}
use Rattle.hdc_written.specs.Firsts.{first_of_operand, behind_sign}
use Rattle.hdc_written.proofs.ExpressionMirror.{link_parts}
use Rattle.hdc_written.proofs.Numbered.{start_some, start_none}
use Rattle.hdc_written.proofs.first.start_in.Goals as goal

pub returns-then-number-links : goal.returns-then-number-links
returns-then-number-links c =
    let x = get_or c.args.links.now c.args.number c.index-links-number.result in
    c.behind_sign.ensures
    ∙ ap (behind_sign (out-Link c.index-links-number.result).sign) c.first_of_apply.ensures
    ∙ ap (λ (z : Link). behind_sign (out-Link z).sign (first_of_operand (apply_of (out-Link z).left))) c.index-links-number.is
    ∙ ap (λ (z : Linked). behind_sign z.sign (first_of_operand z.operand)) (sym (link_parts x))
    ∙ sym (start_some c.args.links.now c.args.sign (operand_of c.args.last.now) c.args.number c.index-links-number.result c.if-number-links.true)

pub returns-else-number-links : goal.returns-else-number-links
returns-else-number-links c = c.behind_sign-else-number-links.ensures ∙ ap (behind_sign c.args.sign) c.first_of_operand.ensures ∙ sym (start_none c.args.links.now c.args.sign (operand_of c.args.last.now) c.args.number c.if-number-links.false)
