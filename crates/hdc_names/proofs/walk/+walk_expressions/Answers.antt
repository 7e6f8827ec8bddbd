use Rattle.hdc_tree.specs.declared.expression.Exp.{out-Exp}
use Rattle.hdc_written.specs.Mirror.{exp_of, operand_of}
use Rattle.hdc_written.proofs.ExpressionMirror.{exp_parts}
use Rattle.hdc_names.proofs.WalkedChain.{chain_walked}
use Rattle.hdc_names.proofs.walk.+walk_expressions.Goals as goal

pub walk_exp-returns : goal.walk_exp-returns
walk_exp-returns t c =
    let part = out-Exp c.args.part.now in
    chain_walked c.walk_operand.result c.args.depth (exp_of c.args.part.now) part.links part.sign (operand_of part.last) c.in_ok-depths.depths.items c.depth_at-last.result c.args.walk.now c.note_chain.new.self c.walk_links.new.walk c.walk_operand.new.walk (exp_parts c.args.part.now) c.in_ok-depths.ensures.noted c.in_ok-depths.ensures.depths (rw (c.as_slice.ensures.value, c.as_slice-2.ensures) at c.in_ok-walk_links.ensures) (rw (c.as_slice-3.ensures.value, c.len.ensures) at c.depth_at-last.ensures) c.walk_operand.ensures
