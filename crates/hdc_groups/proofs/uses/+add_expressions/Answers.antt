use Rattle.std.proofs.Common.{◌++◌, ap, ◌∙◌, append_assoc}
use Rattle.hdc_resolved.specs.declared.expression.Guard.{out-Guard}
use Rattle.hdc_resolved.specs.Mirror.{expression_of}
use Rattle.hdc_groups.specs.TopUses.{expression_uses}
use Rattle.hdc_groups.proofs.Loops.{next_equation, next_guard, next_member}
use Rattle.hdc_groups.proofs.uses.+add_expressions.Goals as goal

pub add_equations-loop-part-preserved : goal.add_equations-loop-part-preserved
add_equations-loop-part-preserved t c = next_equation c.args.parts.now c.loop-part.part-index c.part-item.result c.args.uses.now c.loop-part.uses c.add_right.new.uses c.loop-part.invariant c.loop-part-test.true c.part-item.is c.in_ok-add_right.ensures

pub add_guards-loop-part-preserved : goal.add_guards-loop-part-preserved
add_guards-loop-part-preserved t c =
    let body = expression_uses (expression_of (out-Guard c.part-item.result).body) in
    next_guard c.args.parts.now c.loop-part.part-index c.part-item.result c.args.uses.now c.loop-part.uses c.add_exp-in-loop-part.new.uses c.loop-part.invariant c.loop-part-test.true c.part-item.is
    (c.in_ok-add_exp-2.ensures ∙ ap (λ z. z ++ body) c.in_ok-add_exp.ensures ∙ append_assoc c.loop-part.uses (expression_uses (expression_of (out-Guard c.part-item.result).test)) body)

pub add_members-loop-part-preserved : goal.add_members-loop-part-preserved
add_members-loop-part-preserved t c = next_member c.args.parts.now c.loop-part.part-index c.part-item.result c.args.uses.now c.loop-part.uses c.add_member.new.uses c.loop-part.invariant c.loop-part-test.true c.part-item.is c.in_ok-add_member.ensures
