use Rattle.std.proofs.Common.{◌≡◌, [], ◌∷◌, ◌++◌, Some, w64, sym, ap, subst, ◌∙◌, rules}
use Rattle.std.proofs.lemmas.Int.{to_z-of_z}
use mir.Val.{SFits}
use Rattle.hdc_code.specs.declared.instr.Instr.TheVariants as instr
use Rattle.hdc_resolved.specs.Mirror.{expression_of}
use Rattle.hdc_resolved.proofs.Mirror.{exp_lit, exp_infix}
use Rattle.hdc_top.specs.Arithmetic.{Tree, literal, literal_tree, operation, arithmetic}
use Rattle.hdc_top.specs.Code.{exp_code}
use Rattle.hdc_top.proofs.Emitting.{operator_emitted}
use Rattle.hdc_top.proofs.generator.+emit.Goals as goal

pub returns-in_ok-put-in-Int : goal.returns-in_ok-put-in-Int
returns-in_ok-put-in-Int t c =
    let at = c.in-Lit._place in
    let read = ap (λ e. arithmetic (expression_of e)) c.in-Lit.is ∙ ap arithmetic (exp_lit at c.in-Lit.literal) ∙ ap (λ l. literal_tree at l) c.in-Int.is in
    let fits : SFits w64 c.in-Int.value = search rules in
    (literal at c.in-Int.value, read, c.in_ok-put-in-Int.ensures ∙ ap (λ n. c.args.code.now.items ++ instr.Int n ∷ []) (to_z-of_z w64 c.in-Int.value fits))

pub returns-in_ok-put-in-Infix : goal.returns-in_ok-put-in-Infix
returns-in_ok-put-in-Infix t c =
    let i = c.in-Infix in
    let u = i.operator in
    let op = c.in-Some.op in
    let left = arithmetic (expression_of c.get.result.now) in
    let right = arithmetic (expression_of c.get-in-Infix.result.now) in
    let operator = sym c.operator_of.ensures ∙ c.in-Some.is in
    let read = ap (λ e. arithmetic (expression_of e)) i.is ∙ ap arithmetic (exp_infix i._place i.left u i.right) ∙ ap (λ o. operation o u.place (arithmetic (expression_of i.left)) (arithmetic (expression_of i.right))) operator ∙ ap (λ e. operation (Some op) u.place (arithmetic (expression_of e)) (arithmetic (expression_of i.right))) (sym c.get.ensures) ∙ ap (λ e. operation (Some op) u.place left (arithmetic (expression_of e))) (sym c.get-in-Infix.ensures) in
    subst (λ o. (tree : Tree) × (o ≡ Some tree) × (c.put-in-Infix.new.code.items ≡ c.args.code.now.items ++ exp_code tree)) (sym read)
    (operator_emitted op u.place left right c.args.code.now.items c.emit.new.code.items c.emit-in-Infix.new.code.items c.put-in-Infix.new.code.items c.in_ok-emit-in-Infix.field-0 c.in_ok-emit-in-Infix-2.field-0 c.if-not-branch.false c.if-not-branch-2.false c.in_ok-emit-in-Infix.ensures c.in_ok-emit-in-Infix-2.ensures c.in_ok-put-in-Infix.ensures)
