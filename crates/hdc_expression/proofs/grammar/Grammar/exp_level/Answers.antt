use Rattle.std.proofs.Common.{◌≡◌, ◌≢◌, ◌∙◌, ◌+◌, ◌-◌, ◌&&◌, true, false, [], Err, sym, ap, rules, arith}
use Rattle.std.proofs.lemmas.Grind.{common_steps}
use Rattle.hdc_base.specs.declared.token.Key.TheVariants as key
use Rattle.hdc_tree.specs.declared.name.Sign.TheVariants as sign
use Rattle.hdc_syntax.specs.declared.stop.Stop.TheVariants.{Want}
use Rattle.hdc_syntax.specs.Parser.{head}
use Rattle.hdc_syntax.specs.Words.{is}
use Rattle.hdc_syntax.specs.Names.{starts_op}
use Rattle.hdc_syntax.proofs.Tests.{both, not_both}
use Rattle.hdc_syntax.proofs.Turns.{one_more, no_more}
use Rattle.hdc_expression.specs.ExpressionReader.{chain}
use Rattle.hdc_expression.specs.Nested.{nested}
use Rattle.hdc_expression.proofs.Chains.{chain_stopped, chain_lambda, chain_let, chain_choice, chain_cases, chain_refused, chain_ends, chain_op_refused, chain_closed, chain_on}
use Rattle.hdc_expression.proofs.grammar.Grammar.exp_level.Goals as goal
use Rattle.hdc_expression.proofs.grammar.Grammar.exp_level.Goals.{else-section-via-then-section+else-sees-5, else-section-via-else-section}

pub returns-then-sees : goal.returns-then-sees
returns-then-sees g c =
    let e = one_more (λ n. chain c.args.self.now.turns (nested c.args.self.now.turns c.args.self.now.depth) c.args.section n c.loop-turn.taken c.loop-turn.links c.loop-turn.tokens.rest.now) _ c.loop-turn._turn c.loop-turn-test.true c.loop-turn.invariant in
    let sees : is key.KBackslash (head c.signed.new.tokens.rest.now) ≡ true = cc in
    rw (e ∙ chain_lambda c.args.self.now.turns (nested c.args.self.now.turns c.args.self.now.depth) c.args.section (c.args.self.now.turns - (c.loop-turn._turn + 1)) c.loop-turn.taken c.loop-turn.links c.loop-turn.tokens.rest.now c.in_ok-sign.sign c.signed.new.tokens.rest.now c.in_ok-sign.ensures sees) c.lambda.ensures

pub returns-then-sees-2 : goal.returns-then-sees-2
returns-then-sees-2 g c =
    let e = one_more (λ n. chain c.args.self.now.turns (nested c.args.self.now.turns c.args.self.now.depth) c.args.section n c.loop-turn.taken c.loop-turn.links c.loop-turn.tokens.rest.now) _ c.loop-turn._turn c.loop-turn-test.true c.loop-turn.invariant in
    let no_lambda : is key.KBackslash (head c.signed.new.tokens.rest.now) ≡ false = cc in
    let sees : is key.KLet (head c.signed.new.tokens.rest.now) ≡ true = cc in
    rw (e ∙ chain_let c.args.self.now.turns (nested c.args.self.now.turns c.args.self.now.depth) c.args.section (c.args.self.now.turns - (c.loop-turn._turn + 1)) c.loop-turn.taken c.loop-turn.links c.loop-turn.tokens.rest.now c.in_ok-sign.sign c.signed.new.tokens.rest.now c.in_ok-sign.ensures no_lambda sees) c.let_in.ensures

pub returns-then-sees-3 : goal.returns-then-sees-3
returns-then-sees-3 g c =
    let e = one_more (λ n. chain c.args.self.now.turns (nested c.args.self.now.turns c.args.self.now.depth) c.args.section n c.loop-turn.taken c.loop-turn.links c.loop-turn.tokens.rest.now) _ c.loop-turn._turn c.loop-turn-test.true c.loop-turn.invariant in
    let no_lambda : is key.KBackslash (head c.signed.new.tokens.rest.now) ≡ false = cc in
    let no_let : is key.KLet (head c.signed.new.tokens.rest.now) ≡ false = cc in
    let sees : is key.KIf (head c.signed.new.tokens.rest.now) ≡ true = cc in
    rw (e ∙ chain_choice c.args.self.now.turns (nested c.args.self.now.turns c.args.self.now.depth) c.args.section (c.args.self.now.turns - (c.loop-turn._turn + 1)) c.loop-turn.taken c.loop-turn.links c.loop-turn.tokens.rest.now c.in_ok-sign.sign c.signed.new.tokens.rest.now c.in_ok-sign.ensures no_lambda no_let sees) c.choice.ensures

pub returns-then-sees-4 : goal.returns-then-sees-4
returns-then-sees-4 g c =
    let e = one_more (λ n. chain c.args.self.now.turns (nested c.args.self.now.turns c.args.self.now.depth) c.args.section n c.loop-turn.taken c.loop-turn.links c.loop-turn.tokens.rest.now) _ c.loop-turn._turn c.loop-turn-test.true c.loop-turn.invariant in
    let no_lambda : is key.KBackslash (head c.signed.new.tokens.rest.now) ≡ false = cc in
    let no_let : is key.KLet (head c.signed.new.tokens.rest.now) ≡ false = cc in
    let no_if : is key.KIf (head c.signed.new.tokens.rest.now) ≡ false = cc in
    let sees : is key.KCase (head c.signed.new.tokens.rest.now) ≡ true = cc in
    rw (e ∙ chain_cases c.args.self.now.turns (nested c.args.self.now.turns c.args.self.now.depth) c.args.section (c.args.self.now.turns - (c.loop-turn._turn + 1)) c.loop-turn.taken c.loop-turn.links c.loop-turn.tokens.rest.now c.in_ok-sign.sign c.signed.new.tokens.rest.now c.in_ok-sign.ensures no_lambda no_let no_if sees) c.cases.ensures

pub returns-in_err-left : goal.returns-in_err-left
returns-in_err-left g c =
    let e = one_more (λ n. chain c.args.self.now.turns (nested c.args.self.now.turns c.args.self.now.depth) c.args.section n c.loop-turn.taken c.loop-turn.links c.loop-turn.tokens.rest.now) _ c.loop-turn._turn c.loop-turn-test.true c.loop-turn.invariant in
    let no_lambda : is key.KBackslash (head c.signed.new.tokens.rest.now) ≡ false = cc in
    let no_let : is key.KLet (head c.signed.new.tokens.rest.now) ≡ false = cc in
    let no_if : is key.KIf (head c.signed.new.tokens.rest.now) ≡ false = cc in
    let no_case : is key.KCase (head c.signed.new.tokens.rest.now) ≡ false = cc in
    let f : (h : c.in_err-left.field-0.0 ≢ Want) → chain c.args.self.now.turns (nested c.args.self.now.turns c.args.self.now.depth) c.args.section c.args.self.now.turns c.args.taken [] c.args.tokens.now.rest.now ≡ Err c.in_err-left.field-0.0 = λ h. e ∙ chain_refused c.args.self.now.turns (nested c.args.self.now.turns c.args.self.now.depth) c.args.section (c.args.self.now.turns - (c.loop-turn._turn + 1)) c.loop-turn.taken c.loop-turn.links c.loop-turn.tokens.rest.now c.in_ok-sign.sign c.signed.new.tokens.rest.now c.in_ok-sign.ensures no_lambda no_let no_if no_case _ (c.in_err-left.ensures h) in
    first_of (search (rules, f), grind (arith, common_steps, f))

pub returns-then-not-sees_op : goal.returns-then-not-sees_op
returns-then-not-sees_op g c =
    let e = one_more (λ n. chain c.args.self.now.turns (nested c.args.self.now.turns c.args.self.now.depth) c.args.section n c.loop-turn.taken c.loop-turn.links c.loop-turn.tokens.rest.now) _ c.loop-turn._turn c.loop-turn-test.true c.loop-turn.invariant in
    let no_lambda : is key.KBackslash (head c.signed.new.tokens.rest.now) ≡ false = cc in
    let no_let : is key.KLet (head c.signed.new.tokens.rest.now) ≡ false = cc in
    let no_if : is key.KIf (head c.signed.new.tokens.rest.now) ≡ false = cc in
    let no_case : is key.KCase (head c.signed.new.tokens.rest.now) ≡ false = cc in
    let none : starts_op (head c.apply.new.tokens.rest.now) ≡ false = cc in
    e ∙ chain_ends c.args.self.now.turns (nested c.args.self.now.turns c.args.self.now.depth) c.args.section (c.args.self.now.turns - (c.loop-turn._turn + 1)) c.loop-turn.taken c.loop-turn.links c.loop-turn.tokens.rest.now c.in_ok-sign.sign c.signed.new.tokens.rest.now c.in_ok-sign.ensures no_lambda no_let no_if no_case c.in_ok-left.left c.apply.new.tokens.rest.now c.in_ok-left.ensures none

pub returns-in_err-op : goal.returns-in_err-op
returns-in_err-op g c =
    let e = one_more (λ n. chain c.args.self.now.turns (nested c.args.self.now.turns c.args.self.now.depth) c.args.section n c.loop-turn.taken c.loop-turn.links c.loop-turn.tokens.rest.now) _ c.loop-turn._turn c.loop-turn-test.true c.loop-turn.invariant in
    let no_lambda : is key.KBackslash (head c.signed.new.tokens.rest.now) ≡ false = cc in
    let no_let : is key.KLet (head c.signed.new.tokens.rest.now) ≡ false = cc in
    let no_if : is key.KIf (head c.signed.new.tokens.rest.now) ≡ false = cc in
    let no_case : is key.KCase (head c.signed.new.tokens.rest.now) ≡ false = cc in
    let some : starts_op (head c.apply.new.tokens.rest.now) ≡ true = cc in
    let f : (h : c.in_err-op.field-0.0 ≢ Want) → chain c.args.self.now.turns (nested c.args.self.now.turns c.args.self.now.depth) c.args.section c.args.self.now.turns c.args.taken [] c.args.tokens.now.rest.now ≡ Err c.in_err-op.field-0.0 = λ h. e ∙ chain_op_refused c.args.self.now.turns (nested c.args.self.now.turns c.args.self.now.depth) c.args.section (c.args.self.now.turns - (c.loop-turn._turn + 1)) c.loop-turn.taken c.loop-turn.links c.loop-turn.tokens.rest.now c.in_ok-sign.sign c.signed.new.tokens.rest.now c.in_ok-sign.ensures no_lambda no_let no_if no_case c.in_ok-left.left c.apply.new.tokens.rest.now c.in_ok-left.ensures some _ (c.in_err-op.ensures h) in
    first_of (search (rules, f), grind (arith, common_steps, f))

pub returns-then-sees-5 : goal.returns-then-sees-5
returns-then-sees-5 g c =
    let e = one_more (λ n. chain c.args.self.now.turns (nested c.args.self.now.turns c.args.self.now.depth) c.args.section n c.loop-turn.taken c.loop-turn.links c.loop-turn.tokens.rest.now) _ c.loop-turn._turn c.loop-turn-test.true c.loop-turn.invariant in
    let no_lambda : is key.KBackslash (head c.signed.new.tokens.rest.now) ≡ false = cc in
    let no_let : is key.KLet (head c.signed.new.tokens.rest.now) ≡ false = cc in
    let no_if : is key.KIf (head c.signed.new.tokens.rest.now) ≡ false = cc in
    let no_case : is key.KCase (head c.signed.new.tokens.rest.now) ≡ false = cc in
    let some : starts_op (head c.apply.new.tokens.rest.now) ≡ true = cc in
    let closes : (c.args.section && is key.KCloseParen (head c.op.new.self.rest.now)) ≡ true = both _ _ c.if-section.true (sym c.if-sees-5.ensures) in
    e ∙ chain_closed c.args.self.now.turns (nested c.args.self.now.turns c.args.self.now.depth) c.args.section (c.args.self.now.turns - (c.loop-turn._turn + 1)) c.loop-turn.taken c.loop-turn.links c.loop-turn.tokens.rest.now c.in_ok-sign.sign c.signed.new.tokens.rest.now c.in_ok-sign.ensures no_lambda no_let no_if no_case c.in_ok-left.left c.apply.new.tokens.rest.now c.in_ok-left.ensures some c.in_ok-op.op c.op.new.self.rest.now c.in_ok-op.ensures closes

pub loop-turn-preserved : goal.loop-turn-preserved
loop-turn-preserved g c =
    let e = one_more (λ n. chain c.args.self.now.turns (nested c.args.self.now.turns c.args.self.now.depth) c.args.section n c.loop-turn.taken c.loop-turn.links c.loop-turn.tokens.rest.now) _ c.loop-turn._turn c.loop-turn-test.true c.loop-turn.invariant in
    let no_lambda : is key.KBackslash (head c.signed.new.tokens.rest.now) ≡ false = cc in
    let no_let : is key.KLet (head c.signed.new.tokens.rest.now) ≡ false = cc in
    let no_if : is key.KIf (head c.signed.new.tokens.rest.now) ≡ false = cc in
    let no_case : is key.KCase (head c.signed.new.tokens.rest.now) ≡ false = cc in
    let some : starts_op (head c.apply.new.tokens.rest.now) ≡ true = cc in
    let on : (c.args.section && is key.KCloseParen (head c.op.new.self.rest.now)) ≡ false = elim c.else-section.branch [ else-section-via-then-section+else-sees-5 w ↦ not_both c.args.section (is key.KCloseParen (head c.op.new.self.rest.now)) (cc) | else-section-via-else-section w ↦ ap (λ a. a && is key.KCloseParen (head c.op.new.self.rest.now)) w.if-section.false ] in
    e ∙ chain_on c.args.self.now.turns (nested c.args.self.now.turns c.args.self.now.depth) c.args.section (c.args.self.now.turns - (c.loop-turn._turn + 1)) c.loop-turn.taken c.loop-turn.links c.loop-turn.tokens.rest.now c.in_ok-sign.sign c.signed.new.tokens.rest.now c.in_ok-sign.ensures no_lambda no_let no_if no_case c.in_ok-left.left c.apply.new.tokens.rest.now c.in_ok-left.ensures some c.in_ok-op.op c.op.new.self.rest.now c.in_ok-op.ensures on ∙ ap (λ xs. chain c.args.self.now.turns (nested c.args.self.now.turns c.args.self.now.depth) c.args.section (c.args.self.now.turns - (c.loop-turn._turn + 1)) sign.Absent xs c.op.new.self.rest.now) (sym c.in_ok-push.ensures.ok)

pub returns : goal.returns
unfolding chain
returns g c =
    let e = no_more (λ n. chain c.args.self.now.turns (nested c.args.self.now.turns c.args.self.now.depth) c.args.section n c.loop-turn.taken c.loop-turn.links c.loop-turn.tokens.rest.now) _ c.loop-turn._turn c.loop-turn-test.false c.loop-turn.invariant in
    λ h. e
