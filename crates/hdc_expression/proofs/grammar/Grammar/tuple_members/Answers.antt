use Rattle.std.proofs.Common.{◌≡◌, ◌∙◌, ◌++◌, rules, arith, [], ◌∷◌, ap, sym}
use Rattle.std.proofs.lemmas.Grind.{common_steps}
use Rattle.hdc_base.specs.declared.token.Key.TheVariants as key
use Rattle.hdc_syntax.specs.Parser.{at_most_from}
use Rattle.hdc_syntax.specs.Words.{is}
use Rattle.hdc_syntax.proofs.Turns.{one_more}
use Rattle.hdc_expression.specs.ExpressionReader.{comma_exp}
use Rattle.hdc_expression.specs.Nested.{nested}
use Rattle.hdc_expression.proofs.grammar.Grammar.tuple_members.Goals as goal

pub loop-turn-preserved : goal.loop-turn-preserved
loop-turn-preserved g c =
    let e = one_more (λ n. at_most_from (is key.KComma) (comma_exp c.args.self.now.turns (nested c.args.self.now.turns c.args.self.now.depth)) n c.loop-turn.found c.loop-turn.tokens.rest.now) _ c.loop-turn._turn c.loop-turn-test.true c.loop-turn.invariant in
    first_of (search rules, grind (arith, common_steps))

pub returns-in_err-comma_exp : goal.returns-in_err-comma_exp
returns-in_err-comma_exp g c =
    let e = one_more (λ n. at_most_from (is key.KComma) (comma_exp c.args.self.now.turns (nested c.args.self.now.turns c.args.self.now.depth)) n c.loop-turn.found c.loop-turn.tokens.rest.now) _ c.loop-turn._turn c.loop-turn-test.true c.loop-turn.invariant in
    first_of (search rules, grind (arith, common_steps))

pub loop-turn-init : goal.loop-turn-init
loop-turn-init g c =
    let first : c.push.new.self ≡ c.args.second ∷ [] = c.in_ok-push.ensures.ok ∙ ap (λ found. found ++ c.args.second ∷ []) c.new-found.ensures in
    ap (λ found. at_most_from (is key.KComma) (comma_exp c.args.self.now.turns (nested c.args.self.now.turns c.args.self.now.depth)) 5 found c.args.tokens.now.rest.now) (sym first)
