use Rattle.std.proofs.Common.{rules, arith}
use Rattle.std.proofs.lemmas.Grind.{common_steps}
use Rattle.hdc_base.specs.declared.token.Key.TheVariants as key
use Rattle.hdc_syntax.specs.Parser.{many_from}
use Rattle.hdc_syntax.specs.Words.{is}
use Rattle.hdc_syntax.proofs.Turns.{one_more}
use Rattle.hdc_expression.specs.DeclarationReader.{arrow_guard}
use Rattle.hdc_expression.specs.Nested.{nested}
use Rattle.hdc_parse.proofs.alternative.arrow_guards.Goals as goal

pub loop-turn-preserved : goal.loop-turn-preserved
loop-turn-preserved g c =
    let e = one_more (λ n. many_from (is key.KBar) (arrow_guard c.args.grammar.now.turns (nested c.args.grammar.now.turns c.args.grammar.now.depth)) n c.loop-turn.found c.loop-turn.tokens.rest.now) _ c.loop-turn._turn c.loop-turn-test.true c.loop-turn.invariant in
    first_of (search rules, grind (arith, common_steps))

pub returns-in_err-arrow_guard : goal.returns-in_err-arrow_guard
returns-in_err-arrow_guard g c =
    let e = one_more (λ n. many_from (is key.KBar) (arrow_guard c.args.grammar.now.turns (nested c.args.grammar.now.turns c.args.grammar.now.depth)) n c.loop-turn.found c.loop-turn.tokens.rest.now) _ c.loop-turn._turn c.loop-turn-test.true c.loop-turn.invariant in
    first_of (search rules, grind (arith, common_steps))
