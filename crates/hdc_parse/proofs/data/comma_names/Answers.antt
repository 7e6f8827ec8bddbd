use Rattle.std.proofs.Common.{rules, arith}
use Rattle.std.proofs.lemmas.Grind.{common_steps}
use Rattle.hdc_base.specs.declared.token.Key.TheVariants as key
use Rattle.hdc_syntax.specs.Parser.{many_from}
use Rattle.hdc_syntax.specs.Words.{is}
use Rattle.hdc_syntax.proofs.Turns.{one_more}
use Rattle.hdc_parse.specs.ProgramReader.{comma_name}
use Rattle.hdc_parse.proofs.data.comma_names.Goals as goal

pub loop-turn-preserved : goal.loop-turn-preserved
loop-turn-preserved c =
    let e = one_more (λ n. many_from (is key.KComma) comma_name n c.loop-turn.found c.loop-turn.tokens.rest.now) _ c.loop-turn._turn c.loop-turn-test.true c.loop-turn.invariant in
    first_of (search rules, grind (arith, common_steps))

pub returns-in_err-comma_name : goal.returns-in_err-comma_name
returns-in_err-comma_name c =
    let e = one_more (λ n. many_from (is key.KComma) comma_name n c.loop-turn.found c.loop-turn.tokens.rest.now) _ c.loop-turn._turn c.loop-turn-test.true c.loop-turn.invariant in
    first_of (search rules, grind (arith, common_steps))
