use Rattle.std.proofs.Common.{◌≡◌, ◌-◌, []}
use Rattle.hdc_base.specs.declared.token.Key.TheVariants as key
use Rattle.hdc_syntax.specs.Parser.{many_from}
use Rattle.hdc_syntax.specs.Words.{is}
use Rattle.hdc_expression.specs.Nested.{nested}
use Rattle.hdc_parse.specs.ProgramReader.{next_top}
use Rattle.hdc_parse.proofs.top.next_tops.Given as goal

abbrev pub invariant-loop-turn : goal.invariant-loop-turn
invariant-loop-turn l = many_from (is key.KSemicolon) (next_top l.turns (nested l.turns l.depth)) l.turns [] l.fn.tokens.rest.now ≡ many_from (is key.KSemicolon) (next_top l.turns (nested l.turns l.depth)) (l.turns - l._turn) l.found l.tokens.rest.now
