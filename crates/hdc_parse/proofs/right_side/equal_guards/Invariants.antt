use Rattle.std.proofs.Common.{◌≡◌, ◌-◌, []}
use Rattle.hdc_base.specs.declared.token.Key.TheVariants as key
use Rattle.hdc_syntax.specs.Parser.{many_from}
use Rattle.hdc_syntax.specs.Words.{is}
use Rattle.hdc_expression.specs.DeclarationReader.{equal_guard}
use Rattle.hdc_expression.specs.Nested.{nested}
use Rattle.hdc_parse.proofs.right_side.equal_guards.Given as goal

abbrev pub invariant-loop-turn : goal.invariant-loop-turn
invariant-loop-turn g l = many_from (is key.KBar) (equal_guard l.grammar.turns (nested l.grammar.turns l.grammar.depth)) l.grammar.turns [] l.fn.tokens.rest.now
    ≡ many_from (is key.KBar) (equal_guard l.grammar.turns (nested l.grammar.turns l.grammar.depth)) (l.grammar.turns - l._turn) l.found l.tokens.rest.now
