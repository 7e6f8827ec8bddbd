use Rattle.std.proofs.Common.{◌≡◌, ◌-◌, []}
use Rattle.hdc_syntax.specs.Parser.{many_from}
use Rattle.hdc_expression.specs.ExpressionReader.{starts_aexp, aexp}
use Rattle.hdc_expression.specs.Nested.{nested}
use Rattle.hdc_expression.proofs.grammar.Grammar.aexps.Given as goal

abbrev pub invariant-loop-turn : goal.invariant-loop-turn
invariant-loop-turn g l = many_from starts_aexp (aexp l.self.turns (nested l.self.turns l.self.depth)) l.self.turns [] l.fn.tokens.rest.now
    ≡ many_from starts_aexp (aexp l.self.turns (nested l.self.turns l.self.depth)) (l.self.turns - l._turn) l.found l.tokens.rest.now
