use Rattle.std.proofs.Common.{◌≡◌, ◌-◌, [], ◌∷◌}
use Rattle.hdc_base.specs.declared.token.Key.TheVariants as key
use Rattle.hdc_syntax.specs.Parser.{at_most_from}
use Rattle.hdc_syntax.specs.Words.{is}
use Rattle.hdc_expression.specs.ExpressionReader.{comma_exp}
use Rattle.hdc_expression.specs.Nested.{nested}
use Rattle.hdc_expression.proofs.grammar.Grammar.tuple_members.Given as goal

abbrev pub invariant-loop-turn : goal.invariant-loop-turn
invariant-loop-turn g l = at_most_from (is key.KComma) (comma_exp l.self.turns (nested l.self.turns l.self.depth)) 5 (l.fn.second ∷ []) l.fn.tokens.rest.now
    ≡ at_most_from (is key.KComma) (comma_exp l.self.turns (nested l.self.turns l.self.depth)) (5 - l._turn) l.found l.tokens.rest.now
