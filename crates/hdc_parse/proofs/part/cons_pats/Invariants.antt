use Rattle.std.proofs.Common.{◌≡◌, ◌-◌, [], ◌∷◌}
use Rattle.hdc_base.specs.declared.token.Key.TheVariants as key
use Rattle.hdc_syntax.specs.Parser.{many_from}
use Rattle.hdc_syntax.specs.Words.{is}
use Rattle.hdc_syntax.specs.PatternReader.{cons_pat}
use Rattle.hdc_expression.specs.Nested.{nested}
use Rattle.hdc_parse.proofs.part.cons_pats.Given as goal

abbrev pub invariant-loop-turn : goal.invariant-loop-turn
invariant-loop-turn g l = many_from (is key.KColon) (cons_pat l.grammar.turns (nested l.grammar.turns l.grammar.depth).apat) l.grammar.turns (l.fn.first ∷ []) l.fn.tokens.rest.now
    ≡ many_from (is key.KColon) (cons_pat l.grammar.turns (nested l.grammar.turns l.grammar.depth).apat) (l.grammar.turns - l._turn) l.found l.tokens.rest.now
