use Rattle.std.proofs.Common.{◌≡◌, ◌-◌, []}
use Rattle.hdc_expression.specs.ExpressionReader.{chain}
use Rattle.hdc_expression.specs.Nested.{nested}
use Rattle.hdc_expression.proofs.grammar.Grammar.exp_level.Given as goal

abbrev pub invariant-loop-turn : goal.invariant-loop-turn
invariant-loop-turn g l = chain l.self.turns (nested l.self.turns l.self.depth) l.section l.self.turns l.fn.taken [] l.fn.tokens.rest.now
    ≡ chain l.self.turns (nested l.self.turns l.self.depth) l.section (l.self.turns - l._turn) l.taken l.links l.tokens.rest.now
