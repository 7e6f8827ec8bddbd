use Rattle.std.proofs.Common.{arith}
use Rattle.hdc_syntax.proofs.Turns.{deeper}
use Rattle.hdc_expression.specs.Nested.{nested}
use Rattle.hdc_parse.proofs.nested.+nesting.Goals as goal

pub nested_exp-returns : goal.nested_exp-returns
nested_exp-returns t c = rw (deeper (λ n. (nested c.args.turns n).exp c.args.section c.args.taken c.args.tokens.now.rest.now) c.args.depth (omega arith)) c.exp_level.ensures

pub nested_block-returns : goal.nested_block-returns
nested_block-returns t c = rw (deeper (λ n. (nested c.args.turns n).block c.args.tokens.now.rest.now) c.args.depth (omega arith)) c.block.ensures

pub nested_alts-returns : goal.nested_alts-returns
nested_alts-returns t c = rw (deeper (λ n. (nested c.args.turns n).alts c.args.tokens.now.rest.now) c.args.depth (omega arith)) c.alts.ensures
