use Rattle.std.proofs.Common.{◌≡◌, ◌-◌, []}
use Rattle.hdc_base.specs.declared.token.Key.TheVariants as key
use Rattle.hdc_syntax.specs.Parser.{many_from}
use Rattle.hdc_syntax.specs.Words.{is}
use Rattle.hdc_parse.specs.ProgramReader.{comma_var_op}
use Rattle.hdc_parse.proofs.fixity.comma_var_ops.Given as goal

abbrev pub invariant-loop-turn : goal.invariant-loop-turn
invariant-loop-turn l = many_from (is key.KComma) comma_var_op l.turns [] l.fn.tokens.rest.now ≡ many_from (is key.KComma) comma_var_op (l.turns - l._turn) l.found l.tokens.rest.now
