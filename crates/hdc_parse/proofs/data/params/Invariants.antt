use Rattle.std.proofs.Common.{◌≡◌, ◌-◌, []}
use Rattle.hdc_syntax.specs.Parser.{many_from}
use Rattle.hdc_syntax.specs.Words.{is_small, small}
use Rattle.hdc_parse.proofs.data.params.Given as goal

abbrev pub invariant-loop-turn : goal.invariant-loop-turn
invariant-loop-turn l = many_from is_small small l.turns [] l.fn.tokens.rest.now ≡ many_from is_small small (l.turns - l._turn) l.found l.tokens.rest.now
