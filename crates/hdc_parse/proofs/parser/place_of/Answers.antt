use Rattle.std.proofs.Common.{arith}
use Rattle.std.proofs.lemmas.List.{length-drop}
use Rattle.hdc_parse.proofs.Places.{place_past}
use Rattle.hdc_parse.proofs.parser.place_of.Goals as goal

pub returns-in-empty : goal.returns-in-empty
returns-in-empty c =
    let none = c.in-empty.len_below in
    let left = length-drop c.args.index c.args.tokens.now in
    place_past c.args.tokens.now c.args.end c.args.index (first_of (omega (arith, none), omega (arith, none, left)))
