use Rattle.std.proofs.Common.{◌≡◌, ◌+◌, ◌<◌, sym, subst, arith}
use Rattle.std.proofs.lemmas.Bool.Decides.{nat_tests}
use Rattle.hdc_syntax.specs.declared.stop.Stop.TheVariants.{Syntax}
use Rattle.hdc_parse.specs.Exact.{IsSyntax, IsNesting}
use Rattle.hdc_parse.proofs.Answering.{syntax_read, left_within, ok_nested, end_nested, part_nested, nested_never_deep, deep_read}
use Rattle.hdc_parse.proofs.parser.parse_nested.Goals as goal

pub overflow_sub-index : goal.overflow_sub-index
overflow_sub-index c =
    let within = c.requires.past.within in
    left_within _ c.args.tokens.now (c.args.index + 1) c.in-Syntax.left (omega (arith, within)) (syntax_read _ c.in-Err.stop c.in-Syntax.left c.in-Err.ensures c.in-Syntax.is)

pub returns-in-Ok : goal.returns-in-Ok
returns-in-Ok c = subst (λ at. IsNesting c.args.tokens.now c.args.end at) (sym c.place_of.ensures)
    (ok_nested _ c.args.tokens.now c.args.end c.args.index c.in-Ok._tree c.requires.past c.requires.regular c.in-Ok.ensures)

pub returns-in-Syntax-eq0 : goal.returns-in-Syntax-eq0
returns-in-Syntax-eq0 c =
    let stop = c.in-Syntax-eq0.is in
    let none = c.in-Syntax-eq0.field-0-is in
    let same : c.in-Err.stop ≡ Syntax 0 = cc in
    subst (λ at. IsNesting c.args.tokens.now c.args.end at) (sym c.place_of-in-Syntax-eq0.ensures)
    (end_nested _ c.args.tokens.now c.args.end c.args.index c.requires.past c.requires.regular (syntax_read _ c.in-Err.stop 0 c.in-Err.ensures same))

pub returns-in-Syntax : goal.returns-in-Syntax
returns-in-Syntax c =
    let test = c.in-Syntax.left-test in
    let some : 0 < c.in-Syntax.left = first_of (omega (arith, test), grind (arith, nat_tests, test)) in
    subst (λ at. IsSyntax c.args.tokens.now c.args.end at) (sym c.place_of-in-Syntax.ensures)
    (part_nested _ c.args.tokens.now c.args.end c.args.index c.in-Syntax.left c.requires.past c.requires.regular some (syntax_read _ c.in-Err.stop c.in-Syntax.left c.in-Err.ensures c.in-Syntax.is))

pub unreachable-requires : goal.unreachable-requires
unreachable-requires c = nested_never_deep c.args.tokens.now c.args.index c.requires.past (deep_read _ c.in-Err.stop c.in-Err.ensures c.in-Deep.is)
