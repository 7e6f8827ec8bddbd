use Rattle.std.proofs.Common.{◌-◌, sym, ◌∙◌, ap, subst, arith}
use Rattle.hdc_parse.specs.Exact.{IsSyntax, place_of}
use Rattle.hdc_parse.proofs.Answering.{syntax_read, left_within, count_within, parsed_answer, ok_irregular, syntax_answer, regular_never_deep, deep_read}
use Rattle.hdc_parse.proofs.parser.parse_regular.Goals as goal

pub overflow_sub-regular : goal.overflow_sub-regular
overflow_sub-regular c =
    let within = count_within c.args.tokens.now in
    let count = c.requires.count in
    left_within _ c.args.tokens.now c.args.regular c.in-Syntax.left (omega (arith, within, count)) (syntax_read _ c.in-Err.stop c.in-Syntax.left c.in-Err.ensures c.in-Syntax.is)

pub returns-then-regular-tokens : goal.returns-then-regular-tokens
returns-then-regular-tokens c =
    let all = c.if-regular-tokens.true in
    let count = c.requires.count in
    parsed_answer _ c.args.tokens.now c.in-Ok.tree (omega (arith, all, count)) (λ k lt. c.requires.nests k (omega (arith, lt, count))) (rw count at c.in-Ok.ensures)

pub returns-else-regular-tokens : goal.returns-else-regular-tokens
returns-else-regular-tokens c =
    let short = c.if-regular-tokens.false in
    let count = c.requires.count in
    subst (λ at. IsSyntax c.args.tokens.now c.args.end at) (sym (c.place_of.ensures ∙ ap (place_of c.args.tokens.now c.args.end) count))
    (ok_irregular _ c.args.tokens.now c.args.end c.in-Ok.tree (λ e. short (omega (arith, e, count))) (λ k lt. c.requires.nests k (omega (arith, lt, count))) (rw count at c.in-Ok.ensures))

pub returns-in-Syntax : goal.returns-in-Syntax
returns-in-Syntax c =
    let count = c.requires.count in
    subst (λ at. IsSyntax c.args.tokens.now c.args.end at) (sym (c.place_of-in-Syntax.ensures ∙ ap (λ n. place_of c.args.tokens.now c.args.end (n - c.in-Syntax.left)) count))
    (syntax_answer _ c.args.tokens.now c.args.end c.in-Syntax.left (λ k lt. c.requires.nests k (omega (arith, lt, count))) (rw count at (syntax_read _ c.in-Err.stop c.in-Syntax.left c.in-Err.ensures c.in-Syntax.is)))

pub unreachable-requires : goal.unreachable-requires
unreachable-requires c =
    let count = c.requires.count in
    regular_never_deep c.args.tokens.now (λ k lt. c.requires.nests k (omega (arith, lt, count))) (rw count at (deep_read _ c.in-Err.stop c.in-Err.ensures c.in-Deep.is))
