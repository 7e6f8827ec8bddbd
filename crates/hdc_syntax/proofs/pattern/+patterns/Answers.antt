use Rattle.std.proofs.Common.{rules, arith, [], ◌∷◌}
use Rattle.std.proofs.lemmas.Grind.{common_steps}
use Rattle.hdc_base.specs.declared.token.Key.TheVariants as key
use Rattle.hdc_syntax.specs.Parser.{many_from, at_most_from}
use Rattle.hdc_syntax.specs.Words.{is}
use Rattle.hdc_syntax.proofs.Turns.{one_more, no_more, deeper}
use Rattle.hdc_syntax.specs.PatternReader.{apat, comma_pat, cons_pat, starts_apat}
use Rattle.hdc_syntax.proofs.pattern.+patterns.Goals as goal

pub apats-loop-turn-preserved : goal.apats-loop-turn-preserved
apats-loop-turn-preserved m c =
    let e = one_more (λ n. many_from starts_apat (apat c.args.turns c.args.depth) n c.loop-turn.found c.loop-turn.tokens.rest.now) _ c.loop-turn._turn c.loop-turn-test.true c.loop-turn.invariant in
    first_of (search rules, grind (arith, common_steps))

pub cons_pats-loop-turn-preserved : goal.cons_pats-loop-turn-preserved
cons_pats-loop-turn-preserved m c =
    let e = one_more (λ n. many_from (is key.KColon) (cons_pat c.args.turns (apat c.args.turns c.args.depth)) n c.loop-turn.found c.loop-turn.tokens.rest.now) _ c.loop-turn._turn c.loop-turn-test.true c.loop-turn.invariant in
    first_of (search rules, grind (arith, common_steps))

pub comma_pats-loop-turn-preserved : goal.comma_pats-loop-turn-preserved
comma_pats-loop-turn-preserved m c =
    let e = one_more (λ n. many_from (is key.KComma) (comma_pat c.args.turns (apat c.args.turns c.args.depth)) n c.loop-turn.found c.loop-turn.tokens.rest.now) _ c.loop-turn._turn c.loop-turn-test.true c.loop-turn.invariant in
    first_of (search rules, grind (arith, common_steps))

pub members-loop-turn-preserved : goal.members-loop-turn-preserved
members-loop-turn-preserved m c =
    let e = one_more (λ n. at_most_from (is key.KComma) (comma_pat c.args.turns (apat c.args.turns c.args.depth)) n c.loop-turn.found c.loop-turn.tokens.rest.now) _ c.loop-turn._turn c.loop-turn-test.true c.loop-turn.invariant in
    first_of (search rules, grind (arith, common_steps))

pub members-returns-in_err-comma_pat : goal.members-returns-in_err-comma_pat
members-returns-in_err-comma_pat m c =
    let e = one_more (λ n. at_most_from (is key.KComma) (comma_pat c.args.turns (apat c.args.turns c.args.depth)) n c.loop-turn.found c.loop-turn.tokens.rest.now) _ c.loop-turn._turn c.loop-turn-test.true c.loop-turn.invariant in
    first_of (search rules, grind (arith, common_steps))

pub apat-returns : goal.apat-returns
unfolding apat
apat-returns m c = rw (deeper (λ n. apat c.args.turns n c.args.tokens.now.rest.now) c.args.depth (omega arith)) c.apat_level.ensures
