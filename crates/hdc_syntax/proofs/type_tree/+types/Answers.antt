use Rattle.std.proofs.Common.{rules, arith, [], ◌∷◌}
use Rattle.std.proofs.lemmas.Grind.{common_steps}
use Rattle.hdc_base.specs.declared.token.Key.TheVariants as key
use Rattle.hdc_syntax.specs.Parser.{many_from, at_most_from}
use Rattle.hdc_syntax.specs.Words.{is}
use Rattle.hdc_syntax.proofs.Turns.{one_more, no_more, deeper}
use Rattle.hdc_syntax.specs.TypeReader.{arrow_type, atype, comma_type, starts_atype}
use Rattle.hdc_syntax.proofs.type_tree.+types.Goals as goal

pub atypes-loop-turn-preserved : goal.atypes-loop-turn-preserved
atypes-loop-turn-preserved m c =
    let e = one_more (λ n. many_from starts_atype (atype c.args.turns c.args.depth) n c.loop-turn.found c.loop-turn.tokens.rest.now) _ c.loop-turn._turn c.loop-turn-test.true c.loop-turn.invariant in
    first_of (search rules, grind (arith, common_steps))

pub arrow_types-loop-turn-preserved : goal.arrow_types-loop-turn-preserved
arrow_types-loop-turn-preserved m c =
    let e = one_more (λ n. many_from (is key.KRightArrow) (arrow_type c.args.turns (atype c.args.turns c.args.depth)) n c.loop-turn.found c.loop-turn.tokens.rest.now) _ c.loop-turn._turn c.loop-turn-test.true c.loop-turn.invariant in
    first_of (search rules, grind (arith, common_steps))

pub members-loop-turn-preserved : goal.members-loop-turn-preserved
members-loop-turn-preserved m c =
    let e = one_more (λ n. at_most_from (is key.KComma) (comma_type c.args.turns (atype c.args.turns c.args.depth)) n c.loop-turn.found c.loop-turn.tokens.rest.now) _ c.loop-turn._turn c.loop-turn-test.true c.loop-turn.invariant in
    first_of (search rules, grind (arith, common_steps))

pub members-returns-in_err-comma_type : goal.members-returns-in_err-comma_type
members-returns-in_err-comma_type m c =
    let e = one_more (λ n. at_most_from (is key.KComma) (comma_type c.args.turns (atype c.args.turns c.args.depth)) n c.loop-turn.found c.loop-turn.tokens.rest.now) _ c.loop-turn._turn c.loop-turn-test.true c.loop-turn.invariant in
    first_of (search rules, grind (arith, common_steps))

pub atype-returns : goal.atype-returns
unfolding atype
atype-returns m c = rw (deeper (λ n. atype c.args.turns n c.args.tokens.now.rest.now) c.args.depth (omega arith)) c.atype_level.ensures
