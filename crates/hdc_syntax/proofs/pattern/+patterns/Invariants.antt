use Rattle.std.proofs.Common.{◌≡◌, [], ◌∷◌, ℕ, ◌+◌, ◌-◌, ◌*◌}
use Rattle.hdc_base.specs.declared.token.Key.TheVariants as key
use Rattle.hdc_syntax.specs.Parser.{many_from, at_most_from}
use Rattle.hdc_syntax.specs.Words.{is}
use Rattle.hdc_syntax.specs.PatternReader.{apat, comma_pat, cons_pat, starts_apat}
use Rattle.hdc_syntax.proofs.pattern.+patterns.Given as goal

-- The depth falls where what nests begins. On one level the functions call one another in one order.
abbrev pub decreases-apat : goal.decreases-apat
decreases-apat l = 16 * l.depth

abbrev pub decreases-apats : goal.decreases-apats
decreases-apats l = 16 * l.depth + 1

abbrev pub decreases-applied_pat : goal.decreases-applied_pat
decreases-applied_pat l = 16 * l.depth + 2

abbrev pub decreases-constructor_pat : goal.decreases-constructor_pat
decreases-constructor_pat l = 16 * l.depth + 3

abbrev pub decreases-left_pat : goal.decreases-left_pat
decreases-left_pat l = 16 * l.depth + 4

abbrev pub decreases-cons_pat : goal.decreases-cons_pat
decreases-cons_pat l = 16 * l.depth + 5

abbrev pub decreases-cons_pats : goal.decreases-cons_pats
decreases-cons_pats l = 16 * l.depth + 6

abbrev pub decreases-pat_behind : goal.decreases-pat_behind
decreases-pat_behind l = 16 * l.depth + 7

abbrev pub decreases-pat : goal.decreases-pat
decreases-pat l = 16 * l.depth + 8

abbrev pub decreases-comma_pat : goal.decreases-comma_pat
decreases-comma_pat l = 16 * l.depth + 9

abbrev pub decreases-comma_pats : goal.decreases-comma_pats
decreases-comma_pats l = 16 * l.depth + 10

abbrev pub decreases-members : goal.decreases-members
decreases-members l = 16 * l.depth + 10

abbrev pub decreases-tuple_pat : goal.decreases-tuple_pat
decreases-tuple_pat l = 16 * l.depth + 11

abbrev pub decreases-parens_behind : goal.decreases-parens_behind
decreases-parens_behind l = 16 * l.depth + 12

abbrev pub decreases-parens_pat : goal.decreases-parens_pat
decreases-parens_pat l = 16 * l.depth + 13

abbrev pub decreases-members_pat : goal.decreases-members_pat
decreases-members_pat l = 16 * l.depth + 13

abbrev pub decreases-list_pat : goal.decreases-list_pat
decreases-list_pat l = 16 * l.depth + 14

abbrev pub decreases-named_pat : goal.decreases-named_pat
decreases-named_pat l = 16 * l.depth + 14

abbrev pub decreases-apat_level : goal.decreases-apat_level
decreases-apat_level l = 16 * l.depth + 15

abbrev pub invariant-apats-loop-turn : goal.invariant-apats-loop-turn
invariant-apats-loop-turn l = many_from starts_apat (apat l.turns l.depth) l.turns [] l.fn.tokens.rest.now
    ≡ many_from starts_apat (apat l.turns l.depth) (l.turns - l._turn) l.found l.tokens.rest.now

abbrev pub invariant-cons_pats-loop-turn : goal.invariant-cons_pats-loop-turn
invariant-cons_pats-loop-turn l = many_from (is key.KColon) (cons_pat l.turns (apat l.turns l.depth)) l.turns [] l.fn.tokens.rest.now
    ≡ many_from (is key.KColon) (cons_pat l.turns (apat l.turns l.depth)) (l.turns - l._turn) l.found l.tokens.rest.now

abbrev pub invariant-comma_pats-loop-turn : goal.invariant-comma_pats-loop-turn
invariant-comma_pats-loop-turn l = many_from (is key.KComma) (comma_pat l.turns (apat l.turns l.depth)) l.turns [] l.fn.tokens.rest.now
    ≡ many_from (is key.KComma) (comma_pat l.turns (apat l.turns l.depth)) (l.turns - l._turn) l.found l.tokens.rest.now

abbrev pub invariant-members-loop-turn : goal.invariant-members-loop-turn
invariant-members-loop-turn l = at_most_from (is key.KComma) (comma_pat l.turns (apat l.turns l.depth)) 5 (l.fn.second ∷ []) l.fn.tokens.rest.now
    ≡ at_most_from (is key.KComma) (comma_pat l.turns (apat l.turns l.depth)) (5 - l._turn) l.found l.tokens.rest.now
