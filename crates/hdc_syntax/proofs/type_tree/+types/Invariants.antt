use Rattle.std.proofs.Common.{◌≡◌, [], ◌∷◌, ℕ, ◌+◌, ◌-◌, ◌*◌}
use Rattle.hdc_base.specs.declared.token.Key.TheVariants as key
use Rattle.hdc_syntax.specs.Parser.{many_from, at_most_from}
use Rattle.hdc_syntax.specs.Words.{is}
use Rattle.hdc_syntax.specs.TypeReader.{arrow_type, atype, comma_type, starts_atype}
use Rattle.hdc_syntax.proofs.type_tree.+types.Given as goal

-- The depth falls where what nests begins. On one level the functions call one another in one order.
abbrev pub decreases-atype : goal.decreases-atype
decreases-atype l = 16 * l.depth

abbrev pub decreases-atypes : goal.decreases-atypes
decreases-atypes l = 16 * l.depth + 1

abbrev pub decreases-applied_type : goal.decreases-applied_type
decreases-applied_type l = 16 * l.depth + 2

abbrev pub decreases-constructor_type : goal.decreases-constructor_type
decreases-constructor_type l = 16 * l.depth + 3

abbrev pub decreases-btype : goal.decreases-btype
decreases-btype l = 16 * l.depth + 4

abbrev pub decreases-arrow_type : goal.decreases-arrow_type
decreases-arrow_type l = 16 * l.depth + 5

abbrev pub decreases-arrow_types : goal.decreases-arrow_types
decreases-arrow_types l = 16 * l.depth + 6

abbrev pub decreases-type_exp : goal.decreases-type_exp
decreases-type_exp l = 16 * l.depth + 7

abbrev pub decreases-comma_type : goal.decreases-comma_type
decreases-comma_type l = 16 * l.depth + 8

abbrev pub decreases-members : goal.decreases-members
decreases-members l = 16 * l.depth + 9

abbrev pub decreases-tuple_type : goal.decreases-tuple_type
decreases-tuple_type l = 16 * l.depth + 10

abbrev pub decreases-parens_type_behind : goal.decreases-parens_type_behind
decreases-parens_type_behind l = 16 * l.depth + 11

abbrev pub decreases-parens_type : goal.decreases-parens_type
decreases-parens_type l = 16 * l.depth + 12

abbrev pub decreases-list_type : goal.decreases-list_type
decreases-list_type l = 16 * l.depth + 12

abbrev pub decreases-atype_level : goal.decreases-atype_level
decreases-atype_level l = 16 * l.depth + 13

abbrev pub invariant-atypes-loop-turn : goal.invariant-atypes-loop-turn
invariant-atypes-loop-turn l = many_from starts_atype (atype l.turns l.depth) l.turns [] l.fn.tokens.rest.now
    ≡ many_from starts_atype (atype l.turns l.depth) (l.turns - l._turn) l.found l.tokens.rest.now

abbrev pub invariant-arrow_types-loop-turn : goal.invariant-arrow_types-loop-turn
invariant-arrow_types-loop-turn l = many_from (is key.KRightArrow) (arrow_type l.turns (atype l.turns l.depth)) l.turns [] l.fn.tokens.rest.now
    ≡ many_from (is key.KRightArrow) (arrow_type l.turns (atype l.turns l.depth)) (l.turns - l._turn) l.found l.tokens.rest.now

abbrev pub invariant-members-loop-turn : goal.invariant-members-loop-turn
invariant-members-loop-turn l = at_most_from (is key.KComma) (comma_type l.turns (atype l.turns l.depth)) 5 (l.fn.second ∷ []) l.fn.tokens.rest.now
    ≡ at_most_from (is key.KComma) (comma_type l.turns (atype l.turns l.depth)) (5 - l._turn) l.found l.tokens.rest.now
