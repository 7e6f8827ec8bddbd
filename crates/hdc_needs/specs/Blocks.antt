-- The blocks of let and where that stand in a part of a program, those of where without declarations among them, in
-- the order in which what they are for ends.
use Rattle.std.specs.Prelude.{List, [], ◌∷◌, ◌++◌}
use Rattle.hdc_written.specs.Written.{Expression, chain, Links, no_link, link, Operand, variable, constructor, literal, unit, nil, cons, in_parentheses, tuple, list, range, comprehension, left_section, right_section, applied, lambda, let_in, if_else, case_of, Operands, no_operand, operand, Expressions, no_expression, expression, generator, condition, let_qualifier, Qualifiers, no_qualifier, qualifier, Alternative, blank, alternative, Alternatives, no_alternative, next_alternative, RightSide, plain, guarded, Guards, no_guard, guard, Declaration, empty, signature, equation, binding, Declarations, no_declaration, declaration}

abbrev mutual
  pub expression_blocks : Expression → List Declarations
  expression_blocks (chain ls s a) = link_blocks ls ++ operand_blocks a

  pub link_blocks : Links → List Declarations
  link_blocks no_link = []
  link_blocks (link s a o ls) = operand_blocks a ++ (link_blocks ls)

  pub operand_blocks : Operand → List Declarations
  operand_blocks (variable x) = []
  operand_blocks (constructor c) = []
  operand_blocks (literal a l) = []
  operand_blocks (unit a) = []
  operand_blocks (nil a) = []
  operand_blocks (cons a b) = []
  operand_blocks (in_parentheses a e) = expression_blocks e
  operand_blocks (tuple a es) = each_expression_blocks es
  operand_blocks (list a es) = each_expression_blocks es
  operand_blocks (range a e f) = expression_blocks e ++ expression_blocks f
  operand_blocks (comprehension a e qs) = blocks_behind qs (expression_blocks e)
  operand_blocks (left_section a e o) = expression_blocks e
  operand_blocks (right_section a o e) = expression_blocks e
  operand_blocks (applied f as') = operand_blocks f ++ each_operand_blocks as'
  operand_blocks (lambda a ps e) = expression_blocks e
  operand_blocks (let_in a ds e) = each_declaration_blocks ds ++ (expression_blocks e ++ (ds ∷ []))
  operand_blocks (if_else a e f g) = expression_blocks e ++ (expression_blocks f ++ expression_blocks g)
  operand_blocks (case_of a e bs) = expression_blocks e ++ each_alternative_blocks bs

  pub each_operand_blocks : Operands → List Declarations
  each_operand_blocks no_operand = []
  each_operand_blocks (operand a as') = operand_blocks a ++ each_operand_blocks as'

  pub each_expression_blocks : Expressions → List Declarations
  each_expression_blocks no_expression = []
  each_expression_blocks (expression e es) = expression_blocks e ++ each_expression_blocks es

  -- those of qualifiers and of their head
  pub blocks_behind : Qualifiers → List Declarations → List Declarations
  blocks_behind no_qualifier head = head
  blocks_behind (qualifier (generator p e) qs) head = expression_blocks e ++ blocks_behind qs head
  blocks_behind (qualifier (condition e) qs) head = expression_blocks e ++ blocks_behind qs head
  blocks_behind (qualifier (let_qualifier a ds) qs) head = each_declaration_blocks ds ++ (blocks_behind qs head ++ (ds ∷ []))

  pub alternative_blocks : Alternative → List Declarations
  alternative_blocks blank = []
  alternative_blocks (alternative p r) = right_side_blocks r

  pub each_alternative_blocks : Alternatives → List Declarations
  each_alternative_blocks no_alternative = []
  each_alternative_blocks (next_alternative b bs) = alternative_blocks b ++ each_alternative_blocks bs

  -- the block is that of the where
  pub right_side_blocks : RightSide → List Declarations
  right_side_blocks (plain e ds) = each_declaration_blocks ds ++ (expression_blocks e ++ (ds ∷ []))
  right_side_blocks (guarded a gs ds) = each_declaration_blocks ds ++ (guard_blocks gs ++ (ds ∷ []))

  pub guard_blocks : Guards → List Declarations
  guard_blocks no_guard = []
  guard_blocks (guard e f gs) = expression_blocks e ++ (expression_blocks f ++ guard_blocks gs)

  -- what a pattern binding binds is bound in its block
  pub declaration_blocks : Declaration → List Declarations
  declaration_blocks empty = []
  declaration_blocks (signature xs t) = []
  declaration_blocks (equation at x ps r) = right_side_blocks r
  declaration_blocks (binding p r) = right_side_blocks r

  pub each_declaration_blocks : Declarations → List Declarations
  each_declaration_blocks no_declaration = []
  each_declaration_blocks (declaration d ds) = declaration_blocks d ++ each_declaration_blocks ds
