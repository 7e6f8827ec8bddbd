-- The names that a part of a program uses and does not bind itself.
use Rattle.std.specs.Prelude.{List, [], ◌∷◌, ◌++◌, if◌then◌else◌}
use Rattle.hdc_tree.specs.declared.name.Name.{Name}
use Rattle.hdc_tree.specs.declared.name.Op.{Op}
use Rattle.hdc_tree.specs.declared.name.Op.TheVariants as op
use Rattle.hdc_written.specs.Written.{variables, all_variables, Expression, chain, Links, no_link, link, Operand, variable, constructor, literal, unit, nil, cons, in_parentheses, tuple, list, range, comprehension, left_section, right_section, applied, lambda, let_in, if_else, case_of, Operands, no_operand, operand, Expressions, no_expression, expression, generator, condition, let_qualifier, Qualifiers, no_qualifier, qualifier, Alternative, blank, alternative, Alternatives, no_alternative, next_alternative, RightSide, plain, guarded, Guards, no_guard, guard, Declaration, empty, signature, equation, binding, Declarations, no_declaration, declaration, all_bound}
use Rattle.hdc_written.specs.Mirror.{var_name, op_name}
use Rattle.hdc_written.specs.Scopes.{names_text}

-- names that are bound go
abbrev pub without : List Name → List Name → List Name
without xs [] = []
without xs (y ∷ ys) = if names_text xs y.text then without xs ys else y ∷ without xs ys

-- the variable that an operator is
abbrev pub operator_name : Op → List Name
operator_name (op.Var x) = op_name x ∷ []
operator_name (op.Cons a) = []
operator_name (op.Con a c b) = []

abbrev mutual
  pub free_expression : Expression → List Name
  free_expression (chain ls s a) = free_links ls ++ free_operand a

  pub free_links : Links → List Name
  free_links no_link = []
  free_links (link s a o ls) = free_operand a ++ (operator_name o ++ free_links ls)

  pub free_operand : Operand → List Name
  free_operand (variable x) = var_name x ∷ []
  free_operand (constructor c) = []
  free_operand (literal a l) = []
  free_operand (unit a) = []
  free_operand (nil a) = []
  free_operand (cons a b) = []
  free_operand (in_parentheses a e) = free_expression e
  free_operand (tuple a es) = free_expressions es
  free_operand (list a es) = free_expressions es
  free_operand (range a e f) = free_expression e ++ free_expression f
  free_operand (comprehension a e qs) = free_behind qs (free_expression e)
  free_operand (left_section a e o) = free_expression e ++ operator_name o
  free_operand (right_section a o e) = operator_name o ++ free_expression e
  free_operand (applied f as') = free_operand f ++ free_operands as'
  free_operand (lambda a ps e) = without (all_variables ps) (free_expression e)
  free_operand (let_in a ds e) = without (all_bound ds) (free_declarations ds ++ free_expression e)
  free_operand (if_else a e f g) = free_expression e ++ (free_expression f ++ free_expression g)
  free_operand (case_of a e bs) = free_expression e ++ free_alternatives bs

  pub free_operands : Operands → List Name
  free_operands no_operand = []
  free_operands (operand a as') = free_operand a ++ free_operands as'

  pub free_expressions : Expressions → List Name
  free_expressions no_expression = []
  free_expressions (expression e es) = free_expression e ++ free_expressions es

  -- what a head uses is bound by the qualifiers before it
  pub free_behind : Qualifiers → List Name → List Name
  free_behind no_qualifier head = head
  free_behind (qualifier (generator p e) qs) head = free_expression e ++ without (variables p) (free_behind qs head)
  free_behind (qualifier (condition e) qs) head = free_expression e ++ free_behind qs head
  free_behind (qualifier (let_qualifier a ds) qs) head = without (all_bound ds) (free_declarations ds ++ free_behind qs head)

  pub free_alternative : Alternative → List Name
  free_alternative blank = []
  free_alternative (alternative p r) = without (variables p) (free_right_side r)

  pub free_alternatives : Alternatives → List Name
  free_alternatives no_alternative = []
  free_alternatives (next_alternative b bs) = free_alternative b ++ free_alternatives bs

  pub free_right_side : RightSide → List Name
  free_right_side (plain e ds) = without (all_bound ds) (free_declarations ds ++ free_expression e)
  free_right_side (guarded a gs ds) = without (all_bound ds) (free_declarations ds ++ free_guards gs)

  pub free_guards : Guards → List Name
  free_guards no_guard = []
  free_guards (guard e f gs) = free_expression e ++ (free_expression f ++ free_guards gs)

  pub free_declaration : Declaration → List Name
  free_declaration empty = []
  free_declaration (signature xs t) = []
  free_declaration (equation at x ps r) = without (all_variables ps) (free_right_side r)
  free_declaration (binding p r) = free_right_side r

  pub free_declarations : Declarations → List Name
  free_declarations no_declaration = []
  free_declarations (declaration d ds) = free_declaration d ++ free_declarations ds
