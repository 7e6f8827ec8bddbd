-- What a program does with names, in the order of its text.
use Rattle.std.specs.Prelude.{ℕ, List, [], ◌∷◌, ◌++◌}
use Rattle.hdc_base.specs.declared.place.At.{At}
use Rattle.hdc_tree.specs.declared.name.Name.{Name}
use Rattle.hdc_tree.specs.declared.name.Op.{Op}
use Rattle.hdc_tree.specs.declared.name.Op.TheVariants as op
use Rattle.hdc_written.specs.Written.{Pattern, named, named_as, anything, built, literal_pattern, negative_pattern, unit_pattern, nil_pattern, pattern_in_parentheses, tuple_pattern, list_pattern, cons_pattern, Patterns, no_pattern, pattern}
use Rattle.hdc_written.specs.Written.{variables, all_variables, count_patterns, Expression, chain, Links, no_link, link, Operand, variable, constructor, literal, unit, nil, cons, in_parentheses, tuple, list, range, comprehension, left_section, right_section, applied, lambda, let_in, if_else, case_of, Operands, no_operand, operand, Expressions, no_expression, expression, Qualifier, generator, condition, let_qualifier, Qualifiers, no_qualifier, qualifier, Alternative, blank, alternative, Alternatives, no_alternative, next_alternative, RightSide, plain, guarded, Guards, no_guard, guard, Declaration, empty, signature, equation, binding, Declarations, no_declaration, declaration}
use Rattle.hdc_written.specs.Mirror.{var_name, op_name}

pub data Event : Type 0 where
  -- a variable is used
  used : Name → Event
  -- a constructor is used in an expression
  constructed : Name → Event
  -- a constructor is matched, with so many arguments
  matched : Name → ℕ → Event
  -- a range stands here, and a generator in the comprehension here, each of which uses a function of the prelude
  ranged : At → Event
  generated : At → Event
  -- the variables of one equation, lambda, alternative or generator come into scope, each in turn
  opened : Event
  introduced : Name → Event
  -- the names that declarations bind come into scope
  block : Declarations → Event
  -- the next declaration of the block begins, and what its declarations are for
  declaring : Event
  body : Event
  -- what came into scope last goes
  closed : Event

abbrev pub each_introduced : List Name → List Event
each_introduced [] = []
each_introduced (x ∷ xs) = introduced x ∷ each_introduced xs

-- the constructors of a pattern
abbrev mutual
  pub matches : Pattern → List Event
  matches (named x) = []
  matches (named_as x p) = matches p
  matches (anything a) = []
  matches (built c ps) = matched c (count_patterns ps) ∷ each_matches ps
  matches (literal_pattern a l) = []
  matches (negative_pattern a b n) = []
  matches (unit_pattern a) = []
  matches (nil_pattern a) = []
  matches (pattern_in_parentheses a p) = matches p
  matches (tuple_pattern a ps) = each_matches ps
  matches (list_pattern a ps) = each_matches ps
  matches (cons_pattern p colons ps) = matches p ++ each_matches ps

  pub each_matches : Patterns → List Event
  each_matches no_pattern = []
  each_matches (pattern p ps) = matches p ++ each_matches ps

abbrev pub operator_events : Op → List Event
operator_events (op.Var x) = used (op_name x) ∷ []
operator_events (op.Cons a) = []
operator_events (op.Con a c b) = constructed c ∷ []

-- what is bound by a qualifier goes behind the head
abbrev pub closing : Qualifier → List Event
closing (generator p e) = closed ∷ []
closing (condition e) = []
closing (let_qualifier a ds) = closed ∷ []

abbrev pub closings : Qualifiers → List Event
closings no_qualifier = []
closings (qualifier q qs) = closings qs ++ closing q

abbrev mutual
  pub expression_events : Expression → List Event
  expression_events (chain ls s a) = link_events ls ++ operand_events a

  pub link_events : Links → List Event
  link_events no_link = []
  link_events (link s a o ls) = operand_events a ++ (operator_events o ++ link_events ls)

  pub operand_events : Operand → List Event
  operand_events (variable x) = used (var_name x) ∷ []
  operand_events (constructor c) = constructed c ∷ []
  operand_events (literal a l) = []
  operand_events (unit a) = []
  operand_events (nil a) = []
  operand_events (cons a b) = []
  operand_events (in_parentheses a e) = expression_events e
  operand_events (tuple a es) = each_expression_events es
  operand_events (list a es) = each_expression_events es
  operand_events (range a e f) = ranged a ∷ (expression_events e ++ expression_events f)
  operand_events (comprehension a e qs) = openings a qs ++ (expression_events e ++ closings qs)
  operand_events (left_section a e o) = expression_events e ++ operator_events o
  operand_events (right_section a o e) = operator_events o ++ expression_events e
  operand_events (applied f as') = operand_events f ++ each_operand_events as'
  operand_events (lambda a ps e) = opened ∷ (each_introduced (all_variables ps) ++ (each_matches ps ++ (expression_events e ++ (closed ∷ []))))
  operand_events (let_in a ds e) = block ds ∷ (each_declaration_events ds ++ (body ∷ (expression_events e ++ (closed ∷ []))))
  operand_events (if_else a e f g) = expression_events e ++ (expression_events f ++ expression_events g)
  operand_events (case_of a e bs) = expression_events e ++ each_alternative_events bs

  pub each_operand_events : Operands → List Event
  each_operand_events no_operand = []
  each_operand_events (operand a as') = operand_events a ++ each_operand_events as'

  pub each_expression_events : Expressions → List Event
  each_expression_events no_expression = []
  each_expression_events (expression e es) = expression_events e ++ each_expression_events es

  -- a qualifier of the comprehension at this place
  pub opening : At → Qualifier → List Event
  opening a (generator p e) = generated a ∷ (expression_events e ++ (opened ∷ (each_introduced (variables p) ++ matches p)))
  opening a (condition e) = expression_events e
  opening a (let_qualifier b ds) = block ds ∷ (each_declaration_events ds ++ (body ∷ []))

  pub openings : At → Qualifiers → List Event
  openings a no_qualifier = []
  openings a (qualifier q qs) = opening a q ++ openings a qs

  pub alternative_events : Alternative → List Event
  alternative_events blank = []
  alternative_events (alternative p r) = opened ∷ (each_introduced (variables p) ++ (matches p ++ (right_side_events r ++ (closed ∷ []))))

  pub each_alternative_events : Alternatives → List Event
  each_alternative_events no_alternative = []
  each_alternative_events (next_alternative b bs) = alternative_events b ++ each_alternative_events bs

  -- the declarations are those behind where
  pub right_side_events : RightSide → List Event
  right_side_events (plain e ds) = block ds ∷ (each_declaration_events ds ++ (body ∷ (expression_events e ++ (closed ∷ []))))
  right_side_events (guarded a gs ds) = block ds ∷ (each_declaration_events ds ++ (body ∷ (guard_events gs ++ (closed ∷ []))))

  pub guard_events : Guards → List Event
  guard_events no_guard = []
  guard_events (guard e f gs) = expression_events e ++ (expression_events f ++ guard_events gs)

  -- what a pattern binding binds is bound in its block
  pub declaration_events : Declaration → List Event
  declaration_events empty = []
  declaration_events (signature xs t) = []
  declaration_events (equation at x ps r) = opened ∷ (each_introduced (all_variables ps) ++ (each_matches ps ++ (right_side_events r ++ (closed ∷ []))))
  declaration_events (binding p r) = matches p ++ right_side_events r

  pub each_declaration_events : Declarations → List Event
  each_declaration_events no_declaration = []
  each_declaration_events (declaration d ds) = declaring ∷ (declaration_events d ++ each_declaration_events ds)

-- an equation with these parameters
abbrev pub equation_events : Patterns → RightSide → List Event
equation_events ps r = opened ∷ (each_introduced (all_variables ps) ++ (each_matches ps ++ (right_side_events r ++ (closed ∷ []))))
