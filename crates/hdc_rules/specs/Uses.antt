-- What is broken in right sides: what is used is known, what is bound together is bound once, constructors are matched with as
-- many arguments as they have fields; and what is broken in their blocks.
use Rattle.std.specs.Prelude.{List, [], ◌∷◌, ◌++◌, codes}
use Rattle.hdc_base.specs.declared.place.At.{At}
use Rattle.hdc_tree.specs.declared.name.Name.{Name}
use Rattle.hdc_tree.specs.declared.name.Op.{Op}
use Rattle.hdc_tree.specs.declared.name.Op.TheVariants as op
use Rattle.hdc_tree.specs.declared.program.Top.{Top}
use Rattle.hdc_tree.specs.declared.program.Top.TheVariants as top
use Rattle.hdc_written.specs.declared.breach.Breach.{Breach}
use Rattle.hdc_written.specs.Scopes.{standing_for, bound_to, names_text}
use Rattle.hdc_written.specs.Written.{Pattern, named, named_as, anything, built, literal_pattern, negative_pattern, unit_pattern, nil_pattern, pattern_in_parentheses, tuple_pattern, list_pattern, cons_pattern, Patterns, no_pattern, pattern}
use Rattle.hdc_written.specs.Written.{variables, all_variables, count_patterns, Expression, chain, Links, no_link, link, Operand, variable, constructor, literal, unit, nil, cons, in_parentheses, tuple, list, range, comprehension, left_section, right_section, applied, lambda, let_in, if_else, case_of, Operands, no_operand, operand, Expressions, no_expression, expression, Qualifier, generator, condition, let_qualifier, Qualifiers, no_qualifier, qualifier, Alternative, blank, alternative, Alternatives, no_alternative, next_alternative, RightSide, plain, guarded, Guards, no_guard, guard, Declaration, empty, signature, equation, binding, Declarations, no_declaration, declaration, all_bound}
use Rattle.hdc_written.specs.Mirror.{var_name, op_name, head_patterns, rhs_of}
use Rattle.hdc_rules.specs.declared.known.Known.{Known}
use Rattle.hdc_rules.specs.Known.{Values, Counted, skeletons, prelude_values, program_values, prelude_known, program_known}
use Rattle.hdc_rules.specs.Names.{where_so, unknown, unless_some, unless_counted, is_skeleton}
use Rattle.hdc_rules.specs.Bindings.{block_breaches, tops_breaches}

-- names that come into scope
abbrev pub locally : List Name → Values → Values
locally = bound_to tt

-- the variables of one equation, lambda, alternative or generator, behind these: none stands twice, and none is a skeleton
abbrev pub bound_together : List Name → List Name → List Breach
bound_together seen [] = []
bound_together seen (x ∷ xs) = where_so (names_text seen x.text) 3 x.at ++ (is_skeleton (standing_for x.text skeletons) x.at ++ bound_together (x ∷ seen) xs)

abbrev mutual
  pub pattern_breaches : Counted → Pattern → List Breach
  pattern_breaches cs (named x) = []
  pattern_breaches cs (named_as x p) = pattern_breaches cs p
  pattern_breaches cs (anything a) = []
  pattern_breaches cs (built c ps) = unless_counted (standing_for c.text cs) 6 (count_patterns ps) c.at ++ each_pattern_breaches cs ps
  pattern_breaches cs (literal_pattern a l) = []
  pattern_breaches cs (negative_pattern a b n) = []
  pattern_breaches cs (unit_pattern a) = []
  pattern_breaches cs (nil_pattern a) = []
  pattern_breaches cs (pattern_in_parentheses a p) = pattern_breaches cs p
  pattern_breaches cs (tuple_pattern a ps) = each_pattern_breaches cs ps
  pattern_breaches cs (list_pattern a ps) = each_pattern_breaches cs ps
  pattern_breaches cs (cons_pattern p colons ps) = pattern_breaches cs p ++ each_pattern_breaches cs ps

  pub each_pattern_breaches : Counted → Patterns → List Breach
  each_pattern_breaches cs no_pattern = []
  each_pattern_breaches cs (pattern p ps) = pattern_breaches cs p ++ each_pattern_breaches cs ps

-- what is in scope behind qualifiers
abbrev pub behind : Values → Qualifier → Values
behind v (generator p e) = locally (variables p) v
behind v (condition e) = v
behind v (let_qualifier a ds) = locally (all_bound ds) v

abbrev pub all_behind : Values → Qualifiers → Values
all_behind v no_qualifier = v
all_behind v (qualifier q qs) = all_behind (behind v q) qs

module _ (k : Known) where
  abbrev pub operator_breaches : Values → Op → List Breach
  operator_breaches v (op.Var x) = unknown v (op_name x).text (op_name x).at
  operator_breaches v (op.Cons a) = []
  operator_breaches v (op.Con a c b) = unless_some (standing_for c.text k.constructors) c.at

  abbrev mutual
    pub expression_breaches : Values → Expression → List Breach
    expression_breaches v (chain ls s a) = link_breaches v ls ++ operand_breaches v a

    pub link_breaches : Values → Links → List Breach
    link_breaches v no_link = []
    link_breaches v (link s a o ls) = operand_breaches v a ++ (operator_breaches v o ++ link_breaches v ls)

    pub operand_breaches : Values → Operand → List Breach
    operand_breaches v (variable x) = unknown v (var_name x).text (var_name x).at
    operand_breaches v (constructor c) = unless_some (standing_for c.text k.constructors) c.at
    operand_breaches v (literal a l) = []
    operand_breaches v (unit a) = []
    operand_breaches v (nil a) = []
    operand_breaches v (cons a b) = []
    operand_breaches v (in_parentheses a e) = expression_breaches v e
    operand_breaches v (tuple a es) = each_expression_breaches v es
    operand_breaches v (list a es) = each_expression_breaches v es
    operand_breaches v (range a e f) = unknown k.library (codes "enumFromTo") a ++ (expression_breaches v e ++ expression_breaches v f)
    operand_breaches v (comprehension a e qs) = each_qualifier_breaches v a qs ++ expression_breaches (all_behind v qs) e
    operand_breaches v (left_section a e o) = expression_breaches v e ++ operator_breaches v o
    operand_breaches v (right_section a o e) = operator_breaches v o ++ expression_breaches v e
    operand_breaches v (applied f as') = operand_breaches v f ++ each_operand_breaches v as'
    operand_breaches v (lambda a ps e) = bound_together [] (all_variables ps) ++ (each_pattern_breaches k.constructors ps ++ expression_breaches (locally (all_variables ps) v) e)
    operand_breaches v (let_in a ds e) = block_breaches k.types ds ++ (each_declaration_breaches (locally (all_bound ds) v) ds ++ expression_breaches (locally (all_bound ds) v) e)
    operand_breaches v (if_else a e f g) = expression_breaches v e ++ (expression_breaches v f ++ expression_breaches v g)
    operand_breaches v (case_of a e bs) = expression_breaches v e ++ each_alternative_breaches v bs

    pub each_operand_breaches : Values → Operands → List Breach
    each_operand_breaches v no_operand = []
    each_operand_breaches v (operand a as') = operand_breaches v a ++ each_operand_breaches v as'

    pub each_expression_breaches : Values → Expressions → List Breach
    each_expression_breaches v no_expression = []
    each_expression_breaches v (expression e es) = expression_breaches v e ++ each_expression_breaches v es

    -- a qualifier of the comprehension at this place
    pub qualifier_breaches : Values → At → Qualifier → List Breach
    qualifier_breaches v a (generator p e) = unknown k.library (codes "concatMap") a ++ (expression_breaches v e ++ (bound_together [] (variables p) ++ pattern_breaches k.constructors p))
    qualifier_breaches v a (condition e) = expression_breaches v e
    qualifier_breaches v a (let_qualifier b ds) = block_breaches k.types ds ++ each_declaration_breaches (locally (all_bound ds) v) ds

    pub each_qualifier_breaches : Values → At → Qualifiers → List Breach
    each_qualifier_breaches v a no_qualifier = []
    each_qualifier_breaches v a (qualifier q qs) = qualifier_breaches v a q ++ each_qualifier_breaches (behind v q) a qs

    pub alternative_breaches : Values → Alternative → List Breach
    alternative_breaches v blank = []
    alternative_breaches v (alternative p r) = bound_together [] (variables p) ++ (pattern_breaches k.constructors p ++ right_side_breaches (locally (variables p) v) r)

    pub each_alternative_breaches : Values → Alternatives → List Breach
    each_alternative_breaches v no_alternative = []
    each_alternative_breaches v (next_alternative b bs) = alternative_breaches v b ++ each_alternative_breaches v bs

    pub right_side_breaches : Values → RightSide → List Breach
    right_side_breaches v (plain e ds) = block_breaches k.types ds ++ (each_declaration_breaches (locally (all_bound ds) v) ds ++ expression_breaches (locally (all_bound ds) v) e)
    right_side_breaches v (guarded a gs ds) = block_breaches k.types ds ++ (each_declaration_breaches (locally (all_bound ds) v) ds ++ guard_breaches (locally (all_bound ds) v) gs)

    pub guard_breaches : Values → Guards → List Breach
    guard_breaches v no_guard = []
    guard_breaches v (guard e f gs) = expression_breaches v e ++ (expression_breaches v f ++ guard_breaches v gs)

    -- what a pattern binding binds is bound in its block
    pub declaration_breaches : Values → Declaration → List Breach
    declaration_breaches v empty = []
    declaration_breaches v (signature xs t) = []
    declaration_breaches v (equation at x ps r) = bound_together [] (all_variables ps) ++ (each_pattern_breaches k.constructors ps ++ right_side_breaches (locally (all_variables ps) v) r)
    declaration_breaches v (binding p r) = pattern_breaches k.constructors p ++ right_side_breaches v r

    pub each_declaration_breaches : Values → Declarations → List Breach
    each_declaration_breaches v no_declaration = []
    each_declaration_breaches v (declaration d ds) = declaration_breaches v d ++ each_declaration_breaches v ds

  abbrev pub top_breaches : Values → Top → List Breach
  top_breaches v top.Empty = []
  top_breaches v (top.Data d) = []
  top_breaches v (top.Synonym s) = []
  top_breaches v (top.Fixity f) = []
  top_breaches v (top.Signature x xs a t) = []
  top_breaches v (top.Equation h r) = bound_together [] (all_variables (head_patterns h)) ++ (each_pattern_breaches k.constructors (head_patterns h) ++ right_side_breaches (locally (all_variables (head_patterns h)) v) (rhs_of r))

  abbrev pub each_top_breaches : Values → List Top → List Breach
  each_top_breaches v [] = []
  each_top_breaches v (t ∷ ts) = top_breaches v t ++ each_top_breaches v ts

  -- what is broken in a text
  abbrev pub text_breaches : Values → List Top → List Breach
  text_breaches v ts = tops_breaches k.types ts ++ each_top_breaches v ts

-- the places in a prelude, and in a program behind it, where one of the rules on names is broken, but for those on what reaches
-- itself
abbrev pub prelude_breaches : List Top → List Breach
prelude_breaches ps = text_breaches (prelude_known ps) (prelude_values ps) ps

abbrev pub program_breaches : List Top → List Top → List Breach
program_breaches ps ts = text_breaches (program_known ps ts) (program_values ps ts) ts
