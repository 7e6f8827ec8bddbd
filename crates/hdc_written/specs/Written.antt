-- Programs as they are written, without the memory that holds them, and without most places of what only spells a
-- production.
use Rattle.std.specs.Prelude.{ℕ, suc, List, [], ◌∷◌, ◌++◌}
use Rattle.hdc_base.specs.declared.place.At.{At}
use Rattle.hdc_tree.specs.declared.name.Literal.{Literal}
use Rattle.hdc_tree.specs.declared.name.Name.{Name}
use Rattle.hdc_tree.specs.declared.name.Op.{Op}
use Rattle.hdc_tree.specs.declared.name.Sign.{Sign}
use Rattle.hdc_tree.specs.declared.name.Var.{Var}
use Rattle.hdc_written.specs.WrittenTypes.{WrittenType}

mutual
  -- a pattern
  pub data Pattern : Type 0 where
    named : Name → Pattern
    named_as : Name → Pattern → Pattern
    anything : At → Pattern
    built : Name → Patterns → Pattern
    literal_pattern : At → Literal → Pattern
    negative_pattern : At → At → ℕ → Pattern
    unit_pattern : At → Pattern
    nil_pattern : At → Pattern
    pattern_in_parentheses : At → Pattern → Pattern
    tuple_pattern : At → Patterns → Pattern
    list_pattern : At → Patterns → Pattern
    -- patterns with : between them, and where each : stands
    cons_pattern : Pattern → List At → Patterns → Pattern

  pub data Patterns : Type 0 where
    no_pattern : Patterns
    pattern : Pattern → Patterns → Patterns

mutual
  -- operands that an operator follows, and the last one with its sign
  pub data Expression : Type 0 where
    chain : Links → Sign → Operand → Expression

  -- operands with their signs, and the operator behind each
  pub data Links : Type 0 where
    no_link : Links
    link : Sign → Operand → Op → Links → Links

  pub data Operand : Type 0 where
    variable : Var → Operand
    constructor : Name → Operand
    literal : At → Literal → Operand
    unit : At → Operand
    nil : At → Operand
    cons : At → At → Operand
    in_parentheses : At → Expression → Operand
    tuple : At → Expressions → Operand
    list : At → Expressions → Operand
    range : At → Expression → Expression → Operand
    comprehension : At → Expression → Qualifiers → Operand
    left_section : At → Expression → Op → Operand
    right_section : At → Op → Expression → Operand
    -- a function and its arguments
    applied : Operand → Operands → Operand
    lambda : At → Patterns → Expression → Operand
    let_in : At → Declarations → Expression → Operand
    if_else : At → Expression → Expression → Expression → Operand
    case_of : At → Expression → Alternatives → Operand

  pub data Operands : Type 0 where
    no_operand : Operands
    operand : Operand → Operands → Operands

  pub data Expressions : Type 0 where
    no_expression : Expressions
    expression : Expression → Expressions → Expressions

  pub data Qualifier : Type 0 where
    generator : Pattern → Expression → Qualifier
    condition : Expression → Qualifier
    let_qualifier : At → Declarations → Qualifier

  pub data Qualifiers : Type 0 where
    no_qualifier : Qualifiers
    qualifier : Qualifier → Qualifiers → Qualifiers

  pub data Alternative : Type 0 where
    blank : Alternative
    alternative : Pattern → RightSide → Alternative

  pub data Alternatives : Type 0 where
    no_alternative : Alternatives
    next_alternative : Alternative → Alternatives → Alternatives

  -- an expression, or guarded ones behind the first bar, and the declarations behind where
  pub data RightSide : Type 0 where
    plain : Expression → Declarations → RightSide
    guarded : At → Guards → Declarations → RightSide

  -- conditions, and what is guarded by each
  pub data Guards : Type 0 where
    no_guard : Guards
    guard : Expression → Expression → Guards → Guards

  pub data Declaration : Type 0 where
    empty : Declaration
    -- the names of a signature, and their type
    signature : List Name → WrittenType → Declaration
    -- the first token of an equation, what it defines, its parameters, and its right side
    equation : At → Name → Patterns → RightSide → Declaration
    binding : Pattern → RightSide → Declaration

  pub data Declarations : Type 0 where
    no_declaration : Declarations
    declaration : Declaration → Declarations → Declarations

-- the variables that a pattern binds, in the order of the text
abbrev mutual
  pub variables : Pattern → List Name
  variables (named x) = x ∷ []
  variables (named_as x p) = x ∷ variables p
  variables (anything a) = []
  variables (built c ps) = all_variables ps
  variables (literal_pattern a l) = []
  variables (negative_pattern a b n) = []
  variables (unit_pattern a) = []
  variables (nil_pattern a) = []
  variables (pattern_in_parentheses a p) = variables p
  variables (tuple_pattern a ps) = all_variables ps
  variables (list_pattern a ps) = all_variables ps
  variables (cons_pattern p colons ps) = variables p ++ all_variables ps

  pub all_variables : Patterns → List Name
  all_variables no_pattern = []
  all_variables (pattern p ps) = variables p ++ all_variables ps

-- the names that declarations bind
abbrev pub bound : Declaration → List Name
bound empty = []
bound (signature xs t) = []
bound (equation at x ps r) = x ∷ []
bound (binding p r) = variables p

abbrev pub all_bound : Declarations → List Name
all_bound no_declaration = []
all_bound (declaration d ds) = bound d ++ all_bound ds

-- how many there are
abbrev pub count_patterns : Patterns → ℕ
count_patterns no_pattern = 0
count_patterns (pattern p ps) = suc (count_patterns ps)

abbrev pub count_links : Links → ℕ
count_links no_link = 0
count_links (link s a o ls) = suc (count_links ls)

abbrev pub count_operands : Operands → ℕ
count_operands no_operand = 0
count_operands (operand a as') = suc (count_operands as')

abbrev pub count_qualifiers : Qualifiers → ℕ
count_qualifiers no_qualifier = 0
count_qualifiers (qualifier q qs) = suc (count_qualifiers qs)
