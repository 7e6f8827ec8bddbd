-- The resolved tree as plain data. Definitions speak of it.
use Rattle.std.specs.Prelude.{ℕ, List, Option}
use Rattle.hdc_base.specs.declared.place.Place.{Place}
use Rattle.hdc_resolved.specs.declared.name.Constructor.{Constructor}
use Rattle.hdc_resolved.specs.declared.name.Literal.{Literal}
use Rattle.hdc_resolved.specs.declared.name.Name.{Name}
use Rattle.hdc_resolved.specs.declared.name.Use.{Use}
use Rattle.hdc_resolved.specs.declared.name.RowKind.{RowKind}
use Rattle.hdc_resolved.specs.declared.name.Side.{Side}
use Rattle.hdc_resolved.specs.declared.expression.SignedName.{SignedName}

mutual
  -- a pattern, with the place of its first token
  pub data Pattern : Type 0 where
    anything : Place → Pattern
    variable : Place → (x : ℕ) → Pattern
    named_as : Place → (x : ℕ) → Pattern → Pattern
    literal_pattern : Place → Literal → Pattern
    -- a constructor, with its own place too
    built : Place → (own : Place) → Option Constructor → Patterns → Pattern
    row_pattern : Place → RowKind → Patterns → Pattern

  pub data Patterns : Type 0 where
    no_pattern : Patterns
    pattern : Pattern → Patterns → Patterns

mutual
  -- a type in which synonyms stand as they are written
  pub data TypeTree : Type 0 where
    int_type : TypeTree
    char_type : TypeTree
    list_type : TypeTree → TypeTree
    tuple_type : TypeTrees → TypeTree
    function_type : TypeTree → TypeTree → TypeTree
    data_type : ℕ → TypeTrees → TypeTree
    synonym_type : ℕ → TypeTrees → TypeTree
    type_variable : ℕ → TypeTree
    unknown_type : TypeTrees → TypeTree

  pub data TypeTrees : Type 0 where
    no_type : TypeTrees
    next_type : TypeTree → TypeTrees → TypeTrees

-- names and their type
pub record Signed : Type 0 where
  pub names : List SignedName
  pub type_of : TypeTree

mutual
  -- an expression, with the place of its first token
  pub data Expression : Type 0 where
    literal : Place → Literal → Expression
    name : Use → Expression
    application : Place → Expression → Expression → Expression
    -- an operator between its operands
    infix_application : Place → Expression → Use → Expression → Expression
    -- - and its operand
    negation : Place → Expression → Expression
    -- an operand and an operator, with the number of the parameter that is its other operand
    section : Place → Side → (x : ℕ) → Use → Expression → Expression
    lambda : Place → Patterns → Expression → Expression
    if_else : Place → Expression → Expression → Expression → Expression
    case_of : Place → Expression → Equations → Expression
    let_in : Place → Block → Expression → Expression
    row : Place → RowKind → Expressions → Expression
    -- with the function of the prelude that it calls
    range : Place → Name → Expression → Expression → Expression
    comprehension : Place → Qualifiers → Expression

  pub data Expressions : Type 0 where
    no_expression : Expressions
    expression : Expression → Expressions → Expressions

  -- the qualifiers in turn, and behind them the head
  pub data Qualifiers : Type 0 where
    head_of : Expression → Qualifiers
    condition : Expression → Qualifiers → Qualifiers
    -- with the function of the prelude that it calls
    generator : Name → Pattern → Expression → Qualifiers → Qualifiers
    bindings : Block → Qualifiers → Qualifiers

  -- equations of a function, alternatives of a case, or the one equation of a plain name, which has no patterns
  pub data Equations : Type 0 where
    no_equation : Equations
    equation : Place → Patterns → RightSide → Equations → Equations

  -- the block is that behind where
  pub data RightSide : Type 0 where
    plain : Expression → Block → RightSide
    guarded : Place → Guards → Block → RightSide

  pub data Guards : Type 0 where
    no_guard : Guards
    guard : Expression → Expression → Guards → Guards

  -- the bindings in the order of the text, the signatures, and the values among the bindings in the order of their evaluation, each
  -- by its place among the bindings
  pub data Block : Type 0 where
    block : Members → List Signed → (order : List ℕ) → Block

  pub data Members : Type 0 where
    no_member : Members
    -- a function, or a plain name, whose equation has no patterns
    named : Place → (x : ℕ) → Equations → Members → Members
    matched : Place → Pattern → RightSide → Members → Members

-- a binding at the top: its name, the place of the name in its first equation, and its equations
pub record Binding : Type 0 where
  pub text : List ℕ
  pub place : Place
  pub equations : Equations

-- a synonym: its name, how many parameters it has, and its meaning
pub record SynonymOf : Type 0 where
  pub text : List ℕ
  pub params : ℕ
  pub meaning : TypeTree
