-- Expressions of arithmetic.
use Rattle.std.specs.Prelude.{ℤ, Option, Some, None}
use Rattle.hdc_base.specs.declared.place.Place.{Place}
use Rattle.hdc_value.specs.declared.arithmetic.Op.{Op}
use Rattle.hdc_value.specs.declared.arithmetic.Op.TheVariants as op
use Rattle.hdc_resolved.specs.declared.name.Literal.{Literal}
use Rattle.hdc_resolved.specs.declared.name.Literal.TheVariants as lit
use Rattle.hdc_resolved.specs.declared.name.Name.{Name}
use Rattle.hdc_resolved.specs.declared.name.Name.TheVariants as name
use Rattle.hdc_resolved.specs.declared.name.Primitive.{Primitive}
use Rattle.hdc_resolved.specs.declared.name.Primitive.TheVariants as primitive
use Rattle.hdc_resolved.specs.Syntax as resolved

-- a literal with its place, or an operator with its place and its operands
pub data Tree : Type 0 where
  literal : (at : Place) (value : ℤ) → Tree
  binary : (op : Op) (at : Place) (left right : Tree) → Tree

-- which functions that are built in are operators of arithmetic
abbrev pub built_in_operator : Primitive → Option Op
built_in_operator primitive.Add = Some op.Add
built_in_operator primitive.Sub = Some op.Sub
built_in_operator primitive.Mul = Some op.Mul
built_in_operator primitive.Div = None
built_in_operator primitive.Mod = None
built_in_operator primitive.Quot = None
built_in_operator primitive.Rem = None
built_in_operator primitive.Negate = None
built_in_operator primitive.Equal = None
built_in_operator primitive.Unequal = None
built_in_operator primitive.Less = None
built_in_operator primitive.AtMost = None
built_in_operator primitive.Greater = None
built_in_operator primitive.AtLeast = None
built_in_operator primitive.And = None
built_in_operator primitive.Or = None
built_in_operator primitive.Ord = None
built_in_operator primitive.Chr = None
built_in_operator primitive.Error = None

-- the operator of arithmetic that a name stands for
abbrev pub operator_of : Name → Option Op
operator_of (name.Top n) = None
operator_of (name.Local x) = None
operator_of (name.Con c) = None
operator_of (name.Primitive p) = built_in_operator p
operator_of (name.Skeleton kind degree) = None
operator_of name.Unknown = None

-- an integer is a literal of arithmetic
abbrev pub literal_tree : Place → Literal → Option Tree
literal_tree at (lit.Int value) = Some (literal at value)
literal_tree at (lit.Chr code) = None
literal_tree at (lit.Str codes) = None

-- an operator of arithmetic between trees is a tree
abbrev pub operation : Option Op → Place → Option Tree → Option Tree → Option Tree
operation (Some o) at (Some left) (Some right) = Some (binary o at left right)
operation (Some o) at (Some left) None = None
operation (Some o) at None right = None
operation None at left right = None

-- the tree of an expression, if it consists of integers, +, - and * alone
abbrev pub arithmetic : resolved.Expression → Option Tree
arithmetic (resolved.literal at l) = literal_tree at l
arithmetic (resolved.infix_application at a u b) = operation (operator_of u.name) u.place (arithmetic a) (arithmetic b)
arithmetic (resolved.name u) = None
arithmetic (resolved.application at f x) = None
arithmetic (resolved.negation at e) = None
arithmetic (resolved.section at side x u e) = None
arithmetic (resolved.lambda at ps e) = None
arithmetic (resolved.if_else at c a b) = None
arithmetic (resolved.case_of at e alternatives) = None
arithmetic (resolved.let_in at b e) = None
arithmetic (resolved.row at kind es) = None
arithmetic (resolved.range at x a b) = None
arithmetic (resolved.comprehension at q) = None
