-- Names where they are used.
use Rattle.std.specs.Prelude.{Bool, true, false, Option, None, Some}
use Rattle.hdc_base.specs.declared.place.At.{At}
use Rattle.hdc_base.specs.declared.place.Src.{Src}
use Rattle.hdc_tree.specs.declared.name.Literal as tree
use Rattle.hdc_tree.specs.declared.name.Literal.TheVariants as number
use Rattle.hdc_tree.specs.declared.name.Name as written_name
use Rattle.hdc_tree.specs.declared.name.Op.{Op}
use Rattle.hdc_tree.specs.declared.name.Op.TheVariants as op
use Rattle.hdc_tree.specs.declared.name.Var.{Var}
use Rattle.hdc_resolved.specs.declared.name.Constructor.{Constructor}
use Rattle.hdc_resolved.specs.declared.name.Degree.{Degree}
use Rattle.hdc_resolved.specs.declared.name.Degree.TheVariants as degree
use Rattle.hdc_resolved.specs.declared.name.Name.{Name}
use Rattle.hdc_resolved.specs.declared.name.Name.TheVariants as name
use Rattle.hdc_base.specs.declared.skeleton.SkelKind.{SkelKind}
use Rattle.hdc_base.specs.declared.skeleton.SkelKind.TheVariants as kind
use Rattle.hdc_resolved.specs.declared.name.Use.{Use}
use Rattle.hdc_written.specs.Scopes.{standing_for}
use Rattle.hdc_written.specs.Firsts.{first_of_var, first_of_var_op, first_of_operand}
use Rattle.hdc_written.specs.Mirror.{var_name, op_name}
use Rattle.hdc_written.specs.Written.{Operand, variable, constructor, literal, unit, nil, cons, in_parentheses, tuple, list, range, comprehension, left_section, right_section, applied, lambda, let_in, if_else, case_of, Operands, no_operand, operand}
use Rattle.hdc_resolving.specs.declared.known.Known.{Known}
use Rattle.hdc_resolving.specs.Literals as literals
use Rattle.hdc_resolving.specs.Literals.{place_in}
use Rattle.hdc_resolving.specs.Standing.{Names, or_unknown}

abbrev pub use_at : Src → At → At → Name → Use
use_at s first at n = record { first = place_in s first; place = place_in s at; name = n }

-- what a name stands for
abbrev pub named : Names → written_name.Name → Name
named names x = or_unknown (standing_for x.text names)

abbrev pub first_of_variable : Var → At
first_of_variable = first_of_var

abbrev pub constructor_or_unknown : Option Constructor → Name
constructor_or_unknown None = name.Unknown
constructor_or_unknown (Some c) = name.Con c

abbrev pub named_constructor : Known → written_name.Name → Name
named_constructor k c = constructor_or_unknown (standing_for c.text k.constructors)

abbrev pub cons_use : Known → At → At → Use
cons_use k first at = use_at k.src first at (name.Con literals.cons)

-- an operator between its operands
abbrev pub operator_use : Op → Known → Names → Use
operator_use (op.Var x) k names = use_at k.src (first_of_var_op x) (op_name x).at (named names (op_name x))
operator_use (op.Cons a) k names = cons_use k a a
operator_use (op.Con a c b) k names = use_at k.src a c.at (named_constructor k c)

-- ---- the degree of a skeleton

-- by the literal that follows the name, which stands here
abbrev pub literal_degree : Src → At → tree.Literal → Degree
literal_degree s a (number.Num n) = degree.Number n (place_in s a)
literal_degree s a (number.Chr c) = degree.Other (place_in s a)
literal_degree s a (number.Str t) = degree.Other (place_in s a)

-- by the first argument
abbrev pub operand_degree : Src → Operand → Degree
operand_degree s (literal a l) = literal_degree s a l
operand_degree s (variable x) = degree.Other (place_in s (first_of_var x))
operand_degree s (constructor c) = degree.Other (place_in s c.at)
operand_degree s (unit a) = degree.Other (place_in s a)
operand_degree s (nil a) = degree.Other (place_in s a)
operand_degree s (cons a b) = degree.Other (place_in s a)
operand_degree s (in_parentheses a e) = degree.Other (place_in s a)
operand_degree s (tuple a es) = degree.Other (place_in s a)
operand_degree s (list a es) = degree.Other (place_in s a)
operand_degree s (range a e f) = degree.Other (place_in s a)
operand_degree s (comprehension a e qs) = degree.Other (place_in s a)
operand_degree s (left_section a e o) = degree.Other (place_in s a)
operand_degree s (right_section a o e) = degree.Other (place_in s a)
operand_degree s (applied f as') = degree.Other (place_in s (first_of_operand f))
operand_degree s (lambda a ps e) = degree.Other (place_in s a)
operand_degree s (let_in a ds e) = degree.Other (place_in s a)
operand_degree s (if_else a e f g) = degree.Other (place_in s a)
operand_degree s (case_of a e bs) = degree.Other (place_in s a)

abbrev pub first_degree : Src → Operands → Degree
first_degree s no_operand = degree.Missing
first_degree s (operand a as') = operand_degree s a

abbrev pub degree_behind : SkelKind → Src → Operands → Degree
degree_behind kind.Gen s as' = degree.Unneeded
degree_behind kind.Deg s as' = first_degree s as'
degree_behind kind.Depth s as' = first_degree s as'
degree_behind kind.Elem s as' = first_degree s as'

-- a name with these arguments behind it
abbrev pub with_arguments : Name → Src → Operands → Name
with_arguments (name.Skeleton k d) s as' = name.Skeleton k (degree_behind k s as')
with_arguments (name.Top n) s as' = name.Top n
with_arguments (name.Local n) s as' = name.Local n
with_arguments (name.Con c) s as' = name.Con c
with_arguments (name.Primitive p) s as' = name.Primitive p
with_arguments name.Unknown s as' = name.Unknown

-- a variable with these arguments behind it
abbrev pub variable_use : Var → Operands → Known → Names → Use
variable_use x as' k names = use_at k.src (first_of_var x) (var_name x).at (with_arguments (named names (var_name x)) k.src as')

-- whether the first argument is the degree
abbrev pub is_number : Degree → Bool
is_number degree.Unneeded = false
is_number (degree.Number n p) = true
is_number (degree.Other p) = false
is_number degree.Missing = false

abbrev pub takes_degree : Name → Bool
takes_degree (name.Skeleton k d) = is_number d
takes_degree (name.Top n) = false
takes_degree (name.Local n) = false
takes_degree (name.Con c) = false
takes_degree (name.Primitive p) = false
takes_degree name.Unknown = false
