-- The places of the first tokens of what is written.
use Rattle.std.specs.Prelude.{ℕ, zero, suc}
use Rattle.hdc_base.specs.declared.place.At.{At}
use Rattle.hdc_tree.specs.declared.name.Op.{Op}
use Rattle.hdc_tree.specs.declared.name.Op.TheVariants as op
use Rattle.hdc_tree.specs.declared.name.Sign.{Sign}
use Rattle.hdc_tree.specs.declared.name.Sign.TheVariants as sign
use Rattle.hdc_tree.specs.declared.name.Var.{Var}
use Rattle.hdc_tree.specs.declared.name.Var.TheVariants as var
use Rattle.hdc_tree.specs.declared.name.VarOp.{VarOp}
use Rattle.hdc_tree.specs.declared.name.VarOp.TheVariants as var_op
use Rattle.hdc_written.specs.WrittenTypes.{WrittenType, type_constructor, type_variable, unit_type, type_in_parentheses, tuple_type, list_type, arrow_type}
use Rattle.hdc_written.specs.Written.{Pattern, named, named_as, anything, built, literal_pattern, negative_pattern, unit_pattern, nil_pattern, pattern_in_parentheses, tuple_pattern, list_pattern, cons_pattern, Expression, chain, Links, no_link, link, Operand, variable, constructor, literal, unit, nil, cons, in_parentheses, tuple, list, range, comprehension, left_section, right_section, applied, lambda, let_in, if_else, case_of}

-- a name in parentheses begins with the parenthesis
abbrev pub first_of_var : Var → At
first_of_var (var.Plain x) = x.at
first_of_var (var.Operator a x b) = a

-- a name in backquotes begins with the first backquote
abbrev pub first_of_var_op : VarOp → At
first_of_var_op (var_op.Symbol x) = x.at
first_of_var_op (var_op.Quoted a x b) = a

abbrev pub first_of_op : Op → At
first_of_op (op.Var x) = first_of_var_op x
first_of_op (op.Cons a) = a
first_of_op (op.Con a c b) = a

abbrev pub first_of_pattern : Pattern → At
first_of_pattern (named x) = x.at
first_of_pattern (named_as x p) = x.at
first_of_pattern (anything a) = a
first_of_pattern (built c ps) = c.at
first_of_pattern (literal_pattern a l) = a
first_of_pattern (negative_pattern a b n) = a
first_of_pattern (unit_pattern a) = a
first_of_pattern (nil_pattern a) = a
first_of_pattern (pattern_in_parentheses a p) = a
first_of_pattern (tuple_pattern a ps) = a
first_of_pattern (list_pattern a ps) = a
first_of_pattern (cons_pattern p colons ps) = first_of_pattern p

abbrev pub first_of_type : WrittenType → At
first_of_type (type_constructor c ts) = c.at
first_of_type (type_variable x) = x.at
first_of_type (unit_type a) = a
first_of_type (type_in_parentheses a t) = a
first_of_type (tuple_type a ts) = a
first_of_type (list_type a t) = a
first_of_type (arrow_type t ts) = first_of_type t

abbrev pub first_of_operand : Operand → At
first_of_operand (variable x) = first_of_var x
first_of_operand (constructor c) = c.at
first_of_operand (literal a l) = a
first_of_operand (unit a) = a
first_of_operand (nil a) = a
first_of_operand (cons a b) = a
first_of_operand (in_parentheses a e) = a
first_of_operand (tuple a es) = a
first_of_operand (list a es) = a
first_of_operand (range a e f) = a
first_of_operand (comprehension a e qs) = a
first_of_operand (left_section a e o) = a
first_of_operand (right_section a o e) = a
first_of_operand (applied f as') = first_of_operand f
first_of_operand (lambda a ps e) = a
first_of_operand (let_in a ds e) = a
first_of_operand (if_else a e f g) = a
first_of_operand (case_of a e bs) = a

-- a sign comes first
abbrev pub behind_sign : Sign → At → At
behind_sign sign.Absent at = at
behind_sign (sign.Minus a) at = a

-- ---- the operands of a chain, numbered from 0; the last one for a greater number

abbrev pub operand_in : Links → Operand → ℕ → At
operand_in no_link a k = first_of_operand a
operand_in (link s b o ls) a zero = first_of_operand b
operand_in (link s b o ls) a (suc k) = operand_in ls a k

abbrev pub operand_at : Expression → ℕ → At
operand_at (chain ls s a) k = operand_in ls a k

-- with its sign
abbrev pub start_in : Links → Sign → Operand → ℕ → At
start_in no_link s a k = behind_sign s (first_of_operand a)
start_in (link t b o ls) s a zero = behind_sign t (first_of_operand b)
start_in (link t b o ls) s a (suc k) = start_in ls s a k

abbrev pub start_at : Expression → ℕ → At
start_at (chain ls s a) k = start_in ls s a k

abbrev pub first_of_expression : Expression → At
first_of_expression e = start_at e 0

-- before the first operand stands no operator
abbrev pub nowhere : At
nowhere = record { line = 0; col = 0 }

-- the operator behind an operand, and the one before it
abbrev pub operator_behind : Links → ℕ → At
operator_behind no_link k = nowhere
operator_behind (link s a o ls) zero = first_of_op o
operator_behind (link s a o ls) (suc k) = operator_behind ls k

abbrev pub operator_before : Expression → ℕ → At
operator_before (chain ls s a) zero = nowhere
operator_before (chain ls s a) (suc k) = operator_behind ls k
