-- Variables and operators, one definition for each rule.
use Rattle.std.specs.Prelude.{Bool, true, false, if◌then◌else◌, Option, Some, None}
use Rattle.hdc_base.specs.declared.place.At.{At}
use Rattle.hdc_base.specs.declared.token.Token.{Token}
use Rattle.hdc_base.specs.declared.token.Key.TheVariants as key
use Rattle.hdc_tree.specs.declared.name.Name.{Name}
use Rattle.hdc_tree.specs.declared.name.Var.{Var}
use Rattle.hdc_tree.specs.declared.name.Var.TheVariants as v
use Rattle.hdc_tree.specs.declared.name.VarOp.{VarOp}
use Rattle.hdc_tree.specs.declared.name.VarOp.TheVariants as vo
use Rattle.hdc_tree.specs.declared.name.Op.{Op}
use Rattle.hdc_tree.specs.declared.name.Op.TheVariants as o
use Rattle.hdc_syntax.specs.Parser.{Parser, ◌>>=◌, ◌>>◌, pure, refuse, peek}
use Rattle.hdc_syntax.specs.Words.{fixed, is, small, capital, symbol, is_symbol, is_capital}

-- a name of symbols in parentheses
unfoldable pub operator_var : Parser Var
operator_var = do
  open_at ← fixed key.KOpenParen
  name ← symbol
  close_at ← fixed key.KCloseParen
  pure (v.Operator open_at name close_at)

abbrev pub plain_var : Parser Var
plain_var = small >>= (λ name. pure (v.Plain name))

-- a variable
unfoldable pub var : Parser Var
var = peek >>= (λ c. if is key.KOpenParen c then operator_var else plain_var)

abbrev pub starts_var_op : Option Token → Bool
starts_var_op c = if is_symbol c then true else is key.KBackquote c

-- a name in backquotes
unfoldable pub quoted_var : Parser VarOp
quoted_var = do
  open_at ← fixed key.KBackquote
  name ← small
  close_at ← fixed key.KBackquote
  pure (vo.Quoted open_at name close_at)

abbrev pub symbol_op : Parser VarOp
symbol_op = symbol >>= (λ name. pure (vo.Symbol name))

-- an operator that is a variable
unfoldable pub var_op : Parser VarOp
var_op = peek >>= (λ c. if is key.KBackquote c then quoted_var else symbol_op)

abbrev pub starts_op : Option Token → Bool
starts_op c = if is key.KColon c then true else starts_var_op c

abbrev pub quoted_capital : At → Parser Op
quoted_capital open_at = capital >>= (λ name. fixed key.KBackquote >>= (λ close_at. pure (o.Con open_at name close_at)))

abbrev pub quoted_small : At → Parser Op
quoted_small open_at = small >>= (λ name. fixed key.KBackquote >>= (λ close_at. pure (o.Var (vo.Quoted open_at name close_at))))

-- a variable or a constructor in backquotes
unfoldable pub quoted_op : Parser Op
quoted_op = fixed key.KBackquote >>= (λ open_at. peek >>= (λ c. if is_capital c then quoted_capital open_at else quoted_small open_at))

abbrev pub cons_op : Parser Op
cons_op = fixed key.KColon >>= (λ at. pure (o.Cons at))

abbrev pub plain_op : Parser Op
plain_op = symbol >>= (λ name. pure (o.Var (vo.Symbol name)))

abbrev pub op_by : Option Token → Parser Op
op_by c = if is key.KColon c then cons_op else (if is key.KBackquote c then quoted_op else plain_op)

-- an operator
unfoldable pub op : Parser Op
op = peek >>= op_by
