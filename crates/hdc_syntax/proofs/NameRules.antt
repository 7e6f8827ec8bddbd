-- The rules of variables and operators: what they read, and that they read again what is spelled.
use Rattle.std.proofs.Common.{◌≡◌, ℕ, zero, suc, Bool, true, false, cond, List, [], ◌∷◌, ◌++◌, Option, Some, None, Result, Ok, Err, codes, refl, sym, ◌∙◌, ap, subst, append_assoc, append-nil}
use Rattle.hdc_base.specs.declared.place.At.{At}
use Rattle.hdc_base.specs.declared.token.Token.{Token}
use Rattle.hdc_base.specs.declared.token.Key.TheVariants as key
use Rattle.hdc_tree.specs.declared.name.Name.{Name}
use Rattle.hdc_tree.specs.declared.name.Literal.{Literal}
use Rattle.hdc_tree.specs.declared.name.Literal.TheVariants as l
use Rattle.hdc_tree.specs.declared.name.Var.{Var}
use Rattle.hdc_tree.specs.declared.name.Var.TheVariants as v
use Rattle.hdc_tree.specs.declared.name.VarOp.{VarOp}
use Rattle.hdc_tree.specs.declared.name.VarOp.TheVariants as vo
use Rattle.hdc_tree.specs.declared.name.Op.{Op}
use Rattle.hdc_tree.specs.declared.name.Op.TheVariants as o
use Rattle.hdc_tree.specs.NameSpelling.{Puts, key_onto, word_onto, small_onto, capital_onto, symbol_onto, minus_onto, literal_onto, var_onto, var_op_onto, op_onto}
use Rattle.hdc_syntax.specs.Parser.{Parser, ◌>>=◌, ◌>>◌, pure, refuse, peek, head}
use Rattle.hdc_syntax.specs.Words.{fixed, is, small, capital, symbol, minus, number, literal, is_symbol, is_capital, is_literal}
use Rattle.hdc_syntax.specs.Names.{operator_var, plain_var, var, starts_var_op, quoted_var, symbol_op, var_op, starts_op, quoted_capital, quoted_small, quoted_op, cons_op, plain_op, op_by, op}
use Rattle.hdc_syntax.proofs.Good.{Good, Spells}
use Rattle.hdc_syntax.proofs.Local.{Local, local_pure}
use Rattle.hdc_syntax.proofs.Meets.{Meets, meets_return, meets_then}
use Rattle.hdc_syntax.proofs.Steps.{good_key, good_small, good_capital, good_symbol, good_look, good_if, good_return, local_key, local_small, local_capital, local_symbol, local_look, local_if}

-- names and operators are formed whatever they are
abbrev pub always : {A : Type 0} → A → Bool
always x = true

pub good_operator_var : Good Var operator_var (Spells Var var_onto always)
unfolding operator_var
good_operator_var = good_key key.KOpenParen (λ open_at. good_symbol (λ name. good_key key.KCloseParen (λ close_at. good_return (v.Operator open_at name close_at) (record { spelled = λ k. refl; sound = refl }))))

pub good_var : Good Var var (Spells Var var_onto always)
unfolding var
good_var = good_look (λ c. good_if (is key.KOpenParen c) good_operator_var (good_small (λ name. good_return (v.Plain name) (record { spelled = λ k. refl; sound = refl }))))

pub good_quoted_var : Good VarOp quoted_var (Spells VarOp var_op_onto always)
unfolding quoted_var
good_quoted_var = good_key key.KBackquote (λ open_at. good_small (λ name. good_key key.KBackquote (λ close_at. good_return (vo.Quoted open_at name close_at) (record { spelled = λ k. refl; sound = refl }))))

pub good_var_op : Good VarOp var_op (Spells VarOp var_op_onto always)
unfolding var_op
good_var_op = good_look (λ c. good_if (is key.KBackquote c) good_quoted_var (good_symbol (λ name. good_return (vo.Symbol name) (record { spelled = λ k. refl; sound = refl }))))

pub good_quoted_op : Good Op quoted_op (Spells Op op_onto always)
unfolding quoted_op
good_quoted_op = good_key key.KBackquote (λ open_at. good_look (λ c. good_if (is_capital c)
    (good_capital (λ name. good_key key.KBackquote (λ close_at. good_return (o.Con open_at name close_at) (record { spelled = λ k. refl; sound = refl }))))
    (good_small (λ name. good_key key.KBackquote (λ close_at. good_return (o.Var (vo.Quoted open_at name close_at)) (record { spelled = λ k. refl; sound = refl }))))))

pub good_op : Good Op op (Spells Op op_onto always)
unfolding op
good_op = good_look (λ c. good_if (is key.KColon c)
    (good_key key.KColon (λ at. good_return (o.Cons at) (record { spelled = λ k. refl; sound = refl })))
    (good_if (is key.KBackquote c) good_quoted_op (good_symbol (λ name. good_return (o.Var (vo.Symbol name)) (record { spelled = λ k. refl; sound = refl })))))

pub local_operator_var : Local Var operator_var
unfolding operator_var
local_operator_var = local_key key.KOpenParen (λ open_at. local_symbol (λ name. local_key key.KCloseParen (λ close_at. local_pure Var (v.Operator open_at name close_at))))

pub local_var : Local Var var
unfolding var
local_var = local_look (λ c. local_if (is key.KOpenParen c) local_operator_var (local_small (λ name. local_pure Var (v.Plain name))))

pub local_quoted_var : Local VarOp quoted_var
unfolding quoted_var
local_quoted_var = local_key key.KBackquote (λ open_at. local_small (λ name. local_key key.KBackquote (λ close_at. local_pure VarOp (vo.Quoted open_at name close_at))))

pub local_var_op : Local VarOp var_op
unfolding var_op
local_var_op = local_look (λ c. local_if (is key.KBackquote c) local_quoted_var (local_symbol (λ name. local_pure VarOp (vo.Symbol name))))

pub local_quoted_op : Local Op quoted_op
unfolding quoted_op
local_quoted_op = local_key key.KBackquote (λ open_at. local_look (λ c. local_if (is_capital c)
    (local_capital (λ name. local_key key.KBackquote (λ close_at. local_pure Op (o.Con open_at name close_at))))
    (local_small (λ name. local_key key.KBackquote (λ close_at. local_pure Op (o.Var (vo.Quoted open_at name close_at)))))))

pub local_op : Local Op op
unfolding op
local_op = local_look (λ c. local_if (is key.KColon c)
    (local_key key.KColon (λ at. local_pure Op (o.Cons at)))
    (local_if (is key.KBackquote c) local_quoted_op (local_symbol (λ name. local_pure Op (o.Var (vo.Symbol name))))))

pub again_var : (x : Var) (k : List Token) → Meets Var (var (var_onto x k)) x k
unfolding var operator_var
again_var (v.Plain n) k = meets_return (v.Plain n) k
again_var (v.Operator open_at n close_at) k = meets_return (v.Operator open_at n close_at) k

pub again_var_op : (x : VarOp) (k : List Token) → Meets VarOp (var_op (var_op_onto x k)) x k
unfolding var_op quoted_var
again_var_op (vo.Symbol n) k = meets_return (vo.Symbol n) k
again_var_op (vo.Quoted open_at n close_at) k = meets_return (vo.Quoted open_at n close_at) k

pub again_op : (x : Op) (k : List Token) → Meets Op (op (op_onto x k)) x k
unfolding op quoted_op
again_op (o.Var (vo.Symbol n)) k = meets_return (o.Var (vo.Symbol n)) k
again_op (o.Var (vo.Quoted open_at n close_at)) k = meets_return (o.Var (vo.Quoted open_at n close_at)) k
again_op (o.Cons at) k = meets_return (o.Cons at) k
again_op (o.Con open_at n close_at) k = meets_return (o.Con open_at n close_at) k

pub var_op_starts : (x : VarOp) (k : List Token) → starts_var_op (head (var_op_onto x k)) ≡ true
var_op_starts (vo.Symbol n) k = refl
var_op_starts (vo.Quoted open_at n close_at) k = refl

pub op_starts : (x : Op) (k : List Token) → starts_op (head (op_onto x k)) ≡ true
op_starts (o.Var (vo.Symbol n)) k = refl
op_starts (o.Var (vo.Quoted open_at n close_at)) k = refl
op_starts (o.Cons at) k = refl
op_starts (o.Con open_at n close_at) k = refl

pub again_literal : (at : At) (x : Literal) (k : List Token) → Meets (At × Literal) (literal (literal_onto at x k)) (at, x) k
again_literal at (l.Num n) k = meets_return (at, l.Num n) k
again_literal at (l.Chr n) k = meets_return (at, l.Chr n) k
again_literal at (l.Str n) k = meets_return (at, l.Str n) k

pub literal_starts : (at : At) (x : Literal) (k : List Token) → is_literal (head (literal_onto at x k)) ≡ true
literal_starts at (l.Num n) k = refl
literal_starts at (l.Chr n) k = refl
literal_starts at (l.Str n) k = refl
