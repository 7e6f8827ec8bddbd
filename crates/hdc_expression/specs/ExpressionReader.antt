-- What the parser reads of expressions, one definition for each rule.
use Rattle.std.specs.Prelude.{ℕ, zero, suc, Bool, true, false, ◌&&◌, if◌then◌else◌, List, [], ◌∷◌, ◌++◌, Option, Some, None}
use Rattle.hdc_base.specs.declared.place.At.{At}
use Rattle.hdc_base.specs.declared.token.Key.TheVariants as key
use Rattle.hdc_base.specs.declared.token.Token.{Token}
use Rattle.hdc_tree.specs.declared.name.Name.{Name}
use Rattle.hdc_tree.specs.declared.name.Var.TheVariants as var
use Rattle.hdc_tree.specs.declared.name.VarOp.TheVariants as var_op
use Rattle.hdc_tree.specs.declared.name.Op.{Op}
use Rattle.hdc_tree.specs.declared.name.Op.TheVariants as operator
use Rattle.hdc_tree.specs.declared.name.Sign.{Sign}
use Rattle.hdc_tree.specs.declared.name.Sign.TheVariants as sign
use Rattle.hdc_tree.specs.declared.pattern.Apat.{Apat}
use Rattle.hdc_tree.specs.declared.pattern.Pat.{Pat}
use Rattle.hdc_tree.specs.declared.type_tree.Atype.{Atype}
use Rattle.hdc_tree.specs.declared.expression.Aexp.{Aexp}
use Rattle.hdc_tree.specs.declared.expression.Aexp.TheVariants as a
use Rattle.hdc_tree.specs.declared.expression.Alts.{Alts}
use Rattle.hdc_tree.specs.declared.expression.Apply.{Apply, roll-Apply}
use Rattle.hdc_tree.specs.declared.expression.Block.{Block}
use Rattle.hdc_tree.specs.declared.expression.CommaExp.{CommaExp, roll-CommaExp}
use Rattle.hdc_tree.specs.declared.expression.CommaQual.{CommaQual, roll-CommaQual}
use Rattle.hdc_tree.specs.declared.expression.Exp.{Exp, roll-Exp}
use Rattle.hdc_tree.specs.declared.expression.Link.{Link, roll-Link}
use Rattle.hdc_tree.specs.declared.expression.ListExp.TheVariants as l
use Rattle.hdc_tree.specs.declared.expression.Operand.{Operand}
use Rattle.hdc_tree.specs.declared.expression.Operand.TheVariants as o
use Rattle.hdc_tree.specs.declared.expression.Qual.{Qual}
use Rattle.hdc_tree.specs.declared.expression.Qual.TheVariants as q
use Rattle.hdc_syntax.specs.Parser.{Parser, ◌>>=◌, ◌>>◌, pure, refuse, too_deep, peek, either, many_from, at_most_from}
use Rattle.hdc_syntax.specs.Words.{fixed, is, small, is_small, capital, is_capital, symbol, is_symbol, minus, is_minus, is_minus_text, literal, is_literal}
use Rattle.hdc_syntax.specs.Names.{starts_op, op, quoted_op}
use Rattle.hdc_syntax.specs.PatternReader.{pat, apats}
use Rattle.hdc_expression.specs.declared.qualifier.QualHead.{QualHead}
use Rattle.hdc_expression.specs.declared.qualifier.QualHead.TheVariants as h

-- an expression, and the operator behind it that ends a section
abbrev pub Opened : Type 0
Opened = Exp × Option Op

-- the parsers of what nests; that of expressions is told whether an operator may end one, before a closing parenthesis,
-- and the sign of its first operand where that is read
pub record Inner : Type 0 where
  pub exp : Bool → Sign → Parser Opened
  pub block : Parser Block
  pub alts : Parser Alts
  pub apat : Parser Apat
  pub atype : Parser Atype

-- the token begins an expression that may be an argument
abbrev pub starts_aexp : Option Token → Bool
starts_aexp c = if is_small c then true else (if is_capital c then true else (if is_literal c then true else (if is key.KOpenParen c then true else is key.KOpenBracket c)))

-- the token ends a qualifier
abbrev pub ends_qual : Option Token → Bool
ends_qual c = if is key.KComma c then true else is key.KCloseBracket c

abbrev pub made : List Link → Sign → Operand → Exp
made links s last = roll-Exp (record { links = links; sign = s; last = last })

abbrev pub linked : List Link → Sign → Apply → Op → List Link
linked links s x y = links ++ roll-Link (record { sign = s; left = x; op = y }) ∷ []

-- the rules at one depth, by the parsers of what nests; the number bounds the turns of each loop
module _ (turns : ℕ) (inner : Inner) where
  -- an expression that no operator follows
  unfoldable pub whole : Parser Exp
  whole = inner.exp false sign.Absent >>= (λ x. pure x.0)

  unfoldable pub comma_exp : Parser CommaExp
  comma_exp = fixed key.KComma >>= (λ comma. whole >>= (λ e. pure (roll-CommaExp (record { comma = comma; exp = e }))))

  abbrev pub comma_exps : Parser (List CommaExp)
  comma_exps = many_from (is key.KComma) comma_exp turns []

  -- in parentheses

  -- the members of a tuple behind its first: one, and five more at most
  unfoldable pub tuple_exp : At → Exp → Parser Aexp
  tuple_exp open_at first = do
    second ← comma_exp
    rest ← at_most_from (is key.KComma) comma_exp 5 (second ∷ [])
    close_at ← fixed key.KCloseParen
    pure (a.Tuple open_at first rest close_at)

  abbrev pub paren_exp : At → Exp → Parser Aexp
  paren_exp open_at e = fixed key.KCloseParen >>= (λ close_at. pure (a.Paren open_at e close_at))

  abbrev pub left_section : At → Exp → Op → Parser Aexp
  left_section open_at e y = fixed key.KCloseParen >>= (λ close_at. pure (a.LeftSection open_at e y close_at))

  -- behind the first expression, with the operator that ends it
  abbrev pub parens_behind : At → Exp → Option Op → Parser Aexp
  parens_behind open_at e (Some y) = left_section open_at e y
  parens_behind open_at e None = peek >>= (λ c. if is key.KCloseParen c then paren_exp open_at e else tuple_exp open_at e)

  unfoldable pub inside : At → Sign → Parser Aexp
  inside open_at taken = inner.exp true taken >>= (λ x. parens_behind open_at x.0 x.1)

  unfoldable pub right_section : At → Op → Parser Aexp
  right_section open_at y = whole >>= (λ e. fixed key.KCloseParen >>= (λ close_at. pure (a.RightSection open_at y e close_at)))

  abbrev pub unit_exp : At → Parser Aexp
  unit_exp open_at = fixed key.KCloseParen >>= (λ close_at. pure (a.Unit open_at close_at))

  abbrev pub cons_exp : At → At → Parser Aexp
  cons_exp open_at at = fixed key.KCloseParen >>= (λ close_at. pure (a.Cons open_at at close_at))

  -- `:` alone, or before an expression
  unfoldable pub cons_in : At → Parser Aexp
  cons_in open_at = fixed key.KColon >>= (λ at. peek >>= (λ c. if is key.KCloseParen c then cons_exp open_at at else right_section open_at (operator.Cons at)))

  abbrev pub operator_name : At → Name → Parser Aexp
  operator_name open_at name = fixed key.KCloseParen >>= (λ close_at. pure (a.Var (var.Operator open_at name close_at)))

  abbrev pub symbol_before : At → Name → Parser Aexp
  symbol_before open_at name = if is_minus_text name.text then inside open_at (sign.Minus name.at) else right_section open_at (operator.Var (var_op.Symbol name))

  -- a name of symbols alone, or before an expression; a `-` is the sign of the expression
  unfoldable pub symbol_in : At → Parser Aexp
  symbol_in open_at = symbol >>= (λ name. peek >>= (λ c. if is key.KCloseParen c then operator_name open_at name else symbol_before open_at name))

  abbrev pub quoted_in : At → Parser Aexp
  quoted_in open_at = quoted_op >>= right_section open_at

  abbrev pub parens_by : At → Option Token → Parser Aexp
  parens_by open_at c = if is key.KCloseParen c then unit_exp open_at else (if is key.KColon c then cons_in open_at else (if is_symbol c then symbol_in open_at else (if is key.KBackquote c then quoted_in open_at else inside open_at sign.Absent)))

  unfoldable pub parens : Parser Aexp
  parens = fixed key.KOpenParen >>= (λ open_at. peek >>= parens_by open_at)

  -- qualifiers

  unfoldable pub generator : Parser QualHead
  generator = pat turns inner.apat >>= (λ p. fixed key.KLeftArrow >>= (λ arrow. pure (h.Source p arrow)))

  unfoldable pub condition : Parser QualHead
  condition = whole >>= (λ e. peek >>= (λ c. if ends_qual c then pure (h.Condition e) else refuse))

  -- which of the two it is shows within it
  abbrev pub qual_head : Parser QualHead
  qual_head = either generator condition

  abbrev pub qual_behind : QualHead → Parser Qual
  qual_behind (h.Source p arrow) = whole >>= (λ e. pure (q.Generator p arrow e))
  qual_behind (h.Condition e) = pure (q.Condition e)

  abbrev pub let_exp : At → Block → Parser Qual
  let_exp at decls = fixed key.KIn >>= (λ in_at. whole >>= (λ e. pure (q.Condition (made [] sign.Absent (o.Let at decls in_at e)))))

  -- `let` and declarations, alone or before `in`
  unfoldable pub let_qual : Parser Qual
  let_qual = do
    at ← fixed key.KLet
    decls ← inner.block
    c ← peek
    if is key.KIn c then let_exp at decls else pure (q.Local at decls)

  unfoldable pub qual : Parser Qual
  qual = peek >>= (λ c. if is key.KLet c then let_qual else (qual_head >>= qual_behind))

  unfoldable pub comma_qual : Parser CommaQual
  comma_qual = fixed key.KComma >>= (λ comma. qual >>= (λ x. pure (roll-CommaQual (record { comma = comma; qual = x }))))

  abbrev pub comma_quals : Parser (List CommaQual)
  comma_quals = many_from (is key.KComma) comma_qual turns []

  -- in brackets

  unfoldable pub range : At → Exp → Parser Aexp
  range open_at low = do
    dots ← fixed key.KDots
    high ← whole
    close_at ← fixed key.KCloseBracket
    pure (a.List (l.Range open_at low dots high close_at))

  unfoldable pub comprehension : At → Exp → Parser Aexp
  comprehension open_at e = do
    bar ← fixed key.KBar
    first ← qual
    rest ← comma_quals
    close_at ← fixed key.KCloseBracket
    pure (a.List (l.Comprehension open_at e bar first rest close_at))

  unfoldable pub members : At → Exp → Parser Aexp
  members open_at first = do
    rest ← comma_exps
    close_at ← fixed key.KCloseBracket
    pure (a.List (l.Members open_at first rest close_at))

  abbrev pub brackets_by : At → Exp → Option Token → Parser Aexp
  brackets_by open_at first c = if is key.KDots c then range open_at first else (if is key.KBar c then comprehension open_at first else members open_at first)

  -- behind the first expression
  abbrev pub brackets_behind : At → Exp → Parser Aexp
  brackets_behind open_at first = peek >>= brackets_by open_at first

  abbrev pub nil_exp : At → Parser Aexp
  nil_exp open_at = fixed key.KCloseBracket >>= (λ close_at. pure (a.Nil open_at close_at))

  unfoldable pub brackets : Parser Aexp
  brackets = fixed key.KOpenBracket >>= (λ open_at. peek >>= (λ c. if is key.KCloseBracket c then nil_exp open_at else (whole >>= brackets_behind open_at)))

  -- arguments

  abbrev pub name_exp : Parser Aexp
  name_exp = small >>= (λ name. pure (a.Var (var.Plain name)))

  abbrev pub con_exp : Parser Aexp
  con_exp = capital >>= (λ name. pure (a.Con name))

  abbrev pub literal_exp : Parser Aexp
  literal_exp = literal >>= (λ x. pure (a.Literal x.0 x.1))

  abbrev pub aexp_by : Option Token → Parser Aexp
  aexp_by c = if is_small c then name_exp else (if is_capital c then con_exp else (if is_literal c then literal_exp else (if is key.KOpenParen c then parens else (if is key.KOpenBracket c then brackets else refuse))))

  unfoldable pub aexp : Parser Aexp
  aexp = peek >>= aexp_by

  abbrev pub aexps : Parser (List Aexp)
  aexps = many_from starts_aexp aexp turns []

  unfoldable pub apply : Parser Apply
  apply = aexp >>= (λ f. aexps >>= (λ xs. pure (roll-Apply (record { head = f; args = xs }))))

  -- operands that stand last; what ends in an expression ends as that does

  unfoldable pub lambda : Bool → List Link → Sign → Parser Opened
  lambda section links s = do
    at ← fixed key.KBackslash
    first ← inner.apat
    rest ← apats turns inner.apat
    arrow ← fixed key.KRightArrow
    e ← inner.exp section sign.Absent
    pure (made links s (o.Lambda at first rest arrow e.0), e.1)

  unfoldable pub let_in : Bool → List Link → Sign → Parser Opened
  let_in section links s = do
    at ← fixed key.KLet
    decls ← inner.block
    in_at ← fixed key.KIn
    e ← inner.exp section sign.Absent
    pure (made links s (o.Let at decls in_at e.0), e.1)

  unfoldable pub choice : Bool → List Link → Sign → Parser Opened
  choice section links s = do
    at ← fixed key.KIf
    c ← whole
    then_at ← fixed key.KThen
    d ← whole
    else_at ← fixed key.KElse
    e ← inner.exp section sign.Absent
    pure (made links s (o.If at c then_at d else_at e.0), e.1)

  -- an operator that ends a section, where one may
  abbrev pub last_op : Bool → Parser (Option Op)
  last_op section = peek >>= (λ c. if section && starts_op c then (op >>= (λ x. pure (Some x))) else pure None)

  unfoldable pub cases : Bool → List Link → Sign → Parser Opened
  cases section links s = do
    at ← fixed key.KCase
    subject ← whole
    of_at ← fixed key.KOf
    alts ← inner.alts
    end ← last_op section
    pure (made links s (o.Case at subject of_at alts), end)

  -- chains

  -- the sign of an operand, where it is not yet read
  abbrev pub signed : Sign → Parser Sign
  signed (sign.Minus at) = pure (sign.Minus at)
  signed sign.Absent = peek >>= (λ c. if is_minus c then (minus >>= (λ at. pure (sign.Minus at))) else pure sign.Absent)

  -- by what reads the operands behind an operator
  module _ (go : List Link → Parser Opened) where
    unfoldable pub after_op : Bool → List Link → Sign → Apply → Parser Opened
    after_op section links s x = do
      y ← op
      c ← peek
      if section && is key.KCloseParen c then pure (made links s (o.Applied x), Some y) else go (linked links s x y)

    unfoldable pub operands : Bool → List Link → Sign → Parser Opened
    operands section links s = apply >>= (λ x. peek >>= (λ c. if starts_op c then after_op section links s x else pure (made links s (o.Applied x), None)))

    abbrev pub chain_by : Bool → List Link → Sign → Option Token → Parser Opened
    chain_by section links s c = if is key.KBackslash c then lambda section links s else (if is key.KLet c then let_in section links s else (if is key.KIf c then choice section links s else (if is key.KCase c then cases section links s else operands section links s)))

  unfoldable pub chain : Bool → ℕ → Sign → List Link → Parser Opened
  chain section zero taken links = too_deep
  chain section (suc n) taken links = signed taken >>= (λ s. peek >>= chain_by (chain section n sign.Absent) section links s)

  -- an expression, one depth further out
  abbrev pub exp_level : Bool → Sign → Parser Opened
  exp_level section taken = chain section turns taken []
