-- What the parser reads of declarations and alternatives, one definition for each rule.
use Rattle.std.specs.Prelude.{ℕ, zero, suc, Bool, true, false, ◌&&◌, ◌||◌, not, if◌then◌else◌, List, [], ◌∷◌, Option, Some, None}
use Rattle.hdc_base.specs.declared.place.At.{At}
use Rattle.hdc_base.specs.declared.token.Key.TheVariants as key
use Rattle.hdc_base.specs.declared.token.Token.{Token}
use Rattle.hdc_tree.specs.declared.name.Name.{Name}
use Rattle.hdc_tree.specs.declared.name.Var.{Var}
use Rattle.hdc_tree.specs.declared.name.Var.TheVariants as var
use Rattle.hdc_tree.specs.declared.name.CommaVar.{CommaVar}
use Rattle.hdc_tree.specs.declared.pattern.Apat.{Apat}
use Rattle.hdc_tree.specs.declared.pattern.Apat.TheVariants as a
use Rattle.hdc_tree.specs.declared.pattern.LeftPat.{LeftPat}
use Rattle.hdc_tree.specs.declared.pattern.LeftPat.TheVariants as l
use Rattle.hdc_tree.specs.declared.pattern.Pat.{Pat, roll-Pat}
use Rattle.hdc_tree.specs.declared.head.Head.TheVariants as head
use Rattle.hdc_tree.specs.declared.expression.Alt.{Alt}
use Rattle.hdc_tree.specs.declared.expression.Alt.TheVariants as alternative
use Rattle.hdc_tree.specs.declared.expression.Alts.{Alts, roll-Alts}
use Rattle.hdc_tree.specs.declared.expression.ArrowGuard.{ArrowGuard, roll-ArrowGuard}
use Rattle.hdc_tree.specs.declared.expression.Block.{Block, roll-Block}
use Rattle.hdc_tree.specs.declared.expression.Decl.{Decl}
use Rattle.hdc_tree.specs.declared.expression.Decl.TheVariants as d
use Rattle.hdc_tree.specs.declared.expression.EqualGuard.{EqualGuard, roll-EqualGuard}
use Rattle.hdc_tree.specs.declared.expression.NextAlt.{NextAlt, roll-NextAlt}
use Rattle.hdc_tree.specs.declared.expression.NextDecl.{NextDecl, roll-NextDecl}
use Rattle.hdc_tree.specs.declared.expression.Rhs.{Rhs}
use Rattle.hdc_tree.specs.declared.expression.Rhs.TheVariants as r
use Rattle.hdc_tree.specs.declared.expression.Where.{Where}
use Rattle.hdc_tree.specs.declared.expression.Where.TheVariants as w
use Rattle.hdc_tree.specs.Form.{any_of}
use Rattle.hdc_tree.specs.ExpressionForm.{filled_alt, filled_next_alt}
use Rattle.hdc_syntax.specs.Parser.{Parser, ◌>>=◌, ◌>>◌, pure, refuse, too_deep, peek, many_from}
use Rattle.hdc_syntax.specs.Words.{fixed, is, small, is_small, capital, is_capital, symbol, is_symbol, is_minus, is_minus_text, number}
use Rattle.hdc_syntax.specs.Names.{starts_var_op, var_op, var}
use Rattle.hdc_syntax.specs.PatternReader.{starts_apat, apats, applied_pat, negative_pat, cons_pat, pat_behind, pat, parens_behind}
use Rattle.hdc_syntax.specs.TypeReader.{type_exp}
use Rattle.hdc_expression.specs.ExpressionReader.{Inner, whole}

-- the token ends a member of a block
abbrev pub ends_member : Option Token → Bool
ends_member c = if is key.KSemicolon c then true else is key.KCloseBrace c

-- the rules at one depth, by the parsers of what nests; the number bounds the turns of each loop
module _ (turns : ℕ) (inner : Inner) where
  -- `where` and declarations, or nothing
  unfoldable pub local : Parser Where
  local = peek >>= (λ c. if is key.KWhere c then (fixed key.KWhere >>= (λ at. inner.block >>= (λ decls. pure (w.Present at decls)))) else pure w.Absent)

  -- alternatives

  unfoldable pub arrow_guard : Parser ArrowGuard
  arrow_guard = do
    bar ← fixed key.KBar
    condition ← whole turns inner
    arrow ← fixed key.KRightArrow
    exp ← whole turns inner
    pure (roll-ArrowGuard (record { bar = bar; condition = condition; arrow = arrow; exp = exp }))

  abbrev pub arrow_guards : Parser (List ArrowGuard)
  arrow_guards = many_from (is key.KBar) arrow_guard turns []

  unfoldable pub arrow_alt : Pat → Parser Alt
  arrow_alt p = do
    arrow ← fixed key.KRightArrow
    e ← whole turns inner
    decls ← local
    pure (alternative.Arrow p arrow e decls)

  unfoldable pub guarded_alt : Pat → Parser Alt
  guarded_alt p = do
    first ← arrow_guard
    rest ← arrow_guards
    decls ← local
    pure (alternative.Guarded p first rest decls)

  unfoldable pub filled : Parser Alt
  filled = pat turns inner.apat >>= (λ p. peek >>= (λ c. if is key.KBar c then guarded_alt p else arrow_alt p))

  -- an alternative, which may be empty
  unfoldable pub alt : Parser Alt
  alt = peek >>= (λ c. if ends_member c then pure alternative.Blank else filled)

  unfoldable pub next_alt : Parser NextAlt
  next_alt = fixed key.KSemicolon >>= (λ semicolon. alt >>= (λ x. pure (roll-NextAlt (record { semicolon = semicolon; alt = x }))))

  abbrev pub next_alts : Parser (List NextAlt)
  next_alts = many_from (is key.KSemicolon) next_alt turns []

  abbrev pub alts_closed : At → Alt → List NextAlt → Parser Alts
  alts_closed open_at first rest = fixed key.KCloseBrace >>= (λ close_at. pure (roll-Alts (record { open_at = open_at; first = first; rest = rest; close_at = close_at })))

  -- alternatives in braces, one of which is not empty
  unfoldable pub alts : Parser Alts
  alts = do
    open_at ← fixed key.KOpenBrace
    first ← alt
    rest ← next_alts
    if filled_alt first || any_of filled_next_alt rest then alts_closed open_at first rest else refuse

  -- right sides

  unfoldable pub equal_guard : Parser EqualGuard
  equal_guard = do
    bar ← fixed key.KBar
    condition ← whole turns inner
    equal ← fixed key.KEqual
    exp ← whole turns inner
    pure (roll-EqualGuard (record { bar = bar; condition = condition; equal = equal; exp = exp }))

  abbrev pub equal_guards : Parser (List EqualGuard)
  equal_guards = many_from (is key.KBar) equal_guard turns []

  unfoldable pub equal_rhs : Parser Rhs
  equal_rhs = do
    equal ← fixed key.KEqual
    e ← whole turns inner
    decls ← local
    pure (r.Equal equal e decls)

  unfoldable pub guards_rhs : Parser Rhs
  guards_rhs = do
    first ← equal_guard
    rest ← equal_guards
    decls ← local
    pure (r.Guards first rest decls)

  unfoldable pub rhs : Parser Rhs
  rhs = peek >>= (λ c. if is key.KBar c then guards_rhs else equal_rhs)

  -- declarations. At top level, where the flag is set, none binds a pattern.

  unfoldable pub comma_var : Parser CommaVar
  comma_var = fixed key.KComma >>= (λ comma. var >>= (λ v. pure (record { comma = comma; var = v })))

  abbrev pub comma_vars : Parser (List CommaVar)
  comma_vars = many_from (is key.KComma) comma_var turns []

  unfoldable pub signature : Var → Parser Decl
  signature first = do
    rest ← comma_vars
    at ← fixed key.KDoubleColon
    part ← type_exp turns inner.atype
    pure (d.Signature first rest at part)

  unfoldable pub prefix_decl : Var → Parser Decl
  prefix_decl v = do
    ps ← apats turns inner.apat
    right ← rhs
    pure (d.Equation (head.Prefix v ps) right)

  -- behind a variable that is no pattern
  abbrev pub var_behind : Var → Parser Decl
  var_behind v = peek >>= (λ c. if is key.KComma c || is key.KDoubleColon c then signature v else prefix_decl v)

  unfoldable pub infix_decl : Apat → Parser Decl
  infix_decl p = do
    o ← var_op
    q ← inner.apat
    right ← rhs
    pure (d.Equation (head.Infix p o q) right)

  abbrev pub binding : Pat → Parser Decl
  binding p = rhs >>= (λ right. pure (d.Binding p right))

  -- behind the first part of a pattern that is bound
  unfoldable pub left_behind : LeftPat → Parser Decl
  left_behind first = pat_behind turns inner.apat first >>= binding

  -- behind a pattern that may be an argument
  abbrev pub apat_behind : Bool → Apat → Parser Decl
  apat_behind top x = peek >>= (λ c. if top || starts_var_op c then infix_decl x else left_behind (l.Plain x))

  unfoldable pub as_decl : Bool → Name → Parser Decl
  as_decl top name = fixed key.KAt >>= (λ at. inner.apat >>= (λ x. apat_behind top (a.As name at x)))

  -- a plain name and `:`
  unfoldable pub cons_decl : Name → Parser Decl
  cons_decl name = do
    first ← cons_pat turns inner.apat
    rest ← many_from (is key.KColon) (cons_pat turns inner.apat) turns (first ∷ [])
    binding (roll-Pat (record { first = l.Plain (a.Var name); rest = rest }))

  abbrev pub named_by : Bool → Name → Option Token → Parser Decl
  named_by top name c = if is key.KAt c then as_decl top name else (if not top && is key.KColon c then cons_decl name else (if starts_var_op c then infix_decl (a.Var name) else var_behind (var.Plain name)))

  unfoldable pub named : Bool → Parser Decl
  named top = small >>= (λ name. peek >>= named_by top name)

  abbrev pub applied_behind : Name → Parser Decl
  applied_behind name = applied_pat turns inner.apat name >>= left_behind

  unfoldable pub constructed : Bool → Parser Decl
  constructed top = capital >>= (λ name. peek >>= (λ c. if not top && starts_apat c then applied_behind name else apat_behind top (a.Con name)))

  unfoldable pub negative : Parser Decl
  negative = negative_pat turns inner.apat >>= left_behind

  -- what begins with a parenthesis

  unfoldable pub paren_infix : At → Apat → Parser Decl
  paren_infix open_at p = do
    o ← var_op
    q ← inner.apat
    close_at ← fixed key.KCloseParen
    first ← inner.apat
    rest ← apats turns inner.apat
    right ← rhs
    pure (d.Equation (head.Paren open_at p o q close_at first rest) right)

  -- behind the first part of a pattern in parentheses
  unfoldable pub paren_left : Bool → At → LeftPat → Parser Decl
  paren_left top open_at first = pat_behind turns inner.apat first >>= (λ p. parens_behind turns inner.apat open_at p >>= apat_behind top)

  abbrev pub paren_behind : Bool → At → Apat → Parser Decl
  paren_behind top open_at x = peek >>= (λ c. if starts_var_op c then paren_infix open_at x else paren_left top open_at (l.Plain x))

  abbrev pub operator_decl : At → Name → Parser Decl
  operator_decl open_at name = fixed key.KCloseParen >>= (λ close_at. var_behind (var.Operator open_at name close_at))

  abbrev pub minus_decl : Bool → At → Name → Parser Decl
  minus_decl top open_at name = number >>= (λ n. paren_left top open_at (l.Negative name.at n.0 n.1))

  abbrev pub symbol_by : Bool → At → Name → Option Token → Parser Decl
  symbol_by top open_at name c = if is key.KCloseParen c then operator_decl open_at name else (if is_minus_text name.text then minus_decl top open_at name else refuse)

  unfoldable pub symbol_decl : Bool → At → Parser Decl
  symbol_decl top open_at = symbol >>= (λ name. peek >>= symbol_by top open_at name)

  abbrev pub unit_decl : Bool → At → Parser Decl
  unit_decl top open_at = fixed key.KCloseParen >>= (λ close_at. apat_behind top (a.Unit open_at close_at))

  abbrev pub paren_applied : Bool → At → Name → Parser Decl
  paren_applied top open_at name = applied_pat turns inner.apat name >>= paren_left top open_at

  unfoldable pub paren_constructed : Bool → At → Parser Decl
  paren_constructed top open_at = capital >>= (λ name. peek >>= (λ c. if starts_apat c then paren_applied top open_at name else paren_behind top open_at (a.Con name)))

  abbrev pub parens_by : Bool → At → Option Token → Parser Decl
  parens_by top open_at c = if is_symbol c then symbol_decl top open_at else (if is key.KCloseParen c then unit_decl top open_at else (if is_capital c then paren_constructed top open_at else (inner.apat >>= paren_behind top open_at)))

  unfoldable pub parens : Bool → Parser Decl
  parens top = fixed key.KOpenParen >>= (λ open_at. peek >>= parens_by top open_at)

  abbrev pub decl_by : Bool → Option Token → Parser Decl
  decl_by top c = if is_small c then named top else (if is key.KOpenParen c then parens top else (if is_capital c then constructed top else (if not top && is_minus c then negative else (inner.apat >>= apat_behind top))))

  -- a declaration that is not empty
  unfoldable pub stated : Bool → Parser Decl
  stated top = peek >>= decl_by top

  -- a declaration, which may be empty
  unfoldable pub decl : Parser Decl
  decl = peek >>= (λ c. if ends_member c then pure d.Empty else stated false)

  unfoldable pub next_decl : Parser NextDecl
  next_decl = fixed key.KSemicolon >>= (λ semicolon. decl >>= (λ x. pure (roll-NextDecl (record { semicolon = semicolon; decl = x }))))

  abbrev pub next_decls : Parser (List NextDecl)
  next_decls = many_from (is key.KSemicolon) next_decl turns []

  unfoldable pub block : Parser Block
  block = do
    open_at ← fixed key.KOpenBrace
    first ← decl
    rest ← next_decls
    close_at ← fixed key.KCloseBrace
    pure (roll-Block (record { open_at = open_at; first = first; rest = rest; close_at = close_at }))
