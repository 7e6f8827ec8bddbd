-- What the parser reads of types, one definition for each rule.
use Rattle.std.specs.Prelude.{ℕ, zero, suc, Bool, true, false, if◌then◌else◌, List, [], ◌∷◌, Option, Some, None}
use Rattle.hdc_base.specs.declared.place.At.{At}
use Rattle.hdc_base.specs.declared.token.Key.TheVariants as key
use Rattle.hdc_base.specs.declared.token.Token.{Token}
use Rattle.hdc_tree.specs.declared.name.Name.{Name}
use Rattle.hdc_tree.specs.declared.type_tree.Atype.{Atype}
use Rattle.hdc_tree.specs.declared.type_tree.Atype.TheVariants as a
use Rattle.hdc_tree.specs.declared.type_tree.Btype.{Btype}
use Rattle.hdc_tree.specs.declared.type_tree.Btype.TheVariants as b
use Rattle.hdc_tree.specs.declared.type_tree.ArrowType.{ArrowType, roll-ArrowType}
use Rattle.hdc_tree.specs.declared.type_tree.CommaType.{CommaType, roll-CommaType}
use Rattle.hdc_tree.specs.declared.type_tree.TypeExp.{TypeExp, roll-TypeExp}
use Rattle.hdc_syntax.specs.Parser.{Parser, ◌>>=◌, ◌>>◌, pure, refuse, too_deep, peek, many_from, at_most_from}
use Rattle.hdc_syntax.specs.Words.{fixed, is, small, is_small, capital, is_capital}

-- the token begins a type that may be an argument
abbrev pub starts_atype : Option Token → Bool
starts_atype c = if is_small c then true else (if is_capital c then true else (if is key.KOpenParen c then true else is key.KOpenBracket c))

-- the rules at one depth, by the parser of types that may be arguments; the number bounds the turns of each loop
module _ (turns : ℕ) (atype : Parser Atype) where
  -- as many as there are
  abbrev pub atypes : Parser (List Atype)
  atypes = many_from starts_atype atype turns []

  unfoldable pub applied_type : Name → Parser Btype
  applied_type name = do
    first ← atype
    rest ← atypes
    pure (b.Applied name first rest)

  -- a constructor with its arguments, or alone
  unfoldable pub constructor_type : Parser Btype
  constructor_type = capital >>= (λ name. peek >>= (λ c. if starts_atype c then applied_type name else pure (b.Plain (a.Con name))))

  abbrev pub plain_type : Parser Btype
  plain_type = atype >>= (λ x. pure (b.Plain x))

  -- a type that may stand beside a `->`
  unfoldable pub btype : Parser Btype
  btype = peek >>= (λ c. if is_capital c then constructor_type else plain_type)

  unfoldable pub arrow_type : Parser ArrowType
  arrow_type = fixed key.KRightArrow >>= (λ arrow. btype >>= (λ part. pure (roll-ArrowType (record { arrow = arrow; part = part }))))

  abbrev pub arrow_types : Parser (List ArrowType)
  arrow_types = many_from (is key.KRightArrow) arrow_type turns []

  unfoldable pub type_exp : Parser TypeExp
  type_exp = btype >>= (λ first. arrow_types >>= (λ rest. pure (roll-TypeExp (record { first = first; rest = rest }))))

  unfoldable pub comma_type : Parser CommaType
  comma_type = fixed key.KComma >>= (λ comma. type_exp >>= (λ part. pure (roll-CommaType (record { comma = comma; part = part }))))

  -- the members of a tuple behind its first: one, and five more at most
  unfoldable pub tuple_type : At → TypeExp → Parser Atype
  tuple_type open_at first = do
    second ← comma_type
    rest ← at_most_from (is key.KComma) comma_type 5 (second ∷ [])
    close_at ← fixed key.KCloseParen
    pure (a.Tuple open_at first rest close_at)

  abbrev pub paren_type : At → TypeExp → Parser Atype
  paren_type open_at inner = fixed key.KCloseParen >>= (λ close_at. pure (a.Paren open_at inner close_at))

  abbrev pub parens_type_behind : At → TypeExp → Parser Atype
  parens_type_behind open_at first = peek >>= (λ c. if is key.KCloseParen c then paren_type open_at first else tuple_type open_at first)

  abbrev pub unit_type : At → Parser Atype
  unit_type open_at = fixed key.KCloseParen >>= (λ close_at. pure (a.Unit open_at close_at))

  unfoldable pub parens_type : Parser Atype
  parens_type = fixed key.KOpenParen >>= (λ open_at. peek >>= (λ c. if is key.KCloseParen c then unit_type open_at else (type_exp >>= parens_type_behind open_at)))

  unfoldable pub list_type : Parser Atype
  list_type = do
    open_at ← fixed key.KOpenBracket
    inner ← type_exp
    close_at ← fixed key.KCloseBracket
    pure (a.List open_at inner close_at)

  abbrev pub con_type : Parser Atype
  con_type = capital >>= (λ name. pure (a.Con name))

  abbrev pub var_type : Parser Atype
  var_type = small >>= (λ name. pure (a.Var name))

  abbrev pub atype_by : Option Token → Parser Atype
  atype_by c = if is_small c then var_type else (if is_capital c then con_type else (if is key.KOpenParen c then parens_type else (if is key.KOpenBracket c then list_type else refuse)))

  -- one depth further out
  unfoldable pub atype_level : Parser Atype
  atype_level = peek >>= atype_by

-- a type that may be an argument, in which no token nests as deep as this
unfoldable pub atype : ℕ → ℕ → Parser Atype
atype turns zero = too_deep
atype turns (suc depth) = atype_level turns (atype turns depth)
