-- What the parser reads of patterns, one definition for each rule.
use Rattle.std.specs.Prelude.{ℕ, zero, suc, Bool, true, false, if◌then◌else◌, List, [], ◌∷◌, Option, Some, None}
use Rattle.hdc_base.specs.declared.place.At.{At}
use Rattle.hdc_base.specs.declared.token.Key.TheVariants as key
use Rattle.hdc_base.specs.declared.token.Token.{Token}
use Rattle.hdc_tree.specs.declared.name.Name.{Name}
use Rattle.hdc_tree.specs.declared.pattern.Apat.{Apat}
use Rattle.hdc_tree.specs.declared.pattern.Apat.TheVariants as a
use Rattle.hdc_tree.specs.declared.pattern.LeftPat.{LeftPat}
use Rattle.hdc_tree.specs.declared.pattern.LeftPat.TheVariants as l
use Rattle.hdc_tree.specs.declared.pattern.CommaPat.{CommaPat, roll-CommaPat}
use Rattle.hdc_tree.specs.declared.pattern.ConsPat.{ConsPat, roll-ConsPat}
use Rattle.hdc_tree.specs.declared.pattern.Pat.{Pat, roll-Pat}
use Rattle.hdc_syntax.specs.Parser.{Parser, ◌>>=◌, ◌>>◌, pure, refuse, too_deep, peek, many_from, at_most_from}
use Rattle.hdc_syntax.specs.Words.{fixed, is, small, is_small, capital, is_capital, minus, is_minus, number, literal, is_literal}

-- the token begins a pattern that may be an argument
abbrev pub starts_apat : Option Token → Bool
starts_apat c = if is_small c then true else (if is_capital c then true else (if is_literal c then true else (if is key.KUnderscore c then true else (if is key.KOpenParen c then true else is key.KOpenBracket c))))

-- the rules at one depth, by the parser of patterns that may be arguments; the number bounds the turns of each loop
module _ (turns : ℕ) (apat : Parser Apat) where
  -- as many as there are
  abbrev pub apats : Parser (List Apat)
  apats = many_from starts_apat apat turns []

  unfoldable pub applied_pat : Name → Parser LeftPat
  applied_pat name = do
    first ← apat
    rest ← apats
    pure (l.Applied name first rest)

  -- a constructor with its arguments, or alone
  unfoldable pub constructor_pat : Parser LeftPat
  constructor_pat = capital >>= (λ name. peek >>= (λ c. if starts_apat c then applied_pat name else pure (l.Plain (a.Con name))))

  unfoldable pub negative_pat : Parser LeftPat
  negative_pat = minus >>= (λ at. number >>= (λ n. pure (l.Negative at n.0 n.1)))

  abbrev pub plain_pat : Parser LeftPat
  plain_pat = apat >>= (λ x. pure (l.Plain x))

  abbrev pub left_pat_by : Option Token → Parser LeftPat
  left_pat_by c = if is_capital c then constructor_pat else (if is_minus c then negative_pat else plain_pat)

  -- a pattern that may stand beside a `:`
  unfoldable pub left_pat : Parser LeftPat
  left_pat = peek >>= left_pat_by

  unfoldable pub cons_pat : Parser ConsPat
  cons_pat = fixed key.KColon >>= (λ colon. left_pat >>= (λ pat. pure (roll-ConsPat (record { colon = colon; pat = pat }))))

  abbrev pub cons_pats : Parser (List ConsPat)
  cons_pats = many_from (is key.KColon) cons_pat turns []

  -- a pattern whose first part is read
  abbrev pub pat_behind : LeftPat → Parser Pat
  pat_behind first = cons_pats >>= (λ rest. pure (roll-Pat (record { first = first; rest = rest })))

  unfoldable pub pat : Parser Pat
  pat = left_pat >>= pat_behind

  unfoldable pub comma_pat : Parser CommaPat
  comma_pat = fixed key.KComma >>= (λ comma. pat >>= (λ p. pure (roll-CommaPat (record { comma = comma; pat = p }))))

  -- the members of a tuple behind its first: one, and five more at most
  unfoldable pub tuple_pat : At → Pat → Parser Apat
  tuple_pat open_at first = do
    second ← comma_pat
    rest ← at_most_from (is key.KComma) comma_pat 5 (second ∷ [])
    close_at ← fixed key.KCloseParen
    pure (a.Tuple open_at first rest close_at)

  abbrev pub paren_pat : At → Pat → Parser Apat
  paren_pat open_at inner = fixed key.KCloseParen >>= (λ close_at. pure (a.Paren open_at inner close_at))

  -- behind the first pattern in parentheses
  abbrev pub parens_behind : At → Pat → Parser Apat
  parens_behind open_at first = peek >>= (λ c. if is key.KCloseParen c then paren_pat open_at first else tuple_pat open_at first)

  abbrev pub unit_pat : At → Parser Apat
  unit_pat open_at = fixed key.KCloseParen >>= (λ close_at. pure (a.Unit open_at close_at))

  unfoldable pub parens_pat : Parser Apat
  parens_pat = fixed key.KOpenParen >>= (λ open_at. peek >>= (λ c. if is key.KCloseParen c then unit_pat open_at else (pat >>= parens_behind open_at)))

  abbrev pub nil_pat : At → Parser Apat
  nil_pat open_at = fixed key.KCloseBracket >>= (λ close_at. pure (a.Nil open_at close_at))

  abbrev pub comma_pats : Parser (List CommaPat)
  comma_pats = many_from (is key.KComma) comma_pat turns []

  unfoldable pub members_pat : At → Parser Apat
  members_pat open_at = do
    first ← pat
    rest ← comma_pats
    close_at ← fixed key.KCloseBracket
    pure (a.List open_at first rest close_at)

  unfoldable pub list_pat : Parser Apat
  list_pat = fixed key.KOpenBracket >>= (λ open_at. peek >>= (λ c. if is key.KCloseBracket c then nil_pat open_at else members_pat open_at))

  abbrev pub as_pat : Name → Parser Apat
  as_pat name = fixed key.KAt >>= (λ at. apat >>= (λ x. pure (a.As name at x)))

  unfoldable pub named_pat : Parser Apat
  named_pat = small >>= (λ name. peek >>= (λ c. if is key.KAt c then as_pat name else pure (a.Var name)))

  abbrev pub con_pat : Parser Apat
  con_pat = capital >>= (λ name. pure (a.Con name))

  abbrev pub literal_pat : Parser Apat
  literal_pat = literal >>= (λ x. pure (a.Literal x.0 x.1))

  abbrev pub wildcard_pat : Parser Apat
  wildcard_pat = fixed key.KUnderscore >>= (λ at. pure (a.Wildcard at))

  abbrev pub apat_by : Option Token → Parser Apat
  apat_by c = if is_small c then named_pat else (if is_capital c then con_pat else (if is_literal c then literal_pat else (if is key.KUnderscore c then wildcard_pat else (if is key.KOpenParen c then parens_pat else (if is key.KOpenBracket c then list_pat else refuse)))))

  -- one depth further out
  unfoldable pub apat_level : Parser Apat
  apat_level = peek >>= apat_by

-- a pattern that may be an argument, in which no token nests as deep as this
unfoldable pub apat : ℕ → ℕ → Parser Apat
apat turns zero = too_deep
apat turns (suc depth) = apat_level turns (apat turns depth)
