-- Tokens by their words: keys, names, operators and literals.
use Rattle.std.specs.Prelude.{◌≡◌, ℕ, zero, suc, Bool, true, false, ◌==◌, ◌&&◌, not, if◌then◌else◌, List, [], ◌∷◌, ◌++◌, codes, Option, Some, None, Result, Ok, Err}
use Rattle.std.specs.Str.{bytes_eq}
use Rattle.hdc_base.specs.declared.place.At.{At}
use Rattle.hdc_base.specs.declared.token.Key.{Key}
use Rattle.hdc_base.specs.declared.token.Key.TheVariants as key
use Rattle.hdc_base.specs.declared.token.Word.{Word}
use Rattle.hdc_base.specs.declared.token.Word.TheVariants as word
use Rattle.hdc_base.specs.declared.token.Token.{Token}
use Rattle.hdc_tree.specs.declared.name.Name.{Name}
use Rattle.hdc_tree.specs.declared.name.Var.{Var}
use Rattle.hdc_tree.specs.declared.name.Var.TheVariants as var
use Rattle.hdc_tree.specs.declared.name.VarOp.{VarOp}
use Rattle.hdc_tree.specs.declared.name.VarOp.TheVariants as var_op
use Rattle.hdc_tree.specs.declared.name.Op.{Op}
use Rattle.hdc_tree.specs.declared.name.Op.TheVariants as op
use Rattle.hdc_tree.specs.declared.name.Literal.{Literal}
use Rattle.hdc_tree.specs.declared.name.Literal.TheVariants as lit
use Rattle.hdc_syntax.specs.Parser.{Parser, ◌>>=◌, ◌>>◌, pure, refuse, peek, head, token}

-- the number of a key, in the order of the keys
abbrev pub code : Key → ℕ
code key.KCase = 0
code key.KClass = 1
code key.KData = 2
code key.KDefault = 3
code key.KDeriving = 4
code key.KDo = 5
code key.KElse = 6
code key.KIf = 7
code key.KImport = 8
code key.KIn = 9
code key.KInfix = 10
code key.KInfixl = 11
code key.KInfixr = 12
code key.KInstance = 13
code key.KLet = 14
code key.KModule = 15
code key.KNewtype = 16
code key.KOf = 17
code key.KThen = 18
code key.KType = 19
code key.KWhere = 20
code key.KUnderscore = 21
code key.KDots = 22
code key.KColon = 23
code key.KDoubleColon = 24
code key.KEqual = 25
code key.KBackslash = 26
code key.KBar = 27
code key.KLeftArrow = 28
code key.KRightArrow = 29
code key.KAt = 30
code key.KTilde = 31
code key.KDoubleArrow = 32
code key.KOpenParen = 33
code key.KCloseParen = 34
code key.KComma = 35
code key.KSemicolon = 36
code key.KOpenBracket = 37
code key.KCloseBracket = 38
code key.KOpenBrace = 39
code key.KCloseBrace = 40
code key.KBackquote = 41

-- the place of a token that is this key
abbrev pub key_word_at : Key → At → Word → Option At
key_word_at k at (word.Key c) = if code c == code k then Some at else None
key_word_at k at (word.Var text) = None
key_word_at k at (word.Con text) = None
key_word_at k at (word.Sym text) = None
key_word_at k at (word.Num n) = None
key_word_at k at (word.Chr code) = None
key_word_at k at (word.Str codes) = None

abbrev pub key_at : Key → Token → Option At
key_at k t = key_word_at k t.at t.word

-- this key
abbrev pub fixed : Key → Parser At
fixed k = token (key_at k)

abbrev pub is_key_word : Key → Word → Bool
is_key_word k (word.Key c) = code c == code k
is_key_word k (word.Var text) = false
is_key_word k (word.Con text) = false
is_key_word k (word.Sym text) = false
is_key_word k (word.Num n) = false
is_key_word k (word.Chr code) = false
is_key_word k (word.Str codes) = false

-- the next token is this key
abbrev pub is : Key → Option Token → Bool
is k (Some t) = is_key_word k t.word
is k None = false

-- a name that begins with a small letter, with its place
abbrev pub small_word_at : At → Word → Option Name
small_word_at at (word.Var text) = Some (record { at = at; text = text })
small_word_at at _ = None

abbrev pub small_of : Token → Option Name
small_of t = small_word_at t.at t.word

abbrev pub small : Parser Name
small = token small_of

-- a name that begins with a capital letter
abbrev pub capital_word_at : At → Word → Option Name
capital_word_at at (word.Con text) = Some (record { at = at; text = text })
capital_word_at at _ = None

abbrev pub capital_of : Token → Option Name
capital_of t = capital_word_at t.at t.word

abbrev pub capital : Parser Name
capital = token capital_of

-- a name of symbols
abbrev pub symbol_word_at : At → Word → Option Name
symbol_word_at at (word.Sym text) = Some (record { at = at; text = text })
symbol_word_at at _ = None

abbrev pub symbol_of : Token → Option Name
symbol_of t = symbol_word_at t.at t.word

abbrev pub symbol : Parser Name
symbol = token symbol_of

-- the sign -
abbrev pub is_minus_text : List ℕ → Bool
is_minus_text text = bytes_eq text (codes "-")

abbrev pub minus_word_at : At → Word → Option At
minus_word_at at (word.Sym text) = if is_minus_text text then Some at else None
minus_word_at at _ = None

abbrev pub minus_of : Token → Option At
minus_of t = minus_word_at t.at t.word

abbrev pub minus : Parser At
minus = token minus_of

-- a number, with its place
abbrev pub number_word_at : At → Word → Option (At × ℕ)
number_word_at at (word.Num n) = Some (at, n)
number_word_at at _ = None

abbrev pub number_of : Token → Option (At × ℕ)
number_of t = number_word_at t.at t.word

abbrev pub number : Parser (At × ℕ)
number = token number_of

-- a literal, with its place
abbrev pub literal_word_at : At → Word → Option (At × Literal)
literal_word_at at (word.Num n) = Some (at, lit.Num n)
literal_word_at at (word.Chr code) = Some (at, lit.Chr code)
literal_word_at at (word.Str codes) = Some (at, lit.Str codes)
literal_word_at at _ = None

abbrev pub literal_of : Token → Option (At × Literal)
literal_of t = literal_word_at t.at t.word

abbrev pub literal : Parser (At × Literal)
literal = token literal_of

-- what the next token is
abbrev pub is_small_word : Word → Bool
is_small_word (word.Var text) = true
is_small_word _ = false

abbrev pub is_small : Option Token → Bool
is_small (Some t) = is_small_word t.word
is_small None = false

abbrev pub is_capital_word : Word → Bool
is_capital_word (word.Con text) = true
is_capital_word _ = false

abbrev pub is_capital : Option Token → Bool
is_capital (Some t) = is_capital_word t.word
is_capital None = false

abbrev pub is_symbol_word : Word → Bool
is_symbol_word (word.Sym text) = true
is_symbol_word _ = false

abbrev pub is_symbol : Option Token → Bool
is_symbol (Some t) = is_symbol_word t.word
is_symbol None = false

abbrev pub is_minus_word : Word → Bool
is_minus_word (word.Sym text) = is_minus_text text
is_minus_word _ = false

abbrev pub is_minus : Option Token → Bool
is_minus (Some t) = is_minus_word t.word
is_minus None = false

abbrev pub is_literal_word : Word → Bool
is_literal_word (word.Num n) = true
is_literal_word (word.Chr code) = true
is_literal_word (word.Str codes) = true
is_literal_word _ = false

abbrev pub is_literal : Option Token → Bool
is_literal (Some t) = is_literal_word t.word
is_literal None = false
