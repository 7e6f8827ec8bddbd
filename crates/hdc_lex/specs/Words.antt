-- Names and what is reserved.
use Rattle.std.specs.Prelude.{ℕ, List, [], ◌∷◌, Option, Some, None, if◌then◌else◌, codes}
use Rattle.std.specs.Str.{bytes_eq}
use Rattle.std.specs.Option.{option_map_or}
use Rattle.hdc_base.specs.declared.token.Key.{Key}
use Rattle.hdc_base.specs.declared.token.Key.TheVariants as key
use Rattle.hdc_base.specs.declared.token.Word.{Word}
use Rattle.hdc_base.specs.declared.token.Word.TheVariants as word

-- the key beside a text in a table
abbrev pub key_under : List (List ℕ × Key) → List ℕ → Option Key
key_under [] text = None
key_under (entry ∷ entries) text = if bytes_eq text entry.0 then Some entry.1 else key_under entries text

-- the reserved words
abbrev pub reserved_words : List (List ℕ × Key)
reserved_words =
    (codes "case", key.KCase) ∷ (codes "class", key.KClass) ∷ (codes "data", key.KData) ∷ (codes "default", key.KDefault) ∷ (codes "deriving", key.KDeriving) ∷ (codes "do", key.KDo) ∷ (codes "else", key.KElse) ∷ (codes "if", key.KIf) ∷ (codes "import", key.KImport) ∷ (codes "in", key.KIn) ∷ (codes "infix", key.KInfix) ∷ (codes "infixl", key.KInfixl) ∷ (codes "infixr", key.KInfixr) ∷ (codes "instance", key.KInstance) ∷ (codes "let", key.KLet) ∷ (codes "module", key.KModule) ∷ (codes "newtype", key.KNewtype) ∷ (codes "of", key.KOf) ∷ (codes "then", key.KThen) ∷ (codes "type", key.KType) ∷ (codes "where", key.KWhere) ∷ (codes "_", key.KUnderscore) ∷ []

-- the reserved operators
abbrev pub reserved_operators : List (List ℕ × Key)
reserved_operators =
    (codes "..", key.KDots) ∷ (codes ":", key.KColon) ∷ (codes "::", key.KDoubleColon) ∷ (codes "=", key.KEqual) ∷ (codes "\\", key.KBackslash) ∷ (codes "|", key.KBar) ∷ (codes "<-", key.KLeftArrow) ∷ (codes "->", key.KRightArrow) ∷ (codes "@", key.KAt) ∷ (codes "~", key.KTilde) ∷ (codes "=>", key.KDoubleArrow) ∷ []

-- a reserved text is its key, and any other is a variable, or a symbol
abbrev pub variable : List ℕ → Word
variable name = option_map_or (λ k. word.Key k) (key_under reserved_words name) (word.Var name)

abbrev pub symbol : List ℕ → Word
symbol name = option_map_or (λ k. word.Key k) (key_under reserved_operators name) (word.Sym name)
