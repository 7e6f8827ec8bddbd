-- The lexemes of a text: it is a list of pieces in turn, and they are its lexemes in order, with their places.
use Rattle.std.specs.Prelude.{◌≡◌, ℕ, ◌≤◌, List, [], ◌∷◌, ◌++◌, length, take, drop, Bool, false, Result, Ok, Err}
use Rattle.std.specs.Str.{bytes_eq}
use Rattle.hdc_base.specs.declared.place.At.{At}
use Rattle.hdc_base.specs.declared.token.Word.{Word}
use Rattle.hdc_base.specs.declared.token.Word.TheVariants as word
use Rattle.hdc_base.specs.declared.token.Token.{Token}
use Rattle.hdc_lex.specs.Place.{first_place, behind_all}
use Rattle.hdc_lex.specs.Numbers.{greatest_number}
use Rattle.hdc_lex.specs.Fronts.{IsPiece, IsFault}
use Rattle.hdc_lex.specs.declared.lexeme.Form.{Form}
use Rattle.hdc_lex.specs.declared.lexeme.Fault.{Fault}
use Rattle.hdc_lex.specs.declared.lexeme.Fault.TheVariants as fault
use Rattle.hdc_lex.specs.declared.lexeme.Piece.{Piece}
use Rattle.hdc_lex.specs.declared.lexeme.Piece.TheVariants as piece
use Rattle.hdc_lex.specs.declared.lexer.LexStop.{LexStop}
use Rattle.hdc_lex.specs.declared.lexer.LexStop.TheVariants as stop

-- the most lexemes of a text
abbrev pub most_lexemes : ℕ
most_lexemes = 131072

-- the name -
abbrev pub is_minus : Word → Bool
is_minus (word.Sym name) = bytes_eq name (45 ∷ [])
is_minus (word.Var name) = false
is_minus (word.Con name) = false
is_minus (word.Num n) = false
is_minus (word.Chr code) = false
is_minus (word.Str codes) = false
is_minus (word.Key k) = false

-- whether the last lexeme is -, where that is known before a piece
abbrev pub minus_after : Bool → Piece → Bool
minus_after minus (piece.Lexeme w) = is_minus w
minus_after minus piece.White = minus
minus_after minus piece.Comment = minus

-- the lexemes of a piece at a place
abbrev pub tokens_of : At → Piece → List Token
tokens_of at (piece.Lexeme w) = record { at = at; word = w } ∷ []
tokens_of at piece.White = []
tokens_of at piece.Comment = []

-- the text begins with pieces that have these lexemes, of which the last is - or not; the rest of it begins at a place
pub data Begins (form : Form) (text : List ℕ) : List Token → Bool → At → List ℕ → Type 0 where
  none : Begins form text [] false first_place text
  more : (tokens : List Token) (minus : Bool) (at : At) (rest : List ℕ) (p : Piece) (size : ℕ) → Begins form text tokens minus at rest → IsPiece (greatest_number form minus) rest p size → Begins form text (tokens ++ tokens_of at p) (minus_after minus p) (behind_all at (take size rest)) (drop size rest)

-- the stop for a fault at the front of the rest of a text
abbrev pub stop_of : At → List ℕ → Fault → LexStop
stop_of at rest (fault.Byte offset) = stop.Byte (behind_all at (take offset rest))
stop_of at rest fault.Literal = stop.Literal at
stop_of at rest fault.Unclosed = stop.Unclosed at

-- behind pieces with as many lexemes as a text may have, or fewer, no piece begins, and the stop tells what is wrong there
pub record IsStop (form : Form) (text : List ℕ) (s : LexStop) : Type 0 where
  pub tokens : List Token
  pub minus : Bool
  pub at : At
  pub rest : List ℕ
  pub found : Fault
  pub begins : Begins form text tokens minus at rest
  pub within : length tokens ≤ most_lexemes
  pub wrong : IsFault (greatest_number form minus) rest found
  pub none : (p : Piece) (size : ℕ) → IsPiece (greatest_number form minus) rest p size → ⊥
  pub told : s ≡ stop_of at rest found

-- the lexeme at the place is one more than a text may have
pub record IsTooMany (form : Form) (text : List ℕ) (place : At) : Type 0 where
  pub tokens : List Token
  pub minus : Bool
  pub rest : List ℕ
  pub w : Word
  pub size : ℕ
  pub begins : Begins form text tokens minus place rest
  pub count : length tokens ≡ most_lexemes
  pub lexeme : IsPiece (greatest_number form minus) rest (piece.Lexeme w) size

-- the text is a list of pieces with these lexemes
pub record IsWhole (form : Form) (text : List ℕ) (tokens : List Token) : Type 0 where
  pub minus : Bool
  pub at : At
  pub begins : Begins form text tokens minus at []
  pub within : length tokens ≤ most_lexemes

-- the answer for a text; want of memory tells nothing
abbrev pub Lexes : Form → List ℕ → Result (List Token) LexStop → Type 0
Lexes form text (Ok tokens) = IsWhole form text tokens
Lexes form text (Err (stop.Tokens place)) = IsTooMany form text place
Lexes form text (Err (stop.Byte place)) = IsStop form text (stop.Byte place)
Lexes form text (Err (stop.Literal place)) = IsStop form text (stop.Literal place)
Lexes form text (Err (stop.Unclosed place)) = IsStop form text (stop.Unclosed place)
Lexes form text (Err stop.Want) = Unit {0}

-- a text has one answer, but for want of memory
abbrev pub OneAnswer : Form → List ℕ → Type 0
OneAnswer form text = (first second : Result (List Token) LexStop) → Lexes form text first → Lexes form text second → (first ≡ Err stop.Want → ⊥) → (second ≡ Err stop.Want → ⊥) → first ≡ second
