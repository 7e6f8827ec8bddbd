-- What stands at the front of a text: a white byte, a comment, the longest lexeme, or a fault.
use Rattle.std.specs.Prelude.{◌≡◌, ℕ, ◌+◌, ◌≤◌, ◌<◌, List, [], ◌∷◌, ◌++◌, length, take, drop, Bool, true, false, not, ◌&&◌, ◌||◌, ◌==◌, nat_le, if◌then◌else◌}
use Rattle.std.specs.List.{take_while, list_all}
use Rattle.hdc_base.specs.declared.token.Word.{Word}
use Rattle.hdc_base.specs.declared.token.Word.TheVariants as word
use Rattle.hdc_lex.specs.Bytes.{is_white, is_digit, is_symbol, is_one_of, is_printable}
use Rattle.hdc_lex.specs.Numbers.{has_fraction}
use Rattle.hdc_lex.specs.Grammar.{begins_with_both, begins_with_member, IsLexeme}
use Rattle.hdc_lex.specs.declared.lexeme.Fault.{Fault}
use Rattle.hdc_lex.specs.declared.lexeme.Fault.TheVariants as fault
use Rattle.hdc_lex.specs.declared.lexeme.Piece.{Piece}
use Rattle.hdc_lex.specs.declared.lexeme.Piece.TheVariants as piece

-- the rest of a comment behind its {-, up to its -} and with it; comments lie in comments
pub data EndsComment : List ℕ → Type 0 where
  close : EndsComment (45 ∷ 125 ∷ [])
  nested : (inner bytes : List ℕ) → EndsComment inner → EndsComment bytes → EndsComment (123 ∷ 45 ∷ (inner ++ bytes))
  other : (b : ℕ) (bytes : List ℕ) → begins_with_both 123 45 (b ∷ bytes) ≡ false → begins_with_both 45 125 (b ∷ bytes) ≡ false → EndsComment bytes → EndsComment (b ∷ bytes)

-- two dashes or more
abbrev pub is_dashes : List ℕ → Bool
is_dashes bytes = nat_le 2 (length bytes) && list_all (λ b. b == 45) bytes

-- two dashes or more stand at the front, and they are no part of a longer run of symbols
abbrev pub begins_line_comment : List ℕ → Bool
begins_line_comment text = is_dashes (take_while is_symbol text)

-- a comment begins, with an end or without
abbrev pub begins_comment : List ℕ → Bool
begins_comment text = begins_line_comment text || begins_with_both 123 45 text

-- the longest lexeme at the front of a text, with the number of its bytes
pub record IsLongest (text : List ℕ) (size : ℕ) (w : Word) : Type 0 where
  pub within : size ≤ length text
  pub lexeme : IsLexeme (take size text) w
  pub longest : (n : ℕ) (v : Word) → n ≤ length text → IsLexeme (take n text) v → n ≤ size

-- a number above the greatest
abbrev pub is_above : ℕ → Word → Bool
is_above greatest (word.Num n) = not (nat_le n greatest)
is_above greatest (word.Var name) = false
is_above greatest (word.Con name) = false
is_above greatest (word.Sym name) = false
is_above greatest (word.Chr code) = false
is_above greatest (word.Str codes) = false
is_above greatest (word.Key k) = false

-- a number that is no literal: above the greatest, or decimal digits with a fraction or an exponent behind them
abbrev pub is_malformed : ℕ → List ℕ → Word → List ℕ → Bool
is_malformed greatest bytes w rest = is_above greatest w || (list_all is_digit bytes && has_fraction rest)

-- the piece at the front of a text, with the number of its bytes; greatest is the greatest number there
pub data IsPiece (greatest : ℕ) (text : List ℕ) : Piece → ℕ → Type 0 where
  white : begins_with_member is_white text ≡ true → IsPiece greatest text piece.White 1
  line : begins_line_comment text ≡ true → IsPiece greatest text piece.Comment (length (take_while (λ b. not (b == 10)) text))
  comment : (bytes rest : List ℕ) → text ≡ 123 ∷ 45 ∷ (bytes ++ rest) → EndsComment bytes → IsPiece greatest text piece.Comment (2 + length bytes)
  lexeme : (size : ℕ) (w : Word) → begins_comment text ≡ false → IsLongest text size w → is_malformed greatest (take size text) w (drop size text) ≡ false → IsPiece greatest text (piece.Lexeme w) size

-- bytes with which a lexeme begins
abbrev pub BeginsLexeme : List ℕ → Type 0
BeginsLexeme bytes = (more : List ℕ) × (w : Word) × IsLexeme (bytes ++ more) w

-- what is wrong where a literal goes wrong at the front of a rest, which begins so many bytes behind a place: it is cut off
-- by the end of the text or the line, a byte may not stand in it, or it is malformed
abbrev pub stop_at : ℕ → List ℕ → Fault
stop_at offset [] = fault.Unclosed
stop_at offset (b ∷ bs) = if b == 10 then fault.Unclosed else (if is_printable b then fault.Literal else fault.Byte offset)

-- so many bytes of a text begin a lexeme, and with the next byte no lexeme does: the first fault from the left, where no
-- lexeme is at the front
pub record IsFirstFault (text : List ℕ) (n : ℕ) : Type 0 where
  pub within : n ≤ length text
  pub before : BeginsLexeme (take n text)
  pub next : n < length text → BeginsLexeme (take (n + 1) text) → ⊥

-- no lexeme is at the front
abbrev pub HasNoLexeme : List ℕ → Type 0
HasNoLexeme text = (n : ℕ) (w : Word) → n ≤ length text → IsLexeme (take n text) w → ⊥

-- what is wrong at the front of a text; then no piece is there
pub data IsFault (greatest : ℕ) (text : List ℕ) : Fault → Type 0 where
  number : (size : ℕ) (w : Word) → begins_comment text ≡ false → IsLongest text size w → is_malformed greatest (take size text) w (drop size text) ≡ true → IsFault greatest text fault.Literal
  comment : begins_with_both 123 45 text ≡ true → ((bytes rest : List ℕ) → text ≡ 123 ∷ 45 ∷ (bytes ++ rest) → EndsComment bytes → ⊥) → IsFault greatest text fault.Unclosed
  literal : (n : ℕ) → begins_with_member (is_one_of (34 ∷ 39 ∷ [])) text ≡ true → HasNoLexeme text → IsFirstFault text n → IsFault greatest text (stop_at n (drop n text))
  byte : begins_with_member is_white text ≡ false → 0 < length text → (BeginsLexeme (take 1 text) → ⊥) → IsFault greatest text (fault.Byte 0)
