-- The piece at the front of a text as a function, which the laws in proofs/ tie to the definitions.
use Rattle.std.specs.Prelude.{ℕ, zero, suc, ◌+◌, ◌-◌, List, [], ◌∷◌, ◌++◌, length, take, drop, Bool, false, not, ◌&&◌, ◌||◌, ◌==◌, nat_le, if◌then◌else◌, Option, Some, None, Result, Ok, Err}
use Rattle.std.specs.List.{prefix_len, take_while, list_all}
use Rattle.hdc_base.specs.declared.token.Key.{Key}
use Rattle.hdc_base.specs.declared.token.Word.{Word}
use Rattle.hdc_base.specs.declared.token.Word.TheVariants as word
use Rattle.hdc_lex.specs.Bytes.{class_of, is_name_byte, is_symbol, is_digit, is_hexadecimal, is_octal}
use Rattle.hdc_lex.specs.Words.{variable, symbol}
use Rattle.hdc_lex.specs.Numbers.{number_of, has_fraction}
use Rattle.hdc_lex.specs.Characters.{Character, character_at}
use Rattle.hdc_lex.specs.Fronts.{stop_at}
use Rattle.hdc_lex.specs.Grammar.{begins_with_both}
use Rattle.hdc_lex.specs.declared.class.Class.{Class}
use Rattle.hdc_lex.specs.declared.class.Class.TheVariants as class
use Rattle.hdc_lex.specs.declared.lexeme.Fault.{Fault}
use Rattle.hdc_lex.specs.declared.lexeme.Fault.TheVariants as fault
use Rattle.hdc_lex.specs.declared.lexeme.Piece.{Piece}
use Rattle.hdc_lex.specs.declared.lexeme.Piece.TheVariants as piece

-- the text begins with 0, one of the letters, and such a digit
abbrev pub has_radix : ℕ → ℕ → (ℕ → Bool) → List ℕ → Bool
has_radix small capital is_radix_digit (a ∷ b ∷ c ∷ rest) = (a == 48) && ((b == small) || (b == capital)) && is_radix_digit c
has_radix small capital is_radix_digit (a ∷ b ∷ []) = false
has_radix small capital is_radix_digit (a ∷ []) = false
has_radix small capital is_radix_digit [] = false

-- a number of this many bytes, where it is not too large
abbrev pub number_within : ℕ → ℕ → ℕ → Result (ℕ × ℕ) Fault
number_within greatest n size = if nat_le n greatest then Ok (n, size) else Err fault.Literal

-- the digits of a radix behind two bytes
abbrev pub radix_digits : (ℕ → Bool) → List ℕ → List ℕ
radix_digits is_radix_digit text = take_while is_radix_digit (drop 2 text)

-- how many bytes the decimal digits have at the front of a text that begins with one
abbrev pub decimal_size : List ℕ → ℕ
decimal_size text = 1 + prefix_len is_digit (drop 1 text)

-- the number at the front of a text that begins with a digit, with how many bytes it has
abbrev pub number_at : ℕ → List ℕ → Result (ℕ × ℕ) Fault
number_at greatest text =
    if has_radix 120 88 is_hexadecimal text then number_within greatest (number_of 16 (radix_digits is_hexadecimal text)) (2 + prefix_len is_hexadecimal (drop 2 text))
    else (if has_radix 111 79 is_octal text then number_within greatest (number_of 8 (radix_digits is_octal text)) (2 + prefix_len is_octal (drop 2 text))
    else (if has_fraction (drop (decimal_size text) text) then Err fault.Literal
    else number_within greatest (number_of 10 (take (decimal_size text) text)) (decimal_size text)))

-- a fault, told from a place so many bytes before
abbrev pub further : ℕ → Fault → Fault
further n (fault.Byte offset) = fault.Byte (n + offset)
further n fault.Literal = fault.Literal
further n fault.Unclosed = fault.Unclosed

abbrev pub more_by : ℕ → Option ℕ → Option ℕ
more_by n None = None
more_by n (Some size) = Some (n + size)

-- how many bytes lead to the end of a comment with so many openings, where it has an end: {- opens one more, and -}
-- closes the last opened
abbrev pub comment_end : ℕ → List ℕ → Option ℕ
comment_end depth [] = None
comment_end depth (a ∷ []) = None
comment_end depth (a ∷ b ∷ rest) =
    if begins_with_both 123 45 (a ∷ b ∷ rest) then more_by 2 (comment_end (depth + 1) rest)
    else (if begins_with_both 45 125 (a ∷ b ∷ rest) then (if depth == 1 then Some 2 else more_by 2 (comment_end (depth - 1) rest))
    else more_by 1 (comment_end depth (b ∷ rest)))

-- a piece with the number of its bytes, or what is wrong
abbrev pub Found : Type 0
Found = Result (Piece × ℕ) Fault

abbrev pub lexeme : Word → ℕ → Found
lexeme w size = Ok (piece.Lexeme w, size)

abbrev pub block_comment : Option ℕ → Found
block_comment None = Err fault.Unclosed
block_comment (Some size) = Ok (piece.Comment, size)

-- how many bytes a name has, and a run of symbols, and a line, where these begin a text
abbrev pub name_size : List ℕ → ℕ
name_size text = 1 + prefix_len is_name_byte (drop 1 text)

abbrev pub symbol_size : List ℕ → ℕ
symbol_size text = 1 + prefix_len is_symbol (drop 1 text)

abbrev pub line_size : List ℕ → ℕ
line_size text = 1 + prefix_len (λ b. not (b == 10)) (drop 1 text)

-- a run of two dashes or more is a comment to the line's end, and any other run of symbols is a lexeme
abbrev pub symbols_at : List ℕ → Piece × ℕ
symbols_at text =
    if nat_le 2 (symbol_size text) && list_all (λ b. b == 45) (take (symbol_size text) text)
    then (piece.Comment, line_size text)
    else (piece.Lexeme (symbol (take (symbol_size text) text)), symbol_size text)

abbrev pub begins_with : ℕ → List ℕ → Bool
begins_with b [] = false
begins_with b (c ∷ cs) = c == b

-- the character literal whose quote stands before the text
abbrev pub closed_character : List ℕ → Character → Found
closed_character text (Err f) = Err (further 1 f)
closed_character text (Ok (None, size)) = Err fault.Literal
closed_character text (Ok (Some code, size)) = if begins_with 39 (drop size text) then lexeme (word.Chr code) (size + 2) else Err (further 1 (stop_at size (drop size text)))

abbrev pub character_literal : List ℕ → Found
character_literal text = if begins_with 39 text then Err fault.Literal else closed_character text (character_at 39 text)

-- the codes of the characters up to the closing quote, with how many bytes these have and it, among at most so many characters
abbrev pub Codes : Type 0
Codes = Result (List ℕ × ℕ) Fault

abbrev pub with_front : List ℕ → ℕ → Codes → Codes
with_front codes size (Ok more) = Ok (codes ++ more.0, size + more.1)
with_front codes size (Err f) = Err (further size f)

abbrev pub code_list : Option ℕ → List ℕ
code_list None = []
code_list (Some code) = code ∷ []

abbrev pub behind_character : Character → (ℕ → Codes) → Codes
behind_character (Err f) rest = Err f
behind_character (Ok found) rest = with_front (code_list found.0) found.1 (rest found.1)

abbrev pub string_codes : ℕ → List ℕ → Codes
string_codes zero text = Err fault.Unclosed
string_codes (suc most) text = if begins_with 34 text then Ok ([], 1) else behind_character (character_at 34 text) (λ size. string_codes most (drop size text))

abbrev pub as_string : Codes → Found
as_string (Ok codes) = lexeme (word.Str codes.0) (codes.1 + 1)
as_string (Err f) = Err (further 1 f)

-- the string whose quote stands before the text
abbrev pub string_literal : List ℕ → Found
string_literal text = as_string (string_codes (length text) text)

abbrev pub as_number : Result (ℕ × ℕ) Fault → Found
as_number (Ok number) = lexeme (word.Num number.0) number.1
as_number (Err f) = Err f

-- a special byte, or the comment that {- begins
abbrev pub special_at : Key → List ℕ → Found
special_at k text = if begins_with_both 123 45 text then block_comment (comment_end 0 text) else lexeme (word.Key k) 1

-- the piece at the front of a text, by the class of its first byte; greatest is the greatest number there
abbrev pub piece_by : Class → ℕ → List ℕ → Found
piece_by class.White greatest text = Ok (piece.White, 1)
piece_by class.Small greatest text = lexeme (variable (take (name_size text) text)) (name_size text)
piece_by class.Capital greatest text = lexeme (word.Con (take (name_size text) text)) (name_size text)
piece_by class.Digit greatest text = as_number (number_at greatest text)
piece_by class.Symbol greatest text = Ok (symbols_at text)
piece_by (class.Special k) greatest text = special_at k text
piece_by class.Quote greatest text = character_literal (drop 1 text)
piece_by class.DoubleQuote greatest text = string_literal (drop 1 text)
piece_by class.Other greatest text = Err (fault.Byte 0)

abbrev pub piece_at : ℕ → List ℕ → Found
piece_at greatest [] = Err fault.Unclosed
piece_at greatest (b ∷ bs) = piece_by (class_of b) greatest (b ∷ bs)
