-- What is a lexeme: lists of bytes, each with its word.
use Rattle.std.specs.Prelude.{◌≡◌, ℕ, ◌≤◌, List, [], ◌∷◌, ◌++◌, Bool, true, false, not, ◌&&◌, ◌==◌, if◌then◌else◌, Option, Some, None}
use Rattle.std.specs.List.{list_all}
use Rattle.hdc_base.specs.declared.token.Key.{Key}
use Rattle.hdc_base.specs.declared.token.Key.TheVariants as key
use Rattle.hdc_base.specs.declared.token.Word.{Word}
use Rattle.hdc_base.specs.declared.token.Word.TheVariants as word
use Rattle.hdc_lex.specs.Bytes.{is_one_of, is_small, is_capital, is_digit, is_symbol, is_name_byte, is_hexadecimal, is_octal, is_printable}
use Rattle.hdc_lex.specs.Words.{variable, symbol}
use Rattle.hdc_lex.specs.Numbers.{number_of}

-- one or more bytes of a class
abbrev pub is_run : (ℕ → Bool) → List ℕ → Bool
is_run is_member [] = false
is_run is_member (b ∷ bs) = list_all is_member (b ∷ bs)

-- a byte of a class stands at the front
abbrev pub begins_with_member : (ℕ → Bool) → List ℕ → Bool
begins_with_member is_member [] = false
begins_with_member is_member (b ∷ bs) = is_member b

-- two bytes stand at the front
abbrev pub begins_with_both : ℕ → ℕ → List ℕ → Bool
begins_with_both first second (a ∷ b ∷ rest) = (a == first) && (b == second)
begins_with_both first second (a ∷ []) = false
begins_with_both first second [] = false

-- the special bytes and their keys
pub data IsSpecial : ℕ → Key → Type 0 where
  open_paren : IsSpecial 40 key.KOpenParen
  close_paren : IsSpecial 41 key.KCloseParen
  comma : IsSpecial 44 key.KComma
  semicolon : IsSpecial 59 key.KSemicolon
  open_bracket : IsSpecial 91 key.KOpenBracket
  close_bracket : IsSpecial 93 key.KCloseBracket
  open_brace : IsSpecial 123 key.KOpenBrace
  close_brace : IsSpecial 125 key.KCloseBrace
  backquote : IsSpecial 96 key.KBackquote

-- the greatest code of a character
abbrev pub greatest_code : ℕ
greatest_code = 1114111

-- the code of the byte behind a backslash
abbrev pub simple_escape : ℕ → Option ℕ
simple_escape b =
    if b == 97 then Some 7 else (if b == 98 then Some 8 else (if b == 102 then Some 12 else (if b == 110 then Some 10 else (if b == 114 then Some 13 else (if b == 116 then Some 9 else (if b == 118 then Some 11 else (if b == 92 then Some 92 else (if b == 34 then Some 34 else (if b == 39 then Some 39 else None)))))))))

-- an escape behind its backslash, with its code, and with the class of the bytes that would make it longer
pub data IsEscape : (ℕ → Bool) → List ℕ → ℕ → Type 0 where
  simple : (b code : ℕ) → simple_escape b ≡ Some code → IsEscape (λ digit. false) (b ∷ []) code
  decimal : (digits : List ℕ) → is_run is_digit digits ≡ true → number_of 10 digits ≤ greatest_code → IsEscape is_digit digits (number_of 10 digits)
  hexadecimal : (digits : List ℕ) → is_run is_hexadecimal digits ≡ true → number_of 16 digits ≤ greatest_code → IsEscape is_hexadecimal (120 ∷ digits) (number_of 16 digits)
  octal : (digits : List ℕ) → is_run is_octal digits ≡ true → number_of 8 digits ≤ greatest_code → IsEscape is_octal (111 ∷ digits) (number_of 8 digits)

-- a byte that stands for itself between quotes
abbrev pub is_plain : ℕ → ℕ → Bool
is_plain quote b = is_printable b && not (b == quote) && not (b == 92)

-- what stands between the quotes of a character, with its code; the closing quote makes no escape longer
pub data IsCharacter : List ℕ → ℕ → Type 0 where
  plain : (b : ℕ) → is_plain 39 b ≡ true → IsCharacter (b ∷ []) b
  escaped : (is_more : ℕ → Bool) (escape : List ℕ) (code : ℕ) → IsEscape is_more escape code → IsCharacter (92 ∷ escape) code

-- what stands between the quotes of a string, with the codes of its characters; an escape is as long as it can be, and \& is
-- no character
pub data AreCharacters : List ℕ → List ℕ → Type 0 where
  none : AreCharacters [] []
  plain : (b : ℕ) (bytes codes : List ℕ) → is_plain 34 b ≡ true → AreCharacters bytes codes → AreCharacters (b ∷ bytes) (b ∷ codes)
  escaped : (is_more : ℕ → Bool) (escape bytes : List ℕ) (code : ℕ) (codes : List ℕ) → IsEscape is_more escape code → begins_with_member is_more bytes ≡ false → AreCharacters bytes codes → AreCharacters (92 ∷ (escape ++ bytes)) (code ∷ codes)
  empty : (bytes codes : List ℕ) → AreCharacters bytes codes → AreCharacters (92 ∷ 38 ∷ bytes) codes

-- bytes that are a lexeme, with its word; what stands around them is judged apart
pub data IsLexeme : List ℕ → Word → Type 0 where
  small : (b : ℕ) (bytes : List ℕ) → is_small b ≡ true → list_all is_name_byte bytes ≡ true → IsLexeme (b ∷ bytes) (variable (b ∷ bytes))
  capital : (b : ℕ) (bytes : List ℕ) → is_capital b ≡ true → list_all is_name_byte bytes ≡ true → IsLexeme (b ∷ bytes) (word.Con (b ∷ bytes))
  symbols : (bytes : List ℕ) → is_run is_symbol bytes ≡ true → IsLexeme bytes (symbol bytes)
  decimal : (digits : List ℕ) → is_run is_digit digits ≡ true → IsLexeme digits (word.Num (number_of 10 digits))
  hexadecimal : (x : ℕ) (digits : List ℕ) → is_one_of (120 ∷ 88 ∷ []) x ≡ true → is_run is_hexadecimal digits ≡ true → IsLexeme (48 ∷ x ∷ digits) (word.Num (number_of 16 digits))
  octal : (o : ℕ) (digits : List ℕ) → is_one_of (111 ∷ 79 ∷ []) o ≡ true → is_run is_octal digits ≡ true → IsLexeme (48 ∷ o ∷ digits) (word.Num (number_of 8 digits))
  character : (bytes : List ℕ) (code : ℕ) → IsCharacter bytes code → IsLexeme (39 ∷ (bytes ++ (39 ∷ []))) (word.Chr code)
  string : (bytes codes : List ℕ) → AreCharacters bytes codes → IsLexeme (34 ∷ (bytes ++ (34 ∷ []))) (word.Str codes)
  special : (b : ℕ) (k : Key) → IsSpecial b k → IsLexeme (b ∷ []) (word.Key k)
