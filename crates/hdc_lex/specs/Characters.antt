-- The character at the front of a text as a function, which the laws in proofs/ tie to the definitions.
use Rattle.std.specs.Prelude.{ℕ, ◌+◌, List, [], ◌∷◌, take, ◌==◌, nat_le, if◌then◌else◌, Option, Some, None, Result, Ok, Err}
use Rattle.std.specs.List.{prefix_len}
use Rattle.hdc_lex.specs.Bytes.{is_digit, is_hexadecimal, is_octal, is_printable}
use Rattle.hdc_lex.specs.Numbers.{number_of}
use Rattle.hdc_lex.specs.Grammar.{greatest_code, simple_escape}
use Rattle.hdc_lex.specs.Fronts.{stop_at}
use Rattle.hdc_lex.specs.declared.lexeme.Fault.{Fault}
use Rattle.hdc_lex.specs.declared.lexeme.Fault.TheVariants as fault

-- how far from the place that is asked for a fault is
abbrev pub offset_of : Fault → ℕ
offset_of (fault.Byte offset) = offset
offset_of fault.Literal = 0
offset_of fault.Unclosed = 0

-- one character, or none, with how many bytes it has
abbrev pub Character : Type 0
Character = Result (Option ℕ × ℕ) Fault

abbrev pub coded : ℕ → ℕ → Character
coded code size = if nat_le code greatest_code then Ok (Some code, size) else Err fault.Literal

-- an escape by its code: so many digits at the front of a text, so many bytes behind the backslash and with it
abbrev pub code_escape : ℕ → ℕ → ℕ → List ℕ → Character
code_escape radix offset size text = if size == 0 then Err (stop_at offset text) else coded (number_of radix (take size text)) (offset + size)

abbrev pub simple_character : Option ℕ → List ℕ → Character
simple_character (Some code) text = Ok (Some code, 2)
simple_character None text = Err (stop_at 1 text)

-- the escape behind a backslash: \& stands for no character, in a string alone
abbrev pub escape_at : ℕ → List ℕ → Character
escape_at quote [] = Err fault.Unclosed
escape_at quote (b ∷ bs) =
    if is_digit b then code_escape 10 1 (prefix_len is_digit (b ∷ bs)) (b ∷ bs)
    else (if b == 120 then code_escape 16 2 (prefix_len is_hexadecimal bs) bs
    else (if b == 111 then code_escape 8 2 (prefix_len is_octal bs) bs
    else (if b == 38 then (if quote == 34 then Ok (None, 2) else Err fault.Literal)
    else simple_character (simple_escape b) (b ∷ bs))))

-- the character at the front of a text behind the quote of a literal; the quote itself is none
abbrev pub character_at : ℕ → List ℕ → Character
character_at quote [] = Err fault.Unclosed
character_at quote (b ∷ bs) = if b == 92 then escape_at quote bs else (if is_printable b then Ok (Some b, 1) else Err (stop_at 0 (b ∷ bs)))
