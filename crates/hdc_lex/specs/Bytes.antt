-- Classes of bytes: what may begin with a byte, and what may stand in a name or a literal.
use Rattle.std.specs.Prelude.{ℕ, List, ◌∷◌, [], Bool, ◌&&◌, ◌||◌, ◌==◌, nat_le, if◌then◌else◌, codes}
use Rattle.std.specs.List.{list_any}
use Rattle.hdc_base.specs.declared.token.Key.TheVariants as key
use Rattle.hdc_lex.specs.declared.class.Class.{Class}
use Rattle.hdc_lex.specs.declared.class.Class.TheVariants as class

abbrev pub is_between : ℕ → ℕ → ℕ → Bool
is_between low high b = nat_le low b && nat_le b high

abbrev pub is_one_of : List ℕ → ℕ → Bool
is_one_of bytes b = list_any (λ x. x == b) bytes

-- a tab, a line feed, a carriage return and a space
abbrev pub is_white : ℕ → Bool
is_white b = is_one_of (9 ∷ 10 ∷ 13 ∷ 32 ∷ []) b

abbrev pub is_small : ℕ → Bool
is_small b = is_between 97 122 b || (b == 95)

abbrev pub is_capital : ℕ → Bool
is_capital b = is_between 65 90 b

abbrev pub is_digit : ℕ → Bool
is_digit b = is_between 48 57 b

abbrev pub is_symbol : ℕ → Bool
is_symbol b = is_one_of (codes "!#$%&*+./<=>?@\\^-~:|") b

-- the special bytes, each with its key, and then the quotes
abbrev pub class_of_rest : ℕ → Class
class_of_rest b =
    if b == 40 then class.Special key.KOpenParen else (if b == 41 then class.Special key.KCloseParen else (if b == 44 then class.Special key.KComma else (if b == 59 then class.Special key.KSemicolon else (if b == 91 then class.Special key.KOpenBracket else (if b == 93 then class.Special key.KCloseBracket else (if b == 123 then class.Special key.KOpenBrace else (if b == 125 then class.Special key.KCloseBrace else (if b == 96 then class.Special key.KBackquote else (if b == 39 then class.Quote else (if b == 34 then class.DoubleQuote else class.Other))))))))))

-- what may begin with the byte; a byte has one class
abbrev pub class_of : ℕ → Class
class_of b =
    if is_white b then class.White else (if is_small b then class.Small else (if is_capital b then class.Capital else (if is_digit b then class.Digit else (if is_symbol b then class.Symbol else class_of_rest b))))

-- what a name goes on with: letters, digits, _ and '
abbrev pub is_name_byte : ℕ → Bool
is_name_byte b = is_small b || is_capital b || is_digit b || (b == 39)

abbrev pub is_hexadecimal : ℕ → Bool
is_hexadecimal b = is_digit b || is_between 65 70 b || is_between 97 102 b

abbrev pub is_octal : ℕ → Bool
is_octal b = is_between 48 55 b

abbrev pub is_printable : ℕ → Bool
is_printable b = is_between 32 126 b
