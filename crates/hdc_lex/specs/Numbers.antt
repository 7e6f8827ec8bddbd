-- Numbers.
use Rattle.std.specs.Prelude.{ℕ, ◌+◌, ◌-◌, ◌*◌, ◌^◌, List, [], ◌∷◌, Bool, false, ◌&&◌, ◌||◌, ◌==◌, if◌then◌else◌}
use Rattle.hdc_lex.specs.Bytes.{is_digit, is_between}
use Rattle.hdc_lex.specs.declared.lexeme.Form.{Form}
use Rattle.hdc_lex.specs.declared.lexeme.Form.TheVariants as form

-- the value of a digit of a radix of at most sixteen
abbrev pub digit_value : ℕ → ℕ
digit_value b = if is_digit b then b - 48 else (if is_between 97 102 b then b - 87 else b - 55)

-- the number that digits write behind those of n
abbrev pub number_after : ℕ → ℕ → List ℕ → ℕ
number_after radix n [] = n
number_after radix n (digit ∷ digits) = number_after radix (n * radix + digit_value digit) digits

abbrev pub number_of : ℕ → List ℕ → ℕ
number_of radix digits = number_after radix 0 digits

abbrev pub is_exponent : ℕ → Bool
is_exponent b = (b == 101) || (b == 69)

abbrev pub is_sign : ℕ → Bool
is_sign b = (b == 43) || (b == 45)

-- a point and a digit, or an exponent with a digit, a sign perhaps between: no number has these
abbrev pub has_fraction : List ℕ → Bool
has_fraction (a ∷ b ∷ c ∷ rest) = ((a == 46) && is_digit b) || (is_exponent a && (is_digit b || (is_sign b && is_digit c)))
has_fraction (a ∷ b ∷ []) = ((a == 46) && is_digit b) || (is_exponent a && is_digit b)
has_fraction (a ∷ []) = false
has_fraction [] = false

-- the greatest number: in an input one more, where the lexeme before is a minus
abbrev pub greatest_number : Form → Bool → ℕ
greatest_number form.Program behind_minus = 2 ^ 63 - 1
greatest_number form.Input behind_minus = if behind_minus then 2 ^ 63 else 2 ^ 63 - 1
