-- What stands behind a backslash: an escape, or the first byte that is in no escape.
use Rattle.std.proofs.Common.{◌≡◌, ℕ, suc, ◌+◌, ◌*◌, ◌<◌, ◌≤◌, List, [], ◌∷◌, ◌++◌, length, get_or, take, refl, sym, ap, subst, ◌∙◌, arith, Bool, true, false, cond, ◌==◌, is_err, Option, Some, None, Ok, Err}
use Rattle.std.specs.Prelude.{nat_le}
use Rattle.std.specs.List.{list_all, prefix_len}
use Rattle.std.proofs.lemmas.Bool.{false≢true, and_from, and_parts, eqb-true, leb-true, leb-false, le-leb, lt-leb, ne_eqb}
use Rattle.std.proofs.lemmas.Bool.Decides.{nat_tests}
use Rattle.std.proofs.lemmas.List.{append-nil, append_assoc, length-append, take_at}
use Rattle.std.proofs.lemmas.List.Folds.{list_all-append}
use Rattle.hdc_lex.specs.Bytes.{is_digit, is_hexadecimal, is_octal}
use Rattle.hdc_lex.specs.Numbers.{digit_value, number_after, number_of}
use Rattle.hdc_lex.specs.Characters.{Character, coded, code_escape, simple_character, escape_at}
use Rattle.hdc_lex.specs.Fronts.{stop_at}
use Rattle.hdc_lex.specs.Grammar.{is_run, begins_with_member, IsEscape, greatest_code, simple_escape}
use Rattle.hdc_lex.specs.declared.lexeme.Fault.TheVariants as fault
use Rattle.hdc_lex.proofs.Numbers.{joined}
use Rattle.hdc_lex.proofs.Runs.{run_of, prefix_of_run, begins_with_none, number_grows, Over, first_over}

-- the digits of a radix in an escape, and the bytes before them
record Digits (is_more : ℕ → Bool) (radix : ℕ) (lead : List ℕ) : Type 0 where
  some : 0 < radix
  fits : (b : ℕ) → is_more b ≡ true → digit_value b ≤ greatest_code
  literal : (n b : ℕ) (bs : List ℕ) → is_more b ≡ true → stop_at n (b ∷ bs) ≡ fault.Literal
  escape : (digits : List ℕ) → is_run is_more digits ≡ true → number_of radix digits ≤ greatest_code → IsEscape is_more (lead ++ digits) (number_of radix digits)
  reads : (quote b : ℕ) (bs : List ℕ) → is_more b ≡ true → escape_at quote (lead ++ (b ∷ bs)) ≡ code_escape radix (1 + length lead) (prefix_len is_more (b ∷ bs)) (b ∷ bs)

-- the value of a decimal digit is small
decimal_fits : (b : ℕ) → is_digit b ≡ true → digit_value b ≤ greatest_code
decimal_fits b h = grind (arith, nat_tests)

-- the value of a hexadecimal digit is small
hexadecimal_fits : (b : ℕ) → is_hexadecimal b ≡ true → digit_value b ≤ greatest_code
hexadecimal_fits b h = grind (arith, nat_tests)

-- the value of an octal digit is small
octal_fits : (b : ℕ) → is_octal b ≡ true → digit_value b ≤ greatest_code
octal_fits b h = grind (arith, nat_tests)

-- a printable byte makes a literal malformed
printable_stops : (n b : ℕ) (bs : List ℕ) → 32 ≤ b → b ≤ 126 → stop_at n (b ∷ bs) ≡ fault.Literal
printable_stops n b bs low high = grind (arith, nat_tests)

-- a decimal digit makes a literal malformed
decimal_literal : (n b : ℕ) (bs : List ℕ) → is_digit b ≡ true → stop_at n (b ∷ bs) ≡ fault.Literal
decimal_literal n b bs h = printable_stops n b bs (grind (arith, nat_tests)) (grind (arith, nat_tests))

-- a hexadecimal digit makes a literal malformed
hexadecimal_literal : (n b : ℕ) (bs : List ℕ) → is_hexadecimal b ≡ true → stop_at n (b ∷ bs) ≡ fault.Literal
hexadecimal_literal n b bs h = printable_stops n b bs (grind (arith, nat_tests)) (grind (arith, nat_tests))

-- an octal digit makes a literal malformed
octal_literal : (n b : ℕ) (bs : List ℕ) → is_octal b ≡ true → stop_at n (b ∷ bs) ≡ fault.Literal
octal_literal n b bs h = printable_stops n b bs (grind (arith, nat_tests)) (grind (arith, nat_tests))

-- the escape behind a backslash by the tests on its first byte
abbrev escape_by : (digit hexadecimal octal empty : Bool) (simple : Option ℕ) (quote b : ℕ) (bs : List ℕ) → Character
escape_by digit hexadecimal octal empty simple quote b bs =
    cond digit (code_escape 10 1 (prefix_len is_digit (b ∷ bs)) (b ∷ bs)) (cond hexadecimal (code_escape 16 2 (prefix_len is_hexadecimal bs) bs) (cond octal (code_escape 8 2 (prefix_len is_octal bs) bs) (cond empty (cond (quote == 34) (Ok (None, 2)) (Err fault.Literal)) (simple_character simple (b ∷ bs)))))

-- decimal digits are read as such
decimal_reads : (quote b : ℕ) (bs : List ℕ) → is_digit b ≡ true → escape_at quote (b ∷ bs) ≡ code_escape 10 1 (prefix_len is_digit (b ∷ bs)) (b ∷ bs)
decimal_reads quote b bs h = ap (λ t. escape_by t (b == 120) (b == 111) (b == 38) (simple_escape b) quote b bs) h

-- decimal digits, directly behind the backslash
decimal_digits : Digits is_digit 10 []
decimal_digits = record { some = omega arith; fits = decimal_fits; literal = decimal_literal; escape = λ digits run fits. IsEscape.decimal digits run fits; reads = decimal_reads }

-- hexadecimal digits, behind an x
hexadecimal_digits : Digits is_hexadecimal 16 (120 ∷ [])
hexadecimal_digits = record { some = omega arith; fits = hexadecimal_fits; literal = hexadecimal_literal; escape = λ digits run fits. IsEscape.hexadecimal digits run fits; reads = λ quote b bs h. refl }

-- octal digits, behind an o
octal_digits : Digits is_octal 8 (111 ∷ [])
octal_digits = record { some = omega arith; fits = octal_fits; literal = octal_literal; escape = λ digits run fits. IsEscape.octal digits run fits; reads = λ quote b bs h. refl }

-- an escape that has digits is read by their number
some_digits : (radix offset size : ℕ) (text : List ℕ) → 0 < size → code_escape radix offset size text ≡ coded (number_of radix (take size text)) (offset + size)
some_digits radix offset size text some = ap (λ t. cond t (Err (stop_at offset text)) (coded (number_of radix (take size text)) (offset + size))) (ne_eqb size 0 (λ e. omega (arith, some, e)))

-- what digits make of the rest of an escape
digits_read : (is_more : ℕ → Bool) (radix : ℕ) (lead : List ℕ) → Digits is_more radix lead → (quote b : ℕ) (bs rest : List ℕ) → list_all is_more (b ∷ bs) ≡ true → begins_with_member is_more rest ≡ false → escape_at quote (lead ++ ((b ∷ bs) ++ rest)) ≡ coded (number_of radix (b ∷ bs)) (1 + length lead + length (b ∷ bs))
digits_read is_more radix lead d quote b bs rest all ends =
    let here = (and_parts (is_more b) (list_all is_more bs) all).0 in
    let size = prefix_of_run is_more (b ∷ bs) rest all ends in
    d.reads quote b (bs ++ rest) here
    ∙ ap (λ n. code_escape radix (1 + length lead) n (b ∷ (bs ++ rest))) size
    ∙ some_digits radix (1 + length lead) (length (b ∷ bs)) (b ∷ (bs ++ rest)) (omega arith)
    ∙ ap (λ digits. coded (number_of radix digits) (1 + length lead + length (b ∷ bs))) (take_at (b ∷ bs) rest (length (b ∷ bs)) refl)

-- the same, where the number is small enough
digits_fit : (is_more : ℕ → Bool) (radix : ℕ) (lead : List ℕ) → Digits is_more radix lead → (quote b : ℕ) (bs rest : List ℕ) → list_all is_more (b ∷ bs) ≡ true → begins_with_member is_more rest ≡ false → number_of radix (b ∷ bs) ≤ greatest_code → escape_at quote (lead ++ ((b ∷ bs) ++ rest)) ≡ Ok (Some (number_of radix (b ∷ bs)), suc (length (lead ++ (b ∷ bs))))
digits_fit is_more radix lead d quote b bs rest all ends fits =
    let size : 1 + length lead + length (b ∷ bs) ≡ suc (length (lead ++ (b ∷ bs))) = omega (arith, length-append lead (b ∷ bs)) in
    digits_read is_more radix lead d quote b bs rest all ends
    ∙ ap (λ t. cond t (Ok (Some (number_of radix (b ∷ bs)), 1 + length lead + length (b ∷ bs))) (Err fault.Literal)) (le-leb (number_of radix (b ∷ bs)) greatest_code fits)
    ∙ ap (λ n. Ok (Some (number_of radix (b ∷ bs)), n)) size

-- the same, where it is too large
digits_pass : (is_more : ℕ → Bool) (radix : ℕ) (lead : List ℕ) → Digits is_more radix lead → (quote b : ℕ) (bs rest : List ℕ) → list_all is_more (b ∷ bs) ≡ true → begins_with_member is_more rest ≡ false → greatest_code < number_of radix (b ∷ bs) → escape_at quote (lead ++ ((b ∷ bs) ++ rest)) ≡ Err fault.Literal
digits_pass is_more radix lead d quote b bs rest all ends over =
    digits_read is_more radix lead d quote b bs rest all ends
    ∙ ap (λ t. cond t (Ok (Some (number_of radix (b ∷ bs)), 1 + length lead + length (b ∷ bs))) (Err fault.Literal)) (lt-leb (number_of radix (b ∷ bs)) greatest_code over)

-- what one byte behind a backslash makes, where it begins no longer escape
record BeginsShort (b : ℕ) : Type 0 where
  digit : is_digit b ≡ false
  hexadecimal : (b == 120) ≡ false
  octal : (b == 111) ≡ false
  empty : (b == 38) ≡ false

-- a byte that is a simple escape begins no longer one
simple_is_short : (b code : ℕ) → simple_escape b ≡ Some code → BeginsShort b
simple_is_short b code h = record { digit = grind (arith, nat_tests); hexadecimal = grind (arith, nat_tests); octal = grind (arith, nat_tests); empty = grind (arith, nat_tests) }

-- such a byte is read by the table of simple escapes
short_read : (quote b : ℕ) (bs : List ℕ) → BeginsShort b → escape_at quote (b ∷ bs) ≡ simple_character (simple_escape b) (b ∷ bs)
short_read quote b bs s =
    ap (λ t. escape_by t (b == 120) (b == 111) (b == 38) (simple_escape b) quote b bs) s.digit
    ∙ ap (λ t. escape_by false t (b == 111) (b == 38) (simple_escape b) quote b bs) s.hexadecimal
    ∙ ap (λ t. escape_by false false t (b == 38) (simple_escape b) quote b bs) s.octal
    ∙ ap (λ t. escape_by false false false t (simple_escape b) quote b bs) s.empty

-- the same of a run that may have no digit
run_read : (is_more : ℕ → Bool) (radix : ℕ) (lead : List ℕ) → Digits is_more radix lead → (quote : ℕ) (digits rest : List ℕ) → is_run is_more digits ≡ true → number_of radix digits ≤ greatest_code → begins_with_member is_more rest ≡ false → escape_at quote (lead ++ (digits ++ rest)) ≡ Ok (Some (number_of radix digits), suc (length (lead ++ digits)))
run_read is_more radix lead d quote [] rest run fits ends = absurd (false≢true run)
run_read is_more radix lead d quote (b ∷ bs) rest run fits ends = digits_fit is_more radix lead d quote b bs rest run ends fits

-- an escape is read, whatever follows it that does not make it longer
pub escape_read : (is_more : ℕ → Bool) (bytes : List ℕ) (code quote : ℕ) (rest : List ℕ) → IsEscape is_more bytes code → begins_with_member is_more rest ≡ false → escape_at quote (bytes ++ rest) ≡ Ok (Some code, suc (length bytes))
escape_read is_more bytes code quote rest (IsEscape.simple b c e) ends = short_read quote b rest (simple_is_short b c e) ∙ ap (λ s. simple_character s (b ∷ rest)) e
escape_read is_more bytes code quote rest (IsEscape.decimal digits run fits) ends = run_read is_digit 10 [] decimal_digits quote digits rest run fits ends
escape_read is_more bytes code quote rest (IsEscape.hexadecimal digits run fits) ends = run_read is_hexadecimal 16 (120 ∷ []) hexadecimal_digits quote digits rest run fits ends
escape_read is_more bytes code quote rest (IsEscape.octal digits run fits) ends = run_read is_octal 8 (111 ∷ []) octal_digits quote digits rest run fits ends

-- what a text behind a backslash is: an escape, \& in a string, or bytes that begin an escape with a byte behind them with
-- which none begins
pub data EscapeView (quote : ℕ) (text : List ℕ) : Character → Type 0 where
  read : (is_more : ℕ → Bool) (bytes rest : List ℕ) (code : ℕ) → text ≡ bytes ++ rest → IsEscape is_more bytes code → begins_with_member is_more rest ≡ false → EscapeView quote text (Ok (Some code, suc (length bytes)))
  empty : (rest : List ℕ) → quote ≡ 34 → text ≡ 38 ∷ rest → EscapeView quote text (Ok (None, 2))
  stops : (is_more : ℕ → Bool) (front more rest : List ℕ) (code : ℕ) → text ≡ front ++ rest → IsEscape is_more (front ++ more) code → ((b : ℕ) (bs others : List ℕ) → rest ≡ b ∷ bs → is_err (escape_at quote (front ++ (b ∷ others))) ≡ true) → EscapeView quote text (Err (stop_at (suc (length front)) rest))

-- with a digit that makes the number too large, and whatever follows, the escape stays too large
stays_over : (is_more : ℕ → Bool) (radix : ℕ) (lead : List ℕ) → Digits is_more radix lead → (quote b : ℕ) (front : List ℕ) (digit : ℕ) (others : List ℕ) → list_all is_more (b ∷ front) ≡ true → is_more digit ≡ true → greatest_code < number_of radix (b ∷ (front ++ (digit ∷ []))) → is_err (escape_at quote ((lead ++ (b ∷ front)) ++ (digit ∷ others))) ≡ true
stays_over is_more radix lead d quote b front digit others all here over =
    let r = run_of is_more others in
    let bytes : List ℕ = (front ++ (digit ∷ [])) ++ r.bytes in
    let first = and_parts (is_more b) (list_all is_more front) all in
    let last : list_all is_more (digit ∷ []) ≡ true = and_from (is_more digit) true here refl in
    let middle : list_all is_more (front ++ (digit ∷ [])) ≡ true = list_all-append is_more front (digit ∷ []) ∙ and_from (list_all is_more front) (list_all is_more (digit ∷ [])) first.1 last in
    let every : list_all is_more bytes ≡ true = list_all-append is_more (front ++ (digit ∷ [])) r.bytes ∙ and_from (list_all is_more (front ++ (digit ∷ []))) (list_all is_more r.bytes) middle r.all in
    let value : number_of radix (b ∷ bytes) ≡ number_after radix (number_of radix (b ∷ (front ++ (digit ∷ [])))) r.bytes = joined radix (0 * radix + digit_value b) (front ++ (digit ∷ [])) r.bytes in
    let large : greatest_code < number_of radix (b ∷ bytes) = omega (arith, over, value, number_grows radix (number_of radix (b ∷ (front ++ (digit ∷ [])))) r.bytes d.some) in
    let shape : (lead ++ (b ∷ front)) ++ (digit ∷ others) ≡ lead ++ ((b ∷ bytes) ++ r.rest) =
    append_assoc lead (b ∷ front) (digit ∷ others)
    ∙ ap (λ xs. lead ++ (b ∷ (front ++ (digit ∷ xs)))) r.parts
    ∙ ap (λ xs. lead ++ (b ∷ xs)) (sym (append_assoc front (digit ∷ []) (r.bytes ++ r.rest)) ∙ sym (append_assoc (front ++ (digit ∷ [])) r.bytes r.rest)) in
    ap (λ text. is_err (escape_at quote text)) shape ∙ ap (λ c. is_err c) (digits_pass is_more radix lead d quote b bytes r.rest (and_from (is_more b) (list_all is_more bytes) first.0 every) r.ends large)

-- what stands at the front of two lists that are the same
pub same_head : (b c : ℕ) (bs cs : List ℕ) → b ∷ bs ≡ c ∷ cs → b ≡ c
same_head b c bs cs e = ap (λ xs. get_or xs 0 0) e

-- an escape of digits whose number is too large stops at the first digit with which it is
digits_stop : (is_more : ℕ → Bool) (radix : ℕ) (lead : List ℕ) → Digits is_more radix lead → (quote b : ℕ) (digits rest : List ℕ) → list_all is_more (b ∷ digits) ≡ true → Over radix greatest_code (0 * radix + digit_value b) digits → EscapeView quote (lead ++ ((b ∷ digits) ++ rest)) (Err fault.Literal)
digits_stop is_more radix lead d quote b digits rest all o =
    let first = and_parts (is_more b) (list_all is_more digits) all in
    let parted = and_parts (list_all is_more o.front) (list_all is_more (o.digit ∷ o.back)) (sym (list_all-append is_more o.front (o.digit ∷ o.back)) ∙ sym (ap (list_all is_more) o.parts) ∙ first.1) in
    let here = (and_parts (is_more o.digit) (list_all is_more o.back) parted.1).0 in
    let before : list_all is_more (b ∷ o.front) ≡ true = and_from (is_more b) (list_all is_more o.front) first.0 parted.0 in
    let shape : lead ++ ((b ∷ digits) ++ rest) ≡ (lead ++ (b ∷ o.front)) ++ (o.digit ∷ (o.back ++ rest)) =
    ap (λ xs. lead ++ (b ∷ (xs ++ rest))) o.parts
    ∙ ap (λ xs. lead ++ (b ∷ xs)) (append_assoc o.front (o.digit ∷ o.back) rest)
    ∙ sym (append_assoc lead (b ∷ o.front) (o.digit ∷ (o.back ++ rest))) in
    let whole : IsEscape is_more ((lead ++ (b ∷ o.front)) ++ []) (number_of radix (b ∷ o.front)) =
    subst (λ bytes. IsEscape is_more bytes (number_of radix (b ∷ o.front))) (sym (append-nil (lead ++ (b ∷ o.front)))) (d.escape (b ∷ o.front) before o.fits) in
    subst (λ f. EscapeView quote (lead ++ ((b ∷ digits) ++ rest)) (Err f)) (d.literal (suc (length (lead ++ (b ∷ o.front)))) o.digit (o.back ++ rest) here)
    (stops is_more (lead ++ (b ∷ o.front)) [] (o.digit ∷ (o.back ++ rest)) (number_of radix (b ∷ o.front)) shape whole
    (λ c cs others e. subst (λ c. is_err (escape_at quote ((lead ++ (b ∷ o.front)) ++ (c ∷ others))) ≡ true) (same_head o.digit c (o.back ++ rest) cs e)
    (stays_over is_more radix lead d quote b o.front o.digit others before here o.over)))

-- an escape that begins with a digit behind its lead
digits_view : (is_more : ℕ → Bool) (radix : ℕ) (lead : List ℕ) → Digits is_more radix lead → (quote b : ℕ) (bs : List ℕ) → is_more b ≡ true → EscapeView quote (lead ++ (b ∷ bs)) (escape_at quote (lead ++ (b ∷ bs)))
digits_view is_more radix lead d quote b bs here =
    let r = run_of is_more bs in
    subst (λ xs. EscapeView quote (lead ++ (b ∷ xs)) (escape_at quote (lead ++ (b ∷ xs)))) (sym r.parts)
    (by_test r.bytes r.rest (and_from (is_more b) (list_all is_more r.bytes) here r.all) r.ends (nat_le (number_of radix (b ∷ r.bytes)) greatest_code) refl)
  where
    by_test : (digits rest : List ℕ) → list_all is_more (b ∷ digits) ≡ true → begins_with_member is_more rest ≡ false → (test : Bool) → nat_le (number_of radix (b ∷ digits)) greatest_code ≡ test → EscapeView quote (lead ++ (b ∷ (digits ++ rest))) (escape_at quote (lead ++ (b ∷ (digits ++ rest))))
    by_test digits rest all ends true e =
        let fits = leb-true (number_of radix (b ∷ digits)) greatest_code e in
        subst (λ c. EscapeView quote (lead ++ (b ∷ (digits ++ rest))) c) (sym (digits_fit is_more radix lead d quote b digits rest all ends fits))
        (read is_more (lead ++ (b ∷ digits)) rest (number_of radix (b ∷ digits)) (sym (append_assoc lead (b ∷ digits) rest)) (d.escape (b ∷ digits) all fits) ends)
    by_test digits rest all ends false e =
        let over = leb-false (number_of radix (b ∷ digits)) greatest_code e in
        let small : 0 * radix + digit_value b ≤ greatest_code = omega (arith, d.fits b here) in
        subst (λ c. EscapeView quote (lead ++ (b ∷ (digits ++ rest))) c) (sym (digits_pass is_more radix lead d quote b digits rest all ends over))
        (digits_stop is_more radix lead d quote b digits rest all (first_over radix greatest_code (0 * radix + digit_value b) digits small over))

-- \x and \o with no digit behind them
leads_nowhere : (is_more : ℕ → Bool) (radix lead : ℕ) → is_more 48 ≡ true → ((digits : List ℕ) → is_run is_more digits ≡ true → number_of radix digits ≤ greatest_code → IsEscape is_more (lead ∷ digits) (number_of radix digits)) → number_of radix (48 ∷ []) ≤ greatest_code → (quote : ℕ) (bs : List ℕ) → ((bs : List ℕ) → begins_with_member is_more bs ≡ false → escape_at quote (lead ∷ bs) ≡ Err (stop_at 2 bs)) → begins_with_member is_more bs ≡ false → EscapeView quote (lead ∷ bs) (escape_at quote (lead ∷ bs))
leads_nowhere is_more radix lead zero_is escape fits quote bs reads ends =
    subst (λ c. EscapeView quote (lead ∷ bs) c) (sym (reads bs ends))
    (stops is_more (lead ∷ []) (48 ∷ []) bs (number_of radix (48 ∷ [])) refl (escape (48 ∷ []) (and_from (is_more 48) true zero_is refl) fits)
    (λ b cs others e. ap (λ c. is_err c) (reads (b ∷ others) (ap (begins_with_member is_more) (sym e) ∙ ends))))

-- an x with no digit behind it is a fault behind the x
hexadecimal_none : (quote : ℕ) (bs : List ℕ) → begins_with_member is_hexadecimal bs ≡ false → escape_at quote (120 ∷ bs) ≡ Err (stop_at 2 bs)
hexadecimal_none quote bs ends = ap (λ n. code_escape 16 2 n bs) (prefix_of_run is_hexadecimal [] bs refl ends)

-- an o with no digit behind it is a fault behind the o
octal_none : (quote : ℕ) (bs : List ℕ) → begins_with_member is_octal bs ≡ false → escape_at quote (111 ∷ bs) ≡ Err (stop_at 2 bs)
octal_none quote bs ends = ap (λ n. code_escape 8 2 n bs) (prefix_of_run is_octal [] bs refl ends)

-- what stands behind a backslash, where it begins with x
hexadecimal_view : (quote : ℕ) (bs : List ℕ) (test : Bool) → begins_with_member is_hexadecimal bs ≡ test → EscapeView quote (120 ∷ bs) (escape_at quote (120 ∷ bs))
hexadecimal_view quote [] true e = absurd (false≢true e)
hexadecimal_view quote (b ∷ bs) true e = digits_view is_hexadecimal 16 (120 ∷ []) hexadecimal_digits quote b bs e
hexadecimal_view quote bs false e = leads_nowhere is_hexadecimal 16 120 refl (λ digits run fits. IsEscape.hexadecimal digits run fits) (omega arith) quote bs (hexadecimal_none quote) e

-- what stands behind a backslash, where it begins with o
octal_view : (quote : ℕ) (bs : List ℕ) (test : Bool) → begins_with_member is_octal bs ≡ test → EscapeView quote (111 ∷ bs) (escape_at quote (111 ∷ bs))
octal_view quote [] true e = absurd (false≢true e)
octal_view quote (b ∷ bs) true e = digits_view is_octal 8 (111 ∷ []) octal_digits quote b bs e
octal_view quote bs false e = leads_nowhere is_octal 8 111 refl (λ digits run fits. IsEscape.octal digits run fits) (omega arith) quote bs (octal_none quote) e

-- directly behind a backslash stands a byte with which no escape begins
stops_at_once : (quote : ℕ) (text : List ℕ) → ((b : ℕ) (bs others : List ℕ) → text ≡ b ∷ bs → is_err (escape_at quote (b ∷ others)) ≡ true) → EscapeView quote text (Err (stop_at 1 text))
stops_at_once quote text none = stops (λ digit. false) [] (110 ∷ []) text 10 refl (IsEscape.simple 110 10 refl) none

-- \& is no character in a string, and malformed between quotes
empty_read : (quote : ℕ) (bs : List ℕ) (test : Bool) → (quote == 34) ≡ test → escape_at quote (38 ∷ bs) ≡ cond test (Ok (None, 2)) (Err fault.Literal)
empty_read quote bs test e = ap (λ t. cond t (Ok (None, 2)) (Err fault.Literal)) e

-- what stands behind a backslash, where it begins with &
empty_view : (quote : ℕ) (bs : List ℕ) (test : Bool) → (quote == 34) ≡ test → EscapeView quote (38 ∷ bs) (escape_at quote (38 ∷ bs))
empty_view quote bs true e = subst (λ c. EscapeView quote (38 ∷ bs) c) (sym (empty_read quote bs true e)) (empty bs (eqb-true quote 34 e) refl)
empty_view quote bs false e =
    subst (λ c. EscapeView quote (38 ∷ bs) c) (sym (empty_read quote bs false e))
    (stops_at_once quote (38 ∷ bs) (λ b cs others same. subst (λ c. is_err (escape_at quote (c ∷ others)) ≡ true) (same_head 38 b bs cs same) (ap (λ c. is_err c) (empty_read quote others false e))))

-- what stands behind a backslash, where its first byte begins no longer escape
short_view : (quote b : ℕ) (bs : List ℕ) → BeginsShort b → (simple : Option ℕ) → simple_escape b ≡ simple → EscapeView quote (b ∷ bs) (escape_at quote (b ∷ bs))
short_view quote b bs s (Some code) e =
    subst (λ c. EscapeView quote (b ∷ bs) c) (sym (short_read quote b bs s ∙ ap (λ o. simple_character o (b ∷ bs)) e))
    (read (λ digit. false) (b ∷ []) bs code refl (IsEscape.simple b code e) (begins_with_none bs))
short_view quote b bs s None e =
    subst (λ c. EscapeView quote (b ∷ bs) c) (sym (short_read quote b bs s ∙ ap (λ o. simple_character o (b ∷ bs)) e))
    (stops_at_once quote (b ∷ bs) (λ c cs others same. subst (λ c. is_err (escape_at quote (c ∷ others)) ≡ true) (same_head b c bs cs same) (ap (λ c. is_err c) (short_read quote b others s ∙ ap (λ o. simple_character o (b ∷ others)) e))))

-- what stands behind a backslash is one of these
pub escape_view : (quote : ℕ) (text : List ℕ) → EscapeView quote text (escape_at quote text)
escape_view quote [] = stops_at_once quote [] (λ b bs others e. absurd (omega (arith, ap length e)))
escape_view quote (b ∷ bs) = by_tests (is_digit b) refl (b == 120) refl (b == 111) refl (b == 38) refl
  where
    by_tests : (digit : Bool) → is_digit b ≡ digit → (hexadecimal : Bool) → (b == 120) ≡ hexadecimal → (octal : Bool) → (b == 111) ≡ octal → (none : Bool) → (b == 38) ≡ none → EscapeView quote (b ∷ bs) (escape_at quote (b ∷ bs))
    by_tests true e hexadecimal f octal g none h = digits_view is_digit 10 [] decimal_digits quote b bs e
    by_tests false e true f octal g none h = subst (λ b. EscapeView quote (b ∷ bs) (escape_at quote (b ∷ bs))) (sym (eqb-true b 120 f)) (hexadecimal_view quote bs (begins_with_member is_hexadecimal bs) refl)
    by_tests false e false f true g none h = subst (λ b. EscapeView quote (b ∷ bs) (escape_at quote (b ∷ bs))) (sym (eqb-true b 111 g)) (octal_view quote bs (begins_with_member is_octal bs) refl)
    by_tests false e false f false g true h = subst (λ b. EscapeView quote (b ∷ bs) (escape_at quote (b ∷ bs))) (sym (eqb-true b 38 h)) (empty_view quote bs (quote == 34) refl)
    by_tests false e false f false g false h = short_view quote b bs (record { digit = e; hexadecimal = f; octal = g; empty = h }) (simple_escape b) refl
