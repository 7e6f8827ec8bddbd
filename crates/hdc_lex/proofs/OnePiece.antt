-- The piece that the function finds is the one that the definition has.
use Rattle.std.proofs.Common.{◌≡◌, ◌⊎◌, inl, inr, ℕ, zero, suc, ◌+◌, ◌≤◌, ◌<◌, List, [], ◌∷◌, ◌++◌, length, take, drop, refl, sym, ap, subst, ◌∙◌, arith, Bool, true, false, cond, Option, Some, None, Result, Ok, Err}
use Rattle.std.specs.Prelude.{◌&&◌, ◌||◌, ◌==◌, nat_le, not, if◌then◌else◌}
use Rattle.std.specs.List.{list_all, prefix_len, take_while}
use Rattle.std.specs.Option.{is_some, option_map_or}
use Rattle.std.specs.Result.{is_ok}
use Rattle.std.proofs.lemmas.Bool.{false≢true, and_parts, and_right, both_ways, cases_order}
use Rattle.std.proofs.lemmas.Bool.Decides.{nat_tests}
use Rattle.std.proofs.lemmas.List.{append_assoc, length-append, length-take, take-append-drop, take-take}
use Rattle.std.proofs.lemmas.List.Sums.{prefix_len-le-length}
use Rattle.hdc_base.specs.declared.token.Key.{Key}
use Rattle.hdc_base.specs.declared.token.Word.{Word}
use Rattle.hdc_base.specs.declared.token.Word.TheVariants as word
use Rattle.hdc_lex.specs.Bytes.{class_of, is_white, is_one_of, is_symbol, is_digit, is_hexadecimal, is_octal}
use Rattle.hdc_lex.specs.Words.{variable, symbol, key_under, reserved_words, reserved_operators}
use Rattle.hdc_lex.specs.Numbers.{number_of, has_fraction}
use Rattle.hdc_lex.specs.Pieces.{Found, piece_at, piece_by, symbols_at, special_at, symbol_size, line_size, as_number, block_comment, character_literal, string_literal, comment_end, number_at, number_within, has_radix, radix_digits, decimal_size}
use Rattle.hdc_lex.specs.Grammar.{begins_with_both}
use Rattle.hdc_lex.specs.Grammar.{IsLexeme, small, capital, symbols, decimal, hexadecimal, octal, character, string, special, begins_with_member, AreCharacters, plain, IsSpecial, open_paren, close_paren, comma, semicolon, open_bracket, close_bracket, open_brace, close_brace, backquote}
use Rattle.hdc_lex.specs.Fronts.{EndsComment, is_dashes, begins_line_comment, begins_comment, IsLongest, is_above, is_malformed, IsPiece, white, line, comment, lexeme, BeginsLexeme, IsFirstFault, HasNoLexeme, IsFault, number, literal, byte, stop_at}
use Rattle.hdc_lex.specs.declared.class.Class.{Class}
use Rattle.hdc_lex.specs.declared.class.Class.TheVariants as class
use Rattle.hdc_lex.specs.declared.lexeme.Fault.{Fault}
use Rattle.hdc_lex.specs.declared.lexeme.Fault.TheVariants as fault
use Rattle.hdc_lex.specs.declared.lexeme.Piece.{Piece}
use Rattle.hdc_lex.specs.declared.lexeme.Piece.TheVariants as piece
use Rattle.hdc_lex.proofs.Classes.{Meets, meets, white_class, symbol_class, digit_class}
use Rattle.hdc_lex.proofs.Runs.{run_passes, take_one_more, take_two_more}
use Rattle.hdc_lex.proofs.Longest.{lexeme_in, longest_number, number_in, longest_by, longest_at, radix_second, covers, longest_is, is_longest, none_found}
use Rattle.hdc_lex.proofs.NestedComments.{comment_read, comment_is}
use Rattle.hdc_lex.proofs.FirstFaults.{LexemeBehind, FaultBehind}
use Rattle.hdc_lex.proofs.CharacterLiterals.{character_is, character_fault}
use Rattle.hdc_lex.proofs.StringLiterals.{string_is, string_fault}

-- what stands at the front by the definition, for what the function finds
abbrev Stands : ℕ → List ℕ → Found → Type 0
Stands greatest text (Ok found) = IsPiece greatest text found.0 found.1
Stands greatest text (Err f) = IsFault greatest text f

no_opening : (b : ℕ) (bs : List ℕ) → (b == 123) ≡ false → begins_with_both 123 45 (b ∷ bs) ≡ false
no_opening b [] o = refl
no_opening b (c ∷ cs) o = ap (λ t. t && (c == 45)) o

abbrev is_lexeme : Piece → Bool
is_lexeme (piece.Lexeme w) = true
is_lexeme piece.White = false
is_lexeme piece.Comment = false

-- a first byte that is no symbol and no opening brace begins no comment
no_comment : (b : ℕ) (bs : List ℕ) → is_symbol b ≡ false → (b == 123) ≡ false → begins_comment (b ∷ bs) ≡ false
no_comment b bs s o = ap (λ t. is_dashes (take (cond t (1 + prefix_len is_symbol bs) 0) (b ∷ bs)) || begins_with_both 123 45 (b ∷ bs)) s ∙ no_opening b bs o

-- a name with a reserved word for it or without is no number
variable_above : (greatest : ℕ) (name : List ℕ) → is_above greatest (variable name) ≡ false
variable_above greatest name = by_key (key_under reserved_words name)
  where
    by_key : (k : Option Key) → is_above greatest (option_map_or (λ k. word.Key k) k (word.Var name)) ≡ false
    by_key (Some k) = refl
    by_key None = refl

symbol_above : (greatest : ℕ) (name : List ℕ) → is_above greatest (symbol name) ≡ false
symbol_above greatest name = by_key (key_under reserved_operators name)
  where
    by_key : (k : Option Key) → is_above greatest (option_map_or (λ k. word.Key k) k (word.Sym name)) ≡ false
    by_key (Some k) = refl
    by_key None = refl

-- a lexeme that does not begin with a digit is no number
above_no : (greatest : ℕ) (bytes : List ℕ) (w : Word) → IsLexeme bytes w → begins_with_member is_digit bytes ≡ false → is_above greatest w ≡ false
above_no greatest _ _ (small b bytes h e) d = variable_above greatest (b ∷ bytes)
above_no greatest _ _ (capital b bytes h e) d = refl
above_no greatest _ _ (symbols bytes e) d = symbol_above greatest bytes
above_no greatest _ _ (decimal [] e) d = absurd (false≢true e)
above_no greatest _ _ (decimal (b ∷ bs) e) d = absurd (both_ways (is_digit b) d ((and_parts (is_digit b) (list_all is_digit bs) e).0))
above_no greatest _ _ (hexadecimal x digits h e) d = absurd (false≢true (sym d))
above_no greatest _ _ (octal x digits h e) d = absurd (false≢true (sym d))
above_no greatest _ _ (character bytes code h) d = refl
above_no greatest _ _ (string bytes codes h) d = refl
above_no greatest _ _ (special b k h) d = refl

-- a lexeme has a byte
pub lexeme_some : (bytes : List ℕ) (w : Word) → IsLexeme bytes w → 0 < length bytes
lexeme_some _ _ (small b bytes h e) = omega arith
lexeme_some _ _ (capital b bytes h e) = omega arith
lexeme_some _ _ (symbols [] e) = absurd (false≢true e)
lexeme_some _ _ (symbols (b ∷ bs) e) = omega arith
lexeme_some _ _ (decimal [] e) = absurd (false≢true e)
lexeme_some _ _ (decimal (b ∷ bs) e) = omega arith
lexeme_some _ _ (hexadecimal x digits h e) = omega arith
lexeme_some _ _ (octal x digits h e) = omega arith
lexeme_some _ _ (character bytes code h) = omega arith
lexeme_some _ _ (string bytes codes h) = omega arith
lexeme_some _ _ (special b k h) = omega arith

-- and it is not malformed
well_formed : (greatest b : ℕ) (bs : List ℕ) (size : ℕ) (w : Word) (rest : List ℕ) → is_digit b ≡ false → IsLexeme (take size (b ∷ bs)) w → is_malformed greatest (take size (b ∷ bs)) w rest ≡ false
well_formed greatest b bs zero w rest d lx = absurd (omega (arith, lexeme_some _ _ lx))
well_formed greatest b bs (suc n) w rest d lx = ap (λ t. t || (is_digit b && list_all is_digit (take n bs) && has_fraction rest)) (above_no greatest (b ∷ take n bs) w lx d) ∙ ap (λ t. t && list_all is_digit (take n bs) && has_fraction rest) d

-- the longest lexeme, where the first byte begins no comment and no number
front_lexeme : (greatest b : ℕ) (bs : List ℕ) (w : Word) (size : ℕ) → begins_comment (b ∷ bs) ≡ false → is_digit b ≡ false → longest_at (b ∷ bs) ≡ Some (w, size) → IsPiece greatest (b ∷ bs) (piece.Lexeme w) size
front_lexeme greatest b bs w size c d e =
    let l = longest_is (b ∷ bs) w size e in
    lexeme size w c l (well_formed greatest b bs size w (drop size (b ∷ bs)) d l.lexeme)

-- a number, or none where it is malformed
abbrev number_or : Bool → ℕ × ℕ → Result (ℕ × ℕ) Fault
number_or malformed found = if malformed then Err fault.Literal else Ok found

abbrev number_if : Bool → ℕ × ℕ → Result (ℕ × ℕ) Fault
number_if within found = if within then Ok found else Err fault.Literal

-- a choice by two tests
within_choice : (greatest v n : ℕ) (digits fraction : Bool) → digits ≡ false → number_within greatest v n ≡ number_or (not (nat_le v greatest) || (digits && fraction)) (v, n)
within_choice greatest v n digits fraction e = by_test (nat_le v greatest) ∙ ap (λ t. number_or (not (nat_le v greatest) || (t && fraction)) (v, n)) (sym e)
  where
    by_test : (t : Bool) → number_if t (v, n) ≡ number_or (not t || false) (v, n)
    by_test true = refl
    by_test false = refl

fraction_choice : (greatest v n : ℕ) (digits fraction : Bool) → digits ≡ true → cond fraction (Err fault.Literal) (number_within greatest v n) ≡ number_or (not (nat_le v greatest) || (digits && fraction)) (v, n)
fraction_choice greatest v n digits fraction e = by_test (nat_le v greatest) fraction ∙ ap (λ t. number_or (not (nat_le v greatest) || (t && fraction)) (v, n)) (sym e)
  where
    by_test : (t f : Bool) → cond f (Err fault.Literal) (number_if t (v, n)) ≡ number_or (not t || f) (v, n)
    by_test true true = refl
    by_test true false = refl
    by_test false true = refl
    by_test false false = refl

-- a number with a radix is no run of decimal digits
radix_digits_no : (lower upper : ℕ) (is_member : ℕ → Bool) (b : ℕ) (bs : List ℕ) (k : ℕ) → is_digit lower ≡ false → is_digit upper ≡ false → has_radix lower upper is_member (b ∷ bs) ≡ true → list_all is_digit (take (2 + k) (b ∷ bs)) ≡ false
radix_digits_no lower upper is_member b [] k l u h = absurd (false≢true h)
radix_digits_no lower upper is_member b (x ∷ xs) k l u h = ap (list_all is_digit) (take_two_more b x xs k) ∙ ap (λ t. is_digit b && (t && list_all is_digit (take k xs))) (by_test (x == lower) refl (radix_second lower upper is_member b x xs h)) ∙ and_right (is_digit b) false refl
  where
    by_test : (t : Bool) → (x == lower) ≡ t → (t || (x == upper)) ≡ true → is_digit x ≡ false
    by_test true e second = let same : x ≡ lower = grind (arith, nat_tests, e) in ap is_digit same ∙ l
    by_test false e second = let same : x ≡ upper = grind (arith, nat_tests, second) in ap is_digit same ∙ u

-- the longest number, by the tests for a radix
abbrev chosen : List ℕ → Bool → Bool → ℕ × ℕ
chosen text t u = cond t (number_of 16 (radix_digits is_hexadecimal text), 2 + prefix_len is_hexadecimal (drop 2 text)) (cond u (number_of 8 (radix_digits is_octal text), 2 + prefix_len is_octal (drop 2 text)) (number_of 10 (take (decimal_size text) text), decimal_size text))

-- the number at the front is the longest, where it is well formed
number_fits : (greatest b : ℕ) (bs : List ℕ) → is_digit b ≡ true → number_at greatest (b ∷ bs) ≡ number_or (is_malformed greatest (take (longest_number (b ∷ bs)).1 (b ∷ bs)) (word.Num (longest_number (b ∷ bs)).0) (drop (longest_number (b ∷ bs)).1 (b ∷ bs))) (longest_number (b ∷ bs))
number_fits greatest b bs d = by_radix (has_radix 120 88 is_hexadecimal (b ∷ bs)) refl (has_radix 111 79 is_octal (b ∷ bs)) refl
  where
    by_radix : (t : Bool) → has_radix 120 88 is_hexadecimal (b ∷ bs) ≡ t → (u : Bool) → has_radix 111 79 is_octal (b ∷ bs) ≡ u → cond t (number_within greatest (number_of 16 (radix_digits is_hexadecimal (b ∷ bs))) (2 + prefix_len is_hexadecimal (drop 2 (b ∷ bs)))) (cond u (number_within greatest (number_of 8 (radix_digits is_octal (b ∷ bs))) (2 + prefix_len is_octal (drop 2 (b ∷ bs)))) (cond (has_fraction (drop (decimal_size (b ∷ bs)) (b ∷ bs))) (Err fault.Literal) (number_within greatest (number_of 10 (take (decimal_size (b ∷ bs)) (b ∷ bs))) (decimal_size (b ∷ bs))))) ≡ number_or (is_malformed greatest (take (chosen (b ∷ bs) t u).1 (b ∷ bs)) (word.Num (chosen (b ∷ bs) t u).0) (drop (chosen (b ∷ bs) t u).1 (b ∷ bs))) (chosen (b ∷ bs) t u)
    by_radix true h u g = within_choice greatest (number_of 16 (radix_digits is_hexadecimal (b ∷ bs))) (2 + prefix_len is_hexadecimal (drop 2 (b ∷ bs))) _ (has_fraction (drop (2 + prefix_len is_hexadecimal (drop 2 (b ∷ bs))) (b ∷ bs))) (radix_digits_no 120 88 is_hexadecimal b bs (prefix_len is_hexadecimal (drop 2 (b ∷ bs))) refl refl h)
    by_radix false h true g = within_choice greatest (number_of 8 (radix_digits is_octal (b ∷ bs))) (2 + prefix_len is_octal (drop 2 (b ∷ bs))) _ (has_fraction (drop (2 + prefix_len is_octal (drop 2 (b ∷ bs))) (b ∷ bs))) (radix_digits_no 111 79 is_octal b bs (prefix_len is_octal (drop 2 (b ∷ bs))) refl refl g)
    by_radix false h false g = fraction_choice greatest (number_of 10 (take (decimal_size (b ∷ bs)) (b ∷ bs))) (decimal_size (b ∷ bs)) (list_all is_digit (take (decimal_size (b ∷ bs)) (b ∷ bs))) (has_fraction (drop (decimal_size (b ∷ bs)) (b ∷ bs))) (ap (list_all is_digit) (take_one_more b bs (prefix_len is_digit bs)) ∙ ap (λ t. t && list_all is_digit (take (prefix_len is_digit bs) bs)) d ∙ run_passes is_digit bs)

-- a run of symbols is a comment where the function says so
dash_test : (b : ℕ) (bs : List ℕ) → is_symbol b ≡ true → begins_line_comment (b ∷ bs) ≡ (nat_le 2 (symbol_size (b ∷ bs)) && list_all (λ b. b == 45) (take (symbol_size (b ∷ bs)) (b ∷ bs)))
dash_test b bs s =
    let run : prefix_len is_symbol (b ∷ bs) ≡ symbol_size (b ∷ bs) = ap (λ t. cond t (1 + prefix_len is_symbol bs) 0) s in
    let size : length (take (symbol_size (b ∷ bs)) (b ∷ bs)) ≡ symbol_size (b ∷ bs) = omega (arith, length-take (symbol_size (b ∷ bs)) (b ∷ bs), prefix_len-le-length is_symbol bs) in
    ap (λ n. is_dashes (take n (b ∷ bs))) run ∙ ap (λ n. nat_le 2 n && list_all (λ b. b == 45) (take (symbol_size (b ∷ bs)) (b ∷ bs))) size

line_sizes : (b : ℕ) (bs : List ℕ) → (b == 10) ≡ false → length (take_while (λ b. not (b == 10)) (b ∷ bs)) ≡ line_size (b ∷ bs)
line_sizes b bs e =
    let run : prefix_len (λ b. not (b == 10)) (b ∷ bs) ≡ line_size (b ∷ bs) = ap (λ t. cond (not t) (1 + prefix_len (λ b. not (b == 10)) bs) 0) e in
    omega (arith, length-take (prefix_len (λ b. not (b == 10)) (b ∷ bs)) (b ∷ bs), run, prefix_len-le-length (λ b. not (b == 10)) (b ∷ bs))

number_fronts : (greatest b : ℕ) (bs : List ℕ) → is_digit b ≡ true → class_of b ≡ class.Digit → Stands greatest (b ∷ bs) (as_number (number_at greatest (b ∷ bs)))
number_fronts greatest b bs d e =
    let s : is_symbol b ≡ false = grind (arith, nat_tests, d) in
    let o : (b == 123) ≡ false = grind (arith, nat_tests, d) in
    let l = longest_is (b ∷ bs) (word.Num (longest_number (b ∷ bs)).0) (longest_number (b ∷ bs)).1 (ap (λ c. longest_by c (b ∷ bs)) e) in
    subst (λ r. Stands greatest (b ∷ bs) (as_number r)) (sym (number_fits greatest b bs d)) (by_test (no_comment b bs s o) l _ refl)
  where
    by_test : begins_comment (b ∷ bs) ≡ false → IsLongest (b ∷ bs) (longest_number (b ∷ bs)).1 (word.Num (longest_number (b ∷ bs)).0) → (t : Bool) → is_malformed greatest (take (longest_number (b ∷ bs)).1 (b ∷ bs)) (word.Num (longest_number (b ∷ bs)).0) (drop (longest_number (b ∷ bs)).1 (b ∷ bs)) ≡ t → Stands greatest (b ∷ bs) (as_number (number_or t (longest_number (b ∷ bs))))
    by_test c l true h = number _ _ c l h
    by_test c l false h = lexeme _ _ c l h

symbol_fronts : (greatest b : ℕ) (bs : List ℕ) → is_symbol b ≡ true → class_of b ≡ class.Symbol → Stands greatest (b ∷ bs) (Ok (symbols_at (b ∷ bs)))
symbol_fronts greatest b bs s e = by_test (nat_le 2 (symbol_size (b ∷ bs)) && list_all (λ b. b == 45) (take (symbol_size (b ∷ bs)) (b ∷ bs))) refl
  where
    by_test : (t : Bool) → (nat_le 2 (symbol_size (b ∷ bs)) && list_all (λ b. b == 45) (take (symbol_size (b ∷ bs)) (b ∷ bs))) ≡ t → Stands greatest (b ∷ bs) (Ok (cond t (piece.Comment, line_size (b ∷ bs)) (piece.Lexeme (symbol (take (symbol_size (b ∷ bs)) (b ∷ bs))), symbol_size (b ∷ bs))))
    by_test true h =
        let n : (b == 10) ≡ false = grind (arith, nat_tests, s) in
        subst (IsPiece greatest (b ∷ bs) piece.Comment) (line_sizes b bs n) (line (dash_test b bs s ∙ h))
    by_test false h =
        let d : is_digit b ≡ false = grind (arith, nat_tests, s) in
        let o : (b == 123) ≡ false = grind (arith, nat_tests, s) in
        let c : begins_comment (b ∷ bs) ≡ false = ap (λ t. t || begins_with_both 123 45 (b ∷ bs)) (dash_test b bs s ∙ h) ∙ no_opening b bs o in
        front_lexeme greatest b bs _ _ c d (ap (λ c. longest_by c (b ∷ bs)) e)

block_fronts : (greatest : ℕ) (cs : List ℕ) → Stands greatest (123 ∷ 45 ∷ cs) (block_comment (comment_end 0 (123 ∷ 45 ∷ cs)))
block_fronts greatest cs = by_end (comment_end 0 (123 ∷ 45 ∷ cs)) refl
  where
    by_end : (o : Option ℕ) → comment_end 0 (123 ∷ 45 ∷ cs) ≡ o → Stands greatest (123 ∷ 45 ∷ cs) (block_comment o)
    by_end None e = comment refl (λ bytes rest same ends. false≢true (ap is_some (sym e ∙ ap (comment_end 0) same ∙ comment_read bytes rest ends)))
    by_end (Some n) e =
        let (bytes, rest, same, ends, size) = comment_is cs n e in
        subst (IsPiece greatest (123 ∷ 45 ∷ cs) piece.Comment) (sym size) (comment bytes rest (ap (λ t. 123 ∷ 45 ∷ t) same) ends)

special_no_symbol : (b : ℕ) (k : Key) → IsSpecial b k → is_symbol b ≡ false
special_no_symbol _ _ open_paren = refl
special_no_symbol _ _ close_paren = refl
special_no_symbol _ _ comma = refl
special_no_symbol _ _ semicolon = refl
special_no_symbol _ _ open_bracket = refl
special_no_symbol _ _ close_bracket = refl
special_no_symbol _ _ open_brace = refl
special_no_symbol _ _ close_brace = refl
special_no_symbol _ _ backquote = refl

special_no_digit : (b : ℕ) (k : Key) → IsSpecial b k → is_digit b ≡ false
special_no_digit _ _ open_paren = refl
special_no_digit _ _ close_paren = refl
special_no_digit _ _ comma = refl
special_no_digit _ _ semicolon = refl
special_no_digit _ _ open_bracket = refl
special_no_digit _ _ close_bracket = refl
special_no_digit _ _ open_brace = refl
special_no_digit _ _ close_brace = refl
special_no_digit _ _ backquote = refl

special_fronts : (greatest b : ℕ) (bs : List ℕ) (k : Key) → IsSpecial b k → class_of b ≡ class.Special k → Stands greatest (b ∷ bs) (special_at k (b ∷ bs))
special_fronts greatest b bs k m e = by_test bs (begins_with_both 123 45 (b ∷ bs)) refl
  where
    by_test : (bs : List ℕ) (t : Bool) → begins_with_both 123 45 (b ∷ bs) ≡ t → Stands greatest (b ∷ bs) (cond t (block_comment (comment_end 0 (b ∷ bs))) (Ok (piece.Lexeme (word.Key k), 1)))
    by_test [] true h = absurd (false≢true h)
    by_test (c ∷ cs) true h =
        let parts = and_parts (b == 123) (c == 45) h in
        let first : 123 ≡ b = grind (arith, nat_tests, parts.0) in
        let second : 45 ≡ c = grind (arith, nat_tests, parts.1) in
        subst (λ b. Stands greatest (b ∷ c ∷ cs) (block_comment (comment_end 0 (b ∷ c ∷ cs)))) first (subst (λ c. Stands greatest (123 ∷ c ∷ cs) (block_comment (comment_end 0 (123 ∷ c ∷ cs)))) second (block_fronts greatest cs))
    by_test bs false h =
        let c : begins_comment (b ∷ bs) ≡ false = ap (λ t. is_dashes (take (cond t (1 + prefix_len is_symbol bs) 0) (b ∷ bs)) || begins_with_both 123 45 (b ∷ bs)) (special_no_symbol b k m) ∙ h in
        front_lexeme greatest b bs _ _ c (special_no_digit b k m) (ap (λ c. longest_by c (b ∷ bs)) e)

-- a piece that is no lexeme is not found behind a quote
no_lexeme : (p : Piece) (w : Word) → is_lexeme p ≡ false → p ≡ piece.Lexeme w → ⊥
no_lexeme p w h e = false≢true (sym h ∙ ap is_lexeme e)

literal_fronts : (greatest b : ℕ) (bs : List ℕ) (r : Found) → begins_with_member (is_one_of (34 ∷ 39 ∷ [])) (b ∷ bs) ≡ true → is_symbol b ≡ false → (b == 123) ≡ false → is_digit b ≡ false → longest_at (b ∷ bs) ≡ lexeme_in r → ((p : Piece) (size : ℕ) → r ≡ Ok (p, size) → LexemeBehind b bs p size) → ((f : Fault) → r ≡ Err f → FaultBehind b bs f) → Stands greatest (b ∷ bs) r
literal_fronts greatest b bs (Ok (piece.Lexeme w, size)) q s o d e good bad = front_lexeme greatest b bs w size (no_comment b bs s o) d e
literal_fronts greatest b bs (Ok (piece.White, size)) q s o d e good bad =
    let found = good piece.White size refl in
    absurd (no_lexeme piece.White found.w refl found.told)
literal_fronts greatest b bs (Ok (piece.Comment, size)) q s o d e good bad =
    let found = good piece.Comment size refl in
    absurd (no_lexeme piece.Comment found.w refl found.told)
literal_fronts greatest b bs (Err f) q s o d e good bad =
    let found = bad f refl in
    subst (IsFault greatest (b ∷ bs)) (sym found.told) (literal found.offset q (none_found (b ∷ bs) e) found.first)

-- no lexeme begins with a byte of no class
nothing_begins : (b : ℕ) → class_of b ≡ class.Other → BeginsLexeme (b ∷ []) → ⊥
nothing_begins b e (more, w, lx) =
    let c = covers (b ∷ more) w [] lx in
    false≢true (ap is_some (sym (ap (λ c. longest_by c (b ∷ (more ++ []))) e) ∙ c.is))

-- what the function finds stands at the front
fronts : (greatest b : ℕ) (bs : List ℕ) (c : Class) → class_of b ≡ c → Meets c b → Stands greatest (b ∷ bs) (piece_by c greatest (b ∷ bs))
fronts greatest b bs class.White e m = white m
fronts greatest b bs class.Small e m =
    let s : is_symbol b ≡ false = grind (arith, nat_tests, m) in
    let o : (b == 123) ≡ false = grind (arith, nat_tests, m) in
    let d : is_digit b ≡ false = grind (arith, nat_tests, m) in
    front_lexeme greatest b bs _ _ (no_comment b bs s o) d (ap (λ c. longest_by c (b ∷ bs)) e)
fronts greatest b bs class.Capital e m =
    let s : is_symbol b ≡ false = grind (arith, nat_tests, m) in
    let o : (b == 123) ≡ false = grind (arith, nat_tests, m) in
    let d : is_digit b ≡ false = grind (arith, nat_tests, m) in
    front_lexeme greatest b bs _ _ (no_comment b bs s o) d (ap (λ c. longest_by c (b ∷ bs)) e)
fronts greatest b bs class.Digit e m = number_fronts greatest b bs m e
fronts greatest b bs class.Symbol e m = symbol_fronts greatest b bs m e
fronts greatest b bs (class.Special k) e m = special_fronts greatest b bs k m e
fronts greatest b bs class.Quote e m = subst (λ b. Stands greatest (b ∷ bs) (character_literal bs)) (sym m) (literal_fronts greatest 39 bs (character_literal bs) refl refl refl refl refl (character_is bs) (character_fault bs))
fronts greatest b bs class.DoubleQuote e m = subst (λ b. Stands greatest (b ∷ bs) (string_literal bs)) (sym m) (literal_fronts greatest 34 bs (string_literal bs) refl refl refl refl refl (string_is bs) (string_fault bs))
fronts greatest b bs class.Other e m = byte m (omega arith) (nothing_begins b e)

pub stands : (greatest : ℕ) (text : List ℕ) → 0 < length text → Stands greatest text (piece_at greatest text)
stands greatest [] some = absurd (omega (arith, some))
stands greatest (b ∷ bs) some = fronts greatest b bs (class_of b) refl (meets b (class_of b) refl)

abbrev found_piece : Option (Word × ℕ) → Found
found_piece (Some found) = Ok (piece.Lexeme found.0, found.1)
found_piece None = Err fault.Unclosed

-- what has a lexeme in it is that lexeme
lexeme_found : (r : Found) (w : Word) (size : ℕ) → lexeme_in r ≡ Some (w, size) → r ≡ Ok (piece.Lexeme w, size)
lexeme_found (Ok (piece.Lexeme v, n)) w size e = ap found_piece e
lexeme_found (Ok (piece.White, n)) w size e = absurd (false≢true (ap is_some e))
lexeme_found (Ok (piece.Comment, n)) w size e = absurd (false≢true (ap is_some e))
lexeme_found (Err f) w size e = absurd (false≢true (ap is_some e))

abbrev malformed_in : ℕ → List ℕ → Option (Word × ℕ) → Bool
malformed_in greatest text (Some found) = is_malformed greatest (take found.1 text) found.0 (drop found.1 text)
malformed_in greatest text None = true

or_left : (x y : Bool) → (x || y) ≡ false → x ≡ false
or_left true y e = absurd (false≢true (sym e))
or_left false y e = refl

or_right : (x y : Bool) → (x || y) ≡ false → y ≡ false
or_right true y e = absurd (false≢true (sym e))
or_right false y e = e

-- the longest lexeme is found, where no comment begins and it is well formed
lexeme_read : (greatest b : ℕ) (bs : List ℕ) (w : Word) (size : ℕ) (c : Class) → Meets c b → longest_by c (b ∷ bs) ≡ Some (w, size) → begins_comment (b ∷ bs) ≡ false → is_malformed greatest (take size (b ∷ bs)) w (drop size (b ∷ bs)) ≡ false → piece_by c greatest (b ∷ bs) ≡ Ok (piece.Lexeme w, size)
lexeme_read greatest b bs w size class.White m e c h = absurd (false≢true (ap is_some e))
lexeme_read greatest b bs w size class.Small m e c h = ap found_piece e
lexeme_read greatest b bs w size class.Capital m e c h = ap found_piece e
lexeme_read greatest b bs w size class.Digit m e c h = ap as_number (number_fits greatest b bs m ∙ ap (λ t. number_or t (longest_number (b ∷ bs))) (ap (malformed_in greatest (b ∷ bs)) e ∙ h)) ∙ ap found_piece e
lexeme_read greatest b bs w size class.Symbol m e c h = ap (λ t. Ok (cond t (piece.Comment, line_size (b ∷ bs)) (piece.Lexeme (symbol (take (symbol_size (b ∷ bs)) (b ∷ bs))), symbol_size (b ∷ bs)))) (sym (dash_test b bs m) ∙ or_left (begins_line_comment (b ∷ bs)) (begins_with_both 123 45 (b ∷ bs)) c) ∙ ap found_piece e
lexeme_read greatest b bs w size (class.Special k) m e c h = ap (λ t. cond t (block_comment (comment_end 0 (b ∷ bs))) (Ok (piece.Lexeme (word.Key k), 1))) (or_right (begins_line_comment (b ∷ bs)) (begins_with_both 123 45 (b ∷ bs)) c) ∙ ap found_piece e
lexeme_read greatest b bs w size class.Quote m e c h = lexeme_found (character_literal bs) w size e
lexeme_read greatest b bs w size class.DoubleQuote m e c h = lexeme_found (string_literal bs) w size e
lexeme_read greatest b bs w size class.Other m e c h = absurd (false≢true (ap is_some e))

-- two dashes or more begin with a symbol
line_symbol : (b : ℕ) (bs : List ℕ) → begins_line_comment (b ∷ bs) ≡ true → is_symbol b ≡ true
line_symbol b bs h = by_test (is_symbol b) refl
  where
    by_test : (t : Bool) → is_symbol b ≡ t → t ≡ true
    by_test true s = refl
    by_test false s = absurd (false≢true (sym (ap (λ t. is_dashes (take (cond t (1 + prefix_len is_symbol bs) 0) (b ∷ bs))) s) ∙ h))

line_read : (greatest b : ℕ) (bs : List ℕ) → begins_line_comment (b ∷ bs) ≡ true → piece_at greatest (b ∷ bs) ≡ Ok (piece.Comment, length (take_while (λ b. not (b == 10)) (b ∷ bs)))
line_read greatest b bs h =
    let s = line_symbol b bs h in
    let n : (b == 10) ≡ false = grind (arith, nat_tests, s) in
    ap (λ c. piece_by c greatest (b ∷ bs)) (symbol_class b s) ∙ ap (λ t. Ok (cond t (piece.Comment, line_size (b ∷ bs)) (piece.Lexeme (symbol (take (symbol_size (b ∷ bs)) (b ∷ bs))), symbol_size (b ∷ bs)))) (sym (dash_test b bs s) ∙ h) ∙ ap (λ n. Ok (piece.Comment, n)) (sym (line_sizes b bs n))

-- the piece at the front is found
piece_read : (greatest : ℕ) (text : List ℕ) (p : Piece) (size : ℕ) → IsPiece greatest text p size → piece_at greatest text ≡ Ok (p, size)
piece_read greatest [] _ _ (white h) = absurd (false≢true h)
piece_read greatest (b ∷ bs) _ _ (white h) = ap (λ c. piece_by c greatest (b ∷ bs)) (white_class b h)
piece_read greatest [] _ _ (line h) = absurd (false≢true h)
piece_read greatest (b ∷ bs) _ _ (line h) = line_read greatest b bs h
piece_read greatest text _ _ (comment bytes rest same ends) = ap (piece_at greatest) same ∙ ap block_comment (comment_read bytes rest ends)
piece_read greatest [] _ _ (lexeme size w c l h) = absurd (false≢true (ap is_some (is_longest [] w size l)))
piece_read greatest (b ∷ bs) _ _ (lexeme size w c l h) = lexeme_read greatest b bs w size (class_of b) (meets b (class_of b) refl) (is_longest (b ∷ bs) w size l) c h

-- what begins a lexeme begins one with fewer bytes too
begins_shorter : (text : List ℕ) (k m : ℕ) → k ≤ m → BeginsLexeme (take m text) → BeginsLexeme (take k text)
begins_shorter text k m h (more, w, lx) =
    let front : take k (take m text) ≡ take k text = take-take k m text h in
    let same : take k text ++ (drop k (take m text) ++ more) ≡ take m text ++ more = sym (append_assoc (take k text) (drop k (take m text)) more) ∙ ap (λ t. (t ++ drop k (take m text)) ++ more) (sym front) ∙ ap (λ t. t ++ more) (take-append-drop k (take m text)) in
    (drop k (take m text) ++ more, w, subst (λ t. IsLexeme t w) (sym same) lx)

-- a text has one first fault
first_same : (text : List ℕ) (n m : ℕ) → IsFirstFault text n → IsFirstFault text m → n ≡ m
first_same text n m a b = by_order (cases_order n m)
  where
    earlier : (i j : ℕ) → IsFirstFault text i → IsFirstFault text j → i < j → ⊥
    earlier i j a b h = a.next (omega (arith, h, b.within)) (begins_shorter text (i + 1) j (omega (arith, h)) b.before)

    by_order : (n ≡ m) ⊎ ((n < m) ⊎ (m < n)) → n ≡ m
    by_order (inl e) = e
    by_order (inr (inl h)) = absurd (earlier n m a b h)
    by_order (inr (inr h)) = absurd (earlier m n b a h)

literal_read : (b : ℕ) (bs : List ℕ) (n : ℕ) (r : Found) → HasNoLexeme (b ∷ bs) → IsFirstFault (b ∷ bs) n → ((p : Piece) (size : ℕ) → r ≡ Ok (p, size) → LexemeBehind b bs p size) → ((f : Fault) → r ≡ Err f → FaultBehind b bs f) → r ≡ Err (stop_at n (drop n (b ∷ bs)))
literal_read b bs n (Ok (p, size)) none first good bad =
    let found = good p size refl in
    absurd (none size found.w (omega (arith, found.within)) found.lexeme)
literal_read b bs n (Err f) none first good bad =
    let found = bad f refl in
    ap Err (found.told ∙ ap (λ k. stop_at k (drop k (b ∷ bs))) (first_same (b ∷ bs) found.offset n found.first first))

quote_read : (greatest b : ℕ) (bs : List ℕ) (n : ℕ) → is_one_of (34 ∷ 39 ∷ []) b ≡ true → HasNoLexeme (b ∷ bs) → IsFirstFault (b ∷ bs) n → piece_at greatest (b ∷ bs) ≡ Err (stop_at n (drop n (b ∷ bs)))
quote_read greatest b bs n q none first = by_test (34 == b) refl
  where
    by_test : (t : Bool) → (34 == b) ≡ t → piece_at greatest (b ∷ bs) ≡ Err (stop_at n (drop n (b ∷ bs)))
    by_test true h =
        let same : b ≡ 34 = grind (arith, nat_tests, h) in
        let none_there : HasNoLexeme (34 ∷ bs) = subst (λ b. HasNoLexeme (b ∷ bs)) same none in
        let first_there : IsFirstFault (34 ∷ bs) n = subst (λ b. IsFirstFault (b ∷ bs) n) same first in
        subst (λ b. piece_at greatest (b ∷ bs) ≡ Err (stop_at n (drop n (b ∷ bs)))) (sym same) (literal_read 34 bs n (string_literal bs) none_there first_there (string_is bs) (string_fault bs))
    by_test false h =
        let same : b ≡ 39 = grind (arith, nat_tests, h, q) in
        let none_there : HasNoLexeme (39 ∷ bs) = subst (λ b. HasNoLexeme (b ∷ bs)) same none in
        let first_there : IsFirstFault (39 ∷ bs) n = subst (λ b. IsFirstFault (b ∷ bs) n) same first in
        subst (λ b. piece_at greatest (b ∷ bs) ≡ Err (stop_at n (drop n (b ∷ bs)))) (sym same) (literal_read 39 bs n (character_literal bs) none_there first_there (character_is bs) (character_fault bs))

-- a byte that begins no lexeme has no class
byte_read : (greatest b : ℕ) (bs : List ℕ) (c : Class) → Meets c b → is_white b ≡ false → (BeginsLexeme (b ∷ []) → ⊥) → piece_by c greatest (b ∷ bs) ≡ Err (fault.Byte 0)
byte_read greatest b bs class.White m h none = absurd (both_ways (is_white b) h m)
byte_read greatest b bs class.Small m h none = absurd (none ([], variable (b ∷ []), small b [] m refl))
byte_read greatest b bs class.Capital m h none = absurd (none ([], word.Con (b ∷ []), capital b [] m refl))
byte_read greatest b bs class.Digit m h none = absurd (none ([], word.Num (number_of 10 (b ∷ [])), decimal (b ∷ []) (ap (λ t. t && true) m)))
byte_read greatest b bs class.Symbol m h none = absurd (none ([], symbol (b ∷ []), symbols (b ∷ []) (ap (λ t. t && true) m)))
byte_read greatest b bs (class.Special k) m h none = absurd (none ([], word.Key k, special b k m))
byte_read greatest b bs class.Quote m h none = absurd (none (97 ∷ 39 ∷ [], word.Chr 97, subst (λ b. IsLexeme (b ∷ 97 ∷ 39 ∷ []) (word.Chr 97)) (sym m) (character (97 ∷ []) 97 (plain 97 refl))))
byte_read greatest b bs class.DoubleQuote m h none = absurd (none (34 ∷ [], word.Str [], subst (λ b. IsLexeme (b ∷ 34 ∷ []) (word.Str [])) (sym m) (string [] [] AreCharacters.none)))
byte_read greatest b bs class.Other m h none = refl

-- a malformed number is refused
number_read : (greatest b : ℕ) (bs : List ℕ) (size : ℕ) (w : Word) → IsLongest (b ∷ bs) size w → is_malformed greatest (take size (b ∷ bs)) w (drop size (b ∷ bs)) ≡ true → piece_at greatest (b ∷ bs) ≡ Err fault.Literal
number_read greatest b bs size w l h = by_test (is_digit b) refl
  where
    by_test : (t : Bool) → is_digit b ≡ t → piece_at greatest (b ∷ bs) ≡ Err fault.Literal
    by_test true d =
        let e : number_in (longest_number (b ∷ bs)) ≡ Some (w, size) = sym (ap (λ c. longest_by c (b ∷ bs)) (digit_class b d)) ∙ is_longest (b ∷ bs) w size l in
        ap (λ c. piece_by c greatest (b ∷ bs)) (digit_class b d) ∙ ap as_number (number_fits greatest b bs d ∙ ap (λ t. number_or t (longest_number (b ∷ bs))) (ap (malformed_in greatest (b ∷ bs)) e ∙ h))
    by_test false d = absurd (both_ways _ (well_formed greatest b bs size w (drop size (b ∷ bs)) d l.lexeme) h)

unclosed_read : (greatest : ℕ) (cs : List ℕ) → ((bytes rest : List ℕ) → 123 ∷ 45 ∷ cs ≡ 123 ∷ 45 ∷ (bytes ++ rest) → EndsComment bytes → ⊥) → piece_at greatest (123 ∷ 45 ∷ cs) ≡ Err fault.Unclosed
unclosed_read greatest cs none = by_end (comment_end 0 (123 ∷ 45 ∷ cs)) refl
  where
    by_end : (o : Option ℕ) → comment_end 0 (123 ∷ 45 ∷ cs) ≡ o → block_comment (comment_end 0 (123 ∷ 45 ∷ cs)) ≡ Err fault.Unclosed
    by_end None e = ap block_comment e
    by_end (Some n) e =
        let (bytes, rest, same, ends, size) = comment_is cs n e in
        absurd (none bytes rest (ap (λ t. 123 ∷ 45 ∷ t) same) ends)

-- a fault at the front is found
fault_read : (greatest : ℕ) (text : List ℕ) (f : Fault) → IsFault greatest text f → piece_at greatest text ≡ Err f
fault_read greatest [] _ (number size w c l h) = absurd (false≢true (ap is_some (is_longest [] w size l)))
fault_read greatest (b ∷ bs) _ (number size w c l h) = number_read greatest b bs size w l h
fault_read greatest [] _ (comment h none) = absurd (false≢true h)
fault_read greatest (b ∷ []) _ (comment h none) = absurd (false≢true h)
fault_read greatest (b ∷ c ∷ cs) _ (comment h none) =
    let parts = and_parts (b == 123) (c == 45) h in
    let first : b ≡ 123 = grind (arith, nat_tests, parts.0) in
    let second : c ≡ 45 = grind (arith, nat_tests, parts.1) in
    let same : b ∷ c ∷ cs ≡ 123 ∷ 45 ∷ cs = ap (λ b. b ∷ c ∷ cs) first ∙ ap (λ c. 123 ∷ c ∷ cs) second in
    ap (piece_at greatest) same ∙ unclosed_read greatest cs (λ bytes rest e ends. none bytes rest (same ∙ e) ends)
fault_read greatest [] _ (literal n q none first) = absurd (false≢true q)
fault_read greatest (b ∷ bs) _ (literal n q none first) = quote_read greatest b bs n q none first
fault_read greatest [] _ (byte h some none) = absurd (omega (arith, some))
fault_read greatest (b ∷ bs) _ (byte h some none) = byte_read greatest b bs (class_of b) (meets b (class_of b) refl) h none

-- what is found is the piece
pub piece_is : (greatest : ℕ) (text : List ℕ) (p : Piece) (size : ℕ) → piece_at greatest text ≡ Ok (p, size) → IsPiece greatest text p size
piece_is greatest [] p size e = absurd (false≢true (ap is_ok e))
piece_is greatest (b ∷ bs) p size e = subst (Stands greatest (b ∷ bs)) e (stands greatest (b ∷ bs) (omega arith))

-- what is refused is the fault
pub fault_is : (greatest : ℕ) (text : List ℕ) (f : Fault) → 0 < length text → piece_at greatest text ≡ Err f → IsFault greatest text f
fault_is greatest text f some e = subst (Stands greatest text) e (stands greatest text some)

-- where there is a fault there is no piece
pub no_piece : (greatest : ℕ) (text : List ℕ) (p : Piece) (size : ℕ) (f : Fault) → IsPiece greatest text p size → IsFault greatest text f → ⊥
no_piece greatest text p size f a b = false≢true (ap is_ok (sym (fault_read greatest text f b) ∙ piece_read greatest text p size a))

abbrev piece_or : Found → Piece
piece_or (Ok found) = found.0
piece_or (Err f) = piece.White

abbrev size_or : Found → ℕ
size_or (Ok found) = found.1
size_or (Err f) = 0

abbrev fault_or : Found → Fault
fault_or (Ok found) = fault.Unclosed
fault_or (Err f) = f

-- a text has one piece at its front
pub same_piece : (greatest : ℕ) (text : List ℕ) (p q : Piece) (m n : ℕ) → IsPiece greatest text p m → IsPiece greatest text q n → (p ≡ q) × (m ≡ n)
same_piece greatest text p q m n a b =
    let same : Ok (p, m) ≡ Ok (q, n) = sym (piece_read greatest text p m a) ∙ piece_read greatest text q n b in
    (ap piece_or same, ap size_or same)

-- and one fault
pub same_fault : (greatest : ℕ) (text : List ℕ) (f g : Fault) → IsFault greatest text f → IsFault greatest text g → f ≡ g
same_fault greatest text f g a b = ap fault_or (sym (fault_read greatest text f a) ∙ fault_read greatest text g b)

-- a piece has a byte, and lies in the text
pub piece_some : (greatest : ℕ) (text : List ℕ) (p : Piece) (size : ℕ) → IsPiece greatest text p size → (0 < size) × (size ≤ length text)
piece_some greatest [] _ _ (white h) = absurd (false≢true h)
piece_some greatest (b ∷ bs) _ _ (white h) = (omega arith, omega arith)
piece_some greatest [] _ _ (line h) = absurd (false≢true h)
piece_some greatest (b ∷ bs) _ _ (line h) =
    let s = line_symbol b bs h in
    let n : (b == 10) ≡ false = grind (arith, nat_tests, s) in
    (omega (arith, line_sizes b bs n), omega (arith, line_sizes b bs n, prefix_len-le-length (λ b. not (b == 10)) bs))
piece_some greatest text _ _ (comment bytes rest same ends) = (omega arith, omega (arith, ap length same, length-append bytes rest))
piece_some greatest text _ _ (lexeme size w c l h) = (omega (arith, lexeme_some _ _ l.lexeme, length-take size text, l.within), l.within)
