-- The longest lexeme at the front of a text, as a function.
use Rattle.std.proofs.Common.{◌≡◌, ℕ, ◌+◌, ◌≤◌, List, [], ◌∷◌, ◌++◌, length, take, drop, refl, sym, ap, subst, ◌∙◌, arith, Bool, true, false, cond, Option, Some, None, Ok, Err}
use Rattle.std.specs.Prelude.{IfSome, ◌&&◌, ◌||◌, ◌==◌, if◌then◌else◌}
use Rattle.std.specs.List.{list_all, prefix_len, take_while}
use Rattle.std.specs.Option.{is_some}
use Rattle.std.proofs.lemmas.Bool.{false≢true, and_parts}
use Rattle.std.proofs.lemmas.Bool.Decides.{nat_tests}
use Rattle.std.proofs.lemmas.List.{take-append-drop, append_assoc, length-append, length-take}
use Rattle.std.proofs.lemmas.List.Sums.{prefix_len-le-length}
use Rattle.std.proofs.Math.Seq.{take-append_seam}
use Rattle.hdc_base.specs.declared.token.Key.TheVariants as key
use Rattle.hdc_base.specs.declared.token.Word.{Word}
use Rattle.hdc_base.specs.declared.token.Word.TheVariants as word
use Rattle.hdc_lex.specs.Bytes.{class_of, is_one_of, is_name_byte, is_symbol, is_digit, is_hexadecimal, is_octal}
use Rattle.hdc_lex.specs.Words.{variable, symbol}
use Rattle.hdc_lex.specs.Numbers.{number_of}
use Rattle.hdc_lex.specs.Pieces.{Found, name_size, symbol_size, character_literal, string_literal, has_radix, radix_digits, decimal_size}
use Rattle.hdc_lex.specs.Grammar.{IsLexeme, small, capital, symbols, decimal, hexadecimal, octal, character, string, special, is_run}
use Rattle.hdc_lex.specs.Fronts.{IsLongest, HasNoLexeme}
use Rattle.hdc_lex.specs.declared.class.Class.{Class}
use Rattle.hdc_lex.specs.declared.class.Class.TheVariants as class
use Rattle.hdc_lex.specs.declared.lexeme.Piece.{Piece}
use Rattle.hdc_lex.specs.declared.lexeme.Piece.TheVariants as piece
use Rattle.hdc_lex.proofs.Classes.{Meets, meets, small_class, capital_class, symbol_class, digit_class, special_class}
use Rattle.hdc_lex.proofs.Runs.{run_over, run_passes, take_one_more, take_two_more}
use Rattle.hdc_lex.proofs.FirstFaults.{LexemeBehind}
use Rattle.hdc_lex.proofs.CharacterLiterals.{character_read, character_is}
use Rattle.hdc_lex.proofs.StringLiterals.{string_read, string_is}

-- the lexeme of what is found
abbrev pub lexeme_in : Found → Option (Word × ℕ)
lexeme_in (Ok (piece.Lexeme w, size)) = Some (w, size)
lexeme_in (Ok (piece.White, size)) = None
lexeme_in (Ok (piece.Comment, size)) = None
lexeme_in (Err f) = None

-- the longest number at the front of a text, however great it is
abbrev pub longest_number : List ℕ → ℕ × ℕ
longest_number text =
    if has_radix 120 88 is_hexadecimal text then (number_of 16 (radix_digits is_hexadecimal text), 2 + prefix_len is_hexadecimal (drop 2 text))
    else (if has_radix 111 79 is_octal text then (number_of 8 (radix_digits is_octal text), 2 + prefix_len is_octal (drop 2 text))
    else (number_of 10 (take (decimal_size text) text), decimal_size text))

abbrev pub number_in : ℕ × ℕ → Option (Word × ℕ)
number_in number = Some (word.Num number.0, number.1)

-- the longest lexeme with its size, by the class of the first byte
abbrev pub longest_by : Class → List ℕ → Option (Word × ℕ)
longest_by class.White text = None
longest_by class.Small text = Some (variable (take (name_size text) text), name_size text)
longest_by class.Capital text = Some (word.Con (take (name_size text) text), name_size text)
longest_by class.Digit text = number_in (longest_number text)
longest_by class.Symbol text = Some (symbol (take (symbol_size text) text), symbol_size text)
longest_by (class.Special k) text = Some (word.Key k, 1)
longest_by class.Quote text = lexeme_in (character_literal (drop 1 text))
longest_by class.DoubleQuote text = lexeme_in (string_literal (drop 1 text))
longest_by class.Other text = None

abbrev pub longest_at : List ℕ → Option (Word × ℕ)
longest_at [] = None
longest_at (b ∷ bs) = longest_by (class_of b) (b ∷ bs)

-- a lexeme is found that is not shorter than these bytes, and has their word where it has their size
pub record Covers (bytes : List ℕ) (w : Word) (found : Option (Word × ℕ)) : Type 0 where
  pub v : Word
  pub size : ℕ
  pub is : found ≡ Some (v, size)
  pub far : length bytes ≤ size
  pub same : size ≡ length bytes → v ≡ w

-- a byte and a run behind it
run_covers : (word_of : List ℕ → Word) (is_member : ℕ → Bool) (b : ℕ) (bytes rest : List ℕ) → list_all is_member bytes ≡ true → Covers (b ∷ bytes) (word_of (b ∷ bytes)) (Some (word_of (take (1 + prefix_len is_member (bytes ++ rest)) (b ∷ (bytes ++ rest))), 1 + prefix_len is_member (bytes ++ rest)))
run_covers word_of is_member b bytes rest e =
    let over = run_over is_member bytes rest e in
    record {
      v = _;
      size = _;
      is = refl;
      far = omega (arith, over);
      same = λ h. ap word_of (ap (λ n. take n (b ∷ (bytes ++ rest))) h ∙ take-append_seam (b ∷ bytes) rest);
    }

-- the second byte of a number with a radix
pub radix_second : (lower upper : ℕ) (is_member : ℕ → Bool) (a b : ℕ) (xs : List ℕ) → has_radix lower upper is_member (a ∷ b ∷ xs) ≡ true → ((b == lower) || (b == upper)) ≡ true
radix_second lower upper is_member a b [] e = absurd (false≢true e)
radix_second lower upper is_member a b (c ∷ cs) e = (and_parts (a == 48) ((b == lower) || (b == upper)) ((and_parts ((a == 48) && ((b == lower) || (b == upper))) (is_member c) e).0)).1

-- decimal digits that a number with a radix follows are the digit 0
one_digit : (lower upper : ℕ) (is_member : ℕ → Bool) (digits rest : List ℕ) → is_digit lower ≡ false → is_digit upper ≡ false → is_run is_digit digits ≡ true → has_radix lower upper is_member (digits ++ rest) ≡ true → length digits ≤ 1
one_digit lower upper is_member [] rest l u r e = omega arith
one_digit lower upper is_member (d ∷ []) rest l u r e = omega arith
one_digit lower upper is_member (d ∷ c ∷ ds) rest l u r e =
    let second = radix_second lower upper is_member d c (ds ++ rest) e in
    let digit = (and_parts (is_digit c) (list_all is_digit ds) ((and_parts (is_digit d) (is_digit c && list_all is_digit ds) r).1)).0 in
    absurd (by_test (c == lower) refl digit second)
  where
    by_test : (t : Bool) → (c == lower) ≡ t → is_digit c ≡ true → (t || (c == upper)) ≡ true → ⊥
    by_test true h digit second = let e : c ≡ lower = grind (arith, nat_tests, h) in false≢true (sym l ∙ ap is_digit (sym e) ∙ digit)
    by_test false h digit second = let e : c ≡ upper = grind (arith, nat_tests, second) in false≢true (sym u ∙ ap is_digit (sym e) ∙ digit)

number_covers : (digits rest : List ℕ) → is_run is_digit digits ≡ true → Covers digits (word.Num (number_of 10 digits)) (number_in (longest_number (digits ++ rest)))
number_covers [] rest e = absurd (false≢true e)
number_covers (d ∷ ds) rest e = by_hexadecimal (has_radix 120 88 is_hexadecimal (d ∷ (ds ++ rest))) refl (has_radix 111 79 is_octal (d ∷ (ds ++ rest))) refl
  where
    by_hexadecimal : (t : Bool) → has_radix 120 88 is_hexadecimal (d ∷ (ds ++ rest)) ≡ t → (u : Bool) → has_radix 111 79 is_octal (d ∷ (ds ++ rest)) ≡ u → Covers (d ∷ ds) (word.Num (number_of 10 (d ∷ ds))) (number_in (cond t (number_of 16 (radix_digits is_hexadecimal (d ∷ (ds ++ rest))), 2 + prefix_len is_hexadecimal (drop 2 (d ∷ (ds ++ rest)))) (cond u (number_of 8 (radix_digits is_octal (d ∷ (ds ++ rest))), 2 + prefix_len is_octal (drop 2 (d ∷ (ds ++ rest)))) (number_of 10 (take (decimal_size (d ∷ (ds ++ rest))) (d ∷ (ds ++ rest))), decimal_size (d ∷ (ds ++ rest))))))
    by_hexadecimal true h u g =
        let one = one_digit 120 88 is_hexadecimal (d ∷ ds) rest refl refl e h in
        record { v = _; size = _; is = refl; far = omega (arith, one); same = λ k. absurd (omega (arith, one, k)) }
    by_hexadecimal false h true g =
        let one = one_digit 111 79 is_octal (d ∷ ds) rest refl refl e g in
        record { v = _; size = _; is = refl; far = omega (arith, one); same = λ k. absurd (omega (arith, one, k)) }
    by_hexadecimal false h false g = run_covers (λ bytes. word.Num (number_of 10 bytes)) is_digit d ds rest ((and_parts (is_digit d) (list_all is_digit ds) e).1)

covers_as : (bytes : List ℕ) (w : Word) (found other : Option (Word × ℕ)) → found ≡ other → Covers bytes w other → Covers bytes w found
covers_as bytes w found other e c = subst (Covers bytes w) (sym e) c

radix_digits_same : (is_member : ℕ → Bool) (digits rest : List ℕ) → list_all is_member digits ≡ true → 2 + prefix_len is_member (digits ++ rest) ≡ 2 + length digits → take_while is_member (digits ++ rest) ≡ digits
radix_digits_same is_member digits rest e h =
    let k : prefix_len is_member (digits ++ rest) ≡ length digits = omega (arith, h) in
    ap (λ n. take n (digits ++ rest)) k ∙ take-append_seam digits rest

-- the longest lexeme at the front of a text covers each lexeme there
pub covers : (bytes : List ℕ) (w : Word) (rest : List ℕ) → IsLexeme bytes w → Covers bytes w (longest_at (bytes ++ rest))
covers _ _ rest (small b bytes h e) = covers_as _ _ _ _ (ap (λ c. longest_by c (b ∷ (bytes ++ rest))) (small_class b h)) (run_covers variable is_name_byte b bytes rest e)
covers _ _ rest (capital b bytes h e) = covers_as _ _ _ _ (ap (λ c. longest_by c (b ∷ (bytes ++ rest))) (capital_class b h)) (run_covers (λ name. word.Con name) is_name_byte b bytes rest e)
covers _ _ rest (symbols [] e) = absurd (false≢true e)
covers _ _ rest (symbols (b ∷ bytes) e) =
    let parts = and_parts (is_symbol b) (list_all is_symbol bytes) e in
    covers_as _ _ _ _ (ap (λ c. longest_by c (b ∷ (bytes ++ rest))) (symbol_class b parts.0)) (run_covers symbol is_symbol b bytes rest parts.1)
covers _ _ rest (decimal [] e) = absurd (false≢true e)
covers _ _ rest (decimal (d ∷ ds) e) =
    let parts = and_parts (is_digit d) (list_all is_digit ds) e in
    covers_as _ _ _ _ (ap (λ c. longest_by c (d ∷ (ds ++ rest))) (digit_class d parts.0)) (number_covers (d ∷ ds) rest e)
covers _ _ rest (hexadecimal x [] h e) = absurd (false≢true e)
covers _ _ rest (hexadecimal x (d ∷ ds) h e) =
    let parts = and_parts (is_hexadecimal d) (list_all is_hexadecimal ds) e in
    let second : ((x == 120) || (x == 88)) ≡ true = grind (arith, nat_tests, h) in
    let found : has_radix 120 88 is_hexadecimal (48 ∷ x ∷ d ∷ (ds ++ rest)) ≡ true = ap (λ t. t && is_hexadecimal d) second ∙ parts.0 in
    let over = run_over is_hexadecimal (d ∷ ds) rest e in
    covers_as _ _ _ _ (ap (λ t. number_in (cond t (number_of 16 (radix_digits is_hexadecimal (48 ∷ x ∷ d ∷ (ds ++ rest))), 2 + prefix_len is_hexadecimal (d ∷ (ds ++ rest))) (cond (has_radix 111 79 is_octal (48 ∷ x ∷ d ∷ (ds ++ rest))) (number_of 8 (radix_digits is_octal (48 ∷ x ∷ d ∷ (ds ++ rest))), 2 + prefix_len is_octal (d ∷ (ds ++ rest))) (number_of 10 (take (decimal_size (48 ∷ x ∷ d ∷ (ds ++ rest))) (48 ∷ x ∷ d ∷ (ds ++ rest))), decimal_size (48 ∷ x ∷ d ∷ (ds ++ rest)))))) found)
    (record { v = _; size = _; is = refl; far = omega (arith, over); same = λ k. ap (λ bytes. word.Num (number_of 16 bytes)) (radix_digits_same is_hexadecimal (d ∷ ds) rest e (omega (arith, k))) })
covers _ _ rest (octal o [] h e) = absurd (false≢true e)
covers _ _ rest (octal o (d ∷ ds) h e) =
    let parts = and_parts (is_octal d) (list_all is_octal ds) e in
    let second : ((o == 111) || (o == 79)) ≡ true = grind (arith, nat_tests, h) in
    let other : ((o == 120) || (o == 88)) ≡ false = grind (arith, nat_tests, h) in
    let none : has_radix 120 88 is_hexadecimal (48 ∷ o ∷ d ∷ (ds ++ rest)) ≡ false = ap (λ t. t && is_hexadecimal d) other in
    let found : has_radix 111 79 is_octal (48 ∷ o ∷ d ∷ (ds ++ rest)) ≡ true = ap (λ t. t && is_octal d) second ∙ parts.0 in
    let over = run_over is_octal (d ∷ ds) rest e in
    covers_as _ _ _ _ (ap (λ t. number_in (cond t (number_of 16 (radix_digits is_hexadecimal (48 ∷ o ∷ d ∷ (ds ++ rest))), 2 + prefix_len is_hexadecimal (d ∷ (ds ++ rest))) (cond (has_radix 111 79 is_octal (48 ∷ o ∷ d ∷ (ds ++ rest))) (number_of 8 (radix_digits is_octal (48 ∷ o ∷ d ∷ (ds ++ rest))), 2 + prefix_len is_octal (d ∷ (ds ++ rest))) (number_of 10 (take (decimal_size (48 ∷ o ∷ d ∷ (ds ++ rest))) (48 ∷ o ∷ d ∷ (ds ++ rest))), decimal_size (48 ∷ o ∷ d ∷ (ds ++ rest)))))) none ∙ ap (λ t. number_in (cond t (number_of 8 (radix_digits is_octal (48 ∷ o ∷ d ∷ (ds ++ rest))), 2 + prefix_len is_octal (d ∷ (ds ++ rest))) (number_of 10 (take (decimal_size (48 ∷ o ∷ d ∷ (ds ++ rest))) (48 ∷ o ∷ d ∷ (ds ++ rest))), decimal_size (48 ∷ o ∷ d ∷ (ds ++ rest))))) found)
    (record { v = _; size = _; is = refl; far = omega (arith, over); same = λ k. ap (λ bytes. word.Num (number_of 8 bytes)) (radix_digits_same is_octal (d ∷ ds) rest e (omega (arith, k))) })
covers _ _ rest (character bytes code h) =
    let read = ap character_literal (append_assoc bytes (39 ∷ []) rest) ∙ character_read bytes code rest h in
    covers_as _ _ _ _ (ap lexeme_in read) (record { v = _; size = _; is = refl; far = omega (arith, length-append bytes (39 ∷ [])); same = λ e. refl })
covers _ _ rest (string bytes codes h) =
    let read = ap string_literal (append_assoc bytes (34 ∷ []) rest) ∙ string_read bytes codes rest h in
    covers_as _ _ _ _ (ap lexeme_in read) (record { v = _; size = _; is = refl; far = omega (arith, length-append bytes (34 ∷ [])); same = λ e. refl })
covers _ _ rest (special b k h) = covers_as _ _ _ _ (ap (λ c. longest_by c (b ∷ rest)) (special_class b k h)) (record { v = _; size = _; is = refl; far = omega arith; same = λ e. refl })

-- what a lexeme that is found must be
abbrev Lies : List ℕ → Option (Word × ℕ) → Type 0
Lies text found = IfSome found (λ f. (f.1 ≤ length text) × IsLexeme (take f.1 text) f.0)

name_lies : (word_of : List ℕ → Word) (is_member : ℕ → Bool) (b : ℕ) (bs : List ℕ) → ((bytes : List ℕ) → list_all is_member bytes ≡ true → IsLexeme (b ∷ bytes) (word_of (b ∷ bytes))) → Lies (b ∷ bs) (Some (word_of (take (1 + prefix_len is_member bs) (b ∷ bs)), 1 + prefix_len is_member bs))
name_lies word_of is_member b bs make =
    (omega (arith, prefix_len-le-length is_member bs), subst (λ bytes. IsLexeme bytes (word_of bytes)) (sym (take_one_more b bs (prefix_len is_member bs))) (make (take (prefix_len is_member bs) bs) (run_passes is_member bs)))

abbrev word_in : Piece → Word
word_in (piece.Lexeme w) = w
word_in piece.White = word.Key key.KDots
word_in piece.Comment = word.Key key.KDots

literal_lies : (b : ℕ) (bs : List ℕ) (r : Found) → ((p : Piece) (size : ℕ) → r ≡ Ok (p, size) → LexemeBehind b bs p size) → Lies (b ∷ bs) (lexeme_in r)
literal_lies b bs (Ok (piece.Lexeme w, size)) is =
    let found = is (piece.Lexeme w) size refl in
    (omega (arith, found.within), subst (IsLexeme (take size (b ∷ bs))) (ap word_in (sym found.told)) found.lexeme)
literal_lies b bs (Ok (piece.White, size)) is = tt
literal_lies b bs (Ok (piece.Comment, size)) is = tt
literal_lies b bs (Err f) is = tt

radix_lies : (lower upper : ℕ) (is_member : ℕ → Bool) (radix : ℕ) → ((x : ℕ) (digits : List ℕ) → ((x == lower) || (x == upper)) ≡ true → is_run is_member digits ≡ true → IsLexeme (48 ∷ x ∷ digits) (word.Num (number_of radix digits))) → (b : ℕ) (bs : List ℕ) → has_radix lower upper is_member (b ∷ bs) ≡ true → Lies (b ∷ bs) (number_in (number_of radix (radix_digits is_member (b ∷ bs)), 2 + prefix_len is_member (drop 2 (b ∷ bs))))
radix_lies lower upper is_member radix make b [] h = absurd (false≢true h)
radix_lies lower upper is_member radix make b (x ∷ []) h = absurd (false≢true h)
radix_lies lower upper is_member radix make b (x ∷ d ∷ ds) h =
    let parts = and_parts ((b == 48) && ((x == lower) || (x == upper))) (is_member d) h in
    let front = and_parts (b == 48) ((x == lower) || (x == upper)) parts.0 in
    let zero : b ≡ 48 = grind (arith, nat_tests, front.0) in
    let digits : take (prefix_len is_member (d ∷ ds)) (d ∷ ds) ≡ d ∷ take (prefix_len is_member ds) ds = ap (λ t. take (cond t (1 + prefix_len is_member ds) 0) (d ∷ ds)) parts.1 ∙ take_one_more d ds (prefix_len is_member ds) in
    let run : is_run is_member (take (prefix_len is_member (d ∷ ds)) (d ∷ ds)) ≡ true = ap (is_run is_member) digits ∙ ap (λ t. t && list_all is_member (take (prefix_len is_member ds) ds)) parts.1 ∙ run_passes is_member ds in
    let front_of : take (2 + prefix_len is_member (d ∷ ds)) (b ∷ x ∷ d ∷ ds) ≡ 48 ∷ x ∷ take (prefix_len is_member (d ∷ ds)) (d ∷ ds) = take_two_more b x (d ∷ ds) (prefix_len is_member (d ∷ ds)) ∙ ap (λ a. a ∷ x ∷ take (prefix_len is_member (d ∷ ds)) (d ∷ ds)) zero in
    (omega (arith, prefix_len-le-length is_member (d ∷ ds)), subst (λ bytes. IsLexeme bytes (word.Num (number_of radix (take (prefix_len is_member (d ∷ ds)) (d ∷ ds))))) (sym front_of) (make x (take (prefix_len is_member (d ∷ ds)) (d ∷ ds)) front.1 run))

number_lies : (b : ℕ) (bs : List ℕ) → is_digit b ≡ true → Lies (b ∷ bs) (number_in (longest_number (b ∷ bs)))
number_lies b bs d = by_hexadecimal (has_radix 120 88 is_hexadecimal (b ∷ bs)) refl (has_radix 111 79 is_octal (b ∷ bs)) refl
  where
    by_hexadecimal : (t : Bool) → has_radix 120 88 is_hexadecimal (b ∷ bs) ≡ t → (u : Bool) → has_radix 111 79 is_octal (b ∷ bs) ≡ u → Lies (b ∷ bs) (number_in (cond t (number_of 16 (radix_digits is_hexadecimal (b ∷ bs)), 2 + prefix_len is_hexadecimal (drop 2 (b ∷ bs))) (cond u (number_of 8 (radix_digits is_octal (b ∷ bs)), 2 + prefix_len is_octal (drop 2 (b ∷ bs))) (number_of 10 (take (decimal_size (b ∷ bs)) (b ∷ bs)), decimal_size (b ∷ bs)))))
    by_hexadecimal true h u g = radix_lies 120 88 is_hexadecimal 16 (λ x digits second run. hexadecimal x digits (let e : is_one_of (120 ∷ 88 ∷ []) x ≡ true = grind (arith, nat_tests, second) in e) run) b bs h
    by_hexadecimal false h true g = radix_lies 111 79 is_octal 8 (λ x digits second run. octal x digits (let e : is_one_of (111 ∷ 79 ∷ []) x ≡ true = grind (arith, nat_tests, second) in e) run) b bs g
    by_hexadecimal false h false g = name_lies (λ bytes. word.Num (number_of 10 bytes)) is_digit b bs (λ digits e. decimal (b ∷ digits) (ap (λ t. t && list_all is_digit digits) d ∙ e))

-- what is found is a lexeme at the front
pub lies : (text : List ℕ) → Lies text (longest_at text)
lies [] = tt
lies (b ∷ bs) = by_class (class_of b) (meets b (class_of b) refl)
  where
    by_class : (c : Class) → Meets c b → Lies (b ∷ bs) (longest_by c (b ∷ bs))
    by_class class.White m = tt
    by_class class.Small m = name_lies variable is_name_byte b bs (λ bytes e. small b bytes m e)
    by_class class.Capital m = name_lies (λ name. word.Con name) is_name_byte b bs (λ bytes e. capital b bytes m e)
    by_class class.Digit m = number_lies b bs m
    by_class class.Symbol m = name_lies symbol is_symbol b bs (λ bytes e. symbols (b ∷ bytes) (ap (λ t. t && list_all is_symbol bytes) m ∙ e))
    by_class (class.Special k) m = (omega arith, special b k m)
    by_class class.Quote m = literal_lies b bs (character_literal bs) (λ p size e. subst (λ q. LexemeBehind q bs p size) (sym m) (character_is bs p size e))
    by_class class.DoubleQuote m = literal_lies b bs (string_literal bs) (λ p size e. subst (λ q. LexemeBehind q bs p size) (sym m) (string_is bs p size e))
    by_class class.Other m = tt

abbrev size_in : Option (Word × ℕ) → ℕ
size_in (Some found) = found.1
size_in None = 0

abbrev word_found : Option (Word × ℕ) → Word
word_found (Some found) = found.0
word_found None = word.Key key.KDots

-- each lexeme at the front is covered
pub covers_front : (text : List ℕ) (n : ℕ) (w : Word) → n ≤ length text → IsLexeme (take n text) w → Covers (take n text) w (longest_at text)
covers_front text n w within lx = subst (λ t. Covers (take n text) w (longest_at t)) (take-append-drop n text) (covers (take n text) w (drop n text) lx)

-- what is found is the longest
pub longest_is : (text : List ℕ) (w : Word) (size : ℕ) → longest_at text ≡ Some (w, size) → IsLongest text size w
longest_is text w size e =
    let (within, lx) = subst (λ found. IfSome found (λ f. (f.1 ≤ length text) × IsLexeme (take f.1 text) f.0)) e (lies text) in
    record {
      within = within;
      lexeme = lx;
      longest = λ n v h other.
          let c = covers_front text n v h other in
          let same : c.size ≡ size = ap size_in (sym c.is ∙ e) in
          omega (arith, c.far, same, length-take n text, h);
    }

-- and the longest is found
pub is_longest : (text : List ℕ) (w : Word) (size : ℕ) → IsLongest text size w → longest_at text ≡ Some (w, size)
is_longest text w size l =
    let c = covers_front text size w l.within l.lexeme in
    let (within, lx) = subst (λ found. IfSome found (λ f. (f.1 ≤ length text) × IsLexeme (take f.1 text) f.0)) c.is (lies text) in
    let below : c.size ≤ size = l.longest c.size c.v within lx in
    let same : c.size ≡ size = omega (arith, below, c.far, length-take size text, l.within) in
    let word_same : c.v ≡ w = c.same (omega (arith, same, length-take size text, l.within)) in
    c.is ∙ ap (λ v. Some (v, c.size)) word_same ∙ ap (λ n. Some (w, n)) same

-- where nothing is found no lexeme is at the front
pub none_found : (text : List ℕ) → longest_at text ≡ None → HasNoLexeme text
none_found text e n w within lx =
    let c = covers_front text n w within lx in
    false≢true (ap is_some (sym e ∙ c.is))
