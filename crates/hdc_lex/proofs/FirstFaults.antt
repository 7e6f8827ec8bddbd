-- Lexemes that begin with a quote, and the first faults of literals.
use Rattle.std.proofs.Common.{◌≡◌, ℕ, suc, ◌+◌, ◌<◌, ◌≤◌, List, [], ◌∷◌, ◌++◌, length, take, drop, refl, sym, ap, subst, ◌∙◌, arith, Bool, true, false, cond, not, ◌==◌, Ok}
use Rattle.std.specs.List.{list_all}
use Rattle.std.proofs.lemmas.Bool.{false≢true, and_parts}
use Rattle.std.proofs.lemmas.List.{append_assoc, length-append, take_at, drop_at}
use Rattle.hdc_base.specs.declared.token.Key.{Key}
use Rattle.hdc_base.specs.declared.token.Word.{Word}
use Rattle.hdc_base.specs.declared.token.Word.TheVariants as word
use Rattle.hdc_lex.specs.Bytes.{is_one_of, is_small, is_capital, is_symbol, is_digit, is_printable}
use Rattle.hdc_lex.specs.Pieces.{further, Found, lexeme}
use Rattle.hdc_lex.specs.Grammar.{is_run, IsSpecial, IsCharacter, AreCharacters, IsLexeme}
use Rattle.hdc_lex.specs.Fronts.{BeginsLexeme, IsFirstFault, stop_at}
use Rattle.hdc_lex.specs.declared.lexeme.Fault.{Fault}
use Rattle.hdc_lex.specs.declared.lexeme.Fault.TheVariants as fault
use Rattle.hdc_lex.specs.declared.lexeme.Piece.{Piece}
use Rattle.hdc_lex.specs.declared.lexeme.Piece.TheVariants as piece

-- a lexeme that begins with a quote is a character
pub record IsQuoted (bytes : List ℕ) (w : Word) : Type 0 where
  pub inner : List ℕ
  pub code : ℕ
  pub character : IsCharacter inner code
  pub closed : bytes ≡ inner ++ (39 ∷ [])
  pub told : w ≡ word.Chr code

-- a lexeme that begins with a double quote is a string
pub record IsDoubleQuoted (bytes : List ℕ) (w : Word) : Type 0 where
  pub inner : List ℕ
  pub codes : List ℕ
  pub characters : AreCharacters inner codes
  pub closed : bytes ≡ inner ++ (34 ∷ [])
  pub told : w ≡ word.Str codes

-- a lexeme, where it begins with a quote
abbrev QuotedForm : List ℕ → Word → Type 0
QuotedForm [] w = Unit {0}
QuotedForm (b ∷ bs) w = (b ≡ 39 → IsQuoted bs w) × (b ≡ 34 → IsDoubleQuoted bs w)

-- a byte of a class is no byte that is not of the class
other_byte : (is_member : ℕ → Bool) (b quote : ℕ) → is_member quote ≡ false → is_member b ≡ true → b ≡ quote → ⊥
other_byte is_member b quote none e same = false≢true (sym none ∙ sym (ap is_member same) ∙ e)

-- a lexeme that begins with a byte of a class without the quotes
begins_otherwise : (is_member : ℕ → Bool) (b : ℕ) (bs : List ℕ) (w : Word) → is_member 39 ≡ false → is_member 34 ≡ false → is_member b ≡ true → QuotedForm (b ∷ bs) w
begins_otherwise is_member b bs w quote double e = (λ same. absurd (other_byte is_member b 39 quote e same), λ same. absurd (other_byte is_member b 34 double e same))

-- a special byte is no quote
special_is : (b : ℕ) (k : Key) → IsSpecial b k → is_one_of (34 ∷ 39 ∷ []) b ≡ false
special_is b k IsSpecial.open_paren = refl
special_is b k IsSpecial.close_paren = refl
special_is b k IsSpecial.comma = refl
special_is b k IsSpecial.semicolon = refl
special_is b k IsSpecial.open_bracket = refl
special_is b k IsSpecial.close_bracket = refl
special_is b k IsSpecial.open_brace = refl
special_is b k IsSpecial.close_brace = refl
special_is b k IsSpecial.backquote = refl

-- a lexeme that is a run of bytes of a class without the quotes
begins_by_run : (is_member : ℕ → Bool) (bytes : List ℕ) (w : Word) → is_member 39 ≡ false → is_member 34 ≡ false → is_run is_member bytes ≡ true → QuotedForm bytes w
begins_by_run is_member [] w quote double run = tt
begins_by_run is_member (b ∷ bs) w quote double run = begins_otherwise is_member b bs w quote double (and_parts (is_member b) (list_all is_member bs) run).0

-- a lexeme has the form that its first byte tells
quoted_form : (bytes : List ℕ) (w : Word) → IsLexeme bytes w → QuotedForm bytes w
quoted_form bytes w (IsLexeme.small b bs e all) = begins_otherwise is_small b bs w refl refl e
quoted_form bytes w (IsLexeme.capital b bs e all) = begins_otherwise is_capital b bs w refl refl e
quoted_form bytes w (IsLexeme.symbols bs run) = begins_by_run is_symbol bs w refl refl run
quoted_form bytes w (IsLexeme.decimal digits run) = begins_by_run is_digit digits w refl refl run
quoted_form bytes w (IsLexeme.hexadecimal x digits e run) = begins_otherwise is_digit 48 (x ∷ digits) w refl refl refl
quoted_form bytes w (IsLexeme.octal o digits e run) = begins_otherwise is_digit 48 (o ∷ digits) w refl refl refl
quoted_form bytes w (IsLexeme.character inner code is) = (λ same. record { inner = inner; code = code; character = is; closed = refl; told = refl }, λ same. absurd (omega (arith, same)))
quoted_form bytes w (IsLexeme.string inner codes are) = (λ same. absurd (omega (arith, same)), λ same. record { inner = inner; codes = codes; characters = are; closed = refl; told = refl })
quoted_form bytes w (IsLexeme.special b k is) = begins_otherwise (λ b. not (is_one_of (34 ∷ 39 ∷ []) b)) b [] w refl refl (ap not (special_is b k is))

-- what a lexeme that begins with a quote is
pub quoted_is : (bytes : List ℕ) (w : Word) → IsLexeme (39 ∷ bytes) w → IsQuoted bytes w
quoted_is bytes w l = (quoted_form (39 ∷ bytes) w l).0 refl

-- what a lexeme that begins with a double quote is
pub double_quoted_is : (bytes : List ℕ) (w : Word) → IsLexeme (34 ∷ bytes) w → IsDoubleQuoted bytes w
double_quoted_is bytes w l = (quoted_form (34 ∷ bytes) w l).1 refl

-- where the bytes of a literal stop, with a byte behind them with which no lexeme begins
pub first_fault : (quote : ℕ) (front rest : List ℕ) → BeginsLexeme (quote ∷ front) → ((b : ℕ) (bs more : List ℕ) (w : Word) → rest ≡ b ∷ bs → IsLexeme (quote ∷ (front ++ (b ∷ more))) w → ⊥) → IsFirstFault (quote ∷ (front ++ rest)) (suc (length front))
first_fault quote front rest begins none = record {
  within = omega (arith, length-append front rest);
  before = subst BeginsLexeme (sym (take_at (quote ∷ front) rest (suc (length front)) refl)) begins;
  next = by_rest rest none;
}
  where
    by_rest : (rest : List ℕ) → ((b : ℕ) (bs more : List ℕ) (w : Word) → rest ≡ b ∷ bs → IsLexeme (quote ∷ (front ++ (b ∷ more))) w → ⊥) → suc (length front) < length (quote ∷ (front ++ rest)) → BeginsLexeme (take (suc (length front) + 1) (quote ∷ (front ++ rest))) → ⊥
    by_rest [] none behind begins = absurd (omega (arith, behind, length-append front []))
    by_rest (b ∷ bs) none behind begins =
        let size : length (quote ∷ (front ++ (b ∷ []))) ≡ suc (length front) + 1 = omega (arith, length-append front (b ∷ [])) in
        let shape : take (suc (length front) + 1) (quote ∷ (front ++ (b ∷ bs))) ++ begins.0 ≡ quote ∷ (front ++ (b ∷ begins.0)) =
        ap (λ xs. take (suc (length front) + 1) (quote ∷ xs) ++ begins.0) (sym (append_assoc front (b ∷ []) bs))
        ∙ ap (λ xs. xs ++ begins.0) (take_at (quote ∷ (front ++ (b ∷ []))) bs (suc (length front) + 1) size)
        ∙ ap (λ xs. quote ∷ xs) (append_assoc front (b ∷ []) begins.0) in
        none b bs begins.0 begins.1 refl (subst (λ xs. IsLexeme xs begins.1) shape begins.2)

-- a fault at the front of a text is told from further on
pub further_stop : (n offset : ℕ) (rest : List ℕ) → further n (stop_at offset rest) ≡ stop_at (n + offset) rest
further_stop n offset [] = refl
further_stop n offset (b ∷ bs) = by_tests (b == 10) (is_printable b)
  where
    by_tests : (line printable : Bool) → further n (cond line fault.Unclosed (cond printable fault.Literal (fault.Byte offset))) ≡ cond line fault.Unclosed (cond printable fault.Literal (fault.Byte (n + offset)))
    by_tests true printable = refl
    by_tests false true = refl
    by_tests false false = refl

-- the same from one byte further on
pub told_behind : (size : ℕ) (rest : List ℕ) → further 1 (stop_at size rest) ≡ stop_at (suc size) rest
told_behind size rest = let one : 1 + size ≡ suc size = omega arith in further_stop 1 size rest ∙ ap (λ n. stop_at n rest) one

-- the piece that is read is a lexeme that begins with the quote
pub record LexemeBehind (quote : ℕ) (text : List ℕ) (p : Piece) (size : ℕ) : Type 0 where
  pub w : Word
  pub told : p ≡ piece.Lexeme w
  pub within : size ≤ 1 + length text
  pub lexeme : IsLexeme (take size (quote ∷ text)) w

-- the fault that is told is where with the next byte no lexeme begins
pub record FaultBehind (quote : ℕ) (text : List ℕ) (f : Fault) : Type 0 where
  pub offset : ℕ
  pub told : f ≡ stop_at offset (drop offset (quote ∷ text))
  pub first : IsFirstFault (quote ∷ text) offset

-- two lexemes that are found are the same
same_found : (p q : Piece) (n m : ℕ) → ◌≡◌ {A = Found} (Ok (p, n)) (Ok (q, m)) → (p ≡ q) × (n ≡ m)
same_found p q n m e = let pair : ◌≡◌ {A = Piece × ℕ} (p, n) (q, m) = cc e in (ap (λ f. f.0) pair, ap (λ f. f.1) pair)

-- such a lexeme from its parts
pub lexeme_behind : (quote : ℕ) (inner rest : List ℕ) (w : Word) → IsLexeme (quote ∷ (inner ++ (quote ∷ []))) w → (text : List ℕ) → text ≡ inner ++ (quote ∷ rest) → (p : Piece) (size : ℕ) → lexeme w (length inner + 2) ≡ Ok (p, size) → LexemeBehind quote text p size
lexeme_behind quote inner rest w is text parts p size found =
    let same = same_found (piece.Lexeme w) p (length inner + 2) size found in
    let all : length (quote ∷ (inner ++ (quote ∷ []))) ≡ size = omega (arith, length-append inner (quote ∷ []), same.1) in
    let front : quote ∷ (inner ++ (quote ∷ [])) ≡ take size (quote ∷ text) =
    sym (ap (λ xs. take size (quote ∷ xs)) (parts ∙ sym (append_assoc inner (quote ∷ []) rest)) ∙ take_at (quote ∷ (inner ++ (quote ∷ []))) rest size all) in
    record {
      w = w;
      told = sym same.0;
      within = omega (arith, same.1, ap length parts, length-append inner (quote ∷ rest));
      lexeme = subst (λ bytes. IsLexeme bytes w) front is;
    }

-- such a fault from its parts
pub fault_behind : (quote : ℕ) (front rest : List ℕ) → BeginsLexeme (quote ∷ front) → ((b : ℕ) (bs more : List ℕ) (w : Word) → rest ≡ b ∷ bs → IsLexeme (quote ∷ (front ++ (b ∷ more))) w → ⊥) → (text : List ℕ) → text ≡ front ++ rest → FaultBehind quote text (stop_at (suc (length front)) rest)
fault_behind quote front rest begins none text parts =
    subst (λ xs. FaultBehind quote xs (stop_at (suc (length front)) rest)) (sym parts)
    (record { offset = suc (length front); told = ap (stop_at (suc (length front))) (sym (drop_at (quote ∷ front) rest (suc (length front)) refl)); first = first_fault quote front rest begins none })
