-- The parts of a literal: its characters, and \& in a string.
use Rattle.std.proofs.Common.{◌≡◌, ℕ, ◌<◌, List, [], ◌∷◌, ◌++◌, length, drop, refl, sym, ap, subst, ◌∙◌, arith, Bool, true, false, cond, not, ◌&&◌, ◌==◌, is_err, Option, Some, None, Ok, Err}
use Rattle.std.proofs.lemmas.Bool.{false≢true, true≢false, eqb-true, eq-eqb}
use Rattle.hdc_lex.specs.Bytes.{is_printable}
use Rattle.hdc_lex.specs.Characters.{Character, escape_at, character_at}
use Rattle.hdc_lex.specs.Fronts.{stop_at}
use Rattle.hdc_lex.specs.Pieces.{begins_with}
use Rattle.hdc_lex.specs.Grammar.{begins_with_member, is_plain, IsEscape}
use Rattle.hdc_lex.specs.declared.lexeme.Fault.TheVariants as fault
use Rattle.hdc_lex.proofs.Runs.{begins_with_none}
use Rattle.hdc_lex.proofs.Escapes.{EscapeView, escape_read, escape_view, same_head}

-- one part of a literal, with its code, and with the class of the bytes that would make it longer
pub data IsPart (quote : ℕ) : (ℕ → Bool) → List ℕ → Option ℕ → Type 0 where
  plain : (b : ℕ) → is_plain quote b ≡ true → IsPart quote (λ digit. false) (b ∷ []) (Some b)
  escaped : (is_more : ℕ → Bool) (escape : List ℕ) (code : ℕ) → IsEscape is_more escape code → IsPart quote is_more (92 ∷ escape) (Some code)
  empty : quote ≡ 34 → IsPart quote (λ digit. false) (92 ∷ 38 ∷ []) None

-- bytes with which a part begins: none, or those of an escape that begins
pub data BeginsPart : List ℕ → Type 0 where
  nothing : BeginsPart []
  begun : (is_more : ℕ → Bool) (front more : List ℕ) (code : ℕ) → IsEscape is_more (front ++ more) code → BeginsPart (92 ∷ front)

-- what a text in a literal is: a part, or bytes that begin a part with a byte behind them with which none begins
pub data PartView (quote : ℕ) (text : List ℕ) : Character → Type 0 where
  read : (is_more : ℕ → Bool) (bytes rest : List ℕ) (code : Option ℕ) → text ≡ bytes ++ rest → IsPart quote is_more bytes code → begins_with_member is_more rest ≡ false → PartView quote text (Ok (code, length bytes))
  stops : (front rest : List ℕ) → text ≡ front ++ rest → BeginsPart front → ((b : ℕ) (bs others : List ℕ) → rest ≡ b ∷ bs → is_err (character_at quote (front ++ (b ∷ others))) ≡ true) → PartView quote text (Err (stop_at (length front) rest))

-- a byte is plain if it passes the tests
plain_from : (printable is_quote is_backslash : Bool) → printable ≡ true → is_quote ≡ false → is_backslash ≡ false → (printable && not is_quote && not is_backslash) ≡ true
plain_from true false false e f g = refl
plain_from false is_quote is_backslash e f g = absurd (false≢true e)
plain_from true true is_backslash e f g = absurd (true≢false f)
plain_from true false true e f g = absurd (true≢false g)

-- what the tests of a plain byte tell
pub plain_parts : (printable is_quote is_backslash : Bool) → (printable && not is_quote && not is_backslash) ≡ true → (printable ≡ true) × (is_quote ≡ false) × (is_backslash ≡ false)
plain_parts true false false e = (refl, refl, refl)
plain_parts false is_quote is_backslash e = absurd (false≢true e)
plain_parts true true is_backslash e = absurd (false≢true e)
plain_parts true false true e = absurd (false≢true e)

-- a character by the tests on its first byte
abbrev character_by : (backslash printable : Bool) (quote b : ℕ) (bs : List ℕ) → Character
character_by backslash printable quote b bs = cond backslash (escape_at quote bs) (cond printable (Ok (Some b, 1)) (Err (stop_at 0 (b ∷ bs))))

-- what a byte behind which no escape stands is
byte_read : (quote b : ℕ) (bs : List ℕ) (printable : Bool) → (b == 92) ≡ false → is_printable b ≡ printable → character_at quote (b ∷ bs) ≡ cond printable (Ok (Some b, 1)) (Err (stop_at 0 (b ∷ bs)))
byte_read quote b bs printable e f = ap (λ t. character_by t (is_printable b) quote b bs) e ∙ ap (λ t. character_by false t quote b bs) f

-- a part is read, whatever follows it that does not make it longer
pub part_read : (quote : ℕ) (is_more : ℕ → Bool) (bytes : List ℕ) (code : Option ℕ) (rest : List ℕ) → IsPart quote is_more bytes code → begins_with_member is_more rest ≡ false → character_at quote (bytes ++ rest) ≡ Ok (code, length bytes)
part_read quote is_more bytes code rest (IsPart.plain b e) ends = let tests = plain_parts (is_printable b) (b == quote) (b == 92) e in byte_read quote b rest true tests.2 tests.0
part_read quote is_more bytes code rest (IsPart.escaped m escape c e) ends = escape_read m escape c quote rest e ends
part_read quote is_more bytes code rest (IsPart.empty e) ends = ap (λ t. cond t (Ok (None, 2)) (Err fault.Literal)) (eq-eqb quote 34 e)

-- an escape is a part behind its backslash
escape_part : (quote : ℕ) (bs : List ℕ) (c : Character) → EscapeView quote bs c → PartView quote (92 ∷ bs) c
escape_part quote bs c (EscapeView.read is_more bytes rest code parts e ends) = read is_more (92 ∷ bytes) rest (Some code) (ap (λ xs. 92 ∷ xs) parts) (IsPart.escaped is_more bytes code e) ends
escape_part quote bs c (EscapeView.empty rest e parts) = read (λ digit. false) (92 ∷ 38 ∷ []) rest None (ap (λ xs. 92 ∷ xs) parts) (IsPart.empty e) (begins_with_none rest)
escape_part quote bs c (EscapeView.stops is_more front more rest code parts e none) = stops (92 ∷ front) rest (ap (λ xs. 92 ∷ xs) parts) (begun is_more front more code e) none

-- what stands in a literal before its end is one of these
pub part_view : (quote : ℕ) (text : List ℕ) → begins_with quote text ≡ false → PartView quote text (character_at quote text)
part_view quote [] open_yet = stops [] [] refl nothing (λ b bs others e. absurd (omega (arith, ap length e)))
part_view quote (b ∷ bs) open_yet = by_tests (b == 92) refl (is_printable b) refl
  where
    by_tests : (backslash : Bool) → (b == 92) ≡ backslash → (printable : Bool) → is_printable b ≡ printable → PartView quote (b ∷ bs) (character_at quote (b ∷ bs))
    by_tests true e printable f = subst (λ b. PartView quote (b ∷ bs) (character_at quote (b ∷ bs))) (sym (eqb-true b 92 e)) (escape_part quote bs (escape_at quote bs) (escape_view quote bs))
    by_tests false e true f =
        subst (λ c. PartView quote (b ∷ bs) c) (sym (byte_read quote b bs true e f))
        (read (λ digit. false) (b ∷ []) bs (Some b) refl (IsPart.plain b (plain_from (is_printable b) (b == quote) (b == 92) f open_yet e)) (begins_with_none bs))
    by_tests false e false f =
        subst (λ c. PartView quote (b ∷ bs) c) (sym (byte_read quote b bs false e f))
        (stops [] (b ∷ bs) refl nothing (λ c cs others same. subst (λ c. is_err (character_at quote (c ∷ others)) ≡ true) (same_head b c bs cs same) (ap (λ c. is_err c) (byte_read quote b others false e f))))

-- a quote makes no escape longer
pub ends_at_quote : (is_more : ℕ → Bool) (bytes : List ℕ) (code : ℕ) → IsEscape is_more bytes code → is_more 39 ≡ false
ends_at_quote is_more bytes code (IsEscape.simple b c e) = refl
ends_at_quote is_more bytes code (IsEscape.decimal digits run fits) = refl
ends_at_quote is_more bytes code (IsEscape.hexadecimal digits run fits) = refl
ends_at_quote is_more bytes code (IsEscape.octal digits run fits) = refl

-- a double quote makes no escape longer
pub ends_at_double_quote : (is_more : ℕ → Bool) (bytes : List ℕ) (code : ℕ) → IsEscape is_more bytes code → is_more 34 ≡ false
ends_at_double_quote is_more bytes code (IsEscape.simple b c e) = refl
ends_at_double_quote is_more bytes code (IsEscape.decimal digits run fits) = refl
ends_at_double_quote is_more bytes code (IsEscape.hexadecimal digits run fits) = refl
ends_at_double_quote is_more bytes code (IsEscape.octal digits run fits) = refl

-- a part does not begin with the quote that ends a literal
pub part_is_no_quote : (quote : ℕ) (is_more : ℕ → Bool) (bytes : List ℕ) (code : Option ℕ) (rest : List ℕ) → (92 == quote) ≡ false → IsPart quote is_more bytes code → begins_with quote (bytes ++ rest) ≡ false
part_is_no_quote quote is_more bytes code rest other (IsPart.plain b e) = (plain_parts (is_printable b) (b == quote) (b == 92) e).1
part_is_no_quote quote is_more bytes code rest other (IsPart.escaped m escape c e) = other
part_is_no_quote quote is_more bytes code rest other (IsPart.empty e) = other

-- a part has a byte
pub part_has_some : (quote : ℕ) (is_more : ℕ → Bool) (bytes : List ℕ) (code : Option ℕ) → IsPart quote is_more bytes code → 0 < length bytes
part_has_some quote is_more bytes code (IsPart.plain b e) = omega arith
part_has_some quote is_more bytes code (IsPart.escaped m escape c e) = omega arith
part_has_some quote is_more bytes code (IsPart.empty e) = omega arith

-- a text that begins with a quote
pub quote_first : (quote : ℕ) (text : List ℕ) → begins_with quote text ≡ true → text ≡ quote ∷ drop 1 text
quote_first quote [] e = absurd (false≢true e)
quote_first quote (b ∷ bs) e = ap (λ c. c ∷ bs) (eqb-true b quote e)
