-- Characters between quotes: what is read is a lexeme, each lexeme is read, and where none is the fault is the first.
use Rattle.std.proofs.Common.{◌≡◌, ℕ, suc, ◌+◌, List, [], ◌∷◌, ◌++◌, length, drop, refl, sym, ap, subst, ◌∙◌, arith, Bool, true, false, cond, is_err, Option, Some, None, Ok, Err}
use Rattle.std.proofs.lemmas.Bool.{false≢true}
use Rattle.std.proofs.lemmas.List.{append_assoc, drop_at}
use Rattle.hdc_base.specs.declared.token.Word.{Word}
use Rattle.hdc_base.specs.declared.token.Word.TheVariants as word
use Rattle.hdc_lex.specs.Characters.{Character, character_at}
use Rattle.hdc_lex.specs.Pieces.{further, Found, lexeme, begins_with, closed_character, character_literal}
use Rattle.hdc_lex.specs.Grammar.{begins_with_member, IsCharacter, IsLexeme}
use Rattle.hdc_lex.specs.Fronts.{BeginsLexeme, stop_at}
use Rattle.hdc_lex.specs.declared.lexeme.Fault.{Fault}
use Rattle.hdc_lex.specs.declared.lexeme.Fault.TheVariants as fault
use Rattle.hdc_lex.specs.declared.lexeme.Piece.{Piece}
use Rattle.hdc_lex.proofs.Escapes.{same_head}
use Rattle.hdc_lex.proofs.Parts.{IsPart, BeginsPart, PartView, part_read, part_view, part_is_no_quote, ends_at_quote, quote_first}
use Rattle.hdc_lex.proofs.FirstFaults.{quoted_is, told_behind, LexemeBehind, FaultBehind, lexeme_behind, fault_behind}

-- where no quote is at the front, there is a character
open_read : (text : List ℕ) → begins_with 39 text ≡ false → character_literal text ≡ closed_character text (character_at 39 text)
open_read text e = ap (λ t. cond t (Err fault.Literal) (closed_character text (character_at 39 text))) e

-- the literal by the byte behind its character
behind_part : (is_more : ℕ → Bool) (bytes : List ℕ) (code : ℕ) (rest : List ℕ) (closes : Bool) → IsPart 39 is_more bytes (Some code) → begins_with_member is_more rest ≡ false → begins_with 39 rest ≡ closes → character_literal (bytes ++ rest) ≡ cond closes (lexeme (word.Chr code) (length bytes + 2)) (Err (further 1 (stop_at (length bytes) rest)))
behind_part is_more bytes code rest closes part ends e =
    open_read (bytes ++ rest) (part_is_no_quote 39 is_more bytes (Some code) rest refl part)
    ∙ ap (closed_character (bytes ++ rest)) (part_read 39 is_more bytes (Some code) rest part ends)
    ∙ ap (λ xs. cond (begins_with 39 xs) (lexeme (word.Chr code) (length bytes + 2)) (Err (further 1 (stop_at (length bytes) xs)))) (drop_at bytes rest (length bytes) refl)
    ∙ ap (λ t. cond t (lexeme (word.Chr code) (length bytes + 2)) (Err (further 1 (stop_at (length bytes) rest)))) e

-- each character is read, whatever follows its closing quote
pub character_read : (bytes : List ℕ) (code : ℕ) (rest : List ℕ) → IsCharacter bytes code → character_literal (bytes ++ (39 ∷ rest)) ≡ lexeme (word.Chr code) (length bytes + 2)
character_read bytes code rest (IsCharacter.plain b e) = behind_part (λ digit. false) (b ∷ []) b (39 ∷ rest) true (IsPart.plain b e) refl refl
character_read bytes code rest (IsCharacter.escaped is_more escape c e) = behind_part is_more (92 ∷ escape) c (39 ∷ rest) true (IsPart.escaped is_more escape c e) (ends_at_quote is_more escape c e) refl

-- what a text behind the quote of a character is: a character with a quote behind it, or bytes that a character begins with,
-- with a byte behind them with which none does
data QuotedView (text : List ℕ) : Found → Type 0 where
  read : (bytes : List ℕ) (code : ℕ) (rest : List ℕ) → text ≡ bytes ++ (39 ∷ rest) → IsCharacter bytes code → QuotedView text (lexeme (word.Chr code) (length bytes + 2))
  stops : (front rest : List ℕ) → text ≡ front ++ rest → BeginsLexeme (39 ∷ front) → ((b : ℕ) (bs others : List ℕ) → rest ≡ b ∷ bs → is_err (character_literal (front ++ (b ∷ others))) ≡ true) → QuotedView text (Err (stop_at (suc (length front)) rest))

-- a character from a part of its literal
part_character : (is_more : ℕ → Bool) (bytes : List ℕ) (code : ℕ) → IsPart 39 is_more bytes (Some code) → IsCharacter bytes code
part_character is_more bytes code part = by_code is_more bytes (Some code) part code refl
  where
    by_code : (is_more : ℕ → Bool) (bytes : List ℕ) (found : Option ℕ) → IsPart 39 is_more bytes found → (code : ℕ) → found ≡ Some code → IsCharacter bytes code
    by_code is_more bytes found (IsPart.plain b e) code same = let c : b ≡ code = cc same in subst (IsCharacter (b ∷ [])) c (IsCharacter.plain b e)
    by_code is_more bytes found (IsPart.escaped m escape c e) code same = let d : c ≡ code = cc same in subst (IsCharacter (92 ∷ escape)) d (IsCharacter.escaped m escape c e)
    by_code is_more bytes found (IsPart.empty e) code same = cc same

-- between quotes each part is a character
part_has_code : (is_more : ℕ → Bool) (bytes : List ℕ) (code : Option ℕ) → IsPart 39 is_more bytes code → code ≡ None → ⊥
part_has_code is_more bytes code (IsPart.plain b e) same = cc same
part_has_code is_more bytes code (IsPart.escaped m escape c e) same = cc same
part_has_code is_more bytes code (IsPart.empty e) same = omega (arith, e)

-- what begins a part begins a character literal
begins_literal : (front : List ℕ) → BeginsPart front → BeginsLexeme (39 ∷ front)
begins_literal front BeginsPart.nothing = (97 ∷ 39 ∷ [], word.Chr 97, IsLexeme.character (97 ∷ []) 97 (IsCharacter.plain 97 refl))
begins_literal front (BeginsPart.begun is_more start more code e) =
    let whole : IsLexeme (39 ∷ 92 ∷ (start ++ (more ++ (39 ∷ [])))) (word.Chr code) = subst (λ xs. IsLexeme (39 ∷ 92 ∷ xs) (word.Chr code)) (append_assoc start more (39 ∷ [])) (IsLexeme.character (92 ∷ (start ++ more)) code (IsCharacter.escaped is_more (start ++ more) code e)) in
    (more ++ (39 ∷ []), word.Chr code, whole)

-- what is an error in the character is one of the literal
err_closed : (text : List ℕ) (c : Character) → is_err c ≡ true → is_err (closed_character text c) ≡ true
err_closed text (Ok found) e = absurd (false≢true e)
err_closed text (Err f) e = refl

-- a literal behind its character: closed, or with a byte behind it that is no quote
view_behind : (is_more : ℕ → Bool) (bytes : List ℕ) (code : ℕ) (rest : List ℕ) → IsPart 39 is_more bytes (Some code) → begins_with_member is_more rest ≡ false → (closes : Bool) → begins_with 39 rest ≡ closes → QuotedView (bytes ++ rest) (character_literal (bytes ++ rest))
view_behind is_more bytes code rest part ends true e =
    subst (λ r. QuotedView (bytes ++ rest) r) (sym (behind_part is_more bytes code rest true part ends e))
    (read bytes code (drop 1 rest) (ap (λ xs. bytes ++ xs) (quote_first 39 rest e)) (part_character is_more bytes code part))
view_behind is_more bytes code rest part ends false e =
    subst (λ r. QuotedView (bytes ++ rest) r) (sym (behind_part is_more bytes code rest false part ends e))
    (subst (λ f. QuotedView (bytes ++ rest) (Err f)) (sym (told_behind (length bytes) rest))
    (stops bytes rest refl (39 ∷ [], word.Chr code, IsLexeme.character bytes code (part_character is_more bytes code part))
    (λ b bs others same. ap (λ r. is_err r) (behind_part is_more bytes code (b ∷ others) false part (sym (ap (begins_with_member is_more) same) ∙ ends) (sym (ap (begins_with 39) same) ∙ e)))))

-- bytes with which a part begins stop a character where they stop the part
stops_here : (text front rest : List ℕ) → begins_with 39 text ≡ false → text ≡ front ++ rest → BeginsPart front → ((b : ℕ) (bs others : List ℕ) → rest ≡ b ∷ bs → is_err (character_at 39 (front ++ (b ∷ others))) ≡ true) → QuotedView text (Err (stop_at (suc (length front)) rest))
stops_here text front rest open_yet parts begins none = stops front rest parts (begins_literal front begins) (none_at front parts begins none)
  where
    none_at : (front : List ℕ) → text ≡ front ++ rest → BeginsPart front → ((b : ℕ) (bs others : List ℕ) → rest ≡ b ∷ bs → is_err (character_at 39 (front ++ (b ∷ others))) ≡ true) → (b : ℕ) (bs others : List ℕ) → rest ≡ b ∷ bs → is_err (character_literal (front ++ (b ∷ others))) ≡ true
    none_at front parts BeginsPart.nothing none b bs others same =
        ap (λ r. is_err r) (open_read (b ∷ others) (sym (ap (begins_with 39) (parts ∙ same)) ∙ open_yet)) ∙ err_closed (b ∷ others) (character_at 39 (b ∷ others)) (none b bs others same)
    none_at front parts (BeginsPart.begun is_more start more code e) none b bs others same = err_closed (92 ∷ (start ++ (b ∷ others))) (character_at 39 (92 ∷ (start ++ (b ∷ others)))) (none b bs others same)

-- what stands behind the quote of a character is one of these
quoted_view : (text : List ℕ) → QuotedView text (character_literal text)
quoted_view text = by_test (begins_with 39 text) refl
  where
    by_code : (is_more : ℕ → Bool) (bytes rest : List ℕ) (code : Option ℕ) → text ≡ bytes ++ rest → IsPart 39 is_more bytes code → begins_with_member is_more rest ≡ false → QuotedView text (character_literal text)
    by_code is_more bytes rest (Some code) parts part ends = subst (λ xs. QuotedView xs (character_literal xs)) (sym parts) (view_behind is_more bytes code rest part ends (begins_with 39 rest) refl)
    by_code is_more bytes rest None parts part ends = absurd (part_has_code is_more bytes None part refl)

    by_part : begins_with 39 text ≡ false → (c : Character) → character_at 39 text ≡ c → PartView 39 text c → QuotedView text (character_literal text)
    by_part open_yet c e (PartView.read is_more bytes rest code parts part ends) = by_code is_more bytes rest code parts part ends
    by_part open_yet c e (PartView.stops front rest parts begins none) =
        subst (λ r. QuotedView text r) (sym (open_read text open_yet ∙ ap (closed_character text) e))
        (subst (λ f. QuotedView text (Err f)) (sym (told_behind (length front) rest)) (stops_here text front rest open_yet parts begins none))

    by_test : (test : Bool) → begins_with 39 text ≡ test → QuotedView text (character_literal text)
    by_test true e = subst (λ xs. QuotedView xs (character_literal xs)) (sym (quote_first 39 text e)) (stops [] (39 ∷ drop 1 text) refl (begins_literal [] BeginsPart.nothing) (λ b bs others same. subst (λ c. is_err (character_literal (c ∷ others)) ≡ true) (same_head 39 b (drop 1 text) bs same) refl))
    by_test false e = by_part e (character_at 39 text) refl (part_view 39 text e)

-- what is read behind a quote is a character
pub character_is : (text : List ℕ) (p : Piece) (size : ℕ) → character_literal text ≡ Ok (p, size) → LexemeBehind 39 text p size
character_is text p size found = by_view (character_literal text) (quoted_view text) found
  where
    by_view : (r : Found) → QuotedView text r → r ≡ Ok (p, size) → LexemeBehind 39 text p size
    by_view r (QuotedView.read bytes code rest parts is) e = lexeme_behind 39 bytes rest (word.Chr code) (IsLexeme.character bytes code is) text parts p size e
    by_view r (QuotedView.stops front rest parts begins none) e = cc e

-- no character goes on with the byte at which one stops
no_character : (front rest : List ℕ) → ((b : ℕ) (bs others : List ℕ) → rest ≡ b ∷ bs → is_err (character_literal (front ++ (b ∷ others))) ≡ true) → (b : ℕ) (bs more : List ℕ) (w : Word) → rest ≡ b ∷ bs → IsLexeme (39 ∷ (front ++ (b ∷ more))) w → ⊥
no_character front rest none b bs more w same is =
    let q = quoted_is (front ++ (b ∷ more)) w is in
    false≢true (sym (ap (λ r. is_err r) (ap character_literal q.closed ∙ character_read q.inner q.code [] q.character)) ∙ none b bs more same)

-- a fault behind a quote is the first
pub character_fault : (text : List ℕ) (f : Fault) → character_literal text ≡ Err f → FaultBehind 39 text f
character_fault text f found = by_view (character_literal text) (quoted_view text) found
  where
    by_view : (r : Found) → QuotedView text r → r ≡ Err f → FaultBehind 39 text f
    by_view r (QuotedView.read bytes code rest parts is) e = cc e
    by_view r (QuotedView.stops front rest parts begins none) e =
        let told : stop_at (suc (length front)) rest ≡ f = cc e in
        subst (λ g. FaultBehind 39 text g) told (fault_behind 39 front rest begins (no_character front rest none) text parts)
