-- Along the pieces of a text.
use Rattle.std.proofs.Common.{◌≡◌, ℕ, ◌+◌, ◌<◌, ◌≤◌, List, [], ◌∷◌, ◌++◌, length, take, drop, drop_of_length-le, refl, sym, ap, subst, ◌∙◌, arith, Bool, false, Ok, Err}
use Rattle.std.specs.Prelude.{IfOk}
use Rattle.std.proofs.lemmas.List.{drop-drop, length-append, length-drop, length-take}
use Rattle.hdc_base.specs.declared.place.At.{At}
use Rattle.hdc_base.specs.declared.token.Token.{Token}
use Rattle.hdc_base.specs.declared.token.Word.{Word}
use Rattle.hdc_lex.specs.Place.{first_place, behind_all, ForAtMost}
use Rattle.hdc_lex.specs.Numbers.{greatest_number}
use Rattle.hdc_lex.specs.Pieces.{Found, piece_at}
use Rattle.hdc_lex.specs.Lexing.{most_lexemes, minus_after, tokens_of, Begins, none, more, stop_of, IsStop, IsTooMany, IsWhole, Lexes}
use Rattle.hdc_lex.specs.declared.lexeme.Form.{Form}
use Rattle.hdc_lex.specs.declared.lexeme.Fault.{Fault}
use Rattle.hdc_lex.specs.declared.lexeme.Fault.TheVariants as fault
use Rattle.hdc_lex.specs.declared.lexeme.Piece.{Piece}
use Rattle.hdc_lex.specs.declared.lexeme.Piece.TheVariants as piece
use Rattle.hdc_lex.proofs.Places.{fits_behind_all}
use Rattle.hdc_lex.proofs.OnePiece.{piece_is, fault_is, no_piece}

-- so far the text is read, and places of 32 bits are left for the rest
pub record Reading (form : Form) (text : List ℕ) (tokens : List Token) (minus : Bool) (at : At) (offset : ℕ) : Type 0 where
  pub begins : Begins form text tokens minus at (drop offset text)
  pub count : length tokens ≤ most_lexemes
  pub within : offset ≤ length text
  pub room : ForAtMost (length (drop offset text)) at

pub reading_none : (form : Form) (text : List ℕ) → length text ≤ 1048576 → Reading form text [] false first_place 0
reading_none form text short = record { begins = none; count = omega arith; within = omega arith; room = (omega (arith, short), omega (arith, short)) }

room_behind : (rest : List ℕ) (size : ℕ) (at : At) → size ≤ length rest → ForAtMost (length rest) at → ForAtMost (length (drop size rest)) (behind_all at (take size rest))
room_behind rest size at within room =
    let count : length (drop size rest) + length (take size rest) ≡ length rest = omega (arith, length-drop size rest, length-take size rest, within) in
    fits_behind_all (take size rest) at (length (drop size rest)) (subst (λ n. ForAtMost n at) (sym count) room)

pub reading_more : (form : Form) (text : List ℕ) (tokens : List Token) (minus : Bool) (at : At) (offset : ℕ) (p : Piece) (size : ℕ) → Reading form text tokens minus at offset → piece_at (greatest_number form minus) (drop offset text) ≡ Ok (p, size) → size ≤ length (drop offset text) → length (tokens ++ tokens_of at p) ≤ most_lexemes → Reading form text (tokens ++ tokens_of at p) (minus_after minus p) (behind_all at (take size (drop offset text))) (offset + size)
reading_more form text tokens minus at offset p size r found within count =
    let behind : drop size (drop offset text) ≡ drop (offset + size) text = drop-drop size offset text in
    record {
      begins = subst (λ rest. Begins form text (tokens ++ tokens_of at p) (minus_after minus p) (behind_all at (take size (drop offset text))) rest) behind (more tokens minus at (drop offset text) p size r.begins (piece_is (greatest_number form minus) (drop offset text) p size found));
      count = count;
      within = omega (arith, within, r.within, length-drop offset text);
      room = subst (λ rest. ForAtMost (length rest) (behind_all at (take size (drop offset text)))) behind (room_behind (drop offset text) size at within r.room);
    }

-- the same where what is reached has names of its own
pub reading_next : (form : Form) (text : List ℕ) (tokens : List Token) (minus : Bool) (at : At) (offset : ℕ) (p : Piece) (size : ℕ) → Reading form text tokens minus at offset → piece_at (greatest_number form minus) (drop offset text) ≡ Ok (p, size) → size ≤ length (drop offset text) → (next_tokens : List Token) (next_minus : Bool) (next_at : At) → next_tokens ≡ tokens ++ tokens_of at p → next_minus ≡ minus_after minus p → next_at ≡ behind_all at (take size (drop offset text)) → length next_tokens ≤ most_lexemes → Reading form text next_tokens next_minus next_at (offset + size)
reading_next form text tokens minus at offset p size r found within next_tokens next_minus next_at same_tokens same_minus same_at count =
    let there = reading_more form text tokens minus at offset p size r found within (subst (λ ts. length ts ≤ most_lexemes) same_tokens count) in
    let with_at = subst (λ a. Reading form text (tokens ++ tokens_of at p) (minus_after minus p) a (offset + size)) (sym same_at) there in
    let with_minus = subst (λ m. Reading form text (tokens ++ tokens_of at p) m next_at (offset + size)) (sym same_minus) with_at in
    subst (λ ts. Reading form text ts next_minus next_at (offset + size)) (sym same_tokens) with_minus

pub size_within : (n : ℕ) (r : Found) (p : Piece) (size : ℕ) → r ≡ Ok (p, size) → IfOk r (λ f. f.1 ≤ n) → size ≤ n
size_within n r p size e h = subst (λ r. IfOk r (λ f. f.1 ≤ n)) e h

pub one_more_token : (tokens new next : List Token) (t : Token) → next ≡ new → new ≡ tokens ++ (t ∷ []) → length tokens < most_lexemes → length next ≤ most_lexemes
one_more_token tokens new next t e h room = omega (arith, ap length (e ∙ h), length-append tokens (t ∷ []), room)

pub whole : (form : Form) (text : List ℕ) (tokens : List Token) (minus : Bool) (at : At) (offset : ℕ) → Reading form text tokens minus at offset → length text ≤ offset → IsWhole form text tokens
whole form text tokens minus at offset r end = record { minus = minus; at = at; begins = subst (λ rest. Begins form text tokens minus at rest) (drop_of_length-le text end) r.begins; within = r.count }

pub too_many : (form : Form) (text : List ℕ) (tokens : List Token) (minus : Bool) (at : At) (offset : ℕ) (w : Word) (size : ℕ) → Reading form text tokens minus at offset → piece_at (greatest_number form minus) (drop offset text) ≡ Ok (piece.Lexeme w, size) → most_lexemes ≤ length tokens → IsTooMany form text at
too_many form text tokens minus at offset w size r found many = record { tokens = tokens; minus = minus; rest = drop offset text; w = w; size = size; begins = r.begins; count = omega (arith, many, r.count); lexeme = piece_is (greatest_number form minus) (drop offset text) (piece.Lexeme w) size found }

pub stopped : (form : Form) (text : List ℕ) (tokens : List Token) (minus : Bool) (at : At) (offset : ℕ) (f : Fault) → Reading form text tokens minus at offset → piece_at (greatest_number form minus) (drop offset text) ≡ Err f → offset < length text → Lexes form text (Err (stop_of at (drop offset text) f))
stopped form text tokens minus at offset f r found before = by_fault f found
  where
    told : (f : Fault) → piece_at (greatest_number form minus) (drop offset text) ≡ Err f → IsStop form text (stop_of at (drop offset text) f)
    told f found =
        let some : 0 < length (drop offset text) = omega (arith, before, length-drop offset text) in
        let wrong = fault_is (greatest_number form minus) (drop offset text) f some found in
        record { tokens = tokens; minus = minus; at = at; rest = drop offset text; found = f; begins = r.begins; within = r.count; wrong = wrong; none = λ p size h. no_piece (greatest_number form minus) (drop offset text) p size f h wrong; told = refl }

    by_fault : (f : Fault) → piece_at (greatest_number form minus) (drop offset text) ≡ Err f → Lexes form text (Err (stop_of at (drop offset text) f))
    by_fault (fault.Byte n) found = told (fault.Byte n) found
    by_fault fault.Literal found = told fault.Literal found
    by_fault fault.Unclosed found = told fault.Unclosed found
