-- A text has one answer: of two states to which pieces lead, one leads to the other.
use Rattle.std.proofs.Common.{◌≡◌, ℕ, ◌<◌, ◌≤◌, List, [], ◌∷◌, ◌++◌, length, take, drop, refl, sym, ap, subst, arith, Bool, false, Result, Ok, Err, ◌⊎◌, inl, inr}
use Rattle.std.proofs.Math.Seq.{take-nil}
use Rattle.std.proofs.lemmas.List.{length-append}
use Rattle.std.proofs.lemmas.Bool.{false≢true}
use Rattle.hdc_base.specs.declared.place.At.{At}
use Rattle.hdc_base.specs.declared.token.Token.{Token}
use Rattle.hdc_base.specs.declared.token.Word.{Word}
use Rattle.hdc_lex.specs.Place.{first_place, behind_all}
use Rattle.hdc_lex.specs.Numbers.{greatest_number}
use Rattle.hdc_lex.specs.Fronts.{IsPiece, IsFault}
use Rattle.hdc_lex.specs.Fronts.IsFault.{number, comment, literal, byte}
use Rattle.hdc_lex.specs.Lexing.{most_lexemes, minus_after, tokens_of, Begins, none, more, stop_of, IsStop, Lexes, OneAnswer}
use Rattle.hdc_lex.specs.declared.lexeme.Form.{Form}
use Rattle.hdc_lex.specs.declared.lexeme.Fault.{Fault}
use Rattle.hdc_lex.specs.declared.lexeme.Piece.{Piece}
use Rattle.hdc_lex.specs.declared.lexeme.Piece.TheVariants as piece
use Rattle.hdc_lex.specs.declared.lexer.LexStop.{LexStop}
use Rattle.hdc_lex.specs.declared.lexer.LexStop.TheVariants as stop
use Rattle.hdc_lex.proofs.OnePiece.{lexeme_some, same_piece, same_fault, piece_some}

-- at the end of a text there is no fault
fault_some : (greatest : ℕ) (text : List ℕ) (f : Fault) → IsFault greatest text f → 0 < length text
fault_some greatest (b ∷ bs) f h = omega arith
fault_some greatest [] f (number size w g longest h) = absurd (omega (arith, lexeme_some (take size []) w longest.lexeme, ap length (take-nil {A = ℕ} size)))
fault_some greatest [] f (comment h g) = absurd (false≢true h)
fault_some greatest [] f (literal n h g first) = absurd (false≢true h)
fault_some greatest [] f (byte h some g) = some

-- what is known along a text: its lexemes so far, whether the last is -, and the place and the bytes of the rest
pub record State : Type 0 where
  pub tokens : List Token
  pub minus : Bool
  pub at : At
  pub rest : List ℕ

-- the state behind a piece
abbrev after : State → Piece → ℕ → State
after s p size = record { tokens = s.tokens ++ tokens_of s.at p; minus = minus_after s.minus p; at = behind_all s.at (take size s.rest); rest = drop size s.rest }

-- the piece at the front of the rest in a state
abbrev Front : Form → State → Piece → ℕ → Type 0
Front form s p size = IsPiece (greatest_number form s.minus) s.rest p size

-- pieces lead from a state to the end state
data Leads (form : Form) (end : State) : State → Type 0 where
  here : Leads form end end
  onward : (s : State) (p : Piece) (size : ℕ) → Front form s p size → Leads form end (after s p size) → Leads form end s

-- one more piece at the end
leads_more : (form : Form) (end s : State) (p : Piece) (size : ℕ) → Leads form end s → Front form end p size → Leads form (after end p size) s
leads_more form end s p size here h = onward end p size h here
leads_more form end s p size (onward _ q n g leads) h = onward s q n g (leads_more form end (after s q n) p size leads h)

-- the state before the first piece
abbrev first_state : List ℕ → State
first_state text = record { tokens = []; minus = false; at = first_place; rest = text }

-- what a text begins with, pieces lead to
leads_all : (form : Form) (text : List ℕ) (tokens : List Token) (minus : Bool) (at : At) (rest : List ℕ) → Begins form text tokens minus at rest → Leads form (record { tokens = tokens; minus = minus; at = at; rest = rest }) (first_state text)
leads_all form text tokens minus at rest none = here
leads_all form text tokens minus at rest (more ts m a r p size begins h) = leads_more form (record { tokens = ts; minus = m; at = a; rest = r }) (first_state text) p size (leads_all form text ts m a r begins) h

-- of two states to which pieces lead from one, one leads to the other
compare : (form : Form) (s t from : State) → Leads form s from → Leads form t from → Leads form t s ⊎ Leads form s t
compare form s t from here g = inl g
compare form s t from (onward _ p n h leads) here = inr (onward from p n h leads)
compare form s t from (onward _ p n h leads) (onward _ q m g others) =
    let same = same_piece (greatest_number form from.minus) from.rest p q n m h g in
    compare form s t (after from p n) leads (subst (λ r. Leads form t (after from r n)) (sym same.0) (subst (λ k. Leads form t (after from q k)) (sym same.1) others))

-- along pieces no lexeme is lost
grows : (form : Form) (end s : State) → Leads form end s → length s.tokens ≤ length end.tokens
grows form end s here = omega arith
grows form end s (onward _ p n h leads) = omega (arith, grows form end (after s p n) leads, length-append s.tokens (tokens_of s.at p))

-- the answer in a state: the text ends there, no piece begins there, or a lexeme does that is one too many
data AnswerAt (form : Form) (s : State) : Result (List Token) LexStop → Type 0 where
  whole : s.rest ≡ [] → length s.tokens ≤ most_lexemes → AnswerAt form s (Ok s.tokens)
  stopped : (f : Fault) → IsFault (greatest_number form s.minus) s.rest f → ((p : Piece) (size : ℕ) → Front form s p size → ⊥) → length s.tokens ≤ most_lexemes → AnswerAt form s (Err (stop_of s.at s.rest f))
  many : (w : Word) (size : ℕ) → length s.tokens ≡ most_lexemes → Front form s (piece.Lexeme w) size → AnswerAt form s (Err (stop.Tokens s.at))

-- the state of an answer
abbrev Answered : Form → List ℕ → Result (List Token) LexStop → Type 0
Answered form text a = (s : State) × Leads form s (first_state text) × AnswerAt form s a

-- a stop is in a state
stop_answered : (form : Form) (text : List ℕ) (told : LexStop) → IsStop form text told → Answered form text (Err told)
stop_answered form text told h =
    let s : State = record { tokens = h.tokens; minus = h.minus; at = h.at; rest = h.rest } in
    (s, leads_all form text h.tokens h.minus h.at h.rest h.begins, subst (λ x. AnswerAt form s (Err x)) (sym h.told) (stopped h.found h.wrong h.none h.within))

-- an answer other than for want of memory is in a state
answered : (form : Form) (text : List ℕ) (a : Result (List Token) LexStop) → Lexes form text a → (a ≡ Err stop.Want → ⊥) → Answered form text a
answered form text (Ok tokens) h told = (record { tokens = tokens; minus = h.minus; at = h.at; rest = [] }, leads_all form text tokens h.minus h.at [] h.begins, whole refl h.within)
answered form text (Err (stop.Tokens place)) h told = (record { tokens = h.tokens; minus = h.minus; at = place; rest = h.rest }, leads_all form text h.tokens h.minus place h.rest h.begins, many h.w h.size h.count h.lexeme)
answered form text (Err (stop.Byte place)) h told = stop_answered form text (stop.Byte place) h
answered form text (Err (stop.Literal place)) h told = stop_answered form text (stop.Literal place) h
answered form text (Err (stop.Unclosed place)) h told = stop_answered form text (stop.Unclosed place) h
answered form text (Err stop.Want) h told = absurd (told refl)

-- in the state of an answer there are no more lexemes than a text may have
within_most : (form : Form) (s : State) (a : Result (List Token) LexStop) → AnswerAt form s a → length s.tokens ≤ most_lexemes
within_most form s a (whole end within) = within
within_most form s a (stopped f wrong free within) = within
within_most form s a (many w size count h) = omega (arith, count)

-- from the state of an answer no piece leads to that of another
same_state : (form : Form) (s t : State) (a b : Result (List Token) LexStop) → Leads form t s → AnswerAt form s a → AnswerAt form t b → s ≡ t
same_state form s t a b here x y = refl
same_state form s t a b (onward _ p n h leads) (whole end within) y = absurd (omega (arith, ap length end, piece_some (greatest_number form s.minus) s.rest p n h))
same_state form s t a b (onward _ p n h leads) (stopped f wrong free within) y = absurd (free p n h)
same_state form s t a b (onward _ p n h leads) (many w size count g) y =
    let same = same_piece (greatest_number form s.minus) s.rest p (piece.Lexeme w) n size h g in
    let one : length (tokens_of s.at p) ≡ 1 = ap (λ q. length (tokens_of s.at q)) same.0 in
    absurd (omega (arith, one, count, grows form t (after s p n) leads, length-append s.tokens (tokens_of s.at p), within_most form t b y))

-- in one state there is one answer
same_there : (form : Form) (s : State) (a b : Result (List Token) LexStop) → AnswerAt form s a → AnswerAt form s b → a ≡ b
same_there form s a b (whole end within) (whole end' within') = refl
same_there form s a b (whole end within) (stopped f wrong free within') = absurd (omega (arith, ap length end, fault_some (greatest_number form s.minus) s.rest f wrong))
same_there form s a b (whole end within) (many w size count h) = absurd (omega (arith, ap length end, piece_some (greatest_number form s.minus) s.rest (piece.Lexeme w) size h))
same_there form s a b (stopped f wrong free within) (whole end within') = absurd (omega (arith, ap length end, fault_some (greatest_number form s.minus) s.rest f wrong))
same_there form s a b (stopped f wrong free within) (stopped g wrong' free' within') = ap (λ h. Err (stop_of s.at s.rest h)) (same_fault (greatest_number form s.minus) s.rest f g wrong wrong')
same_there form s a b (stopped f wrong free within) (many w size count h) = absurd (free (piece.Lexeme w) size h)
same_there form s a b (many w size count h) (whole end within) = absurd (omega (arith, ap length end, piece_some (greatest_number form s.minus) s.rest (piece.Lexeme w) size h))
same_there form s a b (many w size count h) (stopped f wrong free within) = absurd (free (piece.Lexeme w) size h)
same_there form s a b (many w size count h) (many w' size' count' h') = refl

-- answers in states of which one leads to the other are one
same_joined : (form : Form) (s t : State) (a b : Result (List Token) LexStop) → AnswerAt form s a → AnswerAt form t b → Leads form t s ⊎ Leads form s t → a ≡ b
same_joined form s t a b x y (inl leads) = same_there form t a b (subst (λ u. AnswerAt form u a) (same_state form s t a b leads x y) x) y
same_joined form s t a b x y (inr leads) = same_there form s a b x (subst (λ u. AnswerAt form u b) (same_state form t s b a leads y x) y)

-- a text has one answer
pub same_answer : (form : Form) (text : List ℕ) → OneAnswer form text
same_answer form text a b h g told_a told_b = joined (answered form text a h told_a) (answered form text b g told_b)
  where
    joined : Answered form text a → Answered form text b → a ≡ b
    joined (s, leads, x) (t, others, y) = same_joined form s t a b x y (compare form s t (first_state text) leads others)
