-- What an answer keeps, and where it inserts.
use Rattle.std.proofs.Common.{◌≡◌, ℕ, List, [], ◌∷◌, ◌++◌, refl, sym, ap, subst, ◌∙◌, inl, inr, Bool, true, false, cond, nat_lt, Result, Ok, Err}
use Rattle.std.proofs.lemmas.List.{append-nil, append_assoc}
use Rattle.hdc_base.specs.declared.place.At.{At}
use Rattle.hdc_base.specs.declared.token.Token.{Token}
use Rattle.hdc_base.specs.declared.token.Key.TheVariants as key
use Rattle.hdc_layout.specs.declared.role.Role.{Role}
use Rattle.hdc_layout.specs.declared.role.Role.TheVariants as role
use Rattle.hdc_layout.specs.declared.role.Answer.{Answer}
use Rattle.hdc_layout.specs.declared.mark.Before.{Before}
use Rattle.hdc_layout.specs.declared.mark.Before.TheVariants as before
use Rattle.hdc_layout.specs.declared.mark.Mark.{Mark}
use Rattle.hdc_layout.specs.declared.mark.Mark.TheVariants as mark
use Rattle.hdc_layout.specs.declared.summary.Entry.{Entry}
use Rattle.hdc_layout.specs.declared.summary.Entry.TheVariants as entry
use Rattle.hdc_layout.specs.declared.summary.Block.{Block}
use Rattle.hdc_layout.specs.Roles.{role_of}
use Rattle.hdc_layout.specs.Marks.{Item, token, mark_before, mark_at_end, behind, items_of, marked_list}
use Rattle.hdc_layout.specs.Blocks.{current, column, is_explicit, finds}
use Rattle.hdc_layout.specs.Rules.{Laid, given, inserted, insert, Step, step, closing, close_while, gives_before, ends, is_at, is_above, semicolon, line, begin_block, mark_step, answered, take_answer, role_step, below_block, and_given, LaidResult, with_front, behind_step, before_where, apply, finish}
use Rattle.hdc_layout.specs.LaidOut.{laid_list, without_inserted, next_place, IsInsertion, ArePlaced, KeepsTokens, PlacesInserted}

without-append : (xs ys : List Laid) → without_inserted (xs ++ ys) ≡ without_inserted xs ++ without_inserted ys
without-append [] ys = refl
without-append (given t ∷ xs) ys = ap (λ ts. t ∷ ts) (without-append xs ys)
without-append (inserted t ∷ xs) ys = without-append xs ys

-- tokens that are inserted at a place: braces and semicolons
abbrev AllInserted : At → List Laid → Type 0
AllInserted at [] = Unit {0}
AllInserted at (inserted t ∷ laid) = (t.at ≡ at) × IsInsertion t.word × AllInserted at laid
AllInserted at (given t ∷ laid) = ⊥

open_brace : (at : At) → AllInserted at (insert key.KOpenBrace at ∷ [])
open_brace at = (refl, inl refl, tt)

close_brace : (at : At) → AllInserted at (insert key.KCloseBrace at ∷ [])
close_brace at = (refl, inr (inl refl), tt)

all-append : (at : At) (xs ys : List Laid) → AllInserted at xs → AllInserted at ys → AllInserted at (xs ++ ys)
all-append at [] ys hs gs = gs
all-append at (inserted t ∷ xs) ys hs gs = (hs.0, hs.1, all-append at xs ys hs.2 gs)
all-append at (given t ∷ xs) ys hs gs = absurd hs

none_given : (at : At) (laid : List Laid) → AllInserted at laid → without_inserted laid ≡ []
none_given at [] hs = refl
none_given at (inserted t ∷ laid) hs = none_given at laid hs.2
none_given at (given t ∷ laid) hs = absurd hs

-- what marks and tokens insert
closing_inserted : (e : Entry) (at : At) → AllInserted at (closing e at)
closing_inserted (entry.Implicit n) at = close_brace at
closing_inserted entry.Explicit at = tt
closing_inserted (entry.Opener o) at = tt

close_inserted : (test : List Entry → Bool) (at : At) (stack : List Entry) → AllInserted at (close_while test at stack).gives
close_inserted test at [] = tt
close_inserted test at (e ∷ below) = by_test (test (e ∷ below)) (close_inserted test at below)
  where
    by_test : (t : Bool) → AllInserted at (close_while test at below).gives → AllInserted at (cond t (gives_before (closing e at) (close_while test at below)) (step [] (e ∷ below))).gives
    by_test true more = all-append at (closing e at) (close_while test at below).gives (closing_inserted e at) more
    by_test false more = tt

semicolon_inserted : (n : ℕ) (at : At) (b : Block) → AllInserted at (semicolon n at b)
semicolon_inserted n at b = by_test (is_at n b)
  where
    by_test : (t : Bool) → AllInserted at (cond t (insert key.KSemicolon at ∷ []) [])
    by_test true = (refl, inr (inr refl), tt)
    by_test false = tt

line_inserted : (n : ℕ) (w : Bool) (at : At) (stack : List Entry) → AllInserted at (line n w at stack).gives
line_inserted n w at stack =
    let s = close_while (λ st. ends n w (current st)) at stack in
    all-append at s.gives (semicolon n at (current s.stack)) (close_inserted (λ st. ends n w (current st)) at stack) (semicolon_inserted n at (current s.stack))

block_inserted : (n : ℕ) (w : Bool) (at : At) (stack : List Entry) → AllInserted at (begin_block n w at stack).gives
block_inserted n w at stack = by_test (nat_lt (column (current stack)) n)
  where
    by_test : (t : Bool) → AllInserted at (cond t (step (insert key.KOpenBrace at ∷ []) (entry.Implicit n ∷ stack)) (gives_before (insert key.KOpenBrace at ∷ insert key.KCloseBrace at ∷ []) (line n w at stack))).gives
    by_test true = open_brace at
    by_test false = (refl, inl refl, (refl, inr (inl refl), line_inserted n w at stack))

mark_inserted : (m : Mark) (w : Bool) (at : At) (stack : List Entry) → AllInserted at (mark_step m w at stack).gives
mark_inserted mark.Nothing w at stack = tt
mark_inserted (mark.Line n) w at stack = line_inserted n w at stack
mark_inserted (mark.Block n) w at stack = block_inserted n w at stack

abbrev StepInserted : At → Result Step At → Type 0
StepInserted at (Ok s) = AllInserted at s.gives
StepInserted at (Err place) = Unit {0}

answer_inserted : (a : Answer) (at : At) (stack : List Entry) → AllInserted at (take_answer a at stack).gives
answer_inserted a at stack = by_test (finds a stack)
  where
    by_test : (t : Bool) → AllInserted at (cond t (step (close_while (is_above a) at stack).gives (answered a (close_while (is_above a) at stack).stack)) (step [] stack)).gives
    by_test true = close_inserted (is_above a) at stack
    by_test false = tt

role_inserted : (r : Role) (at : At) (stack : List Entry) → StepInserted at (role_step r at stack)
role_inserted role.OpenBrace at stack = tt
role_inserted role.CloseBrace at stack = by_test (is_explicit (current stack))
  where
    by_test : (t : Bool) → StepInserted at (cond t (Ok (step [] (below_block stack))) (Err at))
    by_test true = tt
    by_test false = tt
role_inserted (role.Opens o) at stack = tt
role_inserted (role.Answers a) at stack = answer_inserted a at stack
role_inserted role.Where at stack = tt
role_inserted role.Module at stack = tt
role_inserted role.Other at stack = tt

-- an answer holds the tokens of a text, of which the first stands at a place, and has what it inserts in its places
record Holds (ts : List Token) (first : At) (end : At) (laid : List Laid) : Type 0 where
  kept : without_inserted laid ≡ ts
  next : next_place laid end ≡ first
  placed : ArePlaced laid end

abbrev Answers : List Token → At → At → LaidResult → Type 0
Answers ts first end (Ok laid) = Holds ts first end laid
Answers ts first end (Err at) = Unit {0}

-- with insertions at the first place in front, it does so too
next_behind : (at end : At) (front laid : List Laid) → AllInserted at front → next_place (front ++ laid) end ≡ next_place laid end
next_behind at end [] laid hs = refl
next_behind at end (inserted t ∷ front) laid hs = next_behind at end front laid hs.2
next_behind at end (given t ∷ front) laid hs = absurd hs

placed_behind : (at end : At) (front laid : List Laid) → AllInserted at front → next_place laid end ≡ at → ArePlaced laid end → ArePlaced (front ++ laid) end
placed_behind at end [] laid hs next placed = placed
placed_behind at end (inserted t ∷ front) laid hs next placed =
    (hs.0 ∙ sym (next_behind at end front laid hs.2 ∙ next), hs.1, placed_behind at end front laid hs.2 next placed)
placed_behind at end (given t ∷ front) laid hs next placed = absurd hs

front_inserted : (ts : List Token) (first end : At) (front : List Laid) (r : LaidResult) → AllInserted first front → Answers ts first end r → Answers ts first end (with_front front r)
front_inserted ts first end front (Ok laid) hs h = record {
  kept = without-append front laid ∙ ap (λ us. us ++ without_inserted laid) (none_given first front hs) ∙ h.kept;
  next = next_behind first end front laid hs ∙ h.next;
  placed = placed_behind first end front laid hs h.next h.placed;
}
front_inserted ts first end front (Err at) hs h = tt

finish_answers : (stack : List Entry) (end : At) → Answers [] end end (finish stack end)
finish_answers [] end = record { kept = refl; next = refl; placed = tt }
finish_answers (entry.Implicit n ∷ below) end = front_inserted [] end end (insert key.KCloseBrace end ∷ []) (finish below end) (close_brace end) (finish_answers below end)
finish_answers (entry.Explicit ∷ below) end = tt
finish_answers (entry.Opener o ∷ below) end = finish_answers below end

-- a token behind what it closes, and before an answer
given_behind : (t : Token) (ts : List Token) (first end : At) (gives : List Laid) (r : LaidResult) → AllInserted t.at gives → Answers ts first end r → Answers (t ∷ ts) t.at end (with_front (gives ++ given t ∷ []) r)
given_behind t ts first end gives (Ok laid) hs h =
    let whole : Holds (t ∷ ts) t.at end (given t ∷ laid) = record { kept = ap (λ us. t ∷ us) h.kept; next = refl; placed = h.placed } in
    subst (Holds (t ∷ ts) t.at end) (sym (append_assoc gives (given t ∷ []) laid)) (front_inserted (t ∷ ts) t.at end gives (Ok (given t ∷ laid)) hs whole)
given_behind t ts first end gives (Err at) hs h = tt

step_answers : (t : Token) (ts : List Token) (first end : At) (r : Result Step At) (rest : List Entry → LaidResult) → StepInserted t.at r → ((stack : List Entry) → Answers ts first end (rest stack)) → Answers (t ∷ ts) t.at end (behind_step (and_given t r) rest)
step_answers t ts first end (Ok s) rest hs h = given_behind t ts first end s.gives (rest s.stack) hs (h s.stack)
step_answers t ts first end (Err at) rest hs h = tt

-- where tokens begin, or the end
abbrev first_place : List Token → At → At
first_place [] end = end
first_place (t ∷ ts) end = t.at

-- behind a mark at the place where tokens begin
marked_answers : (m : Mark) (items : List Item) (ts : List Token) (at end : At) (stack : List Entry) → ((s : List Entry) → Answers ts at end (apply items end s)) → Answers ts at end (apply (items_of m at ++ items) end stack)
marked_answers mark.Nothing items ts at end stack h = h stack
marked_answers (mark.Block n) items ts at end stack h =
    let s = mark_step (mark.Block n) (before_where items) at stack in
    front_inserted ts at end s.gives (apply items end s.stack) (mark_inserted (mark.Block n) (before_where items) at stack) (h s.stack)
marked_answers (mark.Line n) items ts at end stack h =
    let s = mark_step (mark.Line n) (before_where items) at stack in
    front_inserted ts at end s.gives (apply items end s.stack) (mark_inserted (mark.Line n) (before_where items) at stack) (h s.stack)

list_answers : (b : Before) (ts : List Token) (end : At) (stack : List Entry) → Answers ts (first_place ts end) end (apply (marked_list b ts end) end stack)
list_answers b [] end stack =
    subst (λ items. Answers [] end end (apply items end stack)) (append-nil (items_of (mark_at_end b) end))
    (marked_answers (mark_at_end b) [] [] end end stack (λ s. finish_answers s end))
list_answers b (t ∷ ts) end stack =
    marked_answers (mark_before b t) (token t ∷ marked_list (behind t) ts end) (t ∷ ts) t.at end stack
    (λ s. step_answers t ts (first_place ts end) end (role_step (role_of t.word) t.at s) (λ below. apply (marked_list (behind t) ts end) end below) (role_inserted (role_of t.word) t.at s) (λ below. list_answers (behind t) ts end below))

whole : (tokens : List Token) (end : At) (laid : List Laid) → laid_list tokens end ≡ Ok laid → Holds tokens (first_place tokens end) end laid
whole tokens end laid e = subst (Answers tokens (first_place tokens end) end) e (list_answers before.Beginning tokens end [])

-- each layout keeps the tokens of its text
pub all_kept : (tokens : List Token) (end : At) → KeepsTokens tokens end
all_kept tokens end = λ laid e. (whole tokens end laid e).kept

-- each layout has what it inserts in its places
pub all_placed : (tokens : List Token) (end : At) → PlacesInserted tokens end
all_placed tokens end = λ laid e. (whole tokens end laid e).placed
