-- Along what is closed.
use Rattle.std.proofs.Common.{◌≡◌, ℕ, List, [], ◌∷◌, ◌++◌, drop, refl, sym, ap, ◌∙◌, Bool, true, false, not, ◌&&◌, ◌||◌, cond, Some, None, Result, Ok, Err}
use Rattle.std.proofs.lemmas.List.{append-nil, append_assoc}
use Rattle.std.proofs.lemmas.Bool.{false≢true}
use Rattle.hdc_base.specs.declared.place.At.{At}
use Rattle.hdc_base.specs.declared.token.Token.{Token}
use Rattle.hdc_base.specs.declared.token.Key.TheVariants as key
use Rattle.hdc_layout.specs.declared.role.Role.{Role}
use Rattle.hdc_layout.specs.declared.role.Role.TheVariants as role
use Rattle.hdc_layout.specs.declared.role.Answer.{Answer}
use Rattle.hdc_layout.specs.declared.role.Answer.TheVariants as answer
use Rattle.hdc_layout.specs.declared.role.Opener.TheVariants as opener
use Rattle.hdc_layout.specs.declared.summary.Entry.{Entry}
use Rattle.hdc_layout.specs.declared.summary.Entry.TheVariants as entry
use Rattle.hdc_layout.specs.declared.rules.Layout.{Layout}
use Rattle.hdc_layout.specs.Roles.{answers, is_bracket}
use Rattle.hdc_layout.specs.Blocks.{top, current, finds, is_explicit}
use Rattle.hdc_layout.specs.Rules.{Laid, given, inserted, insert, Step, step, LaidResult, closing, close_while, gives_before, is_at, is_above, after_ends, answered, take_answer, role_step, below_block, with_front, finish, and_given}
use Rattle.hdc_layout.specs.LaidOut.{tokens_of}
use Rattle.hdc_layout.specs.Progress.{after_step, after_steps, is_above_block, with_laid}

-- the tokens of two parts
pub tokens_of-append : (xs ys : List Laid) → tokens_of (xs ++ ys) ≡ tokens_of xs ++ tokens_of ys
tokens_of-append [] ys = refl
tokens_of-append (given t ∷ xs) ys = ap (λ ts. t ∷ ts) (tokens_of-append xs ys)
tokens_of-append (inserted t ∷ xs) ys = ap (λ ts. t ∷ ts) (tokens_of-append xs ys)

-- a layout whose closing is done
pub closed : (test : List Entry → Bool) (at : At) (l : Layout) → test l.stack ≡ false → after_step l (close_while test at l.stack) ≡ l
closed test at l h = by_stack l.stack l.laid h
  where
    by_stack : (stack : List Entry) (laid : List Token) → test stack ≡ false → after_step (record { stack = stack; laid = laid }) (close_while test at stack) ≡ record { stack = stack; laid = laid }
    by_stack [] laid h = ap (λ ts. record { stack = []; laid = ts }) (append-nil laid)
    by_stack (e ∷ below) laid h =
        ap (λ t. after_step (record { stack = e ∷ below; laid = laid }) (cond t (gives_before (closing e at) (close_while test at below)) (step [] (e ∷ below)))) h
        ∙ ap (λ ts. record { stack = e ∷ below; laid = ts }) (append-nil laid)

-- one step behind another
pub after_both : (l : Layout) (s : Step) (back : List Laid) (stack : List Entry) → after_step (after_step l s) (step back stack) ≡ after_step l (step (s.gives ++ back) stack)
after_both l s back stack =
    ap (λ ts. record { stack = stack; laid = ts }) (append_assoc l.laid (tokens_of s.gives) (tokens_of back) ∙ ap (λ ts. l.laid ++ ts) (sym (tokens_of-append s.gives back)))

-- a line that gives a semicolon
pub lined : (l m p : Layout) (n : ℕ) (at : At) (s : Step) → m ≡ after_step l s → is_at n (current m.stack) ≡ true → p ≡ after_step m (step (insert key.KSemicolon at ∷ []) m.stack) → p ≡ after_step l (after_ends n at s)
lined l m p n at s e h q =
    q ∙ ap (λ m. after_step m (step (insert key.KSemicolon at ∷ []) m.stack)) e
    ∙ after_both l s (insert key.KSemicolon at ∷ []) s.stack
    ∙ ap (λ t. after_step l (step (s.gives ++ cond t (insert key.KSemicolon at ∷ []) []) s.stack)) (sym h ∙ ap (λ m. is_at n (current m.stack)) e)

-- the second of two tests
second : (a b : Bool) → (a && b) ≡ true → b ≡ true
second true b h = h
second false b h = absurd (false≢true h)

-- where an opener is found, it stands on top of what is left
pub then_in_place : (a : Answer) (at : At) (stack : List Entry) → finds a stack ≡ true → answered answer.Then (close_while (is_above a) at stack).stack ≡ entry.Opener opener.Then ∷ drop 1 (close_while (is_above a) at stack).stack
then_in_place a at [] h = absurd (false≢true h)
then_in_place a at (entry.Implicit n ∷ below) h = then_in_place a at below h
then_in_place a at (entry.Explicit ∷ below) h = absurd (false≢true h)
then_in_place a at (entry.Opener o ∷ below) h = by_test (answers a o) (then_in_place a at below) h
  where
    by_test : (t : Bool) → (finds a below ≡ true → answered answer.Then (close_while (is_above a) at below).stack ≡ entry.Opener opener.Then ∷ drop 1 (close_while (is_above a) at below).stack) → (t || (not (is_bracket o) && finds a below)) ≡ true → answered answer.Then (cond (not t) (gives_before [] (close_while (is_above a) at below)) (step [] (entry.Opener o ∷ below))).stack ≡ entry.Opener opener.Then ∷ drop 1 (cond (not t) (gives_before [] (close_while (is_above a) at below)) (step [] (entry.Opener o ∷ below))).stack
    by_test true more g = refl
    by_test false more g = more (second (not (is_bracket o)) (finds a below) g)

-- `then` in the place of its `if`
pub then_taken : (l m : Layout) (a : Answer) (at : At) (stack : List Entry) (laid : List Token) → a ≡ answer.Then → finds a l.stack ≡ true → m ≡ after_step l (close_while (is_above a) at l.stack) → laid ≡ m.laid → stack ≡ entry.Opener opener.Then ∷ drop 1 m.stack → after_step l (take_answer a at l.stack) ≡ record { stack = stack; laid = laid }
then_taken l m a at stack laid is h e same top =
    ap (λ t. after_step l (cond t (step (close_while (is_above a) at l.stack).gives (answered a (close_while (is_above a) at l.stack).stack)) (step [] l.stack))) h
    ∙ ap (λ st. record { stack = st; laid = l.laid ++ tokens_of (close_while (is_above a) at l.stack).gives }) (ap (λ b. answered b (close_while (is_above a) at l.stack).stack) is ∙ then_in_place a at l.stack h ∙ ap (λ m. entry.Opener opener.Then ∷ drop 1 m.stack) (sym e) ∙ sym top)
    ∙ ap (λ ts. record { stack = stack; laid = ts }) (ap (λ m. m.laid) (sym e) ∙ sym same)

-- above an explicit block that is the current one stand no implicit blocks
pub brace_closed : (at : At) (stack : List Entry) → is_explicit (current stack) ≡ true → close_while is_above_block at stack ≡ step [] (entry.Explicit ∷ below_block stack)
brace_closed at [] h = absurd (false≢true h)
brace_closed at (entry.Implicit n ∷ below) h = absurd (false≢true h)
brace_closed at (entry.Explicit ∷ below) h = refl
brace_closed at (entry.Opener o ∷ below) h = ap (gives_before []) (brace_closed at below h)

-- a } that ends its block
pub brace_taken : (l m p : Layout) (r : Role) (at : At) → r ≡ role.CloseBrace → is_explicit (current l.stack) ≡ true → m ≡ after_step l (close_while is_above_block at l.stack) → p.laid ≡ m.laid → p.stack ≡ drop 1 m.stack → after_steps l (role_step r at l.stack) ≡ Ok p
brace_taken l m p r at is h e same top =
    let em = e ∙ ap (after_step l) (brace_closed at l.stack h) in
    ap (λ r. after_steps l (role_step r at l.stack)) is
    ∙ ap (λ t. after_steps l (cond t (Ok (step [] (below_block l.stack))) (Err at))) h
    ∙ ap (λ st. Ok (record { stack = st; laid = l.laid ++ [] })) (sym (top ∙ ap (λ m. drop 1 m.stack) em))
    ∙ ap (λ ts. Ok (record { stack = p.stack; laid = ts })) (sym (same ∙ ap (λ m. m.laid) em))

-- the answer at the end, by what is given and left
abbrev ended : At → List Laid → List Entry → LaidResult
ended end gives [] = Ok gives
ended end gives (e ∷ below) = Err end

-- an end with something given in front
ended_before : (end : At) (front gives : List Laid) (stack : List Entry) → with_front front (ended end gives stack) ≡ ended end (front ++ gives) stack
ended_before end front gives [] = refl
ended_before end front gives (e ∷ below) = refl

-- the end is a closing up to an explicit block
finished : (end : At) (stack : List Entry) → finish stack end ≡ ended end (close_while is_above_block end stack).gives (close_while is_above_block end stack).stack
finished end [] = refl
finished end (entry.Implicit n ∷ below) =
    ap (with_front (insert key.KCloseBrace end ∷ [])) (finished end below)
    ∙ ended_before end (insert key.KCloseBrace end ∷ []) (close_while is_above_block end below).gives (close_while is_above_block end below).stack
finished end (entry.Explicit ∷ below) = refl
finished end (entry.Opener o ∷ below) = finished end below

-- the end, where nothing is left
at_none : (end : At) (laid : List Token) (gives : List Laid) (stack : List Entry) → top stack ≡ None → with_laid laid (ended end gives stack) ≡ Ok (laid ++ tokens_of gives)
at_none end laid gives [] h = refl
at_none end laid gives (e ∷ below) h = cc

-- the end, where an explicit block is left
at_some : (end : At) (laid : List Token) (gives : List Laid) (stack : List Entry) (e : Entry) → top stack ≡ Some e → with_laid laid (ended end gives stack) ≡ Err end
at_some end laid gives [] e h = cc
at_some end laid gives (f ∷ below) e h = refl

-- a layout at the end, where nothing is left on its stack
pub finish_none : (l m : Layout) (end : At) → m ≡ after_step l (close_while is_above_block end l.stack) → top m.stack ≡ None → with_laid l.laid (finish l.stack end) ≡ Ok m.laid
finish_none l m end e h =
    ap (with_laid l.laid) (finished end l.stack)
    ∙ at_none end l.laid (close_while is_above_block end l.stack).gives (close_while is_above_block end l.stack).stack (ap (λ m. top m.stack) (sym e) ∙ h)
    ∙ ap (λ m. Ok m.laid) (sym e)

-- a layout at the end, where something is left on its stack
pub finish_some : (l m : Layout) (end : At) (on : Entry) → m ≡ after_step l (close_while is_above_block end l.stack) → top m.stack ≡ Some on → with_laid l.laid (finish l.stack end) ≡ Err end
finish_some l m end on e h =
    ap (with_laid l.laid) (finished end l.stack)
    ∙ at_some end l.laid (close_while is_above_block end l.stack).gives (close_while is_above_block end l.stack).stack on (ap (λ m. top m.stack) (sym e) ∙ h)

-- a token behind what it closes
pub token_given : (l m : Layout) (t : Token) (r : Result Step At) (laid : List Token) → after_steps l r ≡ Ok m → laid ≡ m.laid ++ t ∷ [] → after_steps l (and_given t r) ≡ Ok (record { stack = m.stack; laid = laid })
token_given l m t (Ok s) laid h e =
    let g : after_step l s ≡ m = cc in
    ap Ok (sym (after_both l s (given t ∷ []) s.stack) ∙ ap (λ m. record { stack = m.stack; laid = m.laid ++ t ∷ [] }) g ∙ ap (λ ts. record { stack = m.stack; laid = ts }) (sym e))
token_given l m t (Err at) laid h e = cc

-- a token that is stopped
pub token_stopped : (l : Layout) (t : Token) (r : Result Step At) (at : At) → after_steps l r ≡ Err at → after_steps l (and_given t r) ≡ Err at
token_stopped l t (Ok s) at h = cc
token_stopped l t (Err place) at h = let g : place ≡ at = cc in ap Err g
