-- Along a list of tokens.
use Rattle.std.proofs.Common.{◌≡◌, List, [], ◌∷◌, ◌++◌, refl, sym, ap, ◌∙◌, Bool, false, Result, Ok, Err}
use Rattle.std.proofs.lemmas.List.{append-nil, append_assoc}
use Rattle.hdc_base.specs.declared.place.At.{At}
use Rattle.hdc_base.specs.declared.token.Token.{Token}
use Rattle.hdc_layout.specs.declared.mark.Before.{Before}
use Rattle.hdc_layout.specs.declared.mark.Mark.{Mark}
use Rattle.hdc_layout.specs.declared.mark.Mark.TheVariants as mark
use Rattle.hdc_layout.specs.declared.rules.Layout.{Layout}
use Rattle.hdc_layout.specs.Roles.{role_of, is_where}
use Rattle.hdc_layout.specs.Marks.{Item, token, mark_before, mark_at_end, behind, items_of, marked_list}
use Rattle.hdc_layout.specs.Rules.{Laid, Step, LaidResult, with_front, behind_step, mark_step, token_step, before_where, apply, finish}
use Rattle.hdc_layout.specs.LaidOut.{tokens_of}
use Rattle.hdc_layout.specs.Progress.{after_step, after_steps, with_laid}
use Rattle.hdc_layout.proofs.Closing.{tokens_of-append}

-- what a layout under way still answers, with these items ahead
abbrev pub still : Layout → List Item → At → Result (List Token) At
still l items end = with_laid l.laid (apply items end l.stack)

-- tokens in front of an answer are behind those so far
with_laid_front : (laid : List Token) (front : List Laid) (r : LaidResult) → with_laid laid (with_front front r) ≡ with_laid (laid ++ tokens_of front) r
with_laid_front laid front (Ok more) = ap Ok (ap (λ ts. laid ++ ts) (tokens_of-append front more) ∙ sym (append_assoc laid (tokens_of front) (tokens_of more)))
with_laid_front laid front (Err at) = refl

-- behind a mark
still_marked : (l m : Layout) (mk : Mark) (w : Bool) (at end : At) (items : List Item) → w ≡ before_where items → m ≡ after_step l (mark_step mk w at l.stack) → still l (items_of mk at ++ items) end ≡ still m items end
still_marked l m mark.Nothing w at end items is e = ap (λ m. still m items end) (sym (e ∙ ap (λ ts. record { stack = l.stack; laid = ts }) (append-nil l.laid)))
still_marked l m (mark.Block n) w at end items is e =
    let s = mark_step (mark.Block n) (before_where items) at l.stack in
    with_laid_front l.laid s.gives (apply items end s.stack)
    ∙ ap (λ w. still (after_step l (mark_step (mark.Block n) w at l.stack)) items end) (sym is) ∙ ap (λ m. still m items end) (sym e)
still_marked l m (mark.Line n) w at end items is e =
    let s = mark_step (mark.Line n) (before_where items) at l.stack in
    with_laid_front l.laid s.gives (apply items end s.stack)
    ∙ ap (λ w. still (after_step l (mark_step (mark.Line n) w at l.stack)) items end) (sym is) ∙ ap (λ m. still m items end) (sym e)

-- behind a token
still_taken : (l m : Layout) (r : Result Step At) (items : List Item) (end : At) → after_steps l r ≡ Ok m → with_laid l.laid (behind_step r (λ s. apply items end s)) ≡ still m items end
still_taken l m (Ok s) items end h =
    let g : after_step l s ≡ m = cc in
    with_laid_front l.laid s.gives (apply items end s.stack) ∙ ap (λ m. still m items end) g
still_taken l m (Err at) items end h = cc

-- stopped at a token
still_stopped : (l : Layout) (r : Result Step At) (items : List Item) (end at : At) → after_steps l r ≡ Err at → with_laid l.laid (behind_step r (λ s. apply items end s)) ≡ Err at
still_stopped l (Ok s) items end at h = cc
still_stopped l (Err place) items end at h = let g : place ≡ at = cc in ap Err g

-- up to a token, of which the mark before it is taken
pub up_to_token : (answer : Result (List Token) At) (l m : Layout) (b : Before) (t : Token) (w : Bool) (mk : Mark) (ahead rest : List Token) (end : At) → answer ≡ still l (marked_list b ahead end) end → ahead ≡ t ∷ rest → mk ≡ mark_before b t → w ≡ is_where (role_of t.word) → m ≡ after_step l (mark_step mk w t.at l.stack) → answer ≡ still m (token t ∷ marked_list (behind t) rest end) end
up_to_token answer l m b t w mk ahead rest end e is marks wh em =
    e ∙ ap (λ ts. still l (marked_list b ts end) end) is
    ∙ ap (λ mk. still l (items_of mk t.at ++ (token t ∷ marked_list (behind t) rest end)) end) (sym marks)
    ∙ still_marked l m mk w t.at end (token t ∷ marked_list (behind t) rest end) wh em

-- past a token
pub past_token : (answer : Result (List Token) At) (m p : Layout) (b : Before) (t : Token) (rest : List Token) (end : At) → answer ≡ still m (token t ∷ marked_list (behind t) rest end) end → after_steps m (token_step t m.stack) ≡ Ok p → b ≡ behind t → answer ≡ still p (marked_list b rest end) end
past_token answer m p b t rest end e h is =
    e ∙ still_taken m p (token_step t m.stack) (marked_list (behind t) rest end) end h ∙ ap (λ b. still p (marked_list b rest end) end) (sym is)

-- the answer, where it is stopped at a token
pub at_token : (answer : Result (List Token) At) (m : Layout) (t : Token) (rest : List Token) (end at : At) → answer ≡ still m (token t ∷ marked_list (behind t) rest end) end → after_steps m (token_step t m.stack) ≡ Err at → answer ≡ Err at
at_token answer m t rest end at e h = e ∙ still_stopped m (token_step t m.stack) (marked_list (behind t) rest end) end at h

-- at the end, with the mark before it taken
pub up_to_end : (answer : Result (List Token) At) (l m : Layout) (b : Before) (mk : Mark) (ahead : List Token) (end : At) → answer ≡ still l (marked_list b ahead end) end → ahead ≡ [] → mk ≡ mark_at_end b → m ≡ after_step l (mark_step mk false end l.stack) → answer ≡ with_laid m.laid (finish m.stack end)
up_to_end answer l m b mk ahead end e is marks em =
    e ∙ ap (λ ts. still l (marked_list b ts end) end) is
    ∙ ap (λ mk. still l (items_of mk end) end) (sym marks)
    ∙ ap (λ items. still l items end) (sym (append-nil (items_of mk end)))
    ∙ still_marked l m mk false end end [] refl em
