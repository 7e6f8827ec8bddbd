-- What is due, from what the parts of a job answer.
use Rattle.std.proofs.Common.{◌≡◌, ◌≢◌, ℕ, suc, ◌<◌, ◌≤◌, List, [], length, Option, Some, None, Result, Ok, Err, ◌⊎◌, inl, inr, refl, sym, ap, ◌∙◌, subst, arith}
use Rattle.std.specs.Prelude.{IfSome, IfOk, replicate}
use Rattle.std.proofs.lemmas.List.{length-replicate}
use Rattle.hdc_base.specs.declared.place.At.{At}
use Rattle.hdc_base.specs.declared.token.Token.{Token}
use Rattle.hdc_base.specs.declared.refusal.Want.{Want}
use Rattle.hdc_base.specs.declared.refusal.Refusal.{Refusal}
use Rattle.hdc_base.specs.declared.refusal.Stop.{Stop}
use Rattle.hdc_base.specs.declared.refusal.Stop.TheVariants as stop
use Rattle.hdc_base.specs.declared.refusal.Kind.TheVariants as kind
use Rattle.hdc_lex.specs.declared.lexeme.Form.TheVariants as form
use Rattle.hdc_lex.specs.declared.lexer.LexStop.{LexStop}
use Rattle.hdc_lex.specs.declared.lexer.LexStop.TheVariants as lex
use Rattle.hdc_lex.specs.Lexing.{Lexes}
use Rattle.hdc_lex.proofs.OneAnswer.{same_answer}
use Rattle.hdc_layout.specs.LaidOut.{laid_out}
use Rattle.hdc_tree.specs.declared.program.Tree as program
use Rattle.hdc_value.specs.declared.outcome.Outcome.{Outcome}
use Rattle.hdc_value.specs.declared.outcome.Outcome.TheVariants as outcome
use Rattle.hdc_value.specs.Answer.{Answer}
use Rattle.hdc_top.specs.Arithmetic.{Tree}
use Rattle.hdc_top.specs.Meaning.{eval, meaning}
use Rattle.hdc_code.specs.declared.instr.Instr.{Instr}
use Rattle.hdc_code.specs.Sound.{EndsWith}
use Rattle.hdc_top.specs.declared.job.Due.{Due}
use Rattle.hdc_top.specs.Code.{CarriesMeaning}
use Rattle.hdc_parse.specs.declared.stop.ParseStop.TheVariants as parsing
use Rattle.hdc_parse.specs.Exact.{IsParsed}
use Rattle.hdc_parse.proofs.OneAnswer.{parsed_no_syntax, parsed_no_nesting, syntax_once, nesting_once, syntax_no_nesting}
use Rattle.hdc_parse.proofs.OneSpelling.{one_spelling}
use Rattle.hdc_top.specs.declared.names.NamesStop.{NamesStop}
use Rattle.hdc_top.specs.declared.names.NamesStop.TheVariants as checking
use Rattle.hdc_written.specs.Mirror.{tops_of}
use Rattle.hdc_top.specs.Names.{AreChecked}
use Rattle.hdc_top.specs.Main.{main_tree}
use Rattle.hdc_top.specs.Resolved.{AreBindings}
use Rattle.hdc_top.proofs.Resolving.{bindings_once}
use Rattle.hdc_top.proofs.OneNames.{answered_once}
use Rattle.hdc_top.specs.Prelude.{HasTree, IsPrelude, stored, without}
use Rattle.hdc_top.specs.Stopped.{most_bytes, lexer_stop, parser_stop, names_stop, refused_at, end_place, HasLayout, IsAsked, ResolvesTo, MeansLaid, MeansTree, StopsWhole, names_at, not_built, StopsLaid, syntax_at, nesting_at, whole_at, LacksLayout, lexemes, layout, IsStopped, no_tokens, laid_tokens, IsRefused, NestsTooDeep, HasDeepTree, PassesLimit}
use Rattle.hdc_top.specs.Report.{run_text, stop_text}
use Rattle.hdc_top.specs.Words.{job_of, usage_text}
use Rattle.hdc_top.specs.Due.{budget, too_long, status_of, stop_status, IsDueFor, long, stopped, ran, IsDue, usage, job, IsTold, IsDueFrom, IsFileText}

-- a due status is none of the three that have no text
pub record IsWritten (status : ℕ) : Type 0 where
  pub read : status ≢ 5
  pub written : status ≢ 6
  pub ample : status ≢ 7

status_written : (o : Outcome) → IsWritten (status_of o)
status_written (outcome.Value v) = record { read = λ e. omega arith; written = λ e. omega arith; ample = λ e. omega arith }
status_written (outcome.Trap t) = record { read = λ e. omega arith; written = λ e. omega arith; ample = λ e. omega arith }

-- a stop of a text is no want of memory
lexer_want : (s : LexStop) → lexer_stop s ≡ stop.Want → s ≡ lex.Want
lexer_want (lex.Byte at) e = cc
lexer_want (lex.Literal at) e = cc
lexer_want (lex.Unclosed at) e = cc
lexer_want (lex.Tokens at) e = cc
lexer_want lex.Want e = refl

-- a stop of a program's names is no want of memory
asked_want : (s : NamesStop) → (s ≡ checking.Want → ⊥) → names_stop s ≢ stop.Want
asked_want (checking.Fixity at) told = λ e. cc
asked_want (checking.Depth at) told = λ e. cc
asked_want (checking.Name b) told = λ e. cc
asked_want checking.Want told = absurd (told refl)

whole_want : (whole : program.Tree) (s : Stop) → StopsWhole whole s → s ≢ stop.Want
whole_want whole _ (names_at s h told) = asked_want s told
whole_want whole _ (not_built none) = λ e. cc

laid_want : (laid : List Token) (end : At) (s : Stop) → StopsLaid laid end s → s ≢ stop.Want
laid_want laid end _ (syntax_at at h) = λ e. cc
laid_want laid end _ (nesting_at at h) = λ e. cc
laid_want laid end s (whole_at whole _ parsed why) = whole_want whole s why

unlaid_want : (text : List ℕ) (s : Stop) → LacksLayout text s → s ≢ stop.Want
unlaid_want text _ (lexemes s h told) = λ e. told (lexer_want s e)
unlaid_want text _ (layout tokens at h e) = λ e. cc

never_want : (text : List ℕ) (s : Stop) → IsStopped text s → s ≢ stop.Want
never_want text s (no_tokens _ h) = unlaid_want text s h
never_want text s (laid_tokens laid _ h why) = laid_want laid (end_place text) s why

stop_written : (s : Stop) → s ≢ stop.Want → IsWritten (stop_status s)
stop_written (stop.Refused r) h = record { read = λ e. omega arith; written = λ e. omega arith; ample = λ e. omega arith }
stop_written (stop.Limit l) h = record { read = λ e. omega arith; written = λ e. omega arith; ample = λ e. omega arith }
stop_written stop.Want h = absurd (h refl)

text_written : (text : List ℕ) (status : ℕ) (bytes : List ℕ) → IsDueFor text status bytes → IsWritten status
text_written text _ _ (long h) = record { read = λ e. omega arith; written = λ e. omega arith; ample = λ e. omega arith }
text_written text _ _ (stopped s h why) = stop_written s (never_want text s why)
text_written text _ _ (ran tree answer h program m) = status_written answer.outcome

words_written : (words : List (List ℕ)) (text : List ℕ) (status : ℕ) (bytes : List ℕ) → IsDue words text status bytes → IsWritten status
words_written words text _ _ (usage none) = record { read = λ e. omega arith; written = λ e. omega arith; ample = λ e. omega arith }
words_written words text status bytes (job file _ _ e due) = text_written text status bytes due

pub due_written : (holds : List ℕ → Option (List ℕ)) (words : List (List ℕ)) (status : ℕ) (bytes : List ℕ) → IsDueFrom holds words status bytes → IsWritten status
due_written holds words status bytes h = words_written words h.text status bytes h.due

-- the report of a run of code that carries the meaning is due
pub run_due : (text : List ℕ) (code : List Instr) (tree : Tree) (o : Outcome) (ticks : ℕ) → length text ≤ most_bytes → MeansTree text tree → CarriesMeaning code tree → EndsWith code o ticks → IsDueFor text (status_of o) (run_text o ticks)
run_due text code tree o ticks within program carries end =
    let same = (carries.each_budget budget).1 o ticks end in
    let due = ran tree (record { outcome = eval tree; unfoldings = 1 }) within program refl in
    subst (λ n. IsDueFor text (status_of o) (run_text o n)) (sym same.1) (subst (λ p. IsDueFor text (status_of p) (run_text p 1)) (sym same.0) due)

-- an answer with this status and this text
pub answer_due : (text : List ℕ) (r : Result Due Want) (status : ℕ) (bytes : List ℕ) → IsDueFor text status bytes → IfOk r (λ d. d.status ≡ status) → IfOk r (λ d. d.text ≡ bytes) → IfOk r (λ d. IsDueFor text d.status d.text)
answer_due text (Ok d) status bytes due e f = subst (λ s. IsDueFor text s d.text) (sym e) (subst (λ b. IsDueFor text status b) (sym f) due)
answer_due text (Err w) status bytes due e f = tt

-- an answer with a stop of the text
pub stop_due : (text : List ℕ) (s : Stop) (r : Result Due Want) → length text ≤ most_bytes → (s ≢ stop.Want → IsStopped text s) → IfOk r (λ d. s ≢ stop.Want) → IfOk r (λ d. d.status ≡ stop_status s) → IfOk r (λ d. d.text ≡ stop_text s) → IfOk r (λ d. IsDueFor text d.status d.text)
stop_due text s (Ok d) within why told e f = answer_due text (Ok d) (stop_status s) (stop_text s) (stopped s within (why told)) e f
stop_due text s (Err w) within why told e f = tt

-- the words name one file
one_file : (words : List (List ℕ)) (file other : List ℕ) → job_of words ≡ Some file → job_of words ≡ Some other → file ≡ other
one_file words file other e f = cc

pub told_text : (holds : List ℕ → Option (List ℕ)) (words : List (List ℕ)) (file text : List ℕ) → job_of words ≡ Some file → IfSome (holds file) (λ told. text ≡ told) → IsTold holds words text
told_text holds words file text e h = λ other f. subst (λ x. IfSome (holds x) (λ told. text ≡ told)) (one_file words file other e f) h

pub usage_due : (holds : List ℕ → Option (List ℕ)) (words : List (List ℕ)) (status : ℕ) (bytes : List ℕ) → job_of words ≡ None → status ≡ 2 → bytes ≡ usage_text → IsDueFrom holds words status bytes
usage_due holds words status bytes none e f =
    record { text = []; told = λ file g. cc; due = subst (λ s. IsDue words [] s bytes) (sym e) (subst (λ b. IsDue words [] 2 b) (sym f) (usage none)) }

pub text_due : (holds : List ℕ → Option (List ℕ)) (words : List (List ℕ)) (file text : List ℕ) (status : ℕ) (bytes : List ℕ) → job_of words ≡ Some file → IfSome (holds file) (λ told. text ≡ told) → IsDueFor text status bytes → IsDueFrom holds words status bytes
text_due holds words file text status bytes e h due = record { text = text; told = told_text holds words file text e h; due = job file status bytes e due }

abbrev zeros : ℕ → List ℕ
zeros n = replicate n 0

-- some text is longer
longer_text : (n : ℕ) → (text : List ℕ) × (n < length text)
longer_text n = let size : length (zeros (suc n)) ≡ suc n = length-replicate (suc n) 0 in (zeros (suc n), omega (arith, size))

-- a text that is too long: that of the file, where it is told
long_text : (told : Option (List ℕ)) → IfSome told (λ bytes. most_bytes < length bytes) → (text : List ℕ) × (most_bytes < length text) × IfSome told (λ bytes. text ≡ bytes)
long_text None h = let some = longer_text most_bytes in (some.0, some.1, tt)
long_text (Some bytes) h = (bytes, h, refl)

pub long_due : (holds : List ℕ → Option (List ℕ)) (words : List (List ℕ)) (file : List ℕ) (status : ℕ) (bytes : List ℕ) → job_of words ≡ Some file → IfSome (holds file) (λ told. most_bytes < length told) → status ≡ 8 → bytes ≡ stop_text too_long → IsDueFrom holds words status bytes
long_due holds words file status bytes e h f g =
    let text = long_text (holds file) h in
    text_due holds words file text.0 status bytes e text.2 (subst (λ s. IsDueFor text.0 s bytes) (sym f) (subst (λ b. IsDueFor text.0 8 b) (sym g) (long text.1)))

-- one status and one text are due
same_status : (o p : Outcome) → o ≡ p → status_of o ≡ status_of p
same_status o p e = ap status_of e

one_meaning : (t u : Tree) (a b : Answer) → t ≡ u → meaning t budget ≡ Some a → meaning u budget ≡ Some b → a ≡ b
one_meaning t u a b e m n = some_inj (sym m ∙ ap (λ x. meaning x budget) e ∙ n)
  where
    some_inj : ◌≡◌ {A = Option Answer} (Some a) (Some b) → a ≡ b
    some_inj h = cc

-- what comes of an answer of the lexer: the stop of it, or that of its tokens
abbrev StopsLayout : Result (List Token) At → At → Stop → Type 0
StopsLayout (Ok laid) end s = StopsLaid laid end s
StopsLayout (Err at) end s = s ≡ refused_at kind.Brace at

abbrev StopsAt : Result (List Token) LexStop → At → Stop → Type 0
StopsAt (Ok tokens) end s = StopsLayout (laid_out tokens end) end s
StopsAt (Err told) end s = s ≡ lexer_stop told

record Stopping (text : List ℕ) (s : Stop) : Type 0 where
  pub answer : Result (List Token) LexStop
  pub lexed : Lexes form.Program text answer
  pub told : answer ≡ Err lex.Want → ⊥
  pub stops : StopsAt answer (end_place text) s

unlaid_stopping : (text : List ℕ) (s : Stop) → LacksLayout text s → Stopping text s
unlaid_stopping text _ (lexemes s h told) = record { answer = Err s; lexed = h; told = λ e. told (err_inj s lex.Want e); stops = refl }
  where
    err_inj : (s t : LexStop) → ◌≡◌ {A = Result (List Token) LexStop} (Err s) (Err t) → s ≡ t
    err_inj s t e = cc
unlaid_stopping text _ (layout tokens at h e) = record { answer = Ok tokens; lexed = h; told = λ e. cc; stops = subst (λ r. StopsLayout r (end_place text) (refused_at kind.Brace at)) (sym e) refl }

stopping : (text : List ℕ) (s : Stop) → IsStopped text s → Stopping text s
stopping text s (no_tokens _ h) = unlaid_stopping text s h
stopping text s (laid_tokens laid _ h why) = record { answer = Ok h.tokens; lexed = h.lexed; told = λ e. cc; stops = subst (λ r. StopsLayout r (end_place text) s) (sym h.laid_out) why }

-- the laid-out tokens of a text are one list
pub layout_once : (text : List ℕ) (laid others : List Token) → HasLayout text laid → HasLayout text others → laid ≡ others
layout_once text laid others h g =
    let same = same_answer form.Program text (Ok h.tokens) (Ok g.tokens) h.lexed g.lexed (λ e. cc) (λ e. cc) in
    let tokens : h.tokens ≡ g.tokens = cc in
    let both : ◌≡◌ {A = Result (List Token) At} (Ok laid) (Ok others) = sym h.laid_out ∙ ap (λ ts. laid_out ts (end_place text)) tokens ∙ g.laid_out in
    cc

-- laid-out tokens are the spelling of one tree
whole_once : (laid : List Token) (whole other : program.Tree) → IsParsed laid whole → IsParsed laid other → whole ≡ other
whole_once laid whole other h g = one_spelling whole other h.well_formed.formed g.well_formed.formed (h.spelled ∙ sym g.spelled)

-- a text and the prelude have one tree
tree_once : (text : List ℕ) (tree other : program.Tree) → HasTree text tree → HasTree text other → tree ≡ other
tree_once text tree other h g = whole_once g.laid tree other (subst (λ laid. IsParsed laid tree) (layout_once text h.laid g.laid h.layout g.layout) h.parsed) g.parsed

prelude_once : (prelude other : program.Tree) → IsPrelude prelude → IsPrelude other → prelude ≡ other
prelude_once _ _ (stored tree h) (stored other g) = tree_once _ tree other h g
prelude_once _ _ (stored tree h) (without none) = absurd (none tree h)
prelude_once _ _ (without none) (stored other g) = absurd (none other g)
prelude_once _ _ (without none) (without nothing) = refl

-- of a program's chains, depths and names one thing is said, but for want of memory
err_want : (s : NamesStop) → (s ≡ checking.Want → ⊥) → ◌≡◌ {A = Result (Unit {0}) NamesStop} (Err s) (Err checking.Want) → ⊥
err_want s told e = told (err_inj s checking.Want e)
  where
    err_inj : (s t : NamesStop) → ◌≡◌ {A = Result (Unit {0}) NamesStop} (Err s) (Err t) → s ≡ t
    err_inj s t e = cc

asked_once : (whole : program.Tree) (r s : Result (Unit {0}) NamesStop) → IsAsked whole r → IsAsked whole s → (r ≡ Err checking.Want → ⊥) → (s ≡ Err checking.Want → ⊥) → r ≡ s
asked_once whole r s h g n m =
    let same = prelude_once h.prelude g.prelude h.is g.is in
    answered_once (tops_of g.prelude) (tops_of whole) r s (subst (λ p. AreChecked (tops_of p) (tops_of whole) r) same h.checked) g.checked n m

names_stop_once : (whole : program.Tree) (s t : NamesStop) → IsAsked whole (Err s) → IsAsked whole (Err t) → (s ≡ checking.Want → ⊥) → (t ≡ checking.Want → ⊥) → s ≡ t
names_stop_once whole s t h g n m = err_inj (asked_once whole (Err s) (Err t) h g (err_want s n) (err_want t m))
  where
    err_inj : ◌≡◌ {A = Result (Unit {0}) NamesStop} (Err s) (Err t) → s ≡ t
    err_inj e = cc

-- where a program is resolved, the rules are kept
resolved_asked : (whole : program.Tree) (read : Option Tree) → ResolvesTo whole read → IsAsked whole (Ok tt)
resolved_asked whole read h = record { prelude = h.prelude; is = h.is; checked = h.keeps }

asked_none : (whole : program.Tree) (s : NamesStop) (read : Option Tree) → IsAsked whole (Err s) → (s ≡ checking.Want → ⊥) → ResolvesTo whole read → ⊥
asked_none whole s read h told all = clash (asked_once whole (Err s) (Ok tt) h (resolved_asked whole read all) (err_want s told) (λ e. cc))
  where
    clash : ◌≡◌ {A = Result (Unit {0}) NamesStop} (Err s) (Ok tt) → ⊥
    clash e = cc

-- a program has one tree, or none
resolves_once : (whole : program.Tree) (a b : Option Tree) → ResolvesTo whole a → ResolvesTo whole b → a ≡ b
resolves_once whole a b h g =
    let same = prelude_once h.prelude g.prelude h.is g.is in
    let are = subst (λ p. AreBindings (tops_of p) (tops_of whole) h.bindings) same h.are in
    sym h.resolved ∙ ap (main_tree (tops_of whole)) (bindings_once (tops_of g.prelude) (tops_of whole) h.bindings g.bindings g.keeps.1 are g.are) ∙ g.resolved

resolves_none : (whole : program.Tree) (tree : Tree) → ResolvesTo whole None → ResolvesTo whole (Some tree) → ⊥
resolves_none whole tree h g = clash (resolves_once whole None (Some tree) h g)
  where
    clash : ◌≡◌ {A = Option Tree} None (Some tree) → ⊥
    clash e = cc

-- a program is stopped in one way, and one that is has no tree
whole_stops_once : (whole : program.Tree) (s t : Stop) → StopsWhole whole s → StopsWhole whole t → s ≡ t
whole_stops_once whole _ _ (names_at a h told) (names_at b g known) = ap names_stop (names_stop_once whole a b h g told known)
whole_stops_once whole _ _ (names_at a h told) (not_built g) = absurd (asked_none whole a None h told g)
whole_stops_once whole _ _ (not_built h) (names_at b g known) = absurd (asked_none whole b None g known h)
whole_stops_once whole _ _ (not_built h) (not_built g) = refl

whole_none : (whole : program.Tree) (s : Stop) (tree : Tree) → StopsWhole whole s → ResolvesTo whole (Some tree) → ⊥
whole_none whole _ tree (names_at s h told) g = asked_none whole s (Some tree) h told g
whole_none whole _ tree (not_built h) g = resolves_none whole tree h g

-- laid-out tokens are stopped in one way
laid_once : (laid : List Token) (end : At) (s t : Stop) → StopsLaid laid end s → StopsLaid laid end t → s ≡ t
laid_once laid end _ _ (syntax_at a h) (syntax_at b g) = ap (λ at. parser_stop (parsing.Syntax at)) (syntax_once laid end a b h g)
laid_once laid end _ _ (syntax_at a h) (nesting_at b g) = absurd (syntax_no_nesting laid end a b h g)
laid_once laid end _ _ (syntax_at a h) (whole_at whole t parsed g) = absurd (parsed_no_syntax laid end a whole parsed h)
laid_once laid end _ _ (nesting_at a h) (syntax_at b g) = absurd (syntax_no_nesting laid end b a g h)
laid_once laid end _ _ (nesting_at a h) (nesting_at b g) = ap (λ at. parser_stop (parsing.Nesting at)) (nesting_once laid end a b h g)
laid_once laid end _ _ (nesting_at a h) (whole_at whole t parsed g) = absurd (parsed_no_nesting laid end a whole parsed h)
laid_once laid end _ _ (whole_at whole s parsed h) (syntax_at b g) = absurd (parsed_no_syntax laid end b whole parsed g)
laid_once laid end _ _ (whole_at whole s parsed h) (nesting_at b g) = absurd (parsed_no_nesting laid end b whole parsed g)
laid_once laid end _ _ (whole_at whole s parsed h) (whole_at other t again g) = whole_stops_once other s t (subst (λ w. StopsWhole w s) (whole_once laid whole other parsed again) h) g

layout_stops_once : (r : Result (List Token) At) (end : At) (s t : Stop) → StopsLayout r end s → StopsLayout r end t → s ≡ t
layout_stops_once (Ok laid) end s t h g = laid_once laid end s t h g
layout_stops_once (Err at) end s t h g = h ∙ sym g

stops_once : (a : Result (List Token) LexStop) (end : At) (s t : Stop) → StopsAt a end s → StopsAt a end t → s ≡ t
stops_once (Ok tokens) end s t h g = layout_stops_once (laid_out tokens end) end s t h g
stops_once (Err told) end s t h g = h ∙ sym g

-- a text is stopped in one way
stopped_once : (text : List ℕ) (s t : Stop) → IsStopped text s → IsStopped text t → s ≡ t
stopped_once text s t h g =
    let a = stopping text s h in
    let b = stopping text t g in
    let same = same_answer form.Program text a.answer b.answer a.lexed b.lexed a.told b.told in
    stops_once b.answer (end_place text) s t (subst (λ r. StopsAt r (end_place text) s) same a.stops) b.stops

no_answer : (s : LexStop) (tokens : List Token) → ◌≡◌ {A = Result (List Token) LexStop} (Err s) (Ok tokens) → ⊥
no_answer s tokens e = cc

no_layout : (at : At) (laid : List Token) → ◌≡◌ {A = Result (List Token) At} (Err at) (Ok laid) → ⊥
no_layout at laid e = cc

same_stop : (s t : LexStop) → ◌≡◌ {A = Result (List Token) LexStop} (Err s) (Err t) → s ≡ t
same_stop s t e = cc

same_tokens : (a b : List Token) → ◌≡◌ {A = Result (List Token) LexStop} (Ok a) (Ok b) → a ≡ b
same_tokens a b e = cc

-- a text without laid-out tokens has none
pub unlaid_none : (text : List ℕ) (s : Stop) (laid : List Token) → LacksLayout text s → HasLayout text laid → ⊥
unlaid_none text _ laid (lexemes s h told) g = no_answer s g.tokens (same_answer form.Program text (Err s) (Ok g.tokens) h g.lexed (λ e. told (same_stop s lex.Want e)) (λ e. cc))
unlaid_none text _ laid (layout tokens at h e) g =
    let list = same_tokens tokens g.tokens (same_answer form.Program text (Ok tokens) (Ok g.tokens) h g.lexed (λ e. cc) (λ e. cc)) in
    no_layout at laid (sym e ∙ ap (λ ts. laid_out ts (end_place text)) list ∙ g.laid_out)

-- laid-out tokens that are stopped have no tree
laid_none : (laid : List Token) (end : At) (s : Stop) (tree : Tree) → StopsLaid laid end s → MeansLaid laid tree → ⊥
laid_none laid end _ tree (syntax_at at h) p = parsed_no_syntax laid end at p.whole p.parsed h
laid_none laid end _ tree (nesting_at at h) p = parsed_no_nesting laid end at p.whole p.parsed h
laid_none laid end s tree (whole_at whole _ parsed h) p = whole_none p.whole s tree (subst (λ w. StopsWhole w s) (whole_once laid whole p.whole parsed p.parsed) h) p.resolves

-- a text that is stopped has no tree
stopped_none : (text : List ℕ) (s : Stop) (tree : Tree) → IsStopped text s → MeansTree text tree → ⊥
stopped_none text s tree h p =
    let a = stopping text s h in
    let same = same_answer form.Program text a.answer (Ok p.layout.tokens) a.lexed p.layout.lexed a.told (λ e. cc) in
    let stops : StopsLayout (laid_out p.layout.tokens (end_place text)) (end_place text) s = subst (λ r. StopsAt r (end_place text) s) same a.stops in
    laid_none p.laid (end_place text) s tree (subst (λ r. StopsLayout r (end_place text) s) p.layout.laid_out stops) p.means

-- a text has one tree
laid_tree_once : (laid : List Token) (first second : Tree) → MeansLaid laid first → MeansLaid laid second → first ≡ second
laid_tree_once laid first second h g = some_inj (resolves_once g.whole (Some first) (Some second) (subst (λ w. ResolvesTo w (Some first)) (whole_once laid h.whole g.whole h.parsed g.parsed) h.resolves) g.resolves)
  where
    some_inj : ◌≡◌ {A = Option Tree} (Some first) (Some second) → first ≡ second
    some_inj e = cc

text_tree_once : (text : List ℕ) (first second : Tree) → MeansTree text first → MeansTree text second → first ≡ second
text_tree_once text first second h g = laid_tree_once g.laid first second (subst (λ laid. MeansLaid laid first) (layout_once text h.laid g.laid h.layout g.layout) h.means) g.means

text_once : (text : List ℕ) (s : ℕ) (b : List ℕ) → IsDueFor text s b → (t : ℕ) (c : List ℕ) → IsDueFor text t c → (s ≡ t) × (b ≡ c)
text_once text _ _ (long h) _ _ (long g) = (refl, refl)
text_once text _ _ (long h) _ _ (stopped s g why) = absurd (omega arith)
text_once text _ _ (long h) _ _ (ran tree a g program m) = absurd (omega arith)
text_once text _ _ (stopped s h why) _ _ (long g) = absurd (omega arith)
text_once text _ _ (stopped s h why) _ _ (stopped t g other) = let same = stopped_once text s t why other in (ap stop_status same, ap stop_text same)
text_once text _ _ (stopped s h why) _ _ (ran tree a g program m) = absurd (stopped_none text s tree why program)
text_once text _ _ (ran tree a h program m) _ _ (long g) = absurd (omega arith)
text_once text _ _ (ran tree a h program m) _ _ (stopped s g why) = absurd (stopped_none text s tree why program)
text_once text _ _ (ran tree a h program m) _ _ (ran other b g again n) =
    let same = one_meaning tree other a b (text_tree_once text tree other program again) m n in
    (ap (λ (x : Answer). status_of x.outcome) same, ap (λ (x : Answer). run_text x.outcome x.unfoldings) same)

pub due_once : (words : List (List ℕ)) (text : List ℕ) (s : ℕ) (b : List ℕ) → IsDue words text s b → (t : ℕ) (c : List ℕ) → IsDue words text t c → (s ≡ t) × (b ≡ c)
due_once words text _ _ (usage none) _ _ (usage other) = (refl, refl)
due_once words text _ _ (usage none) t c (job file _ _ e due) = let clash : ◌≡◌ {A = Option (List ℕ)} None (Some file) = sym none ∙ e in cc
due_once words text s b (job file _ _ e due) _ _ (usage none) = let clash : ◌≡◌ {A = Option (List ℕ)} None (Some file) = sym none ∙ e in cc
due_once words text s b (job file _ _ e due) t c (job other _ _ f again) = text_once text s b due t c again

-- what is due for the words of a job is due for its text
job_due : (words : List (List ℕ)) (text file : List ℕ) (status : ℕ) (bytes : List ℕ) → job_of words ≡ Some file → IsDue words text status bytes → IsDueFor text status bytes
job_due words text file _ _ e (usage none) = let clash : ◌≡◌ {A = Option (List ℕ)} None (Some file) = sym none ∙ e in cc
job_due words text file status bytes e (job other _ _ f due) = due

-- the text that the store tells is the one for which something is due
file_due : (holds : List ℕ → Option (List ℕ)) (words : List (List ℕ)) (status : ℕ) (bytes : List ℕ) (text : List ℕ) → IsDueFrom holds words status bytes → IsFileText holds words text → IsDueFor text status bytes
file_due holds words status bytes text h f =
    let same : h.text ≡ text = subst (λ o. IfSome o (λ told. h.text ≡ told)) f.held (h.told f.file f.job) in
    job_due words text f.file status bytes f.job (subst (λ x. IsDue words x status bytes) same h.due)

-- the statuses of the cases
ran_apart : (o : Outcome) → (status_of o ≢ 8) × (status_of o ≢ 2) × (status_of o ≢ 1)
ran_apart (outcome.Value v) = ((λ e. omega arith), (λ e. omega arith), (λ e. omega arith))
ran_apart (outcome.Trap t) = ((λ e. omega arith), (λ e. omega arith), (λ e. omega arith))

-- the status of a stop
refused_status : (s : Stop) → stop_status s ≡ 1 → (r : Refusal) × (s ≡ stop.Refused r)
refused_status (stop.Refused r) e = (r, refl)
refused_status (stop.Limit l) e = absurd (omega arith)
refused_status stop.Want e = absurd (omega arith)

lexer_limit : (text : List ℕ) (s : LexStop) → Lexes form.Program text (Err s) → stop_status (lexer_stop s) ≡ 8 → (at : At) × Lexes form.Program text (Err (lex.Tokens at))
lexer_limit text (lex.Byte at) h e = absurd (omega arith)
lexer_limit text (lex.Literal at) h e = absurd (omega arith)
lexer_limit text (lex.Unclosed at) h e = absurd (omega arith)
lexer_limit text (lex.Tokens at) h e = (at, h)
lexer_limit text lex.Want h e = absurd (omega arith)

whole_limit : (whole : program.Tree) (s : Stop) → StopsWhole whole s → stop_status s ≡ 8 → (at : At) × IsAsked whole (Err (checking.Depth at))
whole_limit whole _ (names_at (checking.Fixity at) h told) e = absurd (omega arith)
whole_limit whole _ (names_at (checking.Depth at) h told) e = (at, h)
whole_limit whole _ (names_at (checking.Name b) h told) e = absurd (omega arith)
whole_limit whole _ (names_at checking.Want h told) e = absurd (told refl)
whole_limit whole _ (not_built h) e = absurd (omega arith)

laid_limit : (text : List ℕ) (laid : List Token) (s : Stop) → HasLayout text laid → StopsLaid laid (end_place text) s → stop_status s ≡ 8 → NestsTooDeep text ⊎ HasDeepTree text
laid_limit text laid _ h (syntax_at at g) e = absurd (omega arith)
laid_limit text laid _ h (nesting_at at g) e = inl (record { laid = laid; layout = h; at = at; nesting = g })
laid_limit text laid s h (whole_at whole _ parsed why) e = let deep = whole_limit whole s why e in inr (record { laid = laid; layout = h; whole = whole; parsed = parsed; at = deep.0; deep = deep.1 })

unlaid_limit : (text : List ℕ) (s : Stop) → LacksLayout text s → stop_status s ≡ 8 → (at : At) × Lexes form.Program text (Err (lex.Tokens at))
unlaid_limit text _ (lexemes s h told) e = lexer_limit text s h e
unlaid_limit text _ (layout tokens at h g) e = absurd (omega arith)

stop_limit : (text : List ℕ) (s : Stop) → IsStopped text s → stop_status s ≡ 8 → ((at : At) × Lexes form.Program text (Err (lex.Tokens at))) ⊎ (NestsTooDeep text ⊎ HasDeepTree text)
stop_limit text s (no_tokens _ h) e = inl (unlaid_limit text s h e)
stop_limit text s (laid_tokens laid _ h why) e = inr (laid_limit text laid s h why e)

text_limit : (text : List ℕ) (status : ℕ) (bytes : List ℕ) → IsDueFor text status bytes → status ≡ 8 → PassesLimit text
text_limit text _ _ (long h) e = inl h
text_limit text _ _ (stopped s h why) e = inr (stop_limit text s why e)
text_limit text _ _ (ran tree a h program m) e = absurd ((ran_apart a.outcome).0 e)

too_many : (text : List ℕ) (at : At) → Lexes form.Program text (Err (lex.Tokens at)) → IsStopped text (lexer_stop (lex.Tokens at))
too_many text at h = no_tokens _ (lexemes (lex.Tokens at) h (λ e. cc))

too_deep : (text : List ℕ) (deep : NestsTooDeep text) → IsStopped text (parser_stop (parsing.Nesting deep.at))
too_deep text deep = laid_tokens deep.laid _ deep.layout (nesting_at deep.at deep.nesting)

has_deep : (text : List ℕ) (deep : HasDeepTree text) → IsStopped text (names_stop (checking.Depth deep.at))
has_deep text deep = laid_tokens deep.laid _ deep.layout (whole_at deep.whole _ deep.parsed (names_at (checking.Depth deep.at) deep.deep (λ e. cc)))

text_long : (text : List ℕ) (status : ℕ) (bytes : List ℕ) → IsDueFor text status bytes → PassesLimit text → status ≡ 8
text_long text _ _ (long h) l = refl
text_long text _ _ (stopped s h why) (inl l) = absurd (omega arith)
text_long text _ _ (stopped s h why) (inr (inl (at, many))) = ap stop_status (stopped_once text s (lexer_stop (lex.Tokens at)) why (too_many text at many))
text_long text _ _ (stopped s h why) (inr (inr (inr deep))) = ap stop_status (stopped_once text s (names_stop (checking.Depth deep.at)) why (has_deep text deep))
text_long text _ _ (stopped s h why) (inr (inr (inl deep))) = ap stop_status (stopped_once text s (parser_stop (parsing.Nesting deep.at)) why (too_deep text deep))
text_long text _ _ (ran tree a h program m) (inl l) = absurd (omega arith)
text_long text _ _ (ran tree a h program m) (inr (inl (at, many))) = absurd (stopped_none text (lexer_stop (lex.Tokens at)) tree (too_many text at many) program)
text_long text _ _ (ran tree a h program m) (inr (inr (inr deep))) = absurd (stopped_none text (names_stop (checking.Depth deep.at)) tree (has_deep text deep) program)
text_long text _ _ (ran tree a h program m) (inr (inr (inl deep))) = absurd (stopped_none text (parser_stop (parsing.Nesting deep.at)) tree (too_deep text deep) program)

text_refused : (text : List ℕ) (status : ℕ) (bytes : List ℕ) → IsDueFor text status bytes → status ≡ 1 → IsRefused text
text_refused text _ _ (long h) e = absurd (omega arith)
text_refused text _ _ (stopped s h why) e = let found = refused_status s e in (found.0, subst (IsStopped text) found.1 why)
text_refused text _ _ (ran tree a h program m) e = absurd ((ran_apart a.outcome).2 e)

text_no_program : (text : List ℕ) (status : ℕ) (bytes : List ℕ) → IsDueFor text status bytes → IsRefused text → length text ≤ most_bytes → status ≡ 1
text_no_program text _ _ (long h) why l = absurd (omega arith)
text_no_program text _ _ (stopped s h why) (r, other) l = ap stop_status (stopped_once text s (stop.Refused r) why other)
text_no_program text _ _ (ran tree a h program m) (r, why) l = absurd (stopped_none text (stop.Refused r) tree why program)

stop_usage : (s : Stop) → stop_status s ≢ 2
stop_usage (stop.Refused r) = λ e. omega arith
stop_usage (stop.Limit l) = λ e. omega arith
stop_usage stop.Want = λ e. omega arith

text_job : (text : List ℕ) (status : ℕ) (bytes : List ℕ) → IsDueFor text status bytes → status ≢ 2
text_job text _ _ (long h) = λ e. omega arith
text_job text _ _ (stopped s h why) = stop_usage s
text_job text _ _ (ran tree a h program m) = (ran_apart a.outcome).1

words_usage : (words : List (List ℕ)) (text : List ℕ) (status : ℕ) (bytes : List ℕ) → IsDue words text status bytes → status ≡ 2 → job_of words ≡ None
words_usage words text _ _ (usage none) e = none
words_usage words text status bytes (job file _ _ f due) e = absurd (text_job text status bytes due e)

pub due_usage : (holds : List ℕ → Option (List ℕ)) (words : List (List ℕ)) (status : ℕ) (bytes : List ℕ) → IsDueFrom holds words status bytes → status ≡ 2 → job_of words ≡ None
due_usage holds words status bytes h e = words_usage words h.text status bytes h.due e

pub due_limit : (holds : List ℕ → Option (List ℕ)) (words : List (List ℕ)) (status : ℕ) (bytes : List ℕ) → IsDueFrom holds words status bytes → status ≡ 8 → (text : List ℕ) → IsFileText holds words text → PassesLimit text
due_limit holds words status bytes h e text f = text_limit text status bytes (file_due holds words status bytes text h f) e

pub due_long : (holds : List ℕ → Option (List ℕ)) (words : List (List ℕ)) (status : ℕ) (bytes : List ℕ) → IsDueFrom holds words status bytes → (text : List ℕ) → IsFileText holds words text → PassesLimit text → status ≡ 8
due_long holds words status bytes h text f l = text_long text status bytes (file_due holds words status bytes text h f) l

pub due_refused : (holds : List ℕ → Option (List ℕ)) (words : List (List ℕ)) (status : ℕ) (bytes : List ℕ) → IsDueFrom holds words status bytes → status ≡ 1 → (text : List ℕ) → IsFileText holds words text → IsRefused text
due_refused holds words status bytes h e text f = text_refused text status bytes (file_due holds words status bytes text h f) e

pub due_no_program : (holds : List ℕ → Option (List ℕ)) (words : List (List ℕ)) (status : ℕ) (bytes : List ℕ) → IsDueFrom holds words status bytes → (text : List ℕ) → IsFileText holds words text → IsRefused text → length text ≤ most_bytes → status ≡ 1
due_no_program holds words status bytes h text f why l = text_no_program text status bytes (file_due holds words status bytes text h f) why l
