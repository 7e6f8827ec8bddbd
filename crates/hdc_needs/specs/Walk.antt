-- What a text does with the names of its blocks, event by event.
use Rattle.std.specs.Prelude.{ℕ, suc, nat_lt, List, [], ◌∷◌, ◌++◌, Option, None, Some, if◌then◌else◌}
use Rattle.hdc_tree.specs.declared.name.Name.{Name}
use Rattle.hdc_tree.specs.declared.program.Top.{Top}
use Rattle.hdc_tree.specs.declared.program.Top.TheVariants as top
use Rattle.hdc_written.specs.Written.{Declarations, no_declaration, declaration, all_bound}
use Rattle.hdc_written.specs.Mirror.{head_patterns, rhs_of}
use Rattle.hdc_written.specs.Events.{Event, used, constructed, matched, ranged, generated, opened, introduced, block, declaring, body, closed, equation_events}
use Rattle.hdc_written.specs.Scopes.{names_text}

-- a name that a declaration, by its number in its block, uses or binds
pub record Mention : Type 0 where
  pub number : ℕ
  pub name : Name

-- what came into scope together
pub data Frame : Type 0 where
  -- variables of patterns
  patterns : List Name → Frame
  -- a block: how many of its declarations have begun, the one that is gone through, and what they use of the block
  local : Declarations → ℕ → Option ℕ → List Mention → Frame

-- a block that has ended, and what its declarations use of it
pub record Ended : Type 0 where
  pub declarations : Declarations
  pub uses : List Mention

-- what is in scope, the last first, and what has ended; or the events are not those of a text
pub data State : Type 0 where
  lost : State
  going : List Frame → List Ended → State

abbrev pub count_declarations : Declarations → ℕ
count_declarations no_declaration = 0
count_declarations (declaration d ds) = suc (count_declarations ds)

-- a name is used, by a declaration or behind them
abbrev pub logged : Option ℕ → Name → List Mention → List Mention
logged None y us = us
logged (Some i) y us = record { number = i; name = y } ∷ us

abbrev pub use_name : Name → List Frame → List Frame
use_name y [] = []
use_name y (patterns xs ∷ fs) = if names_text xs y.text then patterns xs ∷ fs else patterns xs ∷ use_name y fs
use_name y (local ds k c us ∷ fs) = if names_text (all_bound ds) y.text then local ds k c (logged c y us) ∷ fs else local ds k c us ∷ use_name y fs

abbrev pub introduce : Name → List Frame → List Ended → State
introduce x [] es = lost
introduce x (patterns xs ∷ fs) es = going (patterns (xs ++ x ∷ []) ∷ fs) es
introduce x (local ds k c us ∷ fs) es = lost

abbrev pub begin : List Frame → List Ended → State
begin [] es = lost
begin (patterns xs ∷ fs) es = lost
begin (local ds k c us ∷ fs) es = if nat_lt k (count_declarations ds) then going (local ds (suc k) (Some k) us ∷ fs) es else lost

abbrev pub go_behind : List Frame → List Ended → State
go_behind [] es = lost
go_behind (patterns xs ∷ fs) es = lost
go_behind (local ds k c us ∷ fs) es = going (local ds k None us ∷ fs) es

abbrev pub close : List Frame → List Ended → State
close [] es = lost
close (patterns xs ∷ fs) es = going fs es
close (local ds k c us ∷ fs) es = going fs (es ++ record { declarations = ds; uses = us } ∷ [])

abbrev pub gone : Event → List Frame → List Ended → State
gone (used y) fs es = going (use_name y fs) es
gone (constructed c) fs es = going fs es
gone (matched c n) fs es = going fs es
gone (ranged a) fs es = going fs es
gone (generated a) fs es = going fs es
gone opened fs es = going (patterns [] ∷ fs) es
gone (introduced x) fs es = introduce x fs es
gone (block ds) fs es = going (local ds 0 None [] ∷ fs) es
gone declaring fs es = begin fs es
gone body fs es = go_behind fs es
gone closed fs es = close fs es

abbrev pub step : Event → State → State
step e lost = lost
step e (going fs es) = gone e fs es

abbrev pub run : List Event → State → State
run [] s = s
run (e ∷ es) s = run es (step e s)

abbrev pub run_top : Top → State → State
run_top top.Empty s = s
run_top (top.Data d) s = s
run_top (top.Synonym y) s = s
run_top (top.Fixity f) s = s
run_top (top.Signature x xs a t) s = s
run_top (top.Equation h r) s = run (equation_events (head_patterns h) (rhs_of r)) s

abbrev pub run_tops : List Top → State → State
run_tops [] s = s
run_tops (t ∷ ts) s = run_tops ts (run_top t s)
