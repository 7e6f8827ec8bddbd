-- A layout under way: its stack, and the tokens that were given and inserted so far.
use Rattle.std.specs.Prelude.{◌≡◌, List, [], ◌∷◌, ◌++◌, Bool, true, false, Result, Ok, Err}
use Rattle.hdc_base.specs.declared.place.At.{At}
use Rattle.hdc_base.specs.declared.token.Token.{Token}
use Rattle.hdc_layout.specs.declared.summary.Entry.{Entry}
use Rattle.hdc_layout.specs.declared.summary.Entry.TheVariants as entry
use Rattle.hdc_layout.specs.declared.rules.Layout.{Layout}
use Rattle.hdc_layout.specs.declared.rules.Cause.{Cause}
use Rattle.hdc_layout.specs.declared.rules.Cause.TheVariants as cause
use Rattle.hdc_layout.specs.declared.stop.LayoutStop.{LayoutStop}
use Rattle.hdc_layout.specs.declared.stop.LayoutStop.TheVariants as stop
use Rattle.hdc_layout.specs.Blocks.{current}
use Rattle.hdc_layout.specs.Rules.{LaidResult, Step, ends, is_above}
use Rattle.hdc_layout.specs.LaidOut.{tokens_of}

-- the top is no explicit block
abbrev pub is_above_block : List Entry → Bool
is_above_block [] = false
is_above_block (entry.Implicit n ∷ below) = true
is_above_block (entry.Explicit ∷ below) = false
is_above_block (entry.Opener o ∷ below) = true

-- the cause removes the top of the stack
abbrev pub removes : Cause → List Entry → Bool
removes (cause.Line n before_where) stack = ends n before_where (current stack)
removes (cause.Answer a) stack = is_above a stack
removes cause.Brace stack = is_above_block stack

-- a layout under way, behind a step
abbrev pub after_step : Layout → Step → Layout
after_step l s = record { stack = s.stack; laid = l.laid ++ tokens_of s.gives }

-- a layout under way, behind a step that may be stopped by a brace
abbrev pub after_steps : Layout → Result Step At → Result Layout At
after_steps l (Ok s) = Ok (after_step l s)
after_steps l (Err at) = Err at

-- a call leaves a layout so, or is stopped by the brace at the place; want of memory tells nothing
abbrev pub Leaves : Result Layout At → Layout → Result Unit LayoutStop → Type 0
Leaves answer l (Ok u) = answer ≡ Ok l
Leaves answer l (Err (stop.Brace at)) = answer ≡ Err at
Leaves answer l (Err stop.Want) = Unit {0}

-- the tokens so far, and then an answer
abbrev pub with_laid : List Token → LaidResult → Result (List Token) At
with_laid laid (Ok more) = Ok (laid ++ tokens_of more)
with_laid laid (Err at) = Err at
