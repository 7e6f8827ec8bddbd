-- What the steps of compiling a text answer.
use Rattle.std.specs.Prelude.{ℕ, List, Some, Result, Ok, Err}
use Rattle.hdc_base.specs.declared.place.At.{At}
use Rattle.hdc_base.specs.declared.token.Token.{Token}
use Rattle.hdc_base.specs.declared.refusal.Stop.{Stop}
use Rattle.hdc_base.specs.declared.refusal.Stop.TheVariants as stop
use Rattle.hdc_tree.specs.declared.program.Tree as program
use Rattle.hdc_code.specs.declared.instr.Instr.{Instr}
use Rattle.hdc_top.specs.Arithmetic.{Tree}
use Rattle.hdc_top.specs.Code.{CarriesMeaning}
use Rattle.hdc_top.specs.Stopped.{HasLayout, LacksLayout, ResolvesTo, StopsWhole, MeansLaid, StopsLaid, MeansTree, IsStopped}

-- the laid-out tokens of a text, or why it has none
abbrev pub LaysText : List ℕ → Result (List Token) Stop → Type 0
LaysText text (Ok laid) = HasLayout text laid
LaysText text (Err stop.Want) = Unit {0}
LaysText text (Err (stop.Refused r)) = LacksLayout text (stop.Refused r)
LaysText text (Err (stop.Limit l)) = LacksLayout text (stop.Limit l)

-- the code carries the meaning of the tree that the program has, or why it has none
abbrev pub CompilesWhole : program.Tree → Result (List Instr) Stop → Type 0
CompilesWhole whole (Ok code) = (tree : Tree) × ResolvesTo whole (Some tree) × CarriesMeaning code tree
CompilesWhole whole (Err stop.Want) = Unit {0}
CompilesWhole whole (Err (stop.Refused r)) = StopsWhole whole (stop.Refused r)
CompilesWhole whole (Err (stop.Limit l)) = StopsWhole whole (stop.Limit l)

-- the same of laid-out tokens
abbrev pub CompilesLaid : List Token → At → Result (List Instr) Stop → Type 0
CompilesLaid laid end (Ok code) = (tree : Tree) × MeansLaid laid tree × CarriesMeaning code tree
CompilesLaid laid end (Err stop.Want) = Unit {0}
CompilesLaid laid end (Err (stop.Refused r)) = StopsLaid laid end (stop.Refused r)
CompilesLaid laid end (Err (stop.Limit l)) = StopsLaid laid end (stop.Limit l)

-- and of a text
abbrev pub Compiles : List ℕ → Result (List Instr) Stop → Type 0
Compiles text (Ok code) = (tree : Tree) × MeansTree text tree × CarriesMeaning code tree
Compiles text (Err stop.Want) = Unit {0}
Compiles text (Err (stop.Refused r)) = IsStopped text (stop.Refused r)
Compiles text (Err (stop.Limit l)) = IsStopped text (stop.Limit l)
