-- What the parser answers.
use Rattle.std.specs.Prelude.{◌≡◌, ◌≢◌, List, [], Result, Ok, Err}
use Rattle.hdc_base.specs.declared.place.At.{At}
use Rattle.hdc_base.specs.declared.token.Token.{Token}
use Rattle.hdc_tree.specs.declared.program.Tree.{Tree}
use Rattle.hdc_syntax.specs.declared.stop.Stop.{Stop}
use Rattle.hdc_syntax.specs.declared.stop.Stop.TheVariants.{Want}
use Rattle.hdc_syntax.specs.Parser.{Outcome}
use Rattle.hdc_parse.specs.declared.stop.ParseStop.{ParseStop}
use Rattle.hdc_parse.specs.declared.stop.ParseStop.TheVariants as stop
use Rattle.hdc_parse.specs.Exact.{IsParsed, IsSyntax, IsNesting}

-- the tree of the tokens, or why they have none; memory may be wanting
abbrev pub IsAnswer : List Token → At → Result Tree ParseStop → Type 0
IsAnswer tokens end (Ok tree) = IsParsed tokens tree
IsAnswer tokens end (Err (stop.Syntax at)) = IsSyntax tokens end at
IsAnswer tokens end (Err (stop.Nesting at)) = IsNesting tokens end at
IsAnswer tokens end (Err stop.Want) = Unit {0}

-- what a rule reads of all tokens, unless memory is wanting
abbrev pub ReadsAll : {A : Type 0} → Outcome A → Result A Stop → Type 0
ReadsAll outcome (Ok a) = outcome ≡ Ok (a, [])
ReadsAll outcome (Err e) = e ≢ Want → outcome ≡ Err e
