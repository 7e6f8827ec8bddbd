-- Whether a prelude and a program keep the rules on chains, depths and names; and where the first rule is broken.
use Rattle.std.specs.Prelude.{◌⊎◌, List, [], Some, None, Result, Ok, Err}
use Rattle.hdc_tree.specs.declared.program.Top.{Top}
use Rattle.hdc_written.specs.declared.breach.Breach.{Breach}
use Rattle.hdc_written.specs.Breaches.{IsFirst, IsOneOf}
use Rattle.hdc_names.specs.Trees.{IsChecked}
use Rattle.hdc_names.specs.declared.check.TreesStop.{TreesStop}
use Rattle.hdc_names.specs.declared.check.TreesStop.TheVariants as trees
use Rattle.hdc_rules.specs.Uses.{prelude_breaches, program_breaches}
use Rattle.hdc_synonyms.specs.Synonyms.{IsCyclicSynonym}
use Rattle.hdc_regular.specs.Irregular.{IsIrregular}
use Rattle.hdc_needs.specs.Needy.{IsNeedy}
use Rattle.hdc_top.specs.declared.names.NamesStop.{NamesStop}
use Rattle.hdc_top.specs.declared.names.NamesStop.TheVariants as stop

-- a prelude, and a program behind a prelude, break a rule on names at a place
abbrev pub BreaksInPrelude : List Top → Breach → Type 0
BreaksInPrelude ps b = ((IsOneOf b (prelude_breaches ps) ⊎ IsCyclicSynonym ps b) ⊎ IsIrregular [] ps b) ⊎ IsNeedy ps b

abbrev pub BreaksInProgram : List Top → List Top → Breach → Type 0
BreaksInProgram ps ts b = ((IsOneOf b (program_breaches ps ts) ⊎ IsCyclicSynonym ts b) ⊎ IsIrregular ps ts b) ⊎ IsNeedy ts b

-- they break none
abbrev pub BreakNone : List Top → List Top → Type 0
BreakNone ps ts = IsFirst (BreaksInPrelude ps) None × IsFirst (BreaksInProgram ps ts) None

-- the first one in the prelude, or else in the program
abbrev pub BreakFirst : List Top → List Top → Breach → Type 0
BreakFirst ps ts b = IsFirst (BreaksInPrelude ps) (Some b) ⊎ (IsFirst (BreaksInPrelude ps) None × IsFirst (BreaksInProgram ps ts) (Some b))

-- what is said of a prelude and a program, the chains and sections before the depths, and these before the names; memory may
-- be wanting
abbrev pub AreChecked : List Top → List Top → Result (Unit {0}) NamesStop → Type 0
AreChecked ps ts (Ok done) = IsChecked ps ts (Ok tt) × BreakNone ps ts
AreChecked ps ts (Err (stop.Fixity at)) = IsChecked ps ts (Err (trees.Fixity at))
AreChecked ps ts (Err (stop.Depth at)) = IsChecked ps ts (Err (trees.Depth at))
AreChecked ps ts (Err (stop.Name b)) = IsChecked ps ts (Ok tt) × BreakFirst ps ts b
AreChecked ps ts (Err stop.Want) = Unit {0}

-- ---- as the code has it

abbrev pub want : NamesStop
want = stop.Want

-- what is said of the rules on names alone
abbrev pub RulesAnswer : List Top → List Top → Result (Unit {0}) NamesStop → Type 0
RulesAnswer ps ts (Ok done) = BreakNone ps ts
RulesAnswer ps ts (Err (stop.Fixity at)) = ⊥
RulesAnswer ps ts (Err (stop.Depth at)) = ⊥
RulesAnswer ps ts (Err (stop.Name b)) = BreakFirst ps ts b
RulesAnswer ps ts (Err stop.Want) = Unit {0}

-- what a stop of the trees is
abbrev pub trees_stop : TreesStop → NamesStop
trees_stop (trees.Fixity at) = stop.Fixity at
trees_stop (trees.Depth at) = stop.Depth at
trees_stop trees.Want = stop.Want
