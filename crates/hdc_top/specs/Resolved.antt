-- The resolved program of a prelude and a program behind it.
use Rattle.std.specs.Prelude.{◌≡◌, ℕ, Bool, List, Result, Ok, Err}
use Rattle.hdc_tree.specs.declared.program.Top.{Top}
use Rattle.hdc_names.specs.declared.chain.NextOperand.{NextOperand}
use Rattle.hdc_names.specs.Chain.{Tree}
use Rattle.hdc_names.specs.Trees.{AreTrees}
use Rattle.hdc_resolved.specs.declared.program.Resolved.{Resolved}
use Rattle.hdc_resolved.specs.Syntax.{Binding}
use Rattle.hdc_resolving.specs.Grouped.{by_trees}
use Rattle.hdc_bindings.specs.Tops.{all_bindings}
use Rattle.hdc_top.specs.ResolvedTree.{AreBlockOrders, IsResolved}
use Rattle.hdc_top.specs.declared.names.NamesStop.{NamesStop}
use Rattle.hdc_top.specs.Names.{AreChecked}

-- these are the bindings at the top, in which the operands of each chain are grouped by its tree, and each block has the
-- order of its values
pub record AreBindings (ps ts : List Top) (bs : List Binding) : Type 0 where
  pub trees : Bool → List NextOperand → Tree
  pub right : AreTrees trees
  pub orders : List (List ℕ)
  pub ordered : AreBlockOrders ps ts orders
  pub are : bs ≡ all_bindings (by_trees trees) ps ts orders

-- a prelude and a program have this resolved tree and keep the rules on chains, depths and names, or break one
abbrev pub Resolves : List Top → List Top → Result Resolved NamesStop → Type 0
Resolves ps ts (Ok r) = AreChecked ps ts (Ok tt) × IsResolved ps ts r
Resolves ps ts (Err why) = AreChecked ps ts (Err why)
