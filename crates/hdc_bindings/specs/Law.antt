-- What the bindings of every prelude and program are.
use Rattle.std.specs.Prelude.{◌≡◌, ℕ, Bool, List}
use Rattle.hdc_tree.specs.declared.program.Top.{Top}
use Rattle.hdc_names.specs.declared.chain.NextOperand.{NextOperand}
use Rattle.hdc_names.specs.Chain.{Tree}
use Rattle.hdc_names.specs.Trees.{AreTrees}
use Rattle.hdc_resolving.specs.Grouped.{by_steps, by_trees}
use Rattle.hdc_bindings.specs.Tops.{all_bindings}

-- what is built by the steps of each chain is what is grouped by its tree
abbrev pub AsTrees : Type 0
AsTrees = (trees : Bool → List NextOperand → Tree) → AreTrees trees → (ps ts : List Top) (orders : List (List ℕ)) → all_bindings by_steps ps ts orders ≡ all_bindings (by_trees trees) ps ts orders
