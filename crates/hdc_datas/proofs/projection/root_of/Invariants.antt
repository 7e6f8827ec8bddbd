use Rattle.std.proofs.Common.{◌≡◌, List}
use Rattle.hdc_resolved.specs.Mirror.{type_tree_of}
use Rattle.hdc_resolved.specs.Syntax.{SynonymOf}
use Rattle.hdc_datas.specs.Expanded.{expanded}
use Rattle.hdc_datas.specs.Settled.{AreProjections}
use Rattle.hdc_datas.proofs.projection.root_of.Given as goal

abbrev pub invariant-loop-root : goal.invariant-loop-root
invariant-loop-root l = (ss : List SynonymOf) → AreProjections ss l.projections → expanded ss (type_tree_of l.root) ≡ expanded ss (type_tree_of l.initial.root)
