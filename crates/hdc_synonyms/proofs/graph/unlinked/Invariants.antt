use Rattle.std.proofs.Common.{◌≡◌, suc}
use Rattle.hdc_synonyms.specs.Adding.{unlinked}
use Rattle.hdc_synonyms.proofs.graph.unlinked.Given as goal

abbrev pub invariant-loop-node : goal.invariant-loop-node
invariant-loop-node l = l.graph ≡ unlinked (suc l._node)
