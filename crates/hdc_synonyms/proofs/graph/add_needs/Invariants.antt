use Rattle.std.proofs.Common.{◌≡◌, length, drop}
use Rattle.hdc_synonyms.specs.Adding.{with_needs}
use Rattle.hdc_synonyms.proofs.graph.add_needs.Given as goal

abbrev pub invariant-loop-to : goal.invariant-loop-to
invariant-loop-to l = record {
  size : length l.graph ≡ length l.initial.graph;
  so_far : with_needs l.from l.needs l.initial.graph ≡ with_needs l.from (drop l.to-index l.needs) l.graph;
}
