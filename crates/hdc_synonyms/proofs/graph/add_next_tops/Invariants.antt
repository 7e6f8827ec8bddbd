use Rattle.std.proofs.Common.{◌≡◌, suc, length, drop}
use Rattle.hdc_written.specs.Mirror.{tops_behind}
use Rattle.hdc_synonyms.specs.Adding.{each_added}
use Rattle.hdc_synonyms.proofs.graph.add_next_tops.Given as goal

abbrev pub invariant-loop-index : goal.invariant-loop-index
invariant-loop-index l = record {
  size : length l.graph ≡ length l.initial.graph;
  so_far : each_added l.declared 1 (tops_behind l.tops) l.initial.graph ≡ each_added l.declared (suc l.index) (tops_behind (drop l.index l.tops)) l.graph;
}
