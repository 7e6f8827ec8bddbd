use Rattle.std.proofs.Common.{◌≡◌, ℕ, ◌<◌, length, get_or}
use Rattle.hdc_graph.specs.declared.search.State.TheVariants.{Unseen}
use Rattle.hdc_graph.specs.Search.{state_in, opened}
use Rattle.hdc_graph.proofs.search.Search.start.Given as goal

abbrev pub invariant-loop-node : goal.invariant-loop-node
invariant-loop-node l = record {
  each : length l.states ≡ l.node;
  unseen : (v : ℕ) → state_in l.states v ≡ Unseen;
  opened : opened l.states ≡ l.node;
  size : length l.pending ≡ l.node;
  pending : (k : ℕ) → k < l.node → get_or l.pending k 0 ≡ k;
}
