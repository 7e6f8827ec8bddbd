use Rattle.std.proofs.Common.{◌≡◌, ℕ, ◌<◌, ◌↔◌, length, get_or, IsTrue, false}
use Rattle.hdc_graph.specs.Needs.{Reaches}
use Rattle.hdc_graph.proofs.components.find_cyclic.Given as goal

abbrev pub invariant-loop-node : goal.invariant-loop-node
invariant-loop-node l = record {
  each : length l.cyclic ≡ l.node;
  reaches : (u : ℕ) → u < l.node → IsTrue (get_or l.cyclic u false) ↔ Reaches l.graph u u;
}
