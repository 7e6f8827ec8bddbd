use Rattle.std.proofs.Common.{◌≡◌, ℕ, ◌<◌, false, length, get_or}
use Rattle.hdc_needs.proofs.block_order.first_values.Given as goal

abbrev pub invariant-loop-node : goal.invariant-loop-node
invariant-loop-node l = record {
  each : length l.first ≡ l.node;
  same : (n : ℕ) → n < l.node → get_or l.first n false ≡ get_or l.declared n false;
}
