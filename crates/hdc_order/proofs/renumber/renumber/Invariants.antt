use Rattle.std.proofs.Common.{◌≡◌, ℕ, slice_index, map, take}
use Rattle.hdc_graph.specs.Needs.{needs_of}
use Rattle.hdc_order.proofs.renumber.renumber.Given as goal

abbrev pub invariant-loop-node : goal.invariant-loop-node
invariant-loop-node l = l.needs.items ≡ map (λ (node : ℕ). map (slice_index l.places) (needs_of l.graph node)) (take l.node-index l.nodes)
