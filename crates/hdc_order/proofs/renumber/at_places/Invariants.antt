use Rattle.std.proofs.Common.{◌≡◌, slice_index, map, take}
use Rattle.hdc_order.proofs.renumber.at_places.Given as goal

abbrev pub invariant-loop-node : goal.invariant-loop-node
invariant-loop-node l = l.found ≡ map (slice_index l.places) (take l.node-index l.nodes)
