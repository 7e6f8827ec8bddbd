use Rattle.std.proofs.Common.{◌≡◌, map, take}
use Rattle.hdc_graph.specs.Numbers.{number_of}
use Rattle.hdc_graph.proofs.components.number_nodes.Given as goal

abbrev pub invariant-loop-state : goal.invariant-loop-state
invariant-loop-state l = l.numbers ≡ map number_of (take l.state-index l.state-items)
