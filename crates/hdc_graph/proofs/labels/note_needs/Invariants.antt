use Rattle.std.proofs.Common.{◌≡◌, take}
use Rattle.hdc_graph.specs.Labels.{with_needs}
use Rattle.hdc_graph.proofs.labels.note_needs.Given as goal

abbrev pub invariant-loop-node : goal.invariant-loop-node
invariant-loop-node l = l.needs ≡ with_needs l.labels l.initial.needs l.label (take l.node-index l.needed)
