use Rattle.std.proofs.Common.{◌≡◌, ◌++◌, take}
use Rattle.hdc_graph.proofs.schedule.push_all.Given as goal

abbrev pub invariant-loop-item : goal.invariant-loop-item
invariant-loop-item l = l.items ≡ l.initial.items ++ take l.item-index l.more
