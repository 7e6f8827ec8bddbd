use Rattle.std.proofs.Common.{◌≡◌, ◌≤◌, length}
use Rattle.hdc_graph.specs.Search.{IsClosing}
use Rattle.hdc_graph.proofs.search.Search.close.Given as goal

abbrev pub invariant-loop-self : goal.invariant-loop-self
invariant-loop-self l = record {
  nodes : IsClosing (length l.self.path) l.initial.self l.self;
  count : l.self.count ≡ l.initial.self.count;
  above : l.from ≤ length l.self.path;
  within : length l.self.path ≤ length l.initial.self.path;
}

abbrev pub decreases-loop-self : goal.decreases-loop-self
decreases-loop-self l = length l.self.path
