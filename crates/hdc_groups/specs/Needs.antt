-- What the bindings at the top need of one another.
use Rattle.std.specs.Prelude.{ℕ, nat_lt, List, length, filter, map}
use Rattle.hdc_graph.specs.Needs.{Nodes}
use Rattle.hdc_resolved.specs.Syntax.{Binding}
use Rattle.hdc_groups.specs.TopUses.{equations_uses}

-- the numbers below this one
abbrev pub below : ℕ → List ℕ → List ℕ
below count = filter (λ n. nat_lt n count)

-- what a binding among so many needs: those that its equations use; another number names nothing
abbrev pub needs_among : ℕ → Binding → List ℕ
needs_among count b = below count (equations_uses b.equations)

-- the graph of the bindings: they are numbered from 0
abbrev pub binding_needs : List Binding → Nodes
binding_needs bs = map (needs_among (length bs)) bs
