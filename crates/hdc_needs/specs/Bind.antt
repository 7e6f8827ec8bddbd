-- How the names of a block come into scope.
use Rattle.std.specs.Prelude.{ℕ, ◌-◌, Bool, true, false, List, [], ◌∷◌, ◌++◌, length, take, Option, None, Some, is_some}
use Rattle.hdc_graph.specs.Needs.{Nodes}
use Rattle.hdc_written.specs.Scopes.{Binding, standing_for}
use Rattle.hdc_written.specs.Written.{Declarations, no_declaration, declaration}
use Rattle.hdc_needs.specs.declared.bind.Target.{Target}
use Rattle.hdc_needs.specs.declared.bind.Target.TheVariants as target
use Rattle.hdc_needs.specs.Frames.{linked_within}
use Rattle.hdc_needs.specs.Walk.{Mention}

abbrev pub Targets : Type 0
Targets = List (Binding Target)

-- each declaration has a node
abbrev pub start : Declarations → Nodes
start no_declaration = []
start (declaration d ds) = [] ∷ start ds

-- what is in scope, and a block's graph
pub record Named : Type 0 where
  pub scope : Targets
  pub graph : Nodes

abbrev pub node_in : Option Target → Option ℕ
node_in None = None
node_in (Some target.Variable) = None
node_in (Some (target.Local level node)) = Some node

abbrev pub known_if : Bool → Option Target → Option ℕ
known_if true found = node_in found
known_if false found = None

abbrev pub known_node : ℕ → List ℕ → Targets → Option ℕ
known_node size t s = known_if (is_some (standing_for t (take (length s - size) s))) (standing_for t s)

abbrev pub node_for : Option ℕ → Nodes → ℕ
node_for None g = length g
node_for (Some node) g = node

abbrev pub grown : Option ℕ → Nodes → Nodes
grown None g = g ++ [] ∷ []
grown (Some node) g = g

abbrev pub bind_as : ℕ → Option ℕ → Mention → Targets → Nodes → Named
bind_as level known m s g = record { scope = record { name = m.name.text; what = target.Local level (node_for known g) } ∷ s; graph = linked_within (grown known g) (node_for known g) m.number }

abbrev pub bind_one : ℕ → ℕ → Mention → Targets → Nodes → Named
bind_one level size m s g = bind_as level (known_node size m.name.text s) m s g

abbrev pub bind_all : ℕ → ℕ → List Mention → Targets → Nodes → Named
bind_all level size [] s g = record { scope = s; graph = g }
bind_all level size (m ∷ ms) s g = bind_all level size ms (bind_one level size m s g).scope (bind_one level size m s g).graph
