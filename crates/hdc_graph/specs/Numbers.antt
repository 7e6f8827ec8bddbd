-- What holds of the numbers of components.
use Rattle.std.specs.Prelude.{◌≡◌, ℕ, ◌<◌, List, length, slice_index}
use Rattle.hdc_graph.specs.declared.search.State.{State}
use Rattle.hdc_graph.specs.declared.search.State.TheVariants.{Unseen, OnPath, Finished}
use Rattle.hdc_graph.specs.Needs.{Nodes, IsClosed, IsNumbering, NeedsComeFirst}

-- the number of a finished node's component
abbrev pub number_of : State → ℕ
number_of Unseen = 0
number_of (OnPath p) = 0
number_of (Finished c) = c

-- the nodes have the numbers of their components
pub record IsNumbered (g : Nodes) (numbers : List ℕ) : Type 0 where
  pub numbering : IsNumbering g numbers
  pub first : NeedsComeFirst g numbers
  pub closed : IsClosed g
  pub below : (a : ℕ) → a < length g → slice_index numbers a < length g

-- one of these nodes has this number
abbrev pub NeedsNumber : List ℕ → List ℕ → ℕ → Type 0
NeedsNumber needs numbers n = (k : ℕ) × (k < length needs) × (slice_index numbers (slice_index needs k) ≡ n)
