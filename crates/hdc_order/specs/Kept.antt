-- The values among groups of places.
use Rattle.std.specs.Prelude.{ℕ, ◌<◌, Bool, List, [], ◌∷◌, ◌++◌, length, slice_index, filter}
use Rattle.hdc_graph.specs.Groups.{group_at}
use Rattle.hdc_order.specs.Order.{is_value}

-- whether the node at a place is a value
abbrev pub is_value_at : List ℕ → List Bool → ℕ → Bool
is_value_at nodes values place = is_value values (slice_index nodes place)

-- the values of some groups
abbrev pub kept_of : (ℕ → Bool) → List (List ℕ) → List ℕ
kept_of value [] = []
kept_of value (group ∷ groups) = filter value group ++ kept_of value groups

-- groups of numbers below a count
abbrev pub AreWithin : ℕ → List (List ℕ) → Type 0
AreWithin count groups = (i k : ℕ) → k < length (group_at groups i) → slice_index (group_at groups i) k < count
