-- Nodes come into the groups at the places of their components.
use Rattle.std.specs.Prelude.{◌≡◌, ℕ, ◌<◌, ◌≤◌, ◌^◌, List, length, slice_index, Contains, ◌↔◌, Option, Some}
use Rattle.std.specs.List.Sorted.{IsStrictlyIncreasing}
use Rattle.hdc_graph.specs.Lists.{list_at, place_in}

-- each node is in the group at the place of its component
pub record AreFilled (labels : List ℕ) (places : List (Option ℕ)) (count : ℕ) (groups : List (List ℕ)) : Type 0 where
  pub each : length groups ≡ count
  pub increasing : (i : ℕ) → IsStrictlyIncreasing (list_at groups i)
  pub members : (i u : ℕ) → Contains (list_at groups i) u ↔ ((u < length labels) × (place_in places (slice_index labels u) ≡ Some i))

-- the labels have places, below a count
pub record CanFill (labels : List ℕ) (places : List (Option ℕ)) (count : ℕ) : Type 0 where
  pub small : length labels ≤ 2 ^ 32
  pub within : (v : ℕ) → v < length labels → slice_index labels v < length places
  pub below : (c i : ℕ) → place_in places c ≡ Some i → i < count

-- the nodes below this one are in their groups
pub record AreFilledTo (labels : List ℕ) (places : List (Option ℕ)) (count : ℕ) (groups : List (List ℕ)) (n : ℕ) : Type 0 where
  pub each : length groups ≡ count
  pub increasing : (i : ℕ) → IsStrictlyIncreasing (list_at groups i)
  pub members : (i u : ℕ) → Contains (list_at groups i) u ↔ ((u < n) × (place_in places (slice_index labels u) ≡ Some i))
