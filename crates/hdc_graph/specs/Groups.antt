-- Groups of nodes that reach one another, in the order of dependency.
use Rattle.std.specs.Prelude.{◌≡◌, ℕ, ◌<◌, ◌⊎◌, ◌↔◌, List, [], length, slice_index, slice_index_or, Contains}
use Rattle.std.specs.List.Sorted.{IsStrictlyIncreasing}
use Rattle.hdc_graph.specs.Needs.{Nodes, Needs, AreMutual}

-- a largest set of nodes that reach one another, from its least node on
pub record IsGroup (g : Nodes) (group : List ℕ) : Type 0 where
  pub increasing : IsStrictlyIncreasing group
  pub some : 0 < length group
  pub whole : (a b : ℕ) → Contains group a → Contains group b ↔ ((b < length g) × AreMutual g a b)

-- the group at a position
abbrev pub group_at : List (List ℕ) → ℕ → List ℕ
group_at groups i = slice_index_or groups i []

-- what a group needs is in the group itself, or in groups before a position
abbrev pub NeedsOnlyBefore : Nodes → List (List ℕ) → ℕ → List ℕ → Type 0
NeedsOnlyBefore g groups i group = (a b : ℕ) → Contains group a → Needs g a b → Contains group b ⊎ ((j : ℕ) × (j < i) × Contains (group_at groups j) b)

-- the groups of a graph in the order of dependency: the one with the least first node among those
-- whose needs are in groups before comes next
pub record AreGroups (g : Nodes) (groups : List (List ℕ)) : Type 0 where
  pub each : (i : ℕ) → i < length groups → IsGroup g (group_at groups i)
  pub all : (a : ℕ) → a < length g → (i : ℕ) × (i < length groups) × Contains (group_at groups i) a
  pub once : (i j a : ℕ) → Contains (group_at groups i) a → Contains (group_at groups j) a → i ≡ j
  pub needs : (i : ℕ) → i < length groups → NeedsOnlyBefore g groups i (group_at groups i)
  pub least : (i j : ℕ) → i < j → j < length groups → NeedsOnlyBefore g groups i (group_at groups j) → slice_index (group_at groups i) 0 < slice_index (group_at groups j) 0
