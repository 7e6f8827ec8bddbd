-- A component goes by its least node, its label; and what components need.
use Rattle.std.specs.Prelude.{◌≡◌, ℕ, ◌<◌, ◌≤◌, List, ◌++◌, length, slice_index, slice_set, map, ◌↔◌, Option, Some}
use Rattle.hdc_graph.specs.Needs.{Nodes, Needs, AreMutual}
use Rattle.hdc_graph.specs.Lists.{Has, list_at, place_in}

-- each node's label is the least node of its component
pub record AreLabels (g : Nodes) (labels : List ℕ) : Type 0 where
  pub each : length labels ≡ length g
  pub mutual_to : (a : ℕ) → a < length g → AreMutual g a (slice_index labels a)
  pub lies : (a : ℕ) → a < length g → slice_index labels a < length g
  pub least : (a b : ℕ) → a < length g → b < length g → AreMutual g a b → slice_index labels a ≤ b

-- the node is the label of a component
abbrev pub IsLabel : List ℕ → ℕ → Type 0
IsLabel labels c = (c < length labels) × (slice_index labels c ≡ c)

-- components need components, and each has a list of what it needs
pub record AreWithin (labels : List ℕ) (needs : List (List ℕ)) : Type 0 where
  pub each : length needs ≡ length labels
  pub within : (c k : ℕ) → Has (list_at needs c) k → IsLabel labels c × IsLabel labels k

-- the components that each needs, by what the nodes need
pub record AreNeeds (g : Nodes) (labels : List ℕ) (needs : List (List ℕ)) : Type 0 where
  pub each : length needs ≡ length labels
  pub sound : (c k : ℕ) → Has (list_at needs c) k → (v : ℕ) × (t : ℕ) × Needs g v t × (slice_index labels v ≡ c) × (slice_index labels t ≡ k)
  pub whole : (v t : ℕ) → Needs g v t → Has (list_at needs (slice_index labels v)) (slice_index labels t)

-- what some nodes need is noted at a component
abbrev pub with_needs : List ℕ → List (List ℕ) → ℕ → List ℕ → List (List ℕ)
with_needs labels needs c ts = slice_set needs c (list_at needs c ++ map (λ t. slice_index labels t) ts)

-- the nodes below this one have their labels
pub record AreLabelled (numbers : List ℕ) (firsts : List (Option ℕ)) (labels : List ℕ) (n : ℕ) : Type 0 where
  pub each : length labels ≡ n
  pub firsts_each : length firsts ≡ length numbers
  pub known : (u : ℕ) → u < n → place_in firsts (slice_index numbers u) ≡ Some (slice_index labels u)
  pub first : (c x : ℕ) → place_in firsts c ≡ Some x → (x < n) × (slice_index numbers x ≡ c)
  pub least : (u x : ℕ) → u < n → place_in firsts (slice_index numbers u) ≡ Some x → x ≤ u

-- what the nodes below this one need is noted
pub record AreNoted (g : Nodes) (labels : List ℕ) (needs : List (List ℕ)) (n : ℕ) : Type 0 where
  pub each : length needs ≡ length labels
  pub sound : (c k : ℕ) → Has (list_at needs c) k → (v : ℕ) × (t : ℕ) × Needs g v t × (slice_index labels v ≡ c) × (slice_index labels t ≡ k)
  pub whole : (v t : ℕ) → v < n → Needs g v t → Has (list_at needs (slice_index labels v)) (slice_index labels t)

-- these are the labels below this node
abbrev pub AreOwn : List ℕ → ℕ → List ℕ → Type 0
AreOwn labels n own = (c : ℕ) → Has own c ↔ ((c < n) × (slice_index labels c ≡ c))
