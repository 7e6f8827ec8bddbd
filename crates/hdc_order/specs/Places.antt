-- The nodes of a graph by other numbers.
use Rattle.std.specs.Prelude.{◌≡◌, ℕ, ◌<◌, Bool, not, List, ◌++◌, length, slice_index, filter, map}
use Rattle.std.specs.List.{range_with_len}
use Rattle.hdc_graph.specs.Needs.{Nodes, needs_of}
use Rattle.hdc_order.specs.Order.{is_value}

-- the functions, and behind them the values, each in their order
abbrev pub functions_first : List Bool → List ℕ
functions_first values = filter (λ node. not (is_value values node)) (range_with_len 0 (length values)) ++ filter (is_value values) (range_with_len 0 (length values))

-- the numbers below a count, each once
pub record IsArrangement (nodes : List ℕ) : Type 0 where
  pub within : (m : ℕ) → m < length nodes → slice_index nodes m < length nodes
  pub once : (m k : ℕ) → m < length nodes → k < length nodes → slice_index nodes m ≡ slice_index nodes k → m ≡ k

-- for each node its place in a list
pub record ArePlaces (nodes places : List ℕ) : Type 0 where
  pub each : length places ≡ length nodes
  pub place_of : (m : ℕ) → m < length nodes → slice_index places (slice_index nodes m) ≡ m

-- a graph with each node at its place
abbrev pub renumbered : Nodes → List ℕ → List ℕ → Nodes
renumbered g nodes places = map (λ node. map (slice_index places) (needs_of g node)) nodes
