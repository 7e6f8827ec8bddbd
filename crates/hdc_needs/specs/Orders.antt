-- The orders in which the values of blocks are evaluated.
use Rattle.std.specs.Prelude.{◌≡◌, ℕ, ◌<◌, Bool, false, is_some, List, [], ◌∷◌, length, slice_index_or}
use Rattle.hdc_base.specs.declared.place.At.{At}
use Rattle.hdc_graph.specs.Needs.{Nodes}
use Rattle.hdc_order.specs.Order.{is_value, NoValueReachesItself, GoesOn, order_of}
use Rattle.hdc_written.specs.Written.{Declarations, no_declaration, declaration}
use Rattle.hdc_needs.specs.Needy.{block_needs, value_at, NeedsItself}

-- which declarations of a block are values
abbrev pub values_in : Declarations → List Bool
values_in no_declaration = []
values_in (declaration d ds) = is_some (value_at d) ∷ values_in ds

-- the order of a block's values, if none of them needs itself
abbrev pub IsOrderOf : Declarations → List ℕ → Type 0
IsOrderOf ds order = ((at : At) → NeedsItself ds at → ⊥) → order ≡ order_of (block_needs ds ds) (values_in ds)

-- blocks have these orders, one by one
abbrev pub AreOrders : List Declarations → List (List ℕ) → Type 0
AreOrders [] [] = Unit {0}
AreOrders [] (order ∷ orders) = ⊥
AreOrders (ds ∷ blocks) [] = ⊥
AreOrders (ds ∷ blocks) (order ∷ orders) = IsOrderOf ds order × AreOrders blocks orders

-- the same by a graph whose first nodes are the declarations
abbrev pub IsOrderIn : Nodes → Declarations → List ℕ → Type 0
IsOrderIn g ds order = NoValueReachesItself g (values_in ds) → GoesOn g (is_value (values_in ds)) [] order

-- so many of the first values, and where there are fewer, none behind them
pub record AreFirst (values : List Bool) (count : ℕ) (first : List Bool) : Type 0 where
  pub each : length first ≡ count
  pub same : (n : ℕ) → n < count → slice_index_or first n false ≡ slice_index_or values n false
