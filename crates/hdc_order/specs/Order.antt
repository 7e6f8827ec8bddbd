-- The order in which the values of a block are evaluated: again and again the first value is taken whose needs are.
use Rattle.std.specs.Prelude.{◌≡◌, ℕ, zero, suc, ◌<◌, ◌≤◌, Bool, true, false, not, ◌&&◌, ◌||◌, List, [], ◌∷◌, ◌++◌, length, slice_index_or, Option, None, Some, nat_eq, filter, find}
use Rattle.std.specs.List.{list_all, range_with_len}
use Rattle.std.specs.Set.{is_member}
use Rattle.hdc_graph.specs.Needs.{Nodes, needs_of, Needs, Reaches}
use Rattle.hdc_graph.specs.Lists.{Has}

-- whether a node is a value; the others are functions
abbrev pub is_value : List Bool → ℕ → Bool
is_value values node = slice_index_or values node false

-- a node needs a second one, or a function that leads to it
pub data LeadsTo (g : Nodes) (value : ℕ → Bool) : ℕ → ℕ → Type 0 where
  directly : (a b : ℕ) → Needs g a b → LeadsTo g value a b
  by_function : (a f b : ℕ) → Needs g a f → value f ≡ false → LeadsTo g value f b → LeadsTo g value a b

-- a node needs the values that it names, and those that a function needs that it names
abbrev pub NeedsValue : Nodes → (ℕ → Bool) → ℕ → ℕ → Type 0
NeedsValue g value a b = (value b ≡ true) × LeadsTo g value a b

-- no value needs itself, by any number of steps
abbrev pub NoValueReachesItself : Nodes → List Bool → Type 0
NoValueReachesItself g values = (node : ℕ) → is_value values node ≡ true → Reaches g node node → ⊥

-- a value that is not taken yet, while all that it needs is
pub record IsReady (g : Nodes) (value : ℕ → Bool) (taken : List ℕ) (node : ℕ) : Type 0 where
  pub within : node < length g
  pub valued : value node ≡ true
  pub left : Has taken node → ⊥
  pub met : (b : ℕ) → NeedsValue g value node b → Has taken b

-- behind those that are taken the first that is ready comes next, until none is
abbrev pub GoesOn : Nodes → (ℕ → Bool) → List ℕ → List ℕ → Type 0
GoesOn g value taken [] = (node : ℕ) → IsReady g value taken node → ⊥
GoesOn g value taken (next ∷ rest) = IsReady g value taken next × ((node : ℕ) → IsReady g value taken node → next ≤ node) × GoesOn g value (taken ++ next ∷ []) rest

-- whether a node leads to another by way of functions alone that have numbers below this one
abbrev pub leads_below : Nodes → (ℕ → Bool) → ℕ → ℕ → ℕ → Bool
leads_below g value zero a b = is_member nat_eq (needs_of g a) b
leads_below g value (suc f) a b = leads_below g value f a b || (not (value f) && (leads_below g value f a f && leads_below g value f f b))

-- the values that a node needs
abbrev pub value_needs : Nodes → (ℕ → Bool) → ℕ → List ℕ
value_needs g value a = filter (λ b. value b && leads_below g value (length g) a b) (range_with_len 0 (length g))

-- whether a node is a value that is not taken yet, while all that it needs is
abbrev pub is_ready : Nodes → (ℕ → Bool) → List ℕ → ℕ → Bool
is_ready g value taken node = value node && (not (is_member nat_eq taken node) && list_all (is_member nat_eq taken) (value_needs g value node))

-- the first such node
abbrev pub first_ready : Nodes → (ℕ → Bool) → List ℕ → Option ℕ
first_ready g value taken = find (is_ready g value taken) (range_with_len 0 (length g))

-- what is taken in the end, if one node more is or none
abbrev pub taking : Option ℕ → List ℕ → (List ℕ → List ℕ) → List ℕ
taking None taken go_on = taken
taking (Some next) taken go_on = go_on (taken ++ next ∷ [])

-- again and again the first that is ready is taken, so many times at most
abbrev pub taken_in : ℕ → Nodes → (ℕ → Bool) → List ℕ → List ℕ
taken_in zero g value taken = taken
taken_in (suc count) g value taken = taking (first_ready g value taken) taken (taken_in count g value)

-- the values in the order of their evaluation
abbrev pub order_of : Nodes → List Bool → List ℕ
order_of g values = taken_in (length g) g (is_value values) []
