-- What holds while components are searched for.
use Rattle.std.specs.Prelude.{◌≡◌, ℕ, ◌<◌, ◌≤◌, ◌+◌, ◌^◌, ◌⊎◌, List, [], ◌∷◌, ◌++◌, length, take, slice_index_or, slice_set, Option, Some, None, cond, nat_lt}
use Rattle.hdc_graph.specs.declared.search.State.{State}
use Rattle.hdc_graph.specs.declared.search.State.TheVariants.{Unseen, OnPath, Finished}
use Rattle.hdc_graph.specs.declared.stack.Segment.{Segment}
use Rattle.hdc_graph.specs.declared.search.Search.{Search}
use Rattle.hdc_graph.specs.Needs.{Nodes, needs_of, Needs, IsClosed, Reaches, AreMutual}

-- the first node is the second, or reaches it
abbrev pub Leads : Nodes → ℕ → ℕ → Type 0
Leads g a b = (a ≡ b) ⊎ Reaches g a b

-- one of the segments
abbrev pub IsIn : Segment → List Segment → Type 0
IsIn s [] = ⊥
IsIn s (x ∷ xs) = (x ≡ s) ⊎ IsIn s xs

-- each segment begins below the one above it, and the first at the start of the path
abbrev pub Falls : ℕ → ℕ → List Segment → Type 0
Falls h k [] = h ≡ 0
Falls h k (s ∷ ss) = (s.path_from < h) × (s.pending_from ≤ k) × Falls s.path_from s.pending_from ss

-- how many of the needed nodes lie below the top segment's
abbrev pub floor : List Segment → ℕ
floor [] = 0
floor (s ∷ ss) = s.pending_from

-- the node is in a finished component
abbrev pub IsFinished : (ℕ → State) → ℕ → Type 0
IsFinished at v = (c : ℕ) × (at v ≡ Finished c)

-- the node is on the path, at this place or behind it
abbrev pub IsFrom : (ℕ → State) → ℕ → ℕ → Type 0
IsFrom at from v = (p : ℕ) × (at v ≡ OnPath p) × (from ≤ p)

-- the node is to be looked at, at this place or behind it
abbrev pub IsPending : List ℕ → ℕ → ℕ → Type 0
IsPending pending from v = (k : ℕ) × (from ≤ k) × (k < length pending) × (slice_index_or pending k 0 ≡ v)

-- what the path, the segments on it and the finished components are
pub record IsSearch (g : Nodes) (at : ℕ → State) (path pending : List ℕ) (segments : List Segment) (count : ℕ) : Type 0 where
  -- the segments part the path
  pub falls : Falls (length path) (length pending) segments
  pub placed : (p : ℕ) → p < length path → at (slice_index_or path p 0) ≡ OnPath p
  pub found : (v p : ℕ) → at v ≡ OnPath p → (p < length path) × (slice_index_or path p 0 ≡ v)
  -- along the path each node reaches the later ones
  pub forward : (u v p q : ℕ) → at u ≡ OnPath p → at v ≡ OnPath q → p ≤ q → Leads g u v
  -- and those before it up to the start of its segment
  pub back : (u v p q : ℕ) → at u ≡ OnPath p → at v ≡ OnPath q → p < q → ((s : Segment) × IsIn s segments × (p < s.path_from) × (s.path_from ≤ q)) ⊎ Leads g v u
  -- each reaches what is pending in its segment and in later ones
  pub waits : (u p k : ℕ) → at u ≡ OnPath p → k < length pending → ((s : Segment) × IsIn s segments × (k < s.pending_from) × (s.path_from ≤ p)) ⊎ Reaches g u (slice_index_or pending k 0)
  -- from a segment on, each need is finished, pending or on the path
  pub covered : (s : Segment) → IsIn s segments → (v p t : ℕ) → at v ≡ OnPath p → s.path_from ≤ p → Needs g v t → IsFinished at t ⊎ IsPending pending s.pending_from t ⊎ IsFrom at s.path_from t
  -- finished components are whole, and numbered behind those that they need
  pub closed : (v t c : ℕ) → at v ≡ Finished c → Needs g v t → (d : ℕ) × (at t ≡ Finished d) × (d ≤ c)
  pub together : (u v c : ℕ) → at u ≡ Finished c → at v ≡ Finished c → AreMutual g u v
  pub whole : (u v c : ℕ) → at u ≡ Finished c → AreMutual g u v → at v ≡ Finished c
  pub counted : (v c : ℕ) → at v ≡ Finished c → c < count
  -- no node is forgotten
  pub left : (v : ℕ) → v < length g → at v ≡ Unseen → IsPending pending 0 v
  pub inside : (k : ℕ) → k < length pending → slice_index_or pending k 0 < length g

-- the state of a node
abbrev pub state_in : List State → ℕ → State
state_in states v = slice_index_or states v Unseen

-- a node of the path from this place on has come into this component, and another is as it was
abbrev pub IsClosedFrom : (ℕ → State) → (ℕ → State) → ℕ → ℕ → ℕ → Type 0
IsClosedFrom old new from c v = ((new v ≡ old v) × ((p : ℕ) → old v ≡ OnPath p → p < from)) ⊎ ((new v ≡ Finished c) × IsFrom old from v)

-- what a node that is not seen yet can add to the work
abbrev pub cost : State → List ℕ → ℕ
cost Unseen needs = length needs + 2
cost (OnPath p) needs = 0
cost (Finished c) needs = 0

-- and all nodes together
abbrev pub costs : Nodes → List State → ℕ
costs [] states = 0
costs (n ∷ g) [] = 0
costs (n ∷ g) (s ∷ states) = cost s n + costs g states

-- how many nodes are in no component yet
abbrev pub is_open : State → ℕ
is_open Unseen = 1
is_open (OnPath p) = 1
is_open (Finished c) = 0

-- in all states
abbrev pub opened : List State → ℕ
opened [] = 0
opened (s ∷ states) = is_open s + opened states

-- the work that is left
abbrev pub work : Nodes → Search → ℕ
work g s = costs g s.states + (length s.pending + length s.segments)

-- one pending node more
abbrev pub with_pending : ℕ → Search → Search
with_pending t s = record s { pending = s.pending ++ t ∷ [] }

-- one segment more
abbrev pub with_segment : Segment → Search → Search
with_segment top s = record s { segments = top ∷ s.segments }

-- the last pending node of the top segment was taken away, if there was one
abbrev pub IsTaken : Option ℕ → Search → Search → Type 0
IsTaken None old new = (new ≡ old) × (length old.pending ≤ floor old.segments)
IsTaken (Some t) old new = (old ≡ with_pending t new) × (floor new.segments ≤ length new.pending)

-- a node came onto the path
abbrev pub entered : Nodes → ℕ → Search → Search
entered g t s = record s {
  states = slice_set s.states t (OnPath (length s.path));
  path = s.path ++ t ∷ [];
  pending = s.pending ++ needs_of g t;
  segments = record { path_from = length s.path; pending_from = length s.pending } ∷ s.segments;
}

-- a node of the path was met again, and is pending once more where that joins two segments
abbrev pub met_under : ℕ → ℕ → List Segment → Search → Search
met_under t place [] s = s
met_under t place (top ∷ rest) s = cond (nat_lt place top.path_from) (record s { segments = rest; pending = s.pending ++ t ∷ [] }) s

-- the nodes of the path from this place on came into the next component
pub record IsClosing (from : ℕ) (old new : Search) : Type 0 where
  pub path : new.path ≡ take from old.path
  pub pending : new.pending ≡ old.pending
  pub segments : new.segments ≡ old.segments
  pub changed : (v : ℕ) → IsClosedFrom (state_in old.states) (state_in new.states) from old.count v
  pub each : length new.states ≡ length old.states
  pub costs : (g : Nodes) → length old.states ≡ length g → costs g new.states ≡ costs g old.states
  pub opened : opened new.states + length old.path ≡ opened old.states + from

-- the path is what the states say
pub record IsPath (states : List State) (path : List ℕ) : Type 0 where
  pub placed : (p : ℕ) → p < length path → state_in states (slice_index_or path p 0) ≡ OnPath p
  pub found : (v p : ℕ) → state_in states v ≡ OnPath p → (p < length path) × (slice_index_or path p 0 ≡ v)

-- the search of a graph is on its way
pub record IsUnderWay (g : Nodes) (s : Search) : Type 0 where
  pub search : IsSearch g (state_in s.states) s.path s.pending s.segments s.count
  pub each : length s.states ≡ length g
  pub bounded : s.count + opened s.states ≤ length g
  pub small : length g ≤ 2 ^ 32
  pub within : IsClosed g

-- each node is in a component
abbrev pub IsOver : Nodes → Search → Type 0
IsOver g s = (v : ℕ) → v < length g → IsFinished (state_in s.states) v
