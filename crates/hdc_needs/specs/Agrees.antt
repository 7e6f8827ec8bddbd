-- What the code keeps of what is in scope, and of what it found.
use Rattle.std.specs.Prelude.{◌≡◌, ◌↔◌, ◌<◌, ◌≤◌, ℕ, List, [], ◌∷◌, ◌++◌, length, Option, None, Some}
use Rattle.hdc_tree.specs.declared.name.Name.{Name}
use Rattle.hdc_graph.specs.Needs.{Nodes, Needs}
use Rattle.hdc_order.specs.Order.{NoValueReachesItself, order_of}
use Rattle.hdc_written.specs.declared.breach.Breach.{Breach}
use Rattle.hdc_written.specs.declared.breach.Found.{Found}
use Rattle.hdc_written.specs.Breaches.{nothing_found, all_noted, IsOneOf}
use Rattle.hdc_written.specs.Scopes.{standing_for, bound_to}
use Rattle.hdc_written.specs.Written.{Declarations}
use Rattle.hdc_needs.specs.declared.bind.Target.{Target}
use Rattle.hdc_needs.specs.declared.bind.Target.TheVariants as target
use Rattle.hdc_needs.specs.declared.frames.OpenBlock.{OpenBlock}
use Rattle.hdc_needs.specs.declared.frames.Frame as kept
use Rattle.hdc_needs.specs.declared.walk.Walk.{Walk}
use Rattle.hdc_needs.specs.Bind.{Targets}
use Rattle.hdc_needs.specs.Binders.{bound_from}
use Rattle.hdc_needs.specs.Kept.{declarations_of}
use Rattle.hdc_needs.specs.Orders.{values_in}
use Rattle.hdc_needs.specs.Uses.{Mentions, UsesOf, OneBreaks}
use Rattle.hdc_needs.specs.Walk.{Mention, Frame, patterns, local, Ended, State, lost, going, count_declarations}

-- a name has a node, and a declaration mentions the name
pub record LeadsTo (ms : List Mention) (node : List ℕ → Option ℕ) (a m : ℕ) : Type 0 where
  pub text : List ℕ
  pub mentioned : Mentions ms a text
  pub stands : node text ≡ Some m

-- a graph of so many declarations, and of nodes of the names that they bind: a declaration needs the names that it
-- uses, and a name the declarations that bind it
pub record IsGraph (count : ℕ) (binds uses : List Mention) (node : List ℕ → Option ℕ) (g : Nodes) : Type 0 where
  pub enough : count ≤ length g
  pub inside : (t : List ℕ) (m : ℕ) → node t ≡ Some m → (count ≤ m) × (m < length g)
  pub apart : (t u : List ℕ) (m : ℕ) → node t ≡ Some m → node u ≡ Some m → t ≡ u
  pub known : (a : ℕ) (t : List ℕ) → Mentions binds a t → (m : ℕ) × (node t ≡ Some m)
  pub only : (t : List ℕ) (m : ℕ) → node t ≡ Some m → (a : ℕ) × Mentions binds a t
  pub below : (a : ℕ) (t : List ℕ) → Mentions binds a t → a < count
  pub using : (a m : ℕ) → a < count → Needs g a m ↔ LeadsTo uses node a m
  pub binding : (m a : ℕ) → count ≤ m → Needs g m a ↔ LeadsTo binds node a m

-- a block that is gone through
pub record IsOpen (ds : Declarations) (begun : ℕ) (current : Option ℕ) (uses : List Mention) (node : List ℕ → Option ℕ) (o : OpenBlock) : Type 0 where
  pub block_is : declarations_of o.declarations ≡ ds
  pub begun_is : o.begun ≡ begun
  pub current_is : o.current ≡ current
  pub under : (i : ℕ) → current ≡ Some i → i < count_declarations ds
  pub graph : IsGraph (count_declarations ds) (bound_from 0 ds) uses node o.graph

-- what a name stands for under a frame of this number
abbrev pub located : ℕ → Option ℕ → Option Target → Option Target
located level None rest = rest
located level (Some node) rest = Some (target.Local level node)

-- variables over what is in scope below
pub record OverPatterns (xs : List Name) (Below : Targets → List kept.Frame → Type 0) (s : Targets) (fs : List kept.Frame) : Type 0 where
  pub scope : Targets
  pub frames : List kept.Frame
  pub scope_is : s ≡ bound_to target.Variable xs scope
  pub frames_are : fs ≡ frames ++ record { size = length scope; block = None } ∷ []
  pub below : Below scope frames

-- a block over what is in scope below
pub record OverBlock (ds : Declarations) (begun : ℕ) (current : Option ℕ) (uses : List Mention) (Below : Targets → List kept.Frame → Type 0) (s : Targets) (fs : List kept.Frame) : Type 0 where
  pub scope : Targets
  pub frames : List kept.Frame
  pub front : Targets
  pub node : List ℕ → Option ℕ
  pub open_block : OpenBlock
  pub scope_is : s ≡ front ++ scope
  pub stands : (t : List ℕ) → standing_for t s ≡ located (length frames) (node t) (standing_for t scope)
  pub frames_are : fs ≡ frames ++ record { size = length scope; block = Some open_block } ∷ []
  pub is_open : IsOpen ds begun current uses node open_block
  pub below : Below scope frames

abbrev pub InScope : List Frame → Targets → List kept.Frame → Type 0
InScope [] s fs = (s ≡ []) × (fs ≡ [])
InScope (patterns xs ∷ gs) s fs = OverPatterns xs (InScope gs) s fs
InScope (local ds k c us ∷ gs) s fs = OverBlock ds k c us (InScope gs) s fs

-- just what is broken in the blocks that have ended was noted
pub record HasFound (es : List Ended) (f : Found) : Type 0 where
  pub breaches : List Breach
  pub noted : f ≡ all_noted nothing_found breaches
  pub exactly : (b : Breach) → IsOneOf b breaches ↔ OneBreaks es b

-- a graph of the declarations of a block that has ended: each needs those that bind what it uses
pub record HasNeeds (e : Ended) (g : Nodes) : Type 0 where
  pub each : length g ≡ count_declarations e.declarations
  pub needs : (a b : ℕ) → Needs g a b ↔ UsesOf (bound_from 0 e.declarations) e.uses a b

-- the order of the values of a block that has ended, if none of them needs itself
abbrev pub HasOrder : Ended → List ℕ → Type 0
HasOrder e order = (g : Nodes) → HasNeeds e g → NoValueReachesItself g (values_in e.declarations) → order ≡ order_of g (values_in e.declarations)

-- the blocks that have ended have these orders
abbrev pub HaveOrders : List Ended → List (List ℕ) → Type 0
HaveOrders [] [] = Unit {0}
HaveOrders [] (order ∷ orders) = ⊥
HaveOrders (e ∷ es) [] = ⊥
HaveOrders (e ∷ es) (order ∷ orders) = HasOrder e order × HaveOrders es orders

-- nothing is said of events that are not those of a text
abbrev pub Describes : Walk → State → Type 0
Describes w lost = Unit {0}
Describes w (going fs es) = InScope fs w.scope w.frames × HasFound es w.found × HaveOrders es w.orders
