-- What needs what in a graph, and which nodes reach one another.
use Rattle.std.specs.Prelude.{◌≡◌, ℕ, ◌<◌, ◌≤◌, ◌⊎◌, ◌↔◌, List, [], length, slice_index_or, Contains, Bool, false, IsTrue}

-- a graph: for each node, from 0, the nodes that it needs
abbrev pub Nodes : Type 0
Nodes = List (List ℕ)

-- the nodes that a node needs
abbrev pub needs_of : Nodes → ℕ → List ℕ
needs_of g a = slice_index_or g a []

-- the first node needs the second
abbrev pub Needs : Nodes → ℕ → ℕ → Type 0
Needs g a b = Contains (needs_of g a) b

-- each node that is needed is a node of the graph
abbrev pub IsClosed : Nodes → Type 0
IsClosed g = (a b : ℕ) → Needs g a b → b < length g

-- by one or more needs the first node leads to the second
pub data Reaches (g : Nodes) : ℕ → ℕ → Type 0 where
  one : (a b : ℕ) → Needs g a b → Reaches g a b
  further : (a b c : ℕ) → Needs g a b → Reaches g b c → Reaches g a c

-- two nodes are the same, or each reaches the other
abbrev pub AreMutual : Nodes → ℕ → ℕ → Type 0
AreMutual g a b = (a ≡ b) ⊎ (Reaches g a b × Reaches g b a)

-- two nodes have one number exactly where they are mutual
pub record IsNumbering (g : Nodes) (numbers : List ℕ) : Type 0 where
  pub each : length numbers ≡ length g
  pub agree : (a b : ℕ) → a < length g → b < length g → (slice_index_or numbers a 0 ≡ slice_index_or numbers b 0) ↔ AreMutual g a b

-- no node has a lower number than one that it needs
abbrev pub NeedsComeFirst : Nodes → List ℕ → Type 0
NeedsComeFirst g numbers = (a b : ℕ) → Needs g a b → slice_index_or numbers b 0 ≤ slice_index_or numbers a 0

-- whether each node reaches itself
pub record AreCyclic (g : Nodes) (cyclic : List Bool) : Type 0 where
  pub each : length cyclic ≡ length g
  pub reaches : (node : ℕ) → node < length g → IsTrue (slice_index_or cyclic node false) ↔ Reaches g node node
