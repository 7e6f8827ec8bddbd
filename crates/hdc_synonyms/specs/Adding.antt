-- Graphs to which needs are added.
use Rattle.std.specs.Prelude.{ℕ, zero, suc, ◌<◌, List, [], ◌∷◌, ◌++◌, slice_set}
use Rattle.hdc_tree.specs.declared.program.Top.{Top}
use Rattle.hdc_graph.specs.Needs.{Nodes, needs_of}
use Rattle.hdc_written.specs.Scopes.{Binding}
use Rattle.hdc_synonyms.specs.Synonyms.{top_needs}

-- so many nodes that need nothing
abbrev pub unlinked : ℕ → Nodes
unlinked zero = []
unlinked (suc n) = [] ∷ unlinked n

-- a node needs more
abbrev pub with_needs : ℕ → List ℕ → Nodes → Nodes
with_needs n xs g = slice_set g n (needs_of g n ++ xs)

-- a declaration with this number gets its needs
abbrev pub top_added : List (Binding ℕ) → ℕ → Top → Nodes → Nodes
top_added declared n t g = with_needs n (top_needs declared t) g

-- the same for declarations, numbered from this number on
abbrev pub each_added : List (Binding ℕ) → ℕ → List Top → Nodes → Nodes
each_added declared n [] g = g
each_added declared n (t ∷ ts) g = each_added declared (suc n) ts (top_added declared n t g)

-- each number is below a limit
abbrev pub AllBelow : ℕ → List ℕ → Type 0
AllBelow limit [] = Unit {0}
AllBelow limit (x ∷ xs) = (x < limit) × AllBelow limit xs

-- names stand for numbers below a limit
abbrev pub AreWithin : ℕ → List (Binding ℕ) → Type 0
AreWithin limit [] = Unit {0}
AreWithin limit (b ∷ bs) = (b.what < limit) × AreWithin limit bs
