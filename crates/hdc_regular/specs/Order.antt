-- Orders in which each comes behind those that it names.
use Rattle.std.specs.Prelude.{◌≡◌, ℕ, ◌+◌, ◌⊎◌, List, [], ◌∷◌, ◌++◌}

-- each of these comes behind those that it names, where some come before all of them
abbrev pub IsOrder : (ℕ → ℕ → Type 0) → (ℕ → Type 0) → List ℕ → Type 0
IsOrder Names Before [] = Unit {0}
IsOrder Names Before (n ∷ ns) = ((b : ℕ) → Names n b → Before b) × IsOrder Names (λ x. Before x ⊎ (n ≡ x)) ns

-- numbers behind these
abbrev pub shifted_by : ℕ → List ℕ → List ℕ
shifted_by base [] = []
shifted_by base (n ∷ ns) = (base + n) ∷ shifted_by base ns

-- the nodes of groups, one group after another
abbrev pub group_order : ℕ → List (List ℕ) → List ℕ
group_order base [] = []
group_order base (ns ∷ groups) = shifted_by base ns ++ group_order base groups
