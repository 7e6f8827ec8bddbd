-- The counts of the open brackets, from token to token.
use Rattle.std.specs.Prelude.{ℕ, ◌+◌, List, [], ◌∷◌, length, map, sum}
use Rattle.hdc_nesting.specs.declared.role.Role.{Role}
use Rattle.hdc_nesting.specs.declared.role.Role.TheVariants as role
use Rattle.hdc_nesting.specs.Nesting.{Levels, Inside, count}

-- the counts of what stands in the open brackets
abbrev pub counts_of : Levels Inside → Levels ℕ
counts_of levels = record { innermost = count levels.innermost; around = map count levels.around }

-- before the first token
abbrev pub no_counts : Levels ℕ
no_counts = record { innermost = 0; around = [] }

-- the innermost closes, unless that is the whole text
abbrev pub counts_closed : ℕ → List ℕ → Levels ℕ
counts_closed n [] = record { innermost = n; around = [] }
counts_closed n (outer ∷ around) = record { innermost = outer; around = around }

-- the counts behind a token
abbrev pub counts_behind : Role → Levels ℕ → Levels ℕ
counts_behind role.Opens c = record { innermost = 0; around = c.innermost ∷ c.around }
counts_behind role.Closes c = counts_closed c.innermost c.around
counts_behind role.Counts c = record { innermost = c.innermost + 1; around = c.around }
counts_behind role.Separates c = record { innermost = 0; around = c.around }
counts_behind role.Other c = c

-- one for each open bracket, and the counts
abbrev pub nesting_of : Levels ℕ → ℕ
nesting_of c = length c.around + sum (c.innermost ∷ c.around)
