-- How much a reader gives.
use Rattle.std.specs.Prelude.{ℕ, ◌+◌, ◌≤◌, List, length, Option, IfSome}

-- where the bytes that a reader had and has left are told, at most so many are gone
abbrev pub GivesAtMost : Option (List ℕ) → Option (List ℕ) → ℕ → Type 0
GivesAtMost old new most = IfSome old (λ bytes. IfSome new (λ rest. length bytes ≤ most + length rest))
