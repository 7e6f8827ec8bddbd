-- Kept counts: numbers of 64 bits that stand still at their greatest value.
use Rattle.std.specs.Prelude.{ℕ, ◌<◌, ◌≢◌, ◌+◌, ◌==◌, ◌||◌, min, Bool, false, List, [], ◌∷◌}

-- the greatest value of a kept count
abbrev pub greatest : ℕ
greatest = 18446744073709551615

-- the count after one more
abbrev pub next_count : ℕ → ℕ
next_count n = min (n + 1) greatest

-- the count rose: it is greater now, or stands at its greatest value
abbrev pub Rose : ℕ → ℕ → Type 0
Rose old new = new ≢ greatest → old < new

-- whether a number is among the numbers
abbrev pub is_among : List ℕ → ℕ → Bool
is_among [] number = false
is_among (n ∷ numbers) number = (n == number) || is_among numbers number

-- whether the next call is among the calls that fail
abbrev pub next_fails : List ℕ → ℕ → Bool
next_fails fails calls = is_among fails (next_count calls)
