use Rattle.std.proofs.Common.{◌≡◌, ℕ, ◌<◌, ◌≤◌, take}
use Rattle.hdc_nesting.specs.Nesting.{insides, nesting}
use Rattle.hdc_nesting.specs.Counts.{counts_of}
use Rattle.hdc_nesting.proofs.nesting.first_past.Given as goal

-- the counts are those before the token, and no token before it passes the limit
abbrev pub invariant-loop-i : goal.invariant-loop-i
invariant-loop-i l = record { counted : l.counts ≡ counts_of (insides (take l.i l.tokens)); none : (k : ℕ) → k < l.i → nesting l.tokens k ≤ l.limit }
