-- What one write does to a writer that holds the front of a piece.
use Rattle.std.proofs.Common.{◌≡◌, ◌≤◌, ℕ, ◌+◌, List, Option, None, Some, length, take, drop, arith}
use Rattle.std.proofs.Math.Seq.{take-add}
use Rattle.std.proofs.lemmas.Grind.{common_steps}
use Rattle.std.specs.Io.KnownBytes.{Keeps, Appends as WriterAppends}
use Rattle.hdc_base.specs.Taken.{Appends, AppendsPrefix}

-- at first it holds nothing of the piece
pub appends_at_first : (old : Option (List ℕ)) (piece : List ℕ) → Appends old (take 0 piece) old
appends_at_first None piece = tt
appends_at_first (Some bytes) piece = grind (arith, common_steps)

-- a write of the rest takes more of the front
pub appends_more : (old mid new : Option (List ℕ)) (piece rest : List ℕ) (written taken all : ℕ) → all ≡ written + taken → rest ≡ drop written piece → Appends old (take written piece) mid → WriterAppends mid new (take taken rest) → Appends old (take all piece) new
appends_more None mid new piece rest written taken all e r p q = tt
appends_more (Some bytes) None new piece rest written taken all e r p q = cc
appends_more (Some bytes) (Some more) None piece rest written taken all e r p q = absurd q
appends_more (Some bytes) (Some more) (Some most) piece rest written taken all e r p q = grind (arith, common_steps, take-add written taken piece)

-- a write that fails takes nothing
pub appends_kept : (old mid new : Option (List ℕ)) (piece : List ℕ) → Appends old piece mid → Keeps mid new → Appends old piece new
appends_kept None mid new piece p q = tt
appends_kept (Some bytes) None new piece p q = cc
appends_kept (Some bytes) (Some more) None piece p q = absurd q
appends_kept (Some bytes) (Some more) (Some most) piece p q = cc

-- the front that is as long as the piece is the piece
pub appends_all : (old new : Option (List ℕ)) (piece : List ℕ) (written : ℕ) → Appends old (take written piece) new → length piece ≤ written → Appends old piece new
appends_all None new piece written p h = tt
appends_all (Some bytes) new piece written p h = grind (arith, common_steps)

-- the front is a part
pub appends_part : (old new : Option (List ℕ)) (piece : List ℕ) (written : ℕ) → Appends old (take written piece) new → AppendsPrefix old piece new
appends_part None new piece written p = tt
appends_part (Some bytes) new piece written p = (written, p)

-- what a loop of writes keeps, and what it answers by
pub ruleset write_steps = (appends_at_first, appends_more, appends_kept, appends_all, appends_part)
