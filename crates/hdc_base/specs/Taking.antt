-- A sink in memory, and what a put does to it.
use Rattle.std.specs.Prelude.{ℕ, ◌+◌, ◌-◌, Bool, ◌||◌, List, [], take, length, nat_lt, if◌then◌else◌}
use Rattle.hdc_base.specs.Counts.{next_fails}

-- the bytes taken so far, how many may be taken in all, the numbers of the puts that fail, and how many puts and faults there were
pub record Taking : Type 0 where
  pub bytes : List ℕ
  pub room : ℕ
  pub fails : List ℕ
  pub calls : ℕ
  pub count : ℕ

-- a sink that has taken nothing yet
abbrev pub fresh : ℕ → List ℕ → Taking
fresh room fails = record { bytes = []; room = room; fails = fails; calls = 0; count = 0 }

-- whether the put of a piece fails: its number is among those that fail, or the piece does not fit
abbrev pub put_fails : Taking → List ℕ → Bool
put_fails s piece = next_fails s.fails s.calls || nat_lt s.room (length s.bytes + length piece)

-- the part of a piece that the put takes: nothing where its number is among those that fail, else as much of the front as fits
abbrev pub part_taken : Taking → List ℕ → List ℕ
part_taken s piece = if next_fails s.fails s.calls then [] else take (s.room - length s.bytes) piece
