-- Places of bytes.
use Rattle.std.specs.Prelude.{ℕ, ◌<◌, ◌+◌, ◌-◌, ◌*◌, ◌/◌, ◌^◌, List, [], ◌∷◌, ◌==◌, if◌then◌else◌}
use Rattle.hdc_base.specs.declared.place.At.{At}

-- the first place of a text
abbrev pub first_place : At
first_place = record { line = 1; col = 1 }

-- the next of the columns 9, 17, 25 and so on
abbrev pub next_tab : ℕ → ℕ
next_tab col = (col - 1) / 8 * 8 + 9

-- the place behind a byte: byte 10 ends a line, a tab goes to the next of its columns, and any other byte is one column
abbrev pub behind : At → ℕ → At
behind at b = if b == 10 then record { line = at.line + 1; col = 1 } else (if b == 9 then record { line = at.line; col = next_tab at.col } else record { line = at.line; col = at.col + 1 })

-- the place behind some bytes
abbrev pub behind_all : At → List ℕ → At
behind_all at [] = at
behind_all at (b ∷ bs) = behind_all (behind at b) bs

-- so many more bytes have places of 32 bits
abbrev pub ForAtMost : ℕ → At → Type 0
ForAtMost count at = (at.line + count < 2 ^ 32) × (at.col + 8 * count < 2 ^ 32)
