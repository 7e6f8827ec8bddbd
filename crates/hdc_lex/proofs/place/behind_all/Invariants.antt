use Rattle.std.proofs.Common.{◌≡◌, ◌-◌, length, drop}
use Rattle.hdc_lex.specs.Place.{behind_all, ForAtMost}
use Rattle.hdc_lex.proofs.place.behind_all.Given as goal

-- the place behind the bytes so far, with room for the others
abbrev pub invariant-loop-byte : goal.invariant-loop-byte
invariant-loop-byte l = record {
  here : behind_all l.at (drop l.byte-index l.bytes) ≡ behind_all l.initial.at l.bytes;
  room : ForAtMost (length l.bytes - l.byte-index) l.at;
}
