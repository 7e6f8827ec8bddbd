use Rattle.std.proofs.Common.{◌≤◌, ◌-◌, length}
use Rattle.hdc_lex.proofs.Strings.{CodesSoFar}
use Rattle.hdc_lex.proofs.string.string_codes.Given as goal

-- the codes so far are those of the front
abbrev pub invariant-loop-rest : goal.invariant-loop-rest
invariant-loop-rest l = record {
  front : CodesSoFar l.text l.codes l.offset;
  within : l.offset ≤ length l.text;
}

abbrev pub decreases-loop-rest : goal.decreases-loop-rest
decreases-loop-rest l = length l.text - l.offset
