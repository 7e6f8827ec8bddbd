use Rattle.std.proofs.Common.{◌≡◌, ◌≤◌, ◌-◌, length, drop}
use Rattle.hdc_lex.specs.Pieces.{comment_end, more_by}
use Rattle.hdc_lex.proofs.comment.comment_end.Given as goal

-- the rest of the text is read from the depth that is reached
abbrev pub invariant-loop-rest : goal.invariant-loop-rest
invariant-loop-rest l = record {
  rest : comment_end 0 l.text ≡ more_by l.offset (comment_end l.depth (drop l.offset l.text));
  within : l.offset ≤ length l.text;
  depth : l.depth ≤ l.offset;
}

abbrev pub decreases-loop-rest : goal.decreases-loop-rest
decreases-loop-rest l = length l.text - l.offset
