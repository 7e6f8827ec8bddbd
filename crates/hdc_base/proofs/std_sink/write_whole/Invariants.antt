-- The writer holds the front of the piece, and counts only rise.
use Rattle.std.proofs.Common.{◌≤◌, take, length}
use Rattle.hdc_base.specs.Taken.{Appends}
use Rattle.hdc_base.proofs.std_sink.write_whole.Given as goal

abbrev pub invariant-loop : goal.invariant-loop
invariant-loop g l = record {
  within : l.written ≤ length l.piece;
  holds : Appends (g.W.Write.contents l.initial.writer) (take l.written l.piece) (g.W.Write.contents l.writer);
  counts : l.initial.count ≤ l.count;
}
