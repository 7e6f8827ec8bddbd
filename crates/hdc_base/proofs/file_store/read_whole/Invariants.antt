-- What was read so far came from the front of the reader's bytes, and counts only rise.
use Rattle.std.proofs.Common.{◌≤◌, length}
use Rattle.std.specs.Io.KnownBytes.{Consumes}
use Rattle.hdc_base.proofs.file_store.read_whole.Given as goal

abbrev pub invariant-loop : goal.invariant-loop
invariant-loop g l = record {
  within : length l.into.items ≤ l.limit;
  read : Consumes (g.F.Read.remaining l.initial.file) (g.F.Read.remaining l.file) l.into.items;
  counts : l.initial.count ≤ l.count;
}
