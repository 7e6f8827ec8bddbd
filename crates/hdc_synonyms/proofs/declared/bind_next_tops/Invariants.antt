use Rattle.std.proofs.Common.{◌≡◌, suc, ◌≤◌, ◌++◌, length, drop}
use Rattle.hdc_written.specs.Mirror.{tops_behind}
use Rattle.hdc_synonyms.specs.Synonyms.{declared_types}
use Rattle.hdc_synonyms.proofs.declared.bind_next_tops.Given as goal

abbrev pub invariant-loop-count : goal.invariant-loop-count
invariant-loop-count l = record {
  within : l.count ≤ length l.tops;
  put : l.declared ≡ declared_types (suc l.count) (tops_behind (drop l.count l.tops)) ++ l.initial.declared;
}

abbrev pub decreases-loop-count : goal.decreases-loop-count
decreases-loop-count l = l.count
