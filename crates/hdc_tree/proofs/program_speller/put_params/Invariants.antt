use Rattle.std.proofs.Common.{◌≡◌, ◌≤◌, length, drop}
use Rattle.hdc_tree.specs.NameSpelling.{each_onto}
use Rattle.hdc_tree.specs.NameSpelling.{small_onto}
use Rattle.hdc_tree.proofs.program_speller.put_params.Given as goal

-- the last of them are put before the others
abbrev pub invariant-loop-count : goal.invariant-loop-count
invariant-loop-count l = record {
  within : l.count ≤ length l.parts;
  put : l.out ≡ each_onto small_onto (drop l.count l.parts) l.initial.out;
}

abbrev pub decreases-loop-count : goal.decreases-loop-count
decreases-loop-count l = l.count
