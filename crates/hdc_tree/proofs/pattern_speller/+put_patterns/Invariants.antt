use Rattle.std.proofs.Common.{◌≡◌, ◌≤◌, length, drop}
use Rattle.hdc_tree.specs.NameSpelling.{each_onto}
use Rattle.hdc_tree.specs.PatternSpelling.{apat_onto, comma_pat_onto, cons_pat_onto}
use Rattle.hdc_tree.proofs.pattern_speller.+put_patterns.Given as goal

-- the last of a list are put before the others
abbrev pub invariant-put_apats-loop-count : goal.invariant-put_apats-loop-count
invariant-put_apats-loop-count l = record {
  within : l.count ≤ length l.parts;
  put : l.out ≡ each_onto apat_onto (drop l.count l.parts) l.initial.out;
}

abbrev pub decreases-put_apats-loop-count : goal.decreases-put_apats-loop-count
decreases-put_apats-loop-count l = l.count

abbrev pub invariant-put_comma_pats-loop-count : goal.invariant-put_comma_pats-loop-count
invariant-put_comma_pats-loop-count l = record {
  within : l.count ≤ length l.parts;
  put : l.out ≡ each_onto comma_pat_onto (drop l.count l.parts) l.initial.out;
}

abbrev pub decreases-put_comma_pats-loop-count : goal.decreases-put_comma_pats-loop-count
decreases-put_comma_pats-loop-count l = l.count

abbrev pub invariant-put_cons_pats-loop-count : goal.invariant-put_cons_pats-loop-count
invariant-put_cons_pats-loop-count l = record {
  within : l.count ≤ length l.parts;
  put : l.out ≡ each_onto cons_pat_onto (drop l.count l.parts) l.initial.out;
}

abbrev pub decreases-put_cons_pats-loop-count : goal.decreases-put_cons_pats-loop-count
decreases-put_cons_pats-loop-count l = l.count
