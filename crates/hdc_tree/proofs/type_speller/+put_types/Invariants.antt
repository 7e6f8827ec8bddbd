use Rattle.std.proofs.Common.{◌≡◌, ◌≤◌, length, drop}
use Rattle.hdc_tree.specs.NameSpelling.{each_onto}
use Rattle.hdc_tree.specs.TypeSpelling.{arrow_type_onto, atype_onto, comma_type_onto}
use Rattle.hdc_tree.proofs.type_speller.+put_types.Given as goal

-- the last of a list are put before the others
abbrev pub invariant-put_arrow_types-loop-count : goal.invariant-put_arrow_types-loop-count
invariant-put_arrow_types-loop-count l = record {
  within : l.count ≤ length l.parts;
  put : l.out ≡ each_onto arrow_type_onto (drop l.count l.parts) l.initial.out;
}

abbrev pub decreases-put_arrow_types-loop-count : goal.decreases-put_arrow_types-loop-count
decreases-put_arrow_types-loop-count l = l.count

abbrev pub invariant-put_atypes-loop-count : goal.invariant-put_atypes-loop-count
invariant-put_atypes-loop-count l = record {
  within : l.count ≤ length l.parts;
  put : l.out ≡ each_onto atype_onto (drop l.count l.parts) l.initial.out;
}

abbrev pub decreases-put_atypes-loop-count : goal.decreases-put_atypes-loop-count
decreases-put_atypes-loop-count l = l.count

abbrev pub invariant-put_comma_types-loop-count : goal.invariant-put_comma_types-loop-count
invariant-put_comma_types-loop-count l = record {
  within : l.count ≤ length l.parts;
  put : l.out ≡ each_onto comma_type_onto (drop l.count l.parts) l.initial.out;
}

abbrev pub decreases-put_comma_types-loop-count : goal.decreases-put_comma_types-loop-count
decreases-put_comma_types-loop-count l = l.count
