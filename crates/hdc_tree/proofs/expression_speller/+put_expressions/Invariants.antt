use Rattle.std.proofs.Common.{◌≡◌, ◌≤◌, length, drop}
use Rattle.hdc_tree.specs.NameSpelling.{each_onto}
use Rattle.hdc_tree.specs.ExpressionSpelling.{aexp_onto, arrow_guard_onto, comma_exp_onto, comma_qual_onto, equal_guard_onto, link_onto, next_alt_onto, next_decl_onto}
use Rattle.hdc_tree.proofs.expression_speller.+put_expressions.Given as goal

-- the last of a list are put before the others
abbrev pub invariant-put_aexps-loop-count : goal.invariant-put_aexps-loop-count
invariant-put_aexps-loop-count l = record {
  within : l.count ≤ length l.parts;
  put : l.out ≡ each_onto aexp_onto (drop l.count l.parts) l.initial.out;
}

abbrev pub decreases-put_aexps-loop-count : goal.decreases-put_aexps-loop-count
decreases-put_aexps-loop-count l = l.count

abbrev pub invariant-put_arrow_guards-loop-count : goal.invariant-put_arrow_guards-loop-count
invariant-put_arrow_guards-loop-count l = record {
  within : l.count ≤ length l.parts;
  put : l.out ≡ each_onto arrow_guard_onto (drop l.count l.parts) l.initial.out;
}

abbrev pub decreases-put_arrow_guards-loop-count : goal.decreases-put_arrow_guards-loop-count
decreases-put_arrow_guards-loop-count l = l.count

abbrev pub invariant-put_comma_exps-loop-count : goal.invariant-put_comma_exps-loop-count
invariant-put_comma_exps-loop-count l = record {
  within : l.count ≤ length l.parts;
  put : l.out ≡ each_onto comma_exp_onto (drop l.count l.parts) l.initial.out;
}

abbrev pub decreases-put_comma_exps-loop-count : goal.decreases-put_comma_exps-loop-count
decreases-put_comma_exps-loop-count l = l.count

abbrev pub invariant-put_comma_quals-loop-count : goal.invariant-put_comma_quals-loop-count
invariant-put_comma_quals-loop-count l = record {
  within : l.count ≤ length l.parts;
  put : l.out ≡ each_onto comma_qual_onto (drop l.count l.parts) l.initial.out;
}

abbrev pub decreases-put_comma_quals-loop-count : goal.decreases-put_comma_quals-loop-count
decreases-put_comma_quals-loop-count l = l.count

abbrev pub invariant-put_equal_guards-loop-count : goal.invariant-put_equal_guards-loop-count
invariant-put_equal_guards-loop-count l = record {
  within : l.count ≤ length l.parts;
  put : l.out ≡ each_onto equal_guard_onto (drop l.count l.parts) l.initial.out;
}

abbrev pub decreases-put_equal_guards-loop-count : goal.decreases-put_equal_guards-loop-count
decreases-put_equal_guards-loop-count l = l.count

abbrev pub invariant-put_links-loop-count : goal.invariant-put_links-loop-count
invariant-put_links-loop-count l = record {
  within : l.count ≤ length l.parts;
  put : l.out ≡ each_onto link_onto (drop l.count l.parts) l.initial.out;
}

abbrev pub decreases-put_links-loop-count : goal.decreases-put_links-loop-count
decreases-put_links-loop-count l = l.count

abbrev pub invariant-put_next_alts-loop-count : goal.invariant-put_next_alts-loop-count
invariant-put_next_alts-loop-count l = record {
  within : l.count ≤ length l.parts;
  put : l.out ≡ each_onto next_alt_onto (drop l.count l.parts) l.initial.out;
}

abbrev pub decreases-put_next_alts-loop-count : goal.decreases-put_next_alts-loop-count
decreases-put_next_alts-loop-count l = l.count

abbrev pub invariant-put_next_decls-loop-count : goal.invariant-put_next_decls-loop-count
invariant-put_next_decls-loop-count l = record {
  within : l.count ≤ length l.parts;
  put : l.out ≡ each_onto next_decl_onto (drop l.count l.parts) l.initial.out;
}

abbrev pub decreases-put_next_decls-loop-count : goal.decreases-put_next_decls-loop-count
decreases-put_next_decls-loop-count l = l.count
