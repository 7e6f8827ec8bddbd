use Rattle.std.proofs.Common.{◌≡◌, ◌++◌, drop, map}
use Rattle.hdc_resolved.specs.Mirror.{expression_of, equation_of, guard_of}
use Rattle.hdc_written.specs.Mirror.{aexp_of, arrow_guard_of, comma_exp_of, comma_qual_of, each_alternative, each_declaration, each_expression, each_guard, each_link, each_operand, each_qualifier, equal_guard_of, link_of, next_alt_of, next_decl_of}
use Rattle.hdc_bindings.specs.Blocks.{all_declared_in, operands_in, alternatives_in, guards_in, each_resolved, parts_in, past_qualifiers}
use Rattle.hdc_resolving.specs.Grouped.{by_steps}
use Rattle.hdc_resolving.specs.Growths.{grown}
use Rattle.hdc_resolving.specs.Numbering as numbering
use Rattle.hdc_resolving.specs.Parts.{part_of}
use Rattle.hdc_resolving.specs.Placing.{placed_of}
use Rattle.hdc_bindings.specs.Resolving.{behind_links, behind_operands, behind_expressions, behind_alternatives, behind_guards, behind_declarations, placed_before}
use Rattle.hdc_bindings.proofs.expression.+resolve_expressions.Given as goal

abbrev pub invariant-push_links-loop-part : goal.invariant-push_links-loop-part
invariant-push_links-loop-part l = record {
  what : map placed_of l.initial.operands ++ placed_before by_steps l.known (each_link link_of l.parts) l.initial.walk ≡ map placed_of l.operands ++ placed_before by_steps l.known (each_link link_of (drop l.part-index l.parts)) l.walk;
  moved : numbering.moved (behind_links (each_link link_of l.parts) l.initial.walk.counter) l.initial.walk ≡ numbering.moved (behind_links (each_link link_of (drop l.part-index l.parts)) l.walk.counter) l.walk;
}

abbrev pub invariant-push_args-loop-part : goal.invariant-push_args-loop-part
invariant-push_args-loop-part l = record {
  what : map expression_of l.initial.args ++ operands_in by_steps l.known (each_operand aexp_of l.parts) l.initial.walk ≡ map expression_of l.args ++ operands_in by_steps l.known (each_operand aexp_of (drop l.part-index l.parts)) l.walk;
  moved : numbering.moved (behind_operands (each_operand aexp_of l.parts) l.initial.walk.counter) l.initial.walk ≡ numbering.moved (behind_operands (each_operand aexp_of (drop l.part-index l.parts)) l.walk.counter) l.walk;
}

abbrev pub invariant-push_comma_exps-loop-part : goal.invariant-push_comma_exps-loop-part
invariant-push_comma_exps-loop-part l = record {
  what : map expression_of l.initial.members ++ each_resolved by_steps l.known (each_expression comma_exp_of l.parts) l.initial.walk ≡ map expression_of l.members ++ each_resolved by_steps l.known (each_expression comma_exp_of (drop l.part-index l.parts)) l.walk;
  moved : numbering.moved (behind_expressions (each_expression comma_exp_of l.parts) l.initial.walk.counter) l.initial.walk ≡ numbering.moved (behind_expressions (each_expression comma_exp_of (drop l.part-index l.parts)) l.walk.counter) l.walk;
}

abbrev pub invariant-push_comma_quals-loop-part : goal.invariant-push_comma_quals-loop-part
invariant-push_comma_quals-loop-part l = record {
  what : map part_of l.initial.parts ++ parts_in by_steps l.known (each_qualifier comma_qual_of l.rest) l.initial.walk ≡ map part_of l.parts ++ parts_in by_steps l.known (each_qualifier comma_qual_of (drop l.part-index l.rest)) l.walk;
  moved : past_qualifiers (each_qualifier comma_qual_of l.rest) l.initial.walk ≡ past_qualifiers (each_qualifier comma_qual_of (drop l.part-index l.rest)) l.walk;
}

abbrev pub invariant-push_next_alts-loop-part : goal.invariant-push_next_alts-loop-part
invariant-push_next_alts-loop-part l = record {
  what : map equation_of l.initial.alts ++ alternatives_in by_steps l.known (each_alternative next_alt_of l.parts) l.initial.walk ≡ map equation_of l.alts ++ alternatives_in by_steps l.known (each_alternative next_alt_of (drop l.part-index l.parts)) l.walk;
  moved : numbering.moved (behind_alternatives (each_alternative next_alt_of l.parts) l.initial.walk.counter) l.initial.walk ≡ numbering.moved (behind_alternatives (each_alternative next_alt_of (drop l.part-index l.parts)) l.walk.counter) l.walk;
}

abbrev pub invariant-push_arrow_guards-loop-part : goal.invariant-push_arrow_guards-loop-part
invariant-push_arrow_guards-loop-part l = record {
  what : map guard_of l.initial.guards ++ guards_in by_steps l.known (each_guard arrow_guard_of l.parts) l.initial.walk ≡ map guard_of l.guards ++ guards_in by_steps l.known (each_guard arrow_guard_of (drop l.part-index l.parts)) l.walk;
  moved : numbering.moved (behind_guards (each_guard arrow_guard_of l.parts) l.initial.walk.counter) l.initial.walk ≡ numbering.moved (behind_guards (each_guard arrow_guard_of (drop l.part-index l.parts)) l.walk.counter) l.walk;
}

abbrev pub invariant-push_equal_guards-loop-part : goal.invariant-push_equal_guards-loop-part
invariant-push_equal_guards-loop-part l = record {
  what : map guard_of l.initial.guards ++ guards_in by_steps l.known (each_guard equal_guard_of l.parts) l.initial.walk ≡ map guard_of l.guards ++ guards_in by_steps l.known (each_guard equal_guard_of (drop l.part-index l.parts)) l.walk;
  moved : numbering.moved (behind_guards (each_guard equal_guard_of l.parts) l.initial.walk.counter) l.initial.walk ≡ numbering.moved (behind_guards (each_guard equal_guard_of (drop l.part-index l.parts)) l.walk.counter) l.walk;
}

abbrev pub invariant-grow_all-loop-part : goal.invariant-grow_all-loop-part
invariant-grow_all-loop-part l = record {
  what : all_declared_in by_steps l.known (each_declaration next_decl_of l.parts) l.initial.walk (grown l.initial.growing) ≡ all_declared_in by_steps l.known (each_declaration next_decl_of (drop l.part-index l.parts)) l.walk (grown l.growing);
  moved : numbering.moved (behind_declarations (each_declaration next_decl_of l.parts) l.initial.walk.counter) l.initial.walk ≡ numbering.moved (behind_declarations (each_declaration next_decl_of (drop l.part-index l.parts)) l.walk.counter) l.walk;
}
