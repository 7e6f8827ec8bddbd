use Rattle.std.proofs.Common.{◌≡◌, ◌++◌, drop}
use Rattle.hdc_written.specs.Events.{link_events, each_operand_events, each_expression_events, openings, each_alternative_events, guard_events, each_declaration_events}
use Rattle.hdc_written.specs.Recorded.{recorded}
use Rattle.hdc_written.specs.Mirror.{each_link, link_of, each_operand, aexp_of, each_expression, comma_exp_of, each_qualifier, comma_qual_of, each_alternative, next_alt_of, each_guard, arrow_guard_of, equal_guard_of, each_declaration, next_decl_of}
use Rattle.hdc_written.proofs.using.+expression_events.Given as goal

abbrev pub invariant-add_links-loop-part : goal.invariant-add_links-loop-part
invariant-add_links-loop-part l = recorded l.initial.events ++ link_events (each_link link_of l.parts) ≡ recorded l.events ++ link_events (each_link link_of (drop l.part-index l.parts))

abbrev pub invariant-add_aexps-loop-part : goal.invariant-add_aexps-loop-part
invariant-add_aexps-loop-part l = recorded l.initial.events ++ each_operand_events (each_operand aexp_of l.parts) ≡ recorded l.events ++ each_operand_events (each_operand aexp_of (drop l.part-index l.parts))

abbrev pub invariant-add_comma_exps-loop-part : goal.invariant-add_comma_exps-loop-part
invariant-add_comma_exps-loop-part l = recorded l.initial.events ++ each_expression_events (each_expression comma_exp_of l.parts) ≡ recorded l.events ++ each_expression_events (each_expression comma_exp_of (drop l.part-index l.parts))

abbrev pub invariant-add_comma_quals-loop-part : goal.invariant-add_comma_quals-loop-part
invariant-add_comma_quals-loop-part l = recorded l.initial.events ++ openings l.open_at (each_qualifier comma_qual_of l.parts) ≡ recorded l.events ++ openings l.open_at (each_qualifier comma_qual_of (drop l.part-index l.parts))

abbrev pub invariant-add_next_alts-loop-part : goal.invariant-add_next_alts-loop-part
invariant-add_next_alts-loop-part l = recorded l.initial.events ++ each_alternative_events (each_alternative next_alt_of l.parts) ≡ recorded l.events ++ each_alternative_events (each_alternative next_alt_of (drop l.part-index l.parts))

abbrev pub invariant-add_arrow_guards-loop-part : goal.invariant-add_arrow_guards-loop-part
invariant-add_arrow_guards-loop-part l = recorded l.initial.events ++ guard_events (each_guard arrow_guard_of l.parts) ≡ recorded l.events ++ guard_events (each_guard arrow_guard_of (drop l.part-index l.parts))

abbrev pub invariant-add_equal_guards-loop-part : goal.invariant-add_equal_guards-loop-part
invariant-add_equal_guards-loop-part l = recorded l.initial.events ++ guard_events (each_guard equal_guard_of l.parts) ≡ recorded l.events ++ guard_events (each_guard equal_guard_of (drop l.part-index l.parts))

abbrev pub invariant-add_next_decls-loop-part : goal.invariant-add_next_decls-loop-part
invariant-add_next_decls-loop-part l = recorded l.initial.events ++ each_declaration_events (each_declaration next_decl_of l.parts) ≡ recorded l.events ++ each_declaration_events (each_declaration next_decl_of (drop l.part-index l.parts))
