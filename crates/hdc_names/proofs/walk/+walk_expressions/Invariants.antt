use Rattle.std.proofs.Common.{◌≡◌, drop}
use Rattle.hdc_written.specs.Mirror.{aexp_of, arrow_guard_of, comma_exp_of, comma_qual_of, each_alternative, each_declaration, each_expression, each_guard, each_link, each_operand, each_qualifier, equal_guard_of, link_of, next_alt_of, next_decl_of}
use Rattle.hdc_names.specs.Walk.{walk_alternatives, walk_declarations, walk_expressions, walk_guards, walk_links, walk_operands, walk_qualifiers}
use Rattle.hdc_names.proofs.walk.+walk_expressions.Given as goal

abbrev pub invariant-walk_links-loop-index : goal.invariant-walk_links-loop-index
invariant-walk_links-loop-index l = walk_links l.depths 0 (each_link link_of l.parts) l.initial.walk ≡ walk_links l.depths l.index (each_link link_of (drop l.index l.parts)) l.walk

abbrev pub invariant-walk_aexps-loop-index : goal.invariant-walk_aexps-loop-index
invariant-walk_aexps-loop-index l = walk_operands l.depth (each_operand aexp_of l.parts) l.initial.walk ≡ walk_operands l.depth (each_operand aexp_of (drop l.index l.parts)) l.walk

abbrev pub invariant-walk_comma_exps-loop-part : goal.invariant-walk_comma_exps-loop-part
invariant-walk_comma_exps-loop-part l = walk_expressions l.depth (each_expression comma_exp_of l.parts) l.initial.walk ≡ walk_expressions l.depth (each_expression comma_exp_of (drop l.part-index l.parts)) l.walk

abbrev pub invariant-walk_next_alts-loop-part : goal.invariant-walk_next_alts-loop-part
invariant-walk_next_alts-loop-part l = walk_alternatives l.depth (each_alternative next_alt_of l.parts) l.initial.walk ≡ walk_alternatives l.depth (each_alternative next_alt_of (drop l.part-index l.parts)) l.walk

abbrev pub invariant-walk_arrow_guards-loop-part : goal.invariant-walk_arrow_guards-loop-part
invariant-walk_arrow_guards-loop-part l = walk_guards l.depth (each_guard arrow_guard_of l.parts) l.initial.walk ≡ walk_guards l.depth (each_guard arrow_guard_of (drop l.part-index l.parts)) l.walk

abbrev pub invariant-walk_equal_guards-loop-part : goal.invariant-walk_equal_guards-loop-part
invariant-walk_equal_guards-loop-part l = walk_guards l.depth (each_guard equal_guard_of l.parts) l.initial.walk ≡ walk_guards l.depth (each_guard equal_guard_of (drop l.part-index l.parts)) l.walk

abbrev pub invariant-walk_next_decls-loop-part : goal.invariant-walk_next_decls-loop-part
invariant-walk_next_decls-loop-part l = walk_declarations (each_declaration next_decl_of l.parts) l.initial.walk ≡ walk_declarations (each_declaration next_decl_of (drop l.part-index l.parts)) l.walk

abbrev pub invariant-walk_comma_quals-loop-part : goal.invariant-walk_comma_quals-loop-part
invariant-walk_comma_quals-loop-part l = walk_qualifiers l.initial.depth (each_qualifier comma_qual_of l.parts) l.initial.walk ≡ walk_qualifiers l.depth (each_qualifier comma_qual_of (drop l.part-index l.parts)) l.walk
