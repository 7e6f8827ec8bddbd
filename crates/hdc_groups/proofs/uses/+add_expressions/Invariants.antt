use Rattle.std.proofs.Common.{◌≡◌, ◌++◌, drop}
use Rattle.std.specs.Prelude.{map}
use Rattle.hdc_resolved.specs.Mirror.{expression_of, expressions, equations_of, guards_of, members_of}
use Rattle.hdc_groups.specs.TopUses.{expressions_uses, equations_uses, guards_uses, members_uses}
use Rattle.hdc_groups.proofs.uses.+add_expressions.Given as goal

abbrev pub invariant-add_exps-loop-part : goal.invariant-add_exps-loop-part
invariant-add_exps-loop-part l = l.initial.uses ++ expressions_uses (expressions (map expression_of l.parts)) ≡ l.uses ++ expressions_uses (expressions (map expression_of (drop l.part-index l.parts)))

abbrev pub invariant-add_equations-loop-part : goal.invariant-add_equations-loop-part
invariant-add_equations-loop-part l = l.initial.uses ++ equations_uses (equations_of l.parts) ≡ l.uses ++ equations_uses (equations_of (drop l.part-index l.parts))

abbrev pub invariant-add_guards-loop-part : goal.invariant-add_guards-loop-part
invariant-add_guards-loop-part l = l.initial.uses ++ guards_uses (guards_of l.parts) ≡ l.uses ++ guards_uses (guards_of (drop l.part-index l.parts))

abbrev pub invariant-add_members-loop-part : goal.invariant-add_members-loop-part
invariant-add_members-loop-part l = l.initial.uses ++ members_uses (members_of l.parts) ≡ l.uses ++ members_uses (members_of (drop l.part-index l.parts))
