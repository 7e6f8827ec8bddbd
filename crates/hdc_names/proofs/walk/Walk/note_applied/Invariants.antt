use Rattle.std.proofs.Common.{◌≡◌, drop}
use Rattle.hdc_written.specs.Mirror.{each_operand, aexp_of}
use Rattle.hdc_names.specs.Sites.{applied_nodes}
use Rattle.hdc_names.specs.Walk.{note_all}
use Rattle.hdc_names.proofs.walk.Walk.note_applied.Given as goal

abbrev pub invariant-loop-arg : goal.invariant-loop-arg
invariant-loop-arg l = note_all (applied_nodes l.initial.depth l.at (each_operand aexp_of l.args)) l.initial.self ≡ note_all (applied_nodes l.depth l.at (each_operand aexp_of (drop l._arg-index l.args))) l.self
