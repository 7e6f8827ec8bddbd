use Rattle.std.proofs.Common.{refl, arith}
use Rattle.hdc_tree.specs.declared.program.NextTop.{NextTop}
use Rattle.hdc_written.specs.Mirror.{tops_behind}
use Rattle.hdc_rules.specs.Bindings.{typed_breaches, each_typed}
use Rattle.hdc_rules.proofs.Loops.{next_each}
use Rattle.hdc_rules.proofs.tops.note_next_typed.Goals as goal

pub loop-part-preserved : goal.loop-part-preserved
loop-part-preserved c =
    let test = c.loop-part-test.true in
    next_each (λ xs. each_typed c.args.types.now (tops_behind xs)) (λ (x : NextTop). typed_breaches c.args.types.now x.top) (λ x xs. refl) c.args.parts.now c.loop-part.part-index c.part-item.result c.args.found.now c.loop-part.found c.note_typed_at.new.found c.loop-part.invariant (omega (arith, test)) c.part-item.is c.in_ok-note_typed_at.ensures
