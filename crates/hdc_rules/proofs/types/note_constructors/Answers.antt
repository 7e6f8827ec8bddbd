use Rattle.std.proofs.Common.{refl, ap, ◌∙◌, arith}
use Rattle.hdc_tree.specs.declared.program.BarConstr.{BarConstr}
use Rattle.hdc_written.specs.Breaches.{all_noted}
use Rattle.hdc_rules.specs.Types.{field_breaches, constructor_breaches}
use Rattle.hdc_rules.proofs.Loops.{next_each}
use Rattle.hdc_rules.proofs.types.note_constructors.Goals as goal

pub loop-part-preserved : goal.loop-part-preserved
loop-part-preserved c =
    let test = c.loop-part-test.true in
    next_each (constructor_breaches c.args.types.now c.args.params.now) (λ (x : BarConstr). field_breaches c.args.types.now c.args.params.now x.constr.fields) (λ x xs. refl) c.args.parts.now c.loop-part.part-index c.part-item.result c.args.found.now c.loop-part.found c.note_fields.new.found c.loop-part.invariant (omega (arith, test)) c.part-item.is (c.in_ok-note_fields.ensures ∙ ap (λ z. all_noted c.loop-part.found (field_breaches c.args.types.now c.args.params.now z)) c.as_slice.ensures)
