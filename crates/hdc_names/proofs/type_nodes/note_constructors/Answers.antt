use Rattle.std.proofs.Common.{refl, sym, ap, arith}
use Rattle.hdc_tree.specs.declared.program.BarConstr.{BarConstr}
use Rattle.hdc_names.specs.Sites.{constructor_nodes, field_nodes}
use Rattle.hdc_names.proofs.Loops.{next_found}
use Rattle.hdc_names.proofs.type_nodes.note_constructors.Goals as goal

pub loop-part-preserved : goal.loop-part-preserved
loop-part-preserved c =
    let test = c.loop-part-test.true in
    next_found constructor_nodes (λ (x : BarConstr). field_nodes x.constr.fields) (λ x xs. refl) c.args.parts.now c.loop-part.part-index c.part-item.result _ c.args.found.now c.loop-part.found c.note_fields.new.found c.loop-part.invariant (omega (arith, test)) c.part-item.is (ap field_nodes (sym c.as_slice.ensures)) c.in_ok-note_fields.ensures
