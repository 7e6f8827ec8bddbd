use Rattle.std.proofs.Common.{refl, sym, ap, ◌∙◌, arith}
use Rattle.hdc_written.specs.Breaches.{all_noted}
use Rattle.hdc_written.specs.TypeMirror.{each_type, atype_of, comma_type_of, arrow_type_of}
use Rattle.hdc_written.proofs.TypeMirror.{comma_type_parts, arrow_type_parts}
use Rattle.hdc_rules.specs.Types.{type_breaches, each_type_breaches}
use Rattle.hdc_rules.proofs.Loops.{next_each}
use Rattle.hdc_rules.proofs.types.+note_types.Goals as goal

pub note_atypes-loop-part-preserved : goal.note_atypes-loop-part-preserved
note_atypes-loop-part-preserved t c =
    let test = c.loop-part-test.true in
    next_each (λ xs. each_type_breaches c.args.types.now (each_type atype_of xs)) (λ x. type_breaches c.args.types.now (atype_of x)) (λ x xs. refl) c.args.parts.now c.loop-part.part-index c.part-item.result c.args.found.now c.loop-part.found c.note_atype.new.found c.loop-part.invariant (omega (arith, test)) c.part-item.is c.note_atype.ensures

pub note_comma_types-loop-part-preserved : goal.note_comma_types-loop-part-preserved
note_comma_types-loop-part-preserved t c =
    let test = c.loop-part-test.true in
    next_each (λ xs. each_type_breaches c.args.types.now (each_type comma_type_of xs)) (λ x. type_breaches c.args.types.now (comma_type_of x)) (λ x xs. refl) c.args.parts.now c.loop-part.part-index c.part-item.result c.args.found.now c.loop-part.found c.note_type.new.found c.loop-part.invariant (omega (arith, test)) c.part-item.is (c.note_type.ensures ∙ ap (λ z. all_noted c.loop-part.found (type_breaches c.args.types.now z)) (sym (comma_type_parts c.part-item.result)))

pub note_arrow_types-loop-part-preserved : goal.note_arrow_types-loop-part-preserved
note_arrow_types-loop-part-preserved t c =
    let test = c.loop-part-test.true in
    next_each (λ xs. each_type_breaches c.args.types.now (each_type arrow_type_of xs)) (λ x. type_breaches c.args.types.now (arrow_type_of x)) (λ x xs. refl) c.args.parts.now c.loop-part.part-index c.part-item.result c.args.found.now c.loop-part.found c.note_btype.new.found c.loop-part.invariant (omega (arith, test)) c.part-item.is (c.note_btype.ensures ∙ ap (λ z. all_noted c.loop-part.found (type_breaches c.args.types.now z)) (sym (arrow_type_parts c.part-item.result)))
