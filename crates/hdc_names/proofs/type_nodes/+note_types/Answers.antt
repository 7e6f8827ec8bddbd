use Rattle.std.proofs.Common.{◌+◌, refl, sym, ap, ◌∙◌, arith}
use Rattle.hdc_tree.specs.declared.type_tree.ArrowType.{ArrowType, out-ArrowType}
use Rattle.hdc_written.specs.Firsts.{first_of_type}
use Rattle.hdc_names.specs.Trees.{all_found}
use Rattle.hdc_written.specs.TypeMirror.{each_type, atype_of, btype_of, comma_type_of, arrow_type_of}
use Rattle.hdc_names.specs.Sites.{types_follow, each_type_nodes, type_nodes}
use Rattle.hdc_written.proofs.TypeMirror.{comma_type_parts, arrow_type_parts}
use Rattle.hdc_written.proofs.Loops.{rest_slice}
use Rattle.hdc_names.proofs.Loops.{next_found, next_arrow}
use Rattle.hdc_names.proofs.type_nodes.+note_types.Goals as goal

pub note_atypes-loop-part-preserved : goal.note_atypes-loop-part-preserved
note_atypes-loop-part-preserved t c =
    let test = c.loop-part-test.true in
    next_found (λ xs. each_type_nodes c.args.depth (each_type atype_of xs)) (λ x. type_nodes c.args.depth (atype_of x)) (λ x xs. refl) c.args.parts.now c.loop-part.part-index c.part-item.result _ c.args.found.now c.loop-part.found c.note_atype.new.found c.loop-part.invariant (omega (arith, test)) c.part-item.is refl c.in_ok-note_atype.ensures

pub note_comma_types-loop-part-preserved : goal.note_comma_types-loop-part-preserved
note_comma_types-loop-part-preserved t c =
    let test = c.loop-part-test.true in
    next_found (λ xs. each_type_nodes c.args.depth (each_type comma_type_of xs)) (λ x. type_nodes c.args.depth (comma_type_of x)) (λ x xs. refl) c.args.parts.now c.loop-part.part-index c.part-item.result _ c.args.found.now c.loop-part.found c.note_type.new.found c.loop-part.invariant (omega (arith, test)) c.part-item.is (ap (type_nodes c.args.depth) (comma_type_parts c.part-item.result)) c.in_ok-note_type.ensures

pub note_arrow_types-loop-index-preserved : goal.note_arrow_types-loop-index-preserved
note_arrow_types-loop-index-preserved t c =
    let test = c.loop-index-test.true in
    next_arrow c.args.parts.now c.loop-index.index c.args.depth c.loop-index.depth c.in_ok-depth.depth c.in_ok-inner.inner c.index-parts-index.result _ _ _ c.args.found.now c.loop-index.found c.note_joined.new.found c.note_btype.new.found c.loop-index.invariant (omega (arith, test)) c.index-parts-index.is (arrow_type_parts c.index-parts-index.result) (c.follow-follows.ensures ∙ ap (λ z. types_follow (each_type arrow_type_of z)) (rest_slice c.args.parts.now (c.loop-index.index + 1))) (c.first_of_btype.ensures ∙ ap (λ (z : ArrowType). first_of_type (btype_of (out-ArrowType z).part)) (sym c.index-parts-index.is)) c.in_ok-inner.ensures.depth c.in_ok-inner.ensures.noted (c.in_ok-note_btype.ensures ∙ ap (λ (z : ArrowType). all_found c.note_joined.new.found (type_nodes c.in_ok-inner.inner (btype_of (out-ArrowType z).part))) (sym c.index-parts-index.is)) c.in_ok-depth.ensures
