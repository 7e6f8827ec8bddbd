use Rattle.std.proofs.Common.{List, [], ◌∷◌, ◌++◌, subst, ◌≡◌, ◌<◌, ◌≤◌, ◌+◌, ◌∙◌, suc, length, sym, ap, arith, add-one}
use Rattle.hdc_written.specs.TypeMirror.{each_type, atype_of, comma_type_of, arrow_type_of, btype_of}
use Rattle.hdc_written.proofs.TypeMirror.{arrow_type_parts, comma_type_parts, type_exp_parts}
use Rattle.hdc_tree.specs.declared.type_tree.ArrowType.{ArrowType}
use Rattle.hdc_tree.specs.declared.type_tree.TypeExp.{out-TypeExp}
use Rattle.hdc_regular.specs.Resolving.{arrows}
use Rattle.std.specs.Result.{IfOk}
use Rattle.hdc_regular.specs.declared.part.Part.{Part}
use Rattle.hdc_regular.specs.declared.building.Choice.TheVariants as choice
use Rattle.hdc_regular.specs.Resolved.{use_of, other, next_part, part_at}
use Rattle.hdc_regular.specs.PartMirror.{part_of, parts_of}
use Rattle.hdc_regular.proofs.PartMirror.{part_use, part_other}
use Rattle.hdc_regular.specs.Building.{outline_at, is_held, held_part, held_from, built, each_built}
use Rattle.hdc_regular.proofs.Pushing.{pushed_step, pushed_all, held_step, held_all, first_and_more}
use Rattle.hdc_regular.proofs.Applied.{not_empty, built_applied, held_true, held_false, part_behind, some_arrows}
use Rattle.hdc_regular.proofs.building.+build_types.Goals as goal
use Rattle.hdc_regular.proofs.building.+build_types.Goals.{add_held_atypes-then-is_held_at+in_ok-next_part+in_ok-push, add_held_atypes-else-is_held_at+in_ok-push-2, build_btype-then-is_held_at+in_ok-first_part-in-Holding+in_ok-push-in-Holding, build_btype-else-is_held_at+in_ok-push-in-Holding-2}

pub add_atypes-loop-part-preserved : goal.add_atypes-loop-part-preserved
add_atypes-loop-part-preserved t c =
    let lt : c.loop-part.part-index < length c.args.parts.now = omega arith in
    c.loop-part.invariant
    ∙ pushed_step atype_of c.args.outlines.now c.args.names.now c.args.params.now c.args.parts.now c.loop-part.part-index c.part-item.result c.in_ok-next_part.next_part c.loop-part.built c.push.new.self c.in_ok-push.ensures.ok lt c.part-item.is c.in_ok-next_part.ensures

pub add_atypes-returns : goal.add_atypes-returns
add_atypes-returns t c =
    let ge : length c.args.parts.now ≤ c.loop-part.part-index = omega arith in
    sym (c.loop-part.invariant ∙ pushed_all atype_of c.args.outlines.now c.args.names.now c.args.params.now c.args.parts.now c.loop-part.part-index c.loop-part.built ge)

pub add_comma_types-loop-part-preserved : goal.add_comma_types-loop-part-preserved
add_comma_types-loop-part-preserved t c =
    let lt : c.loop-part.part-index < length c.args.parts.now = omega arith in
    c.loop-part.invariant
    ∙ pushed_step comma_type_of c.args.outlines.now c.args.names.now c.args.params.now c.args.parts.now c.loop-part.part-index c.part-item.result c.in_ok-next_part.next_part c.loop-part.built c.push.new.self c.in_ok-push.ensures.ok lt c.part-item.is
    (c.in_ok-next_part.ensures ∙ ap (built c.args.outlines.now c.args.names.now c.args.params.now) (sym (comma_type_parts c.part-item.result)))

pub add_comma_types-returns : goal.add_comma_types-returns
add_comma_types-returns t c =
    let ge : length c.args.parts.now ≤ c.loop-part.part-index = omega arith in
    sym (c.loop-part.invariant ∙ pushed_all comma_type_of c.args.outlines.now c.args.names.now c.args.params.now c.args.parts.now c.loop-part.part-index c.loop-part.built ge)

pub add_arrow_types-loop-part-preserved : goal.add_arrow_types-loop-part-preserved
add_arrow_types-loop-part-preserved t c =
    let lt : c.loop-part.part-index < length c.args.parts.now = omega arith in
    c.loop-part.invariant
    ∙ pushed_step arrow_type_of c.args.outlines.now c.args.names.now c.args.params.now c.args.parts.now c.loop-part.part-index c.part-item.result c.in_ok-next_part.next_part c.loop-part.built c.push.new.self c.in_ok-push.ensures.ok lt c.part-item.is
    (c.in_ok-next_part.ensures ∙ ap (built c.args.outlines.now c.args.names.now c.args.params.now) (sym (arrow_type_parts c.part-item.result)))

pub add_arrow_types-returns : goal.add_arrow_types-returns
add_arrow_types-returns t c =
    let ge : length c.args.parts.now ≤ c.loop-part.part-index = omega arith in
    sym (c.loop-part.invariant ∙ pushed_all arrow_type_of c.args.outlines.now c.args.names.now c.args.params.now c.args.parts.now c.loop-part.part-index c.loop-part.built ge)

pub add_held_atypes-returns : goal.add_held_atypes-returns
add_held_atypes-returns t c =
    let ge : length c.args.parts.now ≤ c.loop-index.index = omega arith in
    sym (c.loop-index.invariant ∙ held_all atype_of c.args.outlines.now c.args.names.now c.args.params.now c.args.parts.now c.loop-index.index (outline_at c.args.outlines.now c.args.number).holds (suc c.loop-index.index) c.loop-index.built ge)

pub add_held_atypes-loop-index-preserved : goal.add_held_atypes-loop-index-preserved
add_held_atypes-loop-index-preserved t c =
    let lt : c.loop-index.index < length c.args.parts.now = omega arith in
    let holds = (outline_at c.args.outlines.now c.args.number).holds in
    let flag : c.is_held_at.result ≡ is_held holds (suc c.loop-index.index) = c.is_held_at.ensures ∙ ap (is_held holds) (add-one c.loop-index.index) in
    let step = λ (p : Part) (e : c.if-is_held_at.built ≡ c.loop-index.built ++ p ∷ []) (b : part_of p ≡ held_part (is_held holds (suc c.loop-index.index)) (built c.args.outlines.now c.args.names.now c.args.params.now (atype_of c.index-parts-index.result))).
    held_step atype_of c.args.outlines.now c.args.names.now c.args.params.now c.args.parts.now c.loop-index.index holds (suc c.loop-index.index) (suc (c.loop-index.index + 1)) c.index-parts-index.result p c.loop-index.built c.if-is_held_at.built (ap (λ z. suc z) (add-one c.loop-index.index)) e lt c.index-parts-index.is b in
    elim c.if-is_held_at.branch [
      | add_held_atypes-then-is_held_at+in_ok-next_part+in_ok-push w ↦ c.loop-index.invariant ∙ step w.in_ok-next_part.next_part (w.built-is ∙ w.in_ok-push.ensures.ok) (held_true (is_held holds (suc c.loop-index.index)) _ _ (sym flag ∙ w.if-is_held_at.true) w.in_ok-next_part.ensures)
      | add_held_atypes-else-is_held_at+in_ok-push-2 w ↦ c.loop-index.invariant ∙ step _ (w.built-is ∙ w.in_ok-push-2.ensures.ok) (held_false (is_held holds (suc c.loop-index.index)) _ _ (sym flag ∙ w.if-is_held_at.false) (part_other w.new.result ∙ ap (λ z. other (parts_of z)) w.new.ensures))
    ]

pub build_btype-returns-in_ok-add_atypes-in-Whole : goal.build_btype-returns-in_ok-add_atypes-in-Whole
build_btype-returns-in_ok-add_atypes-in-Whole t c =
    part_other c.add_atypes.new.built
    ∙ ap (λ z. other z) (first_and_more c.in_ok-first_part-in-Whole.first_part c.new-parts.result c.push.new.self c.add_atypes.new.built _ _ c.new-parts.ensures c.in_ok-push-in-Whole.ensures.ok c.in_ok-first_part-in-Whole.ensures c.in_ok-add_atypes-in-Whole.ensures)
    ∙ sym (built_applied c.args.outlines.now c.args.names.now c.args.params.now c.args.part.now c.in-Applied.name c.in-Applied.first c.in-Applied.rest c.as_slice-rest.result.now choice.Whole c.in-Applied.is c.as_slice-rest.ensures c.in-Whole.ensures)

pub build_btype-returns-in_ok-add_held_atypes-in-Holding : goal.build_btype-returns-in_ok-add_held_atypes-in-Holding
build_btype-returns-in_ok-add_held_atypes-in-Holding t c =
    let holds = (outline_at c.args.outlines.now c.in-Holding.number).holds in
    let first = built c.args.outlines.now c.args.names.now c.args.params.now (atype_of c.in-Applied.first) in
    let rest = each_built c.args.outlines.now c.args.names.now c.args.params.now (each_type atype_of c.as_slice-rest.result.now) in
    let parts : parts_of c.add_held_atypes.new.built ≡ next_part (held_part (is_held holds 0) first) (held_from holds 1 rest) =
    elim c.if-is_held_at.branch [
      | build_btype-then-is_held_at+in_ok-first_part-in-Holding+in_ok-push-in-Holding w ↦
          first_and_more w.in_ok-first_part-in-Holding.first_part c.new-parts-in-Holding.result c.if-is_held_at.parts c.add_held_atypes.new.built (held_part (is_held holds 0) first) (held_from holds 1 rest) c.new-parts-in-Holding.ensures
          (w.parts-is ∙ w.in_ok-push-in-Holding.ensures.ok)
          (held_true (is_held holds 0) _ _ (sym c.is_held_at.ensures ∙ w.if-is_held_at.true) w.in_ok-first_part-in-Holding.ensures) c.in_ok-add_held_atypes-in-Holding.ensures
      | build_btype-else-is_held_at+in_ok-push-in-Holding-2 w ↦
          first_and_more _ c.new-parts-in-Holding.result c.if-is_held_at.parts c.add_held_atypes.new.built (held_part (is_held holds 0) first) (held_from holds 1 rest) c.new-parts-in-Holding.ensures
          (w.parts-is ∙ w.in_ok-push-in-Holding-2.ensures.ok)
          (held_false (is_held holds 0) _ _ (sym c.is_held_at.ensures ∙ w.if-is_held_at.false) (part_other w.new.result ∙ ap (λ z. other (parts_of z)) w.new.ensures)) c.in_ok-add_held_atypes-in-Holding.ensures
    ] in
    part_use c.in-Holding.number c.in-Applied.name.at c.add_held_atypes.new.built
    ∙ ap (use_of c.in-Holding.number c.in-Applied.name.at) parts
    ∙ sym (built_applied c.args.outlines.now c.args.names.now c.args.params.now c.args.part.now c.in-Applied.name c.in-Applied.first c.in-Applied.rest c.as_slice-rest.result.now (choice.Holding c.in-Holding.number) c.in-Applied.is c.as_slice-rest.ensures c.in-Holding.ensures)

pub build_btype-returns-then-place-eq0 : goal.build_btype-returns-then-place-eq0
build_btype-returns-then-place-eq0 t c =
    let e = built_applied c.args.outlines.now c.args.names.now c.args.params.now c.args.part.now c.in-Applied.name c.in-Applied.first c.in-Applied.rest c.as_slice-rest.result.now (choice.One c.in-One.place) c.in-Applied.is c.as_slice-rest.ensures c.in-One.ensures in
    let first : part_at c.in-One.place (next_part (built c.args.outlines.now c.args.names.now c.args.params.now (atype_of c.in-Applied.first)) (each_built c.args.outlines.now c.args.names.now c.args.params.now (each_type atype_of c.as_slice-rest.result.now))) ≡ built c.args.outlines.now c.args.names.now c.args.params.now (atype_of c.in-Applied.first)
    = ap (λ j. part_at j (next_part (built c.args.outlines.now c.args.names.now c.args.params.now (atype_of c.in-Applied.first)) (each_built c.args.outlines.now c.args.names.now c.args.params.now (each_type atype_of c.as_slice-rest.result.now)))) c.if-place-eq0.true in
    subst (λ z. IfOk c.build_atype-then-place-eq0.result (λ b. part_of b ≡ z)) (sym (e ∙ first)) c.build_atype-then-place-eq0.ensures

pub build_btype-returns-else-place-eq0 : goal.build_btype-returns-else-place-eq0
build_btype-returns-else-place-eq0 t c =
    let e = built_applied c.args.outlines.now c.args.names.now c.args.params.now c.args.part.now c.in-Applied.name c.in-Applied.first c.in-Applied.rest c.as_slice-rest.result.now (choice.One c.in-One.place) c.in-Applied.is c.as_slice-rest.ensures c.in-One.ensures in
    let behind = part_behind c.in-One.place (built c.args.outlines.now c.args.names.now c.args.params.now (atype_of c.in-Applied.first)) (each_built c.args.outlines.now c.args.names.now c.args.params.now (each_type atype_of c.as_slice-rest.result.now)) c.if-place-eq0.false in
    subst (λ z. IfOk c.build_one.result (λ b. part_of b ≡ z)) (sym (e ∙ behind)) c.build_one.ensures

pub build_type-returns : goal.build_type-returns
build_type-returns t c =
    let first = built c.args.outlines.now c.args.names.now c.args.params.now (btype_of (out-TypeExp c.args.part.now).first) in
    let rest = λ (xs : List ArrowType). each_built c.args.outlines.now c.args.names.now c.args.params.now (each_type arrow_type_of xs) in
    let some : 0 < length c.as_slice-2.result.now = subst (λ z. 0 < length z) (c.as_slice.ensures ∙ sym c.as_slice-2.ensures) (not_empty (length c.as_slice.result.now) (sym c.is_empty.ensures ∙ c.if-is_empty.false)) in
    part_other c.add_arrow_types.new.built
    ∙ ap (λ z. other z) (first_and_more c.in_ok-first.first c.new-parts.result c.push.new.self c.add_arrow_types.new.built first (rest c.as_slice-2.result.now) c.new-parts.ensures c.in_ok-push.ensures.ok c.in_ok-first.ensures c.in_ok-add_arrow_types.ensures)
    ∙ sym (some_arrows arrow_type_of c.args.outlines.now c.args.names.now c.args.params.now first c.as_slice-2.result.now some)
    ∙ ap (λ z. arrows first (rest z)) c.as_slice-2.ensures
    ∙ ap (built c.args.outlines.now c.args.names.now c.args.params.now) (sym (type_exp_parts c.args.part.now))
