use Rattle.std.proofs.Common.{◌≡◌, ◌<◌, ◌≤◌, ◌∙◌, length, map, sym, ap, arith}
use Rattle.hdc_resolved.proofs.Mirror.{type_list, type_tuple}
use Rattle.hdc_resolved.specs.Mirror.{types, type_tree_of}
use Rattle.hdc_resolved.specs.Syntax.{list_type, tuple_type}
use Rattle.hdc_tree.specs.declared.type_tree.Atype.{Atype}
use Rattle.hdc_written.specs.TypeMirror.{atype_of, comma_type_of, type_exp_of}
use Rattle.hdc_written.proofs.TypeMirror.{comma_type_parts}
use Rattle.hdc_type_names.specs.ResolvedTypes.{resolved_type}
use Rattle.hdc_type_names.proofs.TypeLists.{pushed_step, pushed_all}
use Rattle.hdc_type_names.proofs.Written.{atype_unit, atype_list}
use Rattle.hdc_type_names.proofs.resolve.+resolve_types.Goals as goal

pub add_atypes-loop-part-preserved : goal.add_atypes-loop-part-preserved
add_atypes-loop-part-preserved t c =
    let lt : c.loop-part.part-index < length c.args.parts.now = omega arith in
    c.loop-part.invariant
    ∙ pushed_step atype_of c.args.names.now c.args.variables.now c.args.parts.now c.loop-part.part-index c.part-item.result c.in_ok-next_type.next_type c.loop-part.types c.push.new.self c.in_ok-push.ensures.ok lt c.part-item.is c.in_ok-next_type.ensures

pub add_atypes-returns : goal.add_atypes-returns
add_atypes-returns t c =
    let ge : length c.args.parts.now ≤ c.loop-part.part-index = omega arith in
    sym (c.loop-part.invariant ∙ pushed_all atype_of c.args.names.now c.args.variables.now c.args.parts.now c.loop-part.part-index c.loop-part.types ge)

pub add_comma_types-loop-part-preserved : goal.add_comma_types-loop-part-preserved
add_comma_types-loop-part-preserved t c =
    let lt : c.loop-part.part-index < length c.args.parts.now = omega arith in
    c.loop-part.invariant
    ∙ pushed_step comma_type_of c.args.names.now c.args.variables.now c.args.parts.now c.loop-part.part-index c.part-item.result c.in_ok-next_type.next_type c.loop-part.types c.push.new.self c.in_ok-push.ensures.ok lt c.part-item.is
    (c.in_ok-next_type.ensures ∙ ap (resolved_type c.args.names.now c.args.variables.now) (sym (comma_type_parts c.part-item.result)))

pub add_comma_types-returns : goal.add_comma_types-returns
add_comma_types-returns t c =
    let ge : length c.args.parts.now ≤ c.loop-part.part-index = omega arith in
    sym (c.loop-part.invariant ∙ pushed_all comma_type_of c.args.names.now c.args.variables.now c.args.parts.now c.loop-part.part-index c.loop-part.types ge)

pub resolve_atype-returns-in-Unit : goal.resolve_atype-returns-in-Unit
resolve_atype-returns-in-Unit t c =
    type_tuple c.new-in-Unit.result
    ∙ ap (λ z. tuple_type (types (map type_tree_of z))) c.new-in-Unit.ensures
    ∙ sym (ap (λ (z : Atype). resolved_type c.args.names.now c.args.variables.now (atype_of z)) c.in-Unit.is ∙ ap (resolved_type c.args.names.now c.args.variables.now) (atype_unit c.in-Unit._open_at c.in-Unit._close_at))

pub resolve_atype-returns-in_ok-new-in-List : goal.resolve_atype-returns-in_ok-new-in-List
resolve_atype-returns-in_ok-new-in-List t c =
    type_list c.in_ok-new-in-List.field-0
    ∙ ap (λ z. list_type (type_tree_of z)) c.in_ok-new-in-List.ensures
    ∙ ap (λ z. list_type z) c.in_ok-element-in-List.ensures
    ∙ ap (λ z. list_type (resolved_type c.args.names.now c.args.variables.now (type_exp_of z))) c.get-in-List.ensures
    ∙ sym (ap (λ (z : Atype). resolved_type c.args.names.now c.args.variables.now (atype_of z)) c.in-List.is ∙ ap (resolved_type c.args.names.now c.args.variables.now) (atype_list c.in-List._open_at c.in-List.inner c.in-List._close_at))
