use Rattle.std.proofs.Common.{[], ◌∷◌, ◌++◌, map, ap, sym, ◌∙◌}
use Rattle.std.proofs.lemmas.List.{map-append}
use Rattle.std.proofs.lemmas.Result.{IfOk-weaker, on_ok_weaker}
use Rattle.hdc_tree.specs.declared.expression.Exp.{out-Exp}
use Rattle.hdc_tree.specs.declared.name.Name.{Name}
use Rattle.hdc_tree.specs.declared.expression.ArrowGuard.{ArrowGuard, out-ArrowGuard}
use Rattle.hdc_resolved.specs.Mirror.{pattern_of, patterns, expression_of, equation_of, guard_of, right_of, qualifiers_of}
use Rattle.hdc_resolved.specs.Mirror as made
use Rattle.hdc_resolved.specs.Syntax as resolved
use Rattle.hdc_written.specs.Firsts.{first_of_operand, operand_at}
use Rattle.hdc_written.specs.Written.{chain, variables, all_variables, pattern, let_in, lambda, comprehension, alternative, plain, guarded, guard, declaration, qualifier}
use Rattle.hdc_written.specs.Mirror as mirror
use Rattle.hdc_written.proofs.ExpressionMirror.{exp_parts, arrow_guard_parts, block_parts, list_exp_comprehension, alt_guarded}
use Rattle.hdc_names.specs.Sites.{rest_in}
use Rattle.hdc_resolving.specs.declared.walk.Sizes.{Sizes}
use Rattle.hdc_resolving.specs.Grouped.{by_steps}
use Rattle.hdc_resolving.specs.Growths.{grown, with_equation}
use Rattle.hdc_resolving.specs.Locals.{link_uses}
use Rattle.hdc_resolving.specs.Literals.{place_in}
use Rattle.hdc_resolving.specs.Numbering.{moved, variable_number}
use Rattle.hdc_resolving.specs.Parts.{Wrapped, part_of, bound_of}
use Rattle.hdc_resolving.specs.Placing.{placed_of}
use Rattle.hdc_bindings.specs.Blocks.{bound_in, declared_in, alternative_in, guards_in, parts_in}
use Rattle.hdc_bindings.specs.Resolving.{behind_expression, behind_links, behind_operand, behind_alternative, behind_right_side, behind_declaration, equation_before, placed_before, resolved_expression, resolved_operand}
use Rattle.hdc_bindings.proofs.Chaining.{last_place, with_last, chained}
use Rattle.hdc_bindings.proofs.Declaring.{grown_block}
use Rattle.hdc_bindings.proofs.Leaving.{left_again, left_block}
use Rattle.hdc_bindings.proofs.Lists.{pushed_first}
use Rattle.hdc_bindings.proofs.Qualifiers.{all_qualified, left_qualified}
use Rattle.hdc_bindings.proofs.RightSides.{plain_is, guarded_is, grown_equation, alternative_is}
use Rattle.hdc_bindings.proofs.Variants.{alt_arrow, decl_equation, operand_lambda, operand_let, rhs_equal}
use Rattle.hdc_bindings.proofs.expression.+resolve_expressions.Goals as goal

pub grow-returns-in_ok-rhs-in-Equation-clause-what : goal.grow-returns-in_ok-rhs-in-Equation-clause-what
grow-returns-in_ok-rhs-in-Equation-clause-what n c =
    let k = c.args.known.now in
    let w = c.args.walk.now in
    let h = c.in-Equation.head in
    let r = mirror.rhs_of c.in-Equation.rhs in
    let ps = mirror.head_patterns h in
    let g = grown c.args.growing.now in
    let names = ap (λ (z : Sizes). z.names) c.sizes-sizes.ensures in
    let fixities = ap (λ (z : Sizes). z.fixities) c.sizes-sizes.ensures in
    let left = left_again (all_variables ps) (behind_right_side r) w c.enter_head.new.walk c.resolve_rhs.new.walk c.leave.new.self _ _ names fixities c.in_ok-enter_head-in-Equation.ensures c.in_ok-rhs-in-Equation.ensures.moved c.leave.ensures in
    let alt = c.equation-alt.ensures ∙ ap (λ z. equation_before k z (patterns (map pattern_of c.in_ok-pats-in-Equation.pats)) (right_of c.in_ok-rhs-in-Equation.rhs)) c.first_of_head.ensures in
    on_ok_weaker c.define.result
    (λ defined.
    grown_equation by_steps k (mirror.first_of_head h) (mirror.head_name h) ps r w c.enter_head.new.walk c.leave.new.self _ (patterns (map pattern_of c.in_ok-pats-in-Equation.pats)) (right_of c.in_ok-rhs-in-Equation.rhs) (equation_of c.equation-alt.result) c.number_of.result g (grown c.define.new.self)
    c.in_ok-enter_head-in-Equation.ensures c.in_ok-pats-in-Equation.ensures c.in_ok-rhs-in-Equation.ensures.what alt left
    (c.number_of.ensures ∙ ap (λ (z : Name). variable_number c.leave.new.self.names z) c.head_name-name.ensures)
    (defined ∙ ap (λ z. with_equation z c.number_of.result (mirror.head_name h).text ps (equation_of c.equation-alt.result) g) (c.place.ensures ∙ ap (λ (z : Name). place_in k.src z.at) c.head_name-name.ensures))
    ∙ ap (λ z. declared_in by_steps k z w g) (sym (ap mirror.decl_of c.in-Equation.is ∙ decl_equation h c.in-Equation.rhs)))
    c.define.ensures

pub grow-returns-in_ok-rhs-in-Equation-clause-moved : goal.grow-returns-in_ok-rhs-in-Equation-clause-moved
grow-returns-in_ok-rhs-in-Equation-clause-moved n c =
    let w = c.args.walk.now in
    let h = c.in-Equation.head in
    let r = mirror.rhs_of c.in-Equation.rhs in
    let names = ap (λ (z : Sizes). z.names) c.sizes-sizes.ensures in
    let fixities = ap (λ (z : Sizes). z.fixities) c.sizes-sizes.ensures in
    on_ok_weaker c.define.result
    (λ defined.
    left_again (all_variables (mirror.head_patterns h)) (behind_right_side r) w c.enter_head.new.walk c.resolve_rhs.new.walk c.leave.new.self _ _ names fixities c.in_ok-enter_head-in-Equation.ensures c.in_ok-rhs-in-Equation.ensures.moved c.leave.ensures
    ∙ ap (λ z. moved (behind_declaration z w.counter) w) (sym (ap mirror.decl_of c.in-Equation.is ∙ decl_equation h c.in-Equation.rhs)))
    c.define.ensures

pub push_alt-returns-in_ok-rhs-in-Arrow-clause-what : goal.push_alt-returns-in_ok-rhs-in-Arrow-clause-what
push_alt-returns-in_ok-rhs-in-Arrow-clause-what n c =
    let k = c.args.known.now in
    let w = c.args.walk.now in
    let p = mirror.pat_of c.in-Arrow.pat in
    let e = mirror.exp_of c.get.result.now in
    let ds = mirror.where_of c.in-Arrow.local in
    let old = map equation_of c.args.alts.now in
    let right = plain_is by_steps k e ds c.enter_pat.new.walk c.enter_where.new.walk c.resolve_where.new.walk c.resolve_exp.new.walk (bound_of c.in_ok-declared-in-Arrow.declared) (expression_of c.in_ok-exp-in-Arrow.exp) (made.block_of c.in_ok-block-in-Arrow.block) (right_of c.in_ok-rhs-in-Arrow.rhs)
    c.in_ok-enter_where-in-Arrow.ensures c.in_ok-declared-in-Arrow.ensures.what c.in_ok-declared-in-Arrow.ensures.moved c.in_ok-exp-in-Arrow.ensures.what c.in_ok-exp-in-Arrow.ensures.moved c.in_ok-block-in-Arrow.ensures.what c.in_ok-rhs-in-Arrow.ensures in
    let alt = c.equation.ensures ∙ ap (λ z. equation_before k z (patterns (map pattern_of c.in_ok-pats-in-Arrow.pats)) (right_of c.in_ok-rhs-in-Arrow.rhs)) c.first_of_pat.ensures in
    on_ok_weaker c.push.result
    (λ pushed.
    alternative_is by_steps k p (plain e ds) w c.enter_pat.new.walk (patterns (map pattern_of c.in_ok-pats-in-Arrow.pats)) (right_of c.in_ok-rhs-in-Arrow.rhs) (equation_of c.equation.result) old (map equation_of c.push.new.self)
    c.in_ok-enter_pat-in-Arrow.ensures c.in_ok-pats-in-Arrow.ensures right alt
    (ap (map equation_of) pushed ∙ map-append equation_of c.args.alts.now (c.equation.result ∷ []))
    ∙ ap (λ z. old ++ alternative_in by_steps k z w) (ap (λ z. alternative p (plain (mirror.exp_of z) ds)) c.get.ensures ∙ sym (ap mirror.alt_of c.in-Arrow.is ∙ alt_arrow _ _ _ _)))
    c.push.ensures.ok

pub push_alt-returns-in_ok-rhs-in-Arrow-clause-moved : goal.push_alt-returns-in_ok-rhs-in-Arrow-clause-moved
push_alt-returns-in_ok-rhs-in-Arrow-clause-moved n c =
    let w = c.args.walk.now in
    let p = mirror.pat_of c.in-Arrow.pat in
    let e = mirror.exp_of c.get.result.now in
    let ds = mirror.where_of c.in-Arrow.local in
    let block = left_block ds (behind_expression e) c.enter_pat.new.walk c.enter_where.new.walk c.resolve_where.new.walk c.resolve_exp.new.walk c.leave_block.new.walk _ _
    (ap (λ (z : Sizes). z.names) c.sizes-inner.ensures) (ap (λ (z : Sizes). z.fixities) c.sizes-inner.ensures) c.in_ok-enter_where-in-Arrow.ensures c.in_ok-declared-in-Arrow.ensures.moved c.in_ok-exp-in-Arrow.ensures.moved c.in_ok-block-in-Arrow.ensures.moved in
    on_ok_weaker c.push.result
    (λ pushed.
    left_again (variables p) (behind_right_side (plain e ds)) w c.enter_pat.new.walk c.leave_block.new.walk c.leave.new.self _ _
    (ap (λ (z : Sizes). z.names) c.sizes-outer.ensures) (ap (λ (z : Sizes). z.fixities) c.sizes-outer.ensures) c.in_ok-enter_pat-in-Arrow.ensures block c.leave.ensures
    ∙ ap (λ z. moved (behind_alternative z w.counter) w) (ap (λ z. alternative p (plain (mirror.exp_of z) ds)) c.get.ensures ∙ sym (ap mirror.alt_of c.in-Arrow.is ∙ alt_arrow _ _ _ _)))
    c.push.ensures.ok

pub push_alt-returns-in_ok-block-in-Guarded-clause-what : goal.push_alt-returns-in_ok-block-in-Guarded-clause-what
push_alt-returns-in_ok-block-in-Guarded-clause-what n c =
    let k = c.args.known.now in
    let w = c.args.walk.now in
    let p = mirror.pat_of c.in-Guarded.pat in
    let g = mirror.arrow_guard_of c.get-in-Guarded.result.now in
    let gs = mirror.each_guard mirror.arrow_guard_of c.as_slice.result.now in
    let ds = mirror.where_of c.in-Guarded.local in
    let old = map equation_of c.args.alts.now in
    let item = c.in_ok-resolve_arrow_guard-in-Guarded.field-0 in
    let all = c.push_arrow_guards.new.guards in
    let all_are = pushed_first guard_of c.new-guards.result c.push-in-Guarded.new.self all item (guards_in by_steps k gs c.resolve_arrow_guard.new.walk) c.new-guards.ensures c.in_ok-push-in-Guarded.ensures.ok c.in_ok-push_arrow_guards-in-Guarded.ensures.what in
    let bar_is = ap (λ (z : ArrowGuard). (out-ArrowGuard z).bar) (c.get-in-Guarded-2.ensures ∙ sym c.get-in-Guarded.ensures) ∙ ap (λ (z : mirror.Guarded). z.bar) (sym (arrow_guard_parts c.get-in-Guarded.result.now)) in
    let right = guarded_is by_steps k g.bar g.condition g.value gs ds c.enter_pat-in-Guarded.new.walk c.enter_where-in-Guarded.new.walk c.resolve_where-in-Guarded.new.walk c.resolve_arrow_guard.new.walk c.push_arrow_guards.new.walk (bound_of c.in_ok-declared-in-Guarded.declared) (guard_of item) (map guard_of all) (made.block_of c.in_ok-block-in-Guarded.block) (right_of c.guarded-rhs.result)
    c.in_ok-enter_where-in-Guarded.ensures c.in_ok-declared-in-Guarded.ensures.what c.in_ok-declared-in-Guarded.ensures.moved c.in_ok-resolve_arrow_guard-in-Guarded.ensures.what c.in_ok-resolve_arrow_guard-in-Guarded.ensures.moved all_are c.in_ok-push_arrow_guards-in-Guarded.ensures.moved c.in_ok-block-in-Guarded.ensures.what
    (c.guarded-rhs.ensures ∙ ap (λ z. resolved.guarded (place_in k.src z) (made.guards_of all) (made.block_of c.in_ok-block-in-Guarded.block)) bar_is) in
    let alt = c.equation-in-Guarded.ensures ∙ ap (λ z. equation_before k z (patterns (map pattern_of c.in_ok-pats-in-Guarded.pats)) (right_of c.guarded-rhs.result)) c.first_of_pat-in-Guarded.ensures in
    on_ok_weaker c.push-in-Guarded-2.result
    (λ pushed.
    alternative_is by_steps k p (guarded g.bar (guard g.condition g.value gs) ds) w c.enter_pat-in-Guarded.new.walk (patterns (map pattern_of c.in_ok-pats-in-Guarded.pats)) (right_of c.guarded-rhs.result) (equation_of c.equation-in-Guarded.result) old (map equation_of c.push-in-Guarded-2.new.self)
    c.in_ok-enter_pat-in-Guarded.ensures c.in_ok-pats-in-Guarded.ensures right alt
    (ap (map equation_of) pushed ∙ map-append equation_of c.args.alts.now (c.equation-in-Guarded.result ∷ []))
    ∙ ap (λ z. old ++ alternative_in by_steps k z w) ((λ i. let h = mirror.arrow_guard_of (c.get-in-Guarded.ensures i) in alternative p (guarded h.bar (guard h.condition h.value (mirror.each_guard mirror.arrow_guard_of (c.as_slice.ensures i))) ds)) ∙ sym (ap mirror.alt_of c.in-Guarded.is ∙ alt_guarded _ _ _ _)))
    c.push-in-Guarded-2.ensures.ok

pub resolve_block-returns-clause-what : goal.resolve_block-returns-clause-what
resolve_block-returns-clause-what n c =
    let k = c.args.known.now in
    let w = c.args.walk.now in
    let parts = (λ i. declaration (mirror.decl_of (c.get.ensures i)) (mirror.each_declaration mirror.next_decl_of (c.as_slice.ensures i))) ∙ sym (block_parts c.args.part.now) in
    IfOk-weaker c.finish.result _ _
    (λ d finished.
    finished
    ∙ grown_block by_steps k (mirror.decl_of c.get.result.now) (mirror.each_declaration mirror.next_decl_of c.as_slice.result.now) w c.grow.new.walk (grown c.new-growing.result) (grown c.grow.new.growing) (grown c.grow_all.new.growing) c.new-growing.ensures c.in_ok-grow.ensures.what c.in_ok-grow.ensures.moved c.in_ok-grow_all.ensures.what
    ∙ ap (λ z. bound_in by_steps k z w) parts)
    c.finish.ensures

pub resolve_exp-returns-clause-what : goal.resolve_exp-returns-clause-what
resolve_exp-returns-clause-what n c =
    let k = c.args.known.now in
    let w = c.args.walk.now in
    let part = c.args.part.now in
    let ls = mirror.each_link mirror.link_of (out-Exp part).links in
    let a = mirror.operand_of (out-Exp part).last in
    let whole = chain ls (out-Exp part).sign a in
    let rest = c.as_slice-3.result.now in
    let uses = c.as_slice-4.result.now in
    let all = map placed_of c.push.new.self in
    let what = expression_of c.in_ok-what.what in
    let rest_is = c.as_slice-3.ensures ∙ c.in_ok-rest.ensures ∙ ap (rest_in w.fixities) (exp_parts part) in
    let uses_are = c.as_slice-4.ensures ∙ c.in_ok-uses.ensures ∙ ap (λ z. link_uses (mirror.each_link mirror.link_of z) k w.names) c.as_slice.ensures in
    let last_is = c.in_ok-push_links.ensures.moved ∙ ap (λ z. moved (behind_links (mirror.each_link mirror.link_of z) w.counter) w) c.as_slice-2.ensures in
    let front_is = c.in_ok-push_links.ensures.what ∙ (λ i. map placed_of (c.new-operands.ensures i) ++ placed_before by_steps k (mirror.each_link mirror.link_of (c.as_slice-2.ensures i)) w) in
    let place_is = c.operand_at-at.ensures ∙ (λ i. operand_at (exp_parts part i) (c.len.ensures i)) ∙ last_place mirror.link_of (out-Exp part).links a in
    let all_are = with_last c.push_links.new.operands c.push.new.self (record { at = c.operand_at-at.result; what = c.in_ok-what.what }) (placed_before by_steps k ls w) (first_of_operand a) what front_is c.in_ok-push.ensures.ok place_is (λ _. what) in
    IfOk-weaker c.join.result _ _
    (λ e joined.
    chained by_steps k ls (out-Exp part).sign a w c.push_links.new.walk rest uses all what (expression_of e) rest_is uses_are last_is c.in_ok-what.ensures.what all_are
    (joined ∙ ap (λ z. (by_steps k.src z rest uses all).what) (exp_parts part))
    ∙ ap (λ z. resolved_expression by_steps k z w) (sym (exp_parts part)))
    c.join.ensures

pub resolve_list_exp-returns-in_ok-quals-in-Comprehension-clause-what : goal.resolve_list_exp-returns-in_ok-quals-in-Comprehension-clause-what
resolve_list_exp-returns-in_ok-quals-in-Comprehension-clause-what n c =
    let k = c.args.known.now in
    let w = c.args.walk.now in
    let e = mirror.exp_of c.get-in-Comprehension.result.now in
    let q = mirror.qual_of c.in-Comprehension.first in
    let qs = mirror.each_qualifier mirror.comma_qual_of c.as_slice-in-Comprehension.result.now in
    let item = c.in_ok-resolve_qual-in-Comprehension.field-0 in
    let parts = c.push_comma_quals.new.parts in
    let parts_are = pushed_first part_of c.new-parts.result c.push-in-Comprehension.new.self parts item (parts_in by_steps k qs c.resolve_qual.new.walk) c.new-parts.ensures c.in_ok-push-in-Comprehension.ensures.ok c.in_ok-push_comma_quals-in-Comprehension.ensures.what in
    let all = all_qualified by_steps k q qs (resolved_expression by_steps k e) (behind_expression e) w c.resolve_qual.new.walk c.push_comma_quals.new.walk c.resolve_exp-in-Comprehension.new.walk (part_of item) (map part_of parts) (expression_of c.in_ok-whole-in-Comprehension.whole) (qualifiers_of c.in_ok-head-in-Comprehension.field-0)
    c.in_ok-resolve_qual-in-Comprehension.ensures.what c.in_ok-resolve_qual-in-Comprehension.ensures.moved parts_are c.in_ok-push_comma_quals-in-Comprehension.ensures.moved c.in_ok-whole-in-Comprehension.ensures.what c.in_ok-whole-in-Comprehension.ensures.moved c.in_ok-head-in-Comprehension.ensures in
    let is = (λ i. comprehension c.in-Comprehension.open_at (mirror.exp_of (c.get-in-Comprehension.ensures i)) (qualifier q (mirror.each_qualifier mirror.comma_qual_of (c.as_slice-in-Comprehension.ensures i)))) ∙ sym (ap mirror.list_exp_of c.in-Comprehension.is ∙ list_exp_comprehension _ _ _ _ _ _) in
    c.comprehension.ensures
    ∙ ap (resolved.comprehension (place_in k.src c.in-Comprehension.open_at)) (c.in_ok-quals-in-Comprehension.ensures.what ∙ ap (λ (z : Wrapped). z.quals) all)
    ∙ ap (λ z. resolved_operand by_steps k z w) is

pub resolve_list_exp-returns-in_ok-quals-in-Comprehension-clause-moved : goal.resolve_list_exp-returns-in_ok-quals-in-Comprehension-clause-moved
resolve_list_exp-returns-in_ok-quals-in-Comprehension-clause-moved n c =
    let k = c.args.known.now in
    let w = c.args.walk.now in
    let e = mirror.exp_of c.get-in-Comprehension.result.now in
    let q = mirror.qual_of c.in-Comprehension.first in
    let qs = mirror.each_qualifier mirror.comma_qual_of c.as_slice-in-Comprehension.result.now in
    let item = c.in_ok-resolve_qual-in-Comprehension.field-0 in
    let parts = c.push_comma_quals.new.parts in
    let parts_are = pushed_first part_of c.new-parts.result c.push-in-Comprehension.new.self parts item (parts_in by_steps k qs c.resolve_qual.new.walk) c.new-parts.ensures c.in_ok-push-in-Comprehension.ensures.ok c.in_ok-push_comma_quals-in-Comprehension.ensures.what in
    let all = all_qualified by_steps k q qs (resolved_expression by_steps k e) (behind_expression e) w c.resolve_qual.new.walk c.push_comma_quals.new.walk c.resolve_exp-in-Comprehension.new.walk (part_of item) (map part_of parts) (expression_of c.in_ok-whole-in-Comprehension.whole) (qualifiers_of c.in_ok-head-in-Comprehension.field-0)
    c.in_ok-resolve_qual-in-Comprehension.ensures.what c.in_ok-resolve_qual-in-Comprehension.ensures.moved parts_are c.in_ok-push_comma_quals-in-Comprehension.ensures.moved c.in_ok-whole-in-Comprehension.ensures.what c.in_ok-whole-in-Comprehension.ensures.moved c.in_ok-head-in-Comprehension.ensures in
    let is = (λ i. comprehension c.in-Comprehension.open_at (mirror.exp_of (c.get-in-Comprehension.ensures i)) (qualifier q (mirror.each_qualifier mirror.comma_qual_of (c.as_slice-in-Comprehension.ensures i)))) ∙ sym (ap mirror.list_exp_of c.in-Comprehension.is ∙ list_exp_comprehension _ _ _ _ _ _) in
    left_qualified by_steps k q qs (resolved_expression by_steps k e) (behind_expression e) w c.resolve_qual.new.walk c.push_comma_quals.new.walk c.resolve_exp-in-Comprehension.new.walk c.wrap_all.new.walk c.leave.new.self _ _ _
    (ap (λ (z : Sizes). z.names) c.sizes-sizes.ensures) (ap (λ (z : Sizes). z.fixities) c.sizes-sizes.ensures) c.in_ok-resolve_qual-in-Comprehension.ensures.moved c.in_ok-push_comma_quals-in-Comprehension.ensures.moved c.in_ok-whole-in-Comprehension.ensures.moved c.in_ok-quals-in-Comprehension.ensures.moved c.leave.ensures
    ∙ ap (λ (z : Wrapped). moved z.counter w) all
    ∙ ap (λ z. moved (behind_operand z w.counter) w) is

pub resolve_operand-returns-in_ok-body-in-Lambda-clause-moved : goal.resolve_operand-returns-in_ok-body-in-Lambda-clause-moved
resolve_operand-returns-in_ok-body-in-Lambda-clause-moved n c =
    let w = c.args.walk.now in
    let ps = pattern (mirror.apat_of c.in-Lambda.first) (mirror.each_pattern mirror.apat_of c.as_slice.result.now) in
    let e = mirror.exp_of c.get.result.now in
    IfOk-weaker c.lambda.result _ _
    (λ x made.
    left_again (all_variables ps) (behind_expression e) w c.open_lambda.new.walk c.resolve_exp.new.walk c.leave.new.self _ _
    (ap (λ (z : Sizes). z.names) c.in_ok-sizes-in-Lambda.ensures.sizes) (ap (λ (z : Sizes). z.fixities) c.in_ok-sizes-in-Lambda.ensures.sizes) c.in_ok-sizes-in-Lambda.ensures.moved c.in_ok-body-in-Lambda.ensures.moved c.leave.ensures
    ∙ ap (λ z. moved (behind_operand z w.counter) w) ((λ i. lambda c.in-Lambda.at (pattern (mirror.apat_of c.in-Lambda.first) (mirror.each_pattern mirror.apat_of (c.as_slice.ensures i))) (mirror.exp_of (c.get.ensures i))) ∙ sym (ap mirror.operand_of c.in-Lambda.is ∙ operand_lambda _ _ _ _ _)))
    c.lambda.ensures

pub resolve_operand-returns-in_ok-block-in-Let-clause-moved : goal.resolve_operand-returns-in_ok-block-in-Let-clause-moved
resolve_operand-returns-in_ok-block-in-Let-clause-moved n c =
    let w = c.args.walk.now in
    let ds = mirror.block_of c.in-Let.block in
    let e = mirror.exp_of c.get-in-Let.result.now in
    IfOk-weaker c.let_in.result _ _
    (λ x made.
    left_block ds (behind_expression e) w c.open_block.new.walk c.resolve_block.new.walk c.resolve_exp-in-Let.new.walk c.leave_block.new.walk _ _
    (ap (λ (z : Sizes). z.names) c.in_ok-sizes-in-Let.ensures.sizes) (ap (λ (z : Sizes). z.fixities) c.in_ok-sizes-in-Let.ensures.sizes) c.in_ok-sizes-in-Let.ensures.moved c.in_ok-declared-in-Let.ensures.moved c.in_ok-body-in-Let.ensures.moved c.in_ok-block-in-Let.ensures.moved
    ∙ ap (λ z. moved (behind_operand z w.counter) w) (ap (λ z. let_in c.in-Let.at ds (mirror.exp_of z)) c.get-in-Let.ensures ∙ sym (ap mirror.operand_of c.in-Let.is ∙ operand_let _ _ _ _)))
    c.let_in.ensures

pub resolve_rhs-returns-in_ok-block-in-Equal-clause-moved : goal.resolve_rhs-returns-in_ok-block-in-Equal-clause-moved
resolve_rhs-returns-in_ok-block-in-Equal-clause-moved n c =
    let w = c.args.walk.now in
    let ds = mirror.where_of c.in-Equal.local in
    let e = mirror.exp_of c.get.result.now in
    IfOk-weaker c.plain.result _ _
    (λ x made.
    left_block ds (behind_expression e) w c.enter_where.new.walk c.resolve_where.new.walk c.resolve_exp.new.walk c.leave_block.new.walk _ _
    (ap (λ (z : Sizes). z.names) c.sizes-sizes.ensures) (ap (λ (z : Sizes). z.fixities) c.sizes-sizes.ensures) c.in_ok-enter_where-in-Equal.ensures c.in_ok-declared-in-Equal.ensures.moved c.in_ok-exp-in-Equal.ensures.moved c.in_ok-block-in-Equal.ensures.moved
    ∙ ap (λ z. moved (behind_right_side z w.counter) w) (ap (λ z. plain (mirror.exp_of z) ds) c.get.ensures ∙ sym (ap mirror.rhs_of c.in-Equal.is ∙ rhs_equal _ _ _)))
    c.plain.ensures
