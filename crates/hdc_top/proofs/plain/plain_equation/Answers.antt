use Rattle.std.proofs.Common.{◌≡◌, None, Some, MatchOption, sym, ap, subst, ◌∙◌}
use Rattle.hdc_resolved.specs.Mirror.{equations_of, expression_of}
use Rattle.hdc_top.specs.Main.{plain_equation}
use Rattle.hdc_top.proofs.PlainBindings.{further_equation, has_patterns, one_equation, denied}
use Rattle.hdc_top.proofs.plain.plain_equation.Goals as goal

pub returns-then-not-is_empty : goal.returns-then-not-is_empty
returns-then-not-is_empty c =
    ap (λ es. plain_equation (equations_of es)) c.in_ok-first.ensures.cases.0
    ∙ further_equation c.in_ok-first.first.now c.in_ok-first.rest.now (sym c.is_empty.ensures ∙ c.if-not-is_empty.true)

pub returns-then-not-is_empty-2 : goal.returns-then-not-is_empty-2
returns-then-not-is_empty-2 c =
    ap (λ es. plain_equation (equations_of es)) c.in_ok-first.ensures.cases.0
    ∙ has_patterns c.in_ok-first.first.now c.in_ok-first.rest.now (denied c.is_empty-2.result c.if-not-is_empty-2.true c.is_empty-2.ensures.1)

pub returns : goal.returns
returns c =
    let one = one_equation c.in_ok-first.first.now c.in_ok-first.rest.now (sym c.is_empty.ensures ∙ c.if-not-is_empty.false) (c.is_empty-2.ensures.0 c.if-not-is_empty-2.false) in
    subst (λ o. MatchOption c.plain_side.result (o ≡ None) (λ e. o ≡ Some (expression_of e.now))) (sym (ap (λ es. plain_equation (equations_of es)) c.in_ok-first.ensures.cases.0 ∙ one)) c.plain_side.ensures
