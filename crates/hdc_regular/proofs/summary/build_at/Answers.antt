use Rattle.std.proofs.Common.{◌≤◌, ◌∙◌, false, get_or, ap, sym, subst, arith}
use Rattle.std.specs.Result.{IfOk}
use Rattle.hdc_regular.specs.Passes.{IsBody}
use Rattle.hdc_regular.proofs.Steps.{texts_before, texts_there}
use Rattle.hdc_regular.proofs.summary.build_at.Goals as goal

pub returns-then-number-count : goal.returns-then-number-count
returns-then-number-count c =
    subst (λ z. IfOk c.build_before.result (λ b. IsBody b z)) (sym (texts_before c.args.outlines.now c.args.texts.now c.args.number c.flag-is_sound.result c.requires c.if-number-count.true (c.flag-is_sound.ensures ∙ ap (λ z. get_or z c.args.number false) c.as_slice.ensures))) c.build_before.ensures

pub returns : goal.returns
returns c =
    let le : c.args.texts.now.count ≤ c.args.number = omega arith in
    subst (λ z. IfOk c.build_in.result (λ b. IsBody b z)) (sym (texts_there c.args.outlines.now c.args.texts.now c.args.number c.flag-is_sound.result c.requires le (c.flag-is_sound.ensures ∙ ap (λ z. get_or z c.args.number false) c.as_slice.ensures))) c.build_in.ensures
