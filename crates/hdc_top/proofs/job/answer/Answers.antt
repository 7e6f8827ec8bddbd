use Rattle.std.proofs.Common.{refl, subst}
use Rattle.hdc_top.specs.Due.{IsDueFor}
use Rattle.hdc_top.proofs.Dues.{usage_due, text_due, long_due}
use Rattle.hdc_top.proofs.job.answer.Goals as goal

pub returns-in_default-clause-due : goal.returns-in_default-clause-due
returns-in_default-clause-due g c = usage_due _ _ _ _ c.in_default.ensures c.in_ok-usage.ensures.status c.in_ok-usage.ensures.text

pub returns-in-Whole-clause-due : goal.returns-in-Whole-clause-due
returns-in-Whole-clause-due g c =
    let d = c.in_ok-answer_text-in-Whole.field-0 in
    let due = subst (λ text. IsDueFor text d.status d.text) c.as_slice.ensures.value c.in_ok-answer_text-in-Whole.ensures in
    text_due _ _ c.in-Some.file.now c.load.new.into.items _ _ c.in-Some.ensures (c.in-Whole.ensures.whole refl) due

pub returns-in-Long-clause-due : goal.returns-in-Long-clause-due
returns-in-Long-clause-due g c = long_due _ _ c.in-Some.file.now _ _ c.in-Some.ensures (c.in-Long.ensures.long refl) c.in_ok-too_long-in-Long.ensures.status c.in_ok-too_long-in-Long.ensures.text
