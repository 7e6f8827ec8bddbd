use Rattle.std.proofs.Common.{sym, ap, ◌∷◌, ◌∙◌}
use Rattle.hdc_layout.specs.declared.role.Opener.TheVariants as opener
use Rattle.hdc_layout.specs.declared.summary.Entry.TheVariants as entry
use Rattle.hdc_layout.proofs.Closing.{then_taken}
use Rattle.hdc_layout.proofs.rules.Layout.take_answer.Goals as goal

pub returns-in_ok-push-in-Then : goal.returns-in_ok-push-in-Then
returns-in_ok-push-in-Then c =
    sym (then_taken c.args.self.now c.close.new.self c.args.answer c.args.at c.push.new.self c.remove_top.new.self.laid c.in-Then.is (sym c.finds.ensures ∙ c.if-not-finds.false) c.in_ok-close.ensures c.remove_top.ensures.laid (c.in_ok-push-in-Then.ensures ∙ ap (λ st. entry.Opener opener.Then ∷ st) c.remove_top.ensures.stack))
