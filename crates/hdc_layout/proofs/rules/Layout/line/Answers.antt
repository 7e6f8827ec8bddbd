use Rattle.std.proofs.Common.{sym, ap, ◌∙◌}
use Rattle.hdc_layout.specs.Progress.{removes}
use Rattle.hdc_layout.specs.Rules.{close_while, is_at}
use Rattle.hdc_layout.specs.declared.rules.Cause.TheVariants as cause
use Rattle.hdc_layout.proofs.Closing.{lined}
use Rattle.hdc_layout.proofs.rules.Layout.line.Goals as goal

pub returns-in_ok-insert : goal.returns-in_ok-insert
returns-in_ok-insert c =
    lined c.args.self.now c.close.new.self c.insert.new.self c.args.column c.args.at (close_while (removes (cause.Line c.args.column c.args.before_where)) c.args.at c.args.self.now.stack) c.in_ok-close.ensures (ap (is_at c.args.column) (sym c.current.ensures) ∙ sym c.is_at.ensures ∙ c.if-is_at.true) c.in_ok-insert.ensures
