use Rattle.std.proofs.Common.{sym, ap, ◌∙◌}
use Rattle.hdc_layout.specs.Blocks.{is_explicit}
use Rattle.hdc_layout.proofs.Closing.{brace_taken}
use Rattle.hdc_layout.proofs.rules.Layout.role.Goals as goal

pub returns-in_ok-close-in-CloseBrace : goal.returns-in_ok-close-in-CloseBrace
returns-in_ok-close-in-CloseBrace c =
    brace_taken c.args.self.now c.close.new.self c.remove_top.new.self c.args.role c.args.at c.in-CloseBrace.is (ap is_explicit (sym c.current.ensures) ∙ sym c.is_explicit.ensures ∙ c.if-not-is_explicit.false) c.in_ok-close-in-CloseBrace.ensures c.remove_top.ensures.laid c.remove_top.ensures.stack
