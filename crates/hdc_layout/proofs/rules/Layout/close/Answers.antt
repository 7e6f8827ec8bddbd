use Rattle.std.proofs.Common.{sym, ◌∙◌}
use Rattle.hdc_layout.specs.Progress.{removes}
use Rattle.hdc_layout.proofs.Closing.{closed}
use Rattle.hdc_layout.proofs.rules.Layout.close.Goals as goal

pub returns : goal.returns
returns c = sym (closed (removes c.args.cause) c.args.at c.loop-cause.self (sym c.removes.ensures ∙ c.loop-cause-test.false)) ∙ c.loop-cause.invariant
