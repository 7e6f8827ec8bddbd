use Rattle.std.proofs.Common.{sym, ◌∙◌}
use Rattle.hdc_layout.proofs.Closing.{finish_none, finish_some}
use Rattle.hdc_layout.proofs.rules.Layout.finish.Goals as goal

pub returns-in-Some : goal.returns-in-Some
returns-in-Some c = finish_some c.args.self c.close.new.self c.args.end c.in-Some.field-0 c.in_ok-close.ensures (sym c.top.ensures ∙ c.in-Some.is)

pub returns-in-None : goal.returns-in-None
returns-in-None c = finish_none c.args.self c.close.new.self c.args.end c.in_ok-close.ensures (sym c.top.ensures ∙ c.in-None.is)
