use Rattle.hdc_layout.proofs.Found.{comma_paren, comma_bracket}
use Rattle.hdc_layout.proofs.summary.finds.Goals as goal

pub returns-then-summary : goal.returns-then-summary
returns-then-summary c = λ stack e. comma_paren stack c.args.summary c.args.answer c.in-Comma.is e c.if-summary.true

pub returns-else-summary : goal.returns-else-summary
returns-else-summary c = λ stack e. comma_bracket stack c.args.summary c.args.answer c.in-Comma.is e c.if-summary.false
