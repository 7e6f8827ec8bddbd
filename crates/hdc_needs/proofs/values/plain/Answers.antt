use Rattle.hdc_needs.proofs.Noting.{not_plain}
use Rattle.hdc_needs.proofs.values.plain.Goals as goal

pub returns-else-params-eq0 : goal.returns-else-params-eq0
returns-else-params-eq0 c = not_plain c.args.at c.args.params.now c.if-params-eq0.false
