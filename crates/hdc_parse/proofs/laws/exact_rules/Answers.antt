use Rattle.hdc_parse.proofs.ExactRules.{exact_rules}
use Rattle.hdc_parse.proofs.laws.exact_rules.Goals as goal

pub returns : goal.returns
returns c = exact_rules
