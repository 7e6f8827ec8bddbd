use Rattle.hdc_nesting.proofs.Bounds.{nesting_at_most}
use Rattle.hdc_nesting.proofs.laws.at_most_the_tokens_before.Goals as goal

pub returns : goal.returns
returns c = nesting_at_most
