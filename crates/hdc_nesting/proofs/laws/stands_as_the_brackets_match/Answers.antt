use Rattle.hdc_nesting.proofs.Standing.{insides_stand}
use Rattle.hdc_nesting.proofs.laws.stands_as_the_brackets_match.Goals as goal

pub returns : goal.returns
returns c = insides_stand
