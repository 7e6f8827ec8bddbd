use Rattle.hdc_regular.proofs.AllFound.{all_is_found}
use Rattle.hdc_regular.proofs.laws.finds_all.Goals as goal

pub returns : goal.returns
returns c = all_is_found
