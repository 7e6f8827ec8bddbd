use Rattle.hdc_numbers.proofs.Binders.{all_anew}
use Rattle.hdc_numbers.proofs.laws.numbers_are_bound_once.Goals as goal

pub returns : goal.returns
returns c = all_anew
