use Rattle.hdc_layout.proofs.Kept.{all_placed}
use Rattle.hdc_layout.proofs.laws.places_inserted.Goals as goal

pub returns : goal.returns
returns c = all_placed
