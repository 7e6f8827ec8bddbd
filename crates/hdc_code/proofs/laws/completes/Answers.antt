use Rattle.hdc_code.proofs.Paths.{path_sound}
use Rattle.hdc_code.proofs.laws.completes.Goals as goal

pub returns : goal.returns
returns c = path_sound
