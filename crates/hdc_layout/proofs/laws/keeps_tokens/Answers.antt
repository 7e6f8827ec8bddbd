use Rattle.hdc_layout.proofs.Kept.{all_kept}
use Rattle.hdc_layout.proofs.laws.keeps_tokens.Goals as goal

pub returns : goal.returns
returns c = all_kept
