use Rattle.hdc_bindings.proofs.Congruence.{same_text}
use Rattle.hdc_bindings.proofs.laws.as_trees.Goals as goal

pub returns : goal.returns
returns c = same_text
