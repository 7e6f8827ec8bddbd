use Rattle.hdc_names.proofs.Building.{no_tree}
use Rattle.hdc_names.proofs.laws.no_tree_behind.Goals as goal

pub returns : goal.returns
returns c = no_tree
