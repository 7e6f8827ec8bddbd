use Rattle.hdc_names.specs.Chain.{pieces}
use Rattle.hdc_names.proofs.Grouping.{one_tree}
use Rattle.hdc_names.proofs.laws.one_tree.Goals as goal

pub returns : goal.returns
returns c = λ signed rest first second. one_tree (λ o. o.fixity) (pieces signed rest) first second
