use Rattle.hdc_order.proofs.Taking.{one_order}
use Rattle.hdc_order.proofs.laws.one_order_of_values.Goals as goal

pub returns : goal.returns
returns c = one_order
