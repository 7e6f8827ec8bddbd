use Rattle.hdc_graph.proofs.OneOrder.{one_order}
use Rattle.hdc_graph.proofs.laws.one_order.Goals as goal

pub returns : goal.returns
returns c = λ graph first second. one_order graph first second
