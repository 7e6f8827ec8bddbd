use Rattle.std.proofs.lemmas.Result.{on_ok_weaker}
use Rattle.hdc_top.proofs.blocks.add_orders.Goals as goal

pub returns : goal.returns
returns c = on_ok_weaker c.push_orders.result (λ pushed. record { found = c.in_ok-found.found; ordered = c.in_ok-found.ensures; behind = pushed }) c.push_orders.ensures
