use Rattle.std.proofs.Common.{[]}
use Rattle.hdc_written.specs.Mirror.{tops_of}
use Rattle.hdc_needs.specs.Walk.{going}
use Rattle.hdc_needs.proofs.Describing.{orders_of}
use Rattle.hdc_needs.proofs.orders.find_orders.Goals as goal

pub returns : goal.returns
returns c = orders_of c.run_tree.new.self (tops_of c.args.tree.now) (c.in_ok-run_tree.ensures (going [] []) c.new-walk.ensures)
