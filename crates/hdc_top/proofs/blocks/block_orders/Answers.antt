use Rattle.hdc_written.specs.Mirror.{tops_of}
use Rattle.hdc_needs.specs.Needy.{text_blocks}
use Rattle.hdc_top.proofs.Ordered.{both_added}
use Rattle.hdc_top.proofs.blocks.block_orders.Goals as goal

pub returns : goal.returns
returns c = both_added (text_blocks (tops_of c.args.prelude.now)) (text_blocks (tops_of c.args.program.now)) c.new-orders.result c.add_orders.new.orders c.add_orders-2.new.orders c.new-orders.ensures c.in_ok-add_orders.ensures c.in_ok-add_orders-2.ensures
