use Rattle.std.proofs.Common.{slice_index}
use Rattle.hdc_order.specs.Kept.{is_value_at}
use Rattle.hdc_order.proofs.Grouping.{kept_one}
use Rattle.hdc_order.proofs.keep.keep_values.Goals as goal

pub loop-index-preserved : goal.loop-index-preserved
loop-index-preserved c =
    kept_one (slice_index c.args.nodes.now) (is_value_at c.args.nodes.now c.args.values.now) c.args.groups.now c.loop-index.index c.loop-index.kept c.keep_group.new.kept (rw c.len-index-end.ensures at c.loop-index-test.true) c.loop-index.invariant (rw c.group.ensures at c.in_ok-keep_group.ensures)
