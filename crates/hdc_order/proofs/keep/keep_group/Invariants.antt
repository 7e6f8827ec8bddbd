use Rattle.std.proofs.Common.{◌≡◌, ◌++◌, slice_index, map, filter, take}
use Rattle.hdc_order.specs.Kept.{is_value_at}
use Rattle.hdc_order.proofs.keep.keep_group.Given as goal

abbrev pub invariant-loop-place : goal.invariant-loop-place
invariant-loop-place l = l.kept ≡ l.initial.kept ++ map (slice_index l.nodes) (filter (is_value_at l.nodes l.values) (take l.place-index l.group))
