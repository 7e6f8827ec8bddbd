use Rattle.std.proofs.Common.{◌≡◌, slice_index, map, take}
use Rattle.hdc_order.specs.Kept.{is_value_at, kept_of}
use Rattle.hdc_order.proofs.keep.keep_values.Given as goal

abbrev pub invariant-loop-index : goal.invariant-loop-index
invariant-loop-index l = l.kept ≡ map (slice_index l.nodes) (kept_of (is_value_at l.nodes l.values) (take l.index l.groups))
