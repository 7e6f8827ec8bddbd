use Rattle.std.proofs.Common.{◌≡◌, filter}
use Rattle.std.specs.Prelude.{not}
use Rattle.std.specs.List.{range_with_len}
use Rattle.hdc_order.specs.Order.{is_value}
use Rattle.hdc_order.proofs.places.functions_first.Given as goal

abbrev pub invariant-loop-node : goal.invariant-loop-node
invariant-loop-node l = record {
  functions : l.nodes ≡ filter (λ node. not (is_value l.values node)) (range_with_len 0 l.node);
  values : l.behind ≡ filter (is_value l.values) (range_with_len 0 l.node);
}
