use Rattle.std.proofs.Common.{◌≡◌, ◌++◌, drop}
use Rattle.hdc_written.specs.Mirror.{each_declaration, next_decl_of}
use Rattle.hdc_needs.specs.Orders.{values_in}
use Rattle.hdc_needs.proofs.block_order.add_values.Given as goal

abbrev pub invariant-loop-part : goal.invariant-loop-part
invariant-loop-part l = l.initial.values ++ values_in (each_declaration next_decl_of l.parts) ≡ l.values ++ values_in (each_declaration next_decl_of (drop l.part-index l.parts))
