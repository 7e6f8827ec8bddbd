use Rattle.std.proofs.Common.{◌≡◌, ◌++◌, drop}
use Rattle.hdc_written.specs.Mirror.{each_declaration, next_decl_of}
use Rattle.hdc_rules.specs.Bindings.{bindings_of}
use Rattle.hdc_rules.proofs.block.add_next_bound.Given as goal

abbrev pub invariant-loop-part : goal.invariant-loop-part
invariant-loop-part l = l.initial.names ++ bindings_of l.initial.going (each_declaration next_decl_of l.parts) ≡ l.names ++ bindings_of l.going (each_declaration next_decl_of (drop l.part-index l.parts))
