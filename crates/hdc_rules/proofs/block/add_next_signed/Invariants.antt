use Rattle.std.proofs.Common.{◌≡◌, ◌++◌, drop}
use Rattle.hdc_written.specs.Mirror.{each_declaration, next_decl_of}
use Rattle.hdc_rules.specs.Bindings.{signed_in}
use Rattle.hdc_rules.proofs.block.add_next_signed.Given as goal

abbrev pub invariant-loop-part : goal.invariant-loop-part
invariant-loop-part l = l.initial.names ++ signed_in (each_declaration next_decl_of l.parts) ≡ l.names ++ signed_in (each_declaration next_decl_of (drop l.part-index l.parts))
