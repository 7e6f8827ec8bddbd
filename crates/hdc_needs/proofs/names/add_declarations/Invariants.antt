use Rattle.std.proofs.Common.{◌≡◌, ◌+◌, ◌++◌, drop, map}
use Rattle.hdc_written.specs.Mirror.{each_declaration, next_decl_of}
use Rattle.hdc_needs.specs.Binders.{bound_from}
use Rattle.hdc_needs.specs.Kept.{mention_of}
use Rattle.hdc_needs.proofs.names.add_declarations.Given as goal

abbrev pub invariant-loop-part : goal.invariant-loop-part
invariant-loop-part l = map mention_of l.initial.names ++ bound_from 1 (each_declaration next_decl_of l.parts) ≡ map mention_of l.names ++ bound_from (l.number + 1) (each_declaration next_decl_of (drop l.part-index l.parts))
