use Rattle.std.proofs.Common.{◌≡◌, drop}
use Rattle.hdc_written.specs.Breaches.{all_noted}
use Rattle.hdc_written.specs.Mirror.{each_declaration, next_decl_of}
use Rattle.hdc_rules.specs.Bindings.{local_signatures}
use Rattle.hdc_rules.proofs.block.note_next_signatures.Given as goal

abbrev pub invariant-loop-part : goal.invariant-loop-part
invariant-loop-part l = all_noted l.initial.found (local_signatures l.types (each_declaration next_decl_of l.parts)) ≡ all_noted l.found (local_signatures l.types (each_declaration next_decl_of (drop l.part-index l.parts)))
