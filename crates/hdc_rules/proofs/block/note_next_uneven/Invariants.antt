use Rattle.std.proofs.Common.{◌≡◌, drop}
use Rattle.hdc_written.specs.Breaches.{all_noted}
use Rattle.hdc_written.specs.Mirror.{each_declaration, next_decl_of}
use Rattle.hdc_rules.specs.Bindings.{uneven_equations}
use Rattle.hdc_rules.proofs.block.note_next_uneven.Given as goal

abbrev pub invariant-loop-part : goal.invariant-loop-part
invariant-loop-part l = all_noted l.initial.found (uneven_equations l.initial.going (each_declaration next_decl_of l.parts)) ≡ all_noted l.found (uneven_equations l.going (each_declaration next_decl_of (drop l.part-index l.parts)))
