use Rattle.std.proofs.Common.{◌≡◌, ◌+◌, drop}
use Rattle.hdc_written.specs.Breaches.{all_noted}
use Rattle.hdc_written.specs.Mirror.{each_declaration, next_decl_of}
use Rattle.hdc_needs.specs.Values.{needy_values}
use Rattle.hdc_needs.proofs.values.note_next_values.Given as goal

abbrev pub invariant-loop-part : goal.invariant-loop-part
invariant-loop-part l = all_noted l.initial.found (needy_values l.cyclic 1 (each_declaration next_decl_of l.parts)) ≡ all_noted l.found (needy_values l.cyclic (l.number + 1) (each_declaration next_decl_of (drop l.part-index l.parts)))
