use Rattle.std.proofs.Common.{◌≡◌, drop}
use Rattle.hdc_written.specs.Mirror.{tops_behind}
use Rattle.hdc_bindings.specs.Defined.{defining, all_defined_in}
use Rattle.hdc_resolving.specs.Grouped.{by_steps}
use Rattle.hdc_resolving.specs.Numbering as numbering
use Rattle.hdc_bindings.specs.Tops.{behind_text}
use Rattle.hdc_bindings.proofs.tops.resolve_tops.Given as goal

abbrev pub invariant-loop-part : goal.invariant-loop-part
invariant-loop-part l = record {
  what : all_defined_in by_steps l.known (tops_behind l.parts) l.initial.walk (defining l.initial.defining) ≡ all_defined_in by_steps l.known (tops_behind (drop l.part-index l.parts)) l.walk (defining l.defining);
  moved : numbering.moved (behind_text (tops_behind l.parts) l.initial.walk.counter) l.initial.walk ≡ numbering.moved (behind_text (tops_behind (drop l.part-index l.parts)) l.walk.counter) l.walk;
}
