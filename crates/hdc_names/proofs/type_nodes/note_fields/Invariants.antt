use Rattle.std.proofs.Common.{◌≡◌, drop}
use Rattle.hdc_names.specs.Sites.{field_nodes}
use Rattle.hdc_names.specs.Trees.{all_found}
use Rattle.hdc_names.proofs.type_nodes.note_fields.Given as goal

abbrev pub invariant-loop-part : goal.invariant-loop-part
invariant-loop-part l = all_found l.initial.found (field_nodes l.parts) ≡ all_found l.found (field_nodes (drop l.part-index l.parts))
