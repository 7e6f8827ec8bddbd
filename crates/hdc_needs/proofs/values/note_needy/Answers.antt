use Rattle.hdc_needs.specs.Kept.{declarations_of}
use Rattle.hdc_needs.proofs.Noting.{are_noted}
use Rattle.hdc_needs.proofs.Results.{ok_then}
use Rattle.hdc_needs.proofs.values.note_needy.Goals as goal

pub returns : goal.returns
returns c = ok_then c.note_values.result (are_noted c.args.block.now.graph c.in_ok-components.components.cyclic (declarations_of c.args.block.now.declarations) c.args.found.now c.note_values.new.found c.in_ok-components.ensures.cyclic) (rw c.as_slice.ensures at c.note_values.ensures)
