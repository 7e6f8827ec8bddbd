use Rattle.std.proofs.Common.{sym, ap, ◌∙◌, arith}
use Rattle.hdc_written.specs.Breaches.{all_noted}
use Rattle.hdc_written.specs.Mirror.{each_declaration, next_decl_of}
use Rattle.hdc_written.proofs.ExpressionMirror.{next_decl_parts}
use Rattle.hdc_rules.specs.Bindings.{local_signatures}
use Rattle.hdc_rules.specs.Adjacent.{signature_breaches}
use Rattle.hdc_rules.proofs.Adjacent.{signatures_split}
use Rattle.hdc_rules.proofs.Loops.{next_each}
use Rattle.hdc_rules.proofs.block.note_next_signatures.Goals as goal

pub loop-part-preserved : goal.loop-part-preserved
loop-part-preserved c =
    let test = c.loop-part-test.true in
    next_each (λ xs. local_signatures c.args.types.now (each_declaration next_decl_of xs)) (λ x. signature_breaches c.args.types.now (next_decl_of x)) (λ x xs. signatures_split c.args.types.now (next_decl_of x) (each_declaration next_decl_of xs)) c.args.parts.now c.loop-part.part-index c.part-item.result c.args.found.now c.loop-part.found c.note_signature_at.new.found c.loop-part.invariant (omega (arith, test)) c.part-item.is (c.in_ok-note_signature_at.ensures ∙ ap (λ z. all_noted c.loop-part.found (signature_breaches c.args.types.now z)) (sym (next_decl_parts c.part-item.result)))
