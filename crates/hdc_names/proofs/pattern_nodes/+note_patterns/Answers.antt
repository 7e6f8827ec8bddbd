use Rattle.std.proofs.Common.{◌+◌, refl, sym, ap, ◌∙◌, arith}
use Rattle.hdc_tree.specs.declared.pattern.ConsPat.{ConsPat, out-ConsPat}
use Rattle.hdc_written.specs.Firsts.{first_of_pattern}
use Rattle.hdc_names.specs.Trees.{all_found}
use Rattle.hdc_written.specs.Mirror.{each_pattern, apat_of, left_pat_of, comma_pat_of, cons_pat_of}
use Rattle.hdc_names.specs.Sites.{follow, each_pattern_nodes, pattern_nodes}
use Rattle.hdc_written.proofs.PatternMirror.{comma_pat_parts, cons_pat_parts}
use Rattle.hdc_written.proofs.Loops.{rest_slice}
use Rattle.hdc_names.proofs.Loops.{next_found, next_cons}
use Rattle.hdc_names.proofs.pattern_nodes.+note_patterns.Goals as goal

pub note_apats-loop-part-preserved : goal.note_apats-loop-part-preserved
note_apats-loop-part-preserved t c =
    let test = c.loop-part-test.true in
    next_found (λ xs. each_pattern_nodes c.args.depth (each_pattern apat_of xs)) (λ x. pattern_nodes c.args.depth (apat_of x)) (λ x xs. refl) c.args.parts.now c.loop-part.part-index c.part-item.result _ c.args.found.now c.loop-part.found c.note_apat.new.found c.loop-part.invariant (omega (arith, test)) c.part-item.is refl c.in_ok-note_apat.ensures

pub note_comma_pats-loop-part-preserved : goal.note_comma_pats-loop-part-preserved
note_comma_pats-loop-part-preserved t c =
    let test = c.loop-part-test.true in
    next_found (λ xs. each_pattern_nodes c.args.depth (each_pattern comma_pat_of xs)) (λ x. pattern_nodes c.args.depth (comma_pat_of x)) (λ x xs. refl) c.args.parts.now c.loop-part.part-index c.part-item.result _ c.args.found.now c.loop-part.found c.note_pat.new.found c.loop-part.invariant (omega (arith, test)) c.part-item.is (ap (pattern_nodes c.args.depth) (comma_pat_parts c.part-item.result)) c.in_ok-note_pat.ensures

pub note_cons_pats-loop-index-preserved : goal.note_cons_pats-loop-index-preserved
note_cons_pats-loop-index-preserved t c =
    let test = c.loop-index-test.true in
    next_cons c.args.parts.now c.loop-index.index c.args.depth c.loop-index.depth c.in_ok-depth.depth c.in_ok-inner.inner c.index-parts-index.result _ _ _ c.args.found.now c.loop-index.found c.note_joined.new.found c.note_left_pat.new.found c.loop-index.invariant (omega (arith, test)) c.index-parts-index.is (cons_pat_parts c.index-parts-index.result) (c.follow-follows.ensures ∙ ap (λ z. follow (each_pattern cons_pat_of z)) (rest_slice c.args.parts.now (c.loop-index.index + 1))) (c.first_of_left_pat.ensures ∙ ap (λ (z : ConsPat). first_of_pattern (left_pat_of (out-ConsPat z).pat)) (sym c.index-parts-index.is)) c.in_ok-inner.ensures.depth c.in_ok-inner.ensures.noted (c.in_ok-note_left_pat.ensures ∙ ap (λ (z : ConsPat). all_found c.note_joined.new.found (pattern_nodes c.in_ok-inner.inner (left_pat_of (out-ConsPat z).pat))) (sym c.index-parts-index.is)) c.in_ok-depth.ensures
