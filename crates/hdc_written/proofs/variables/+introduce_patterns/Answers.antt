use Rattle.std.proofs.Common.{refl, ap, arith}
use Rattle.hdc_written.specs.Events.{each_introduced}
use Rattle.hdc_written.specs.Recorded.{recorded}
use Rattle.hdc_written.specs.Written.{variables, all_variables}
use Rattle.hdc_written.specs.Mirror.{each_pattern, apat_of, comma_pat_of, cons_pat_of}
use Rattle.hdc_written.proofs.PatternMirror.{comma_pat_parts, cons_pat_parts}
use Rattle.hdc_written.proofs.Listing.{introduced_joined}
use Rattle.hdc_written.proofs.Loops.{next_listed}
use Rattle.hdc_written.proofs.variables.+introduce_patterns.Goals as goal

pub introduce_apats-loop-part-preserved : goal.introduce_apats-loop-part-preserved
introduce_apats-loop-part-preserved t c =
    let test = c.loop-part-test.true in
    next_listed (λ xs. each_introduced (all_variables (each_pattern apat_of xs))) (λ x. each_introduced (variables (apat_of x))) (λ x xs. introduced_joined (variables (apat_of x)) (all_variables (each_pattern apat_of xs))) c.args.parts.now c.loop-part.part-index c.part-item.result _ (recorded c.args.events.now) (recorded c.loop-part.events) (recorded c.introduce_apat.new.events) c.loop-part.invariant (omega (arith, test)) c.part-item.is refl c.in_ok-introduce_apat.ensures

pub introduce_comma_pats-loop-part-preserved : goal.introduce_comma_pats-loop-part-preserved
introduce_comma_pats-loop-part-preserved t c =
    let test = c.loop-part-test.true in
    next_listed (λ xs. each_introduced (all_variables (each_pattern comma_pat_of xs))) (λ x. each_introduced (variables (comma_pat_of x))) (λ x xs. introduced_joined (variables (comma_pat_of x)) (all_variables (each_pattern comma_pat_of xs))) c.args.parts.now c.loop-part.part-index c.part-item.result _ (recorded c.args.events.now) (recorded c.loop-part.events) (recorded c.introduce_pat.new.events) c.loop-part.invariant (omega (arith, test)) c.part-item.is (ap (λ p. each_introduced (variables p)) (comma_pat_parts c.part-item.result)) c.in_ok-introduce_pat.ensures

pub introduce_cons_pats-loop-part-preserved : goal.introduce_cons_pats-loop-part-preserved
introduce_cons_pats-loop-part-preserved t c =
    let test = c.loop-part-test.true in
    next_listed (λ xs. each_introduced (all_variables (each_pattern cons_pat_of xs))) (λ x. each_introduced (variables (cons_pat_of x))) (λ x xs. introduced_joined (variables (cons_pat_of x)) (all_variables (each_pattern cons_pat_of xs))) c.args.parts.now c.loop-part.part-index c.part-item.result _ (recorded c.args.events.now) (recorded c.loop-part.events) (recorded c.introduce_left_pat.new.events) c.loop-part.invariant (omega (arith, test)) c.part-item.is (ap (λ p. each_introduced (variables p)) (cons_pat_parts c.part-item.result)) c.in_ok-introduce_left_pat.ensures
