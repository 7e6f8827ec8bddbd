use Rattle.std.proofs.Common.{refl, arith}
use Rattle.hdc_written.specs.Mirror.{apat_of, comma_pat_of, cons_pat_of}
use Rattle.hdc_written.proofs.PatternMirror.{comma_pat_parts, cons_pat_parts}
use Rattle.hdc_resolving.proofs.Entering.{next_pattern}
use Rattle.hdc_resolving.proofs.binders.+enter_patterns.Goals as goal

pub enter_apats-loop-part-preserved : goal.enter_apats-loop-part-preserved
enter_apats-loop-part-preserved n c =
    let test = c.loop-part-test.true in
    next_pattern apat_of c.args.parts.now c.loop-part.part-index c.part-item.result _ c.args.walk.now c.loop-part.walk c.enter_apat.new.walk c.loop-part.invariant (omega (arith, test)) c.part-item.is refl c.in_ok-enter_apat.ensures

pub enter_comma_pats-loop-part-preserved : goal.enter_comma_pats-loop-part-preserved
enter_comma_pats-loop-part-preserved n c =
    let test = c.loop-part-test.true in
    next_pattern comma_pat_of c.args.parts.now c.loop-part.part-index c.part-item.result _ c.args.walk.now c.loop-part.walk c.enter_pat.new.walk c.loop-part.invariant (omega (arith, test)) c.part-item.is (comma_pat_parts c.part-item.result) c.in_ok-enter_pat.ensures

pub enter_cons_pats-loop-part-preserved : goal.enter_cons_pats-loop-part-preserved
enter_cons_pats-loop-part-preserved n c =
    let test = c.loop-part-test.true in
    next_pattern cons_pat_of c.args.parts.now c.loop-part.part-index c.part-item.result _ c.args.walk.now c.loop-part.walk c.enter_left_pat.new.walk c.loop-part.invariant (omega (arith, test)) c.part-item.is (cons_pat_parts c.part-item.result) c.in_ok-enter_left_pat.ensures
