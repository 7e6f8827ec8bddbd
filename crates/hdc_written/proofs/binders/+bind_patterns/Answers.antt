use Rattle.std.proofs.Common.{refl, arith}
use Rattle.hdc_written.specs.Mirror.{apat_of, comma_pat_of, cons_pat_of}
use Rattle.hdc_written.proofs.PatternMirror.{comma_pat_parts, cons_pat_parts}
use Rattle.hdc_written.proofs.Loops.{next_pattern}
use Rattle.hdc_written.proofs.binders.+bind_patterns.Goals as goal

pub bind_apats-loop-part-preserved : goal.bind_apats-loop-part-preserved
bind_apats-loop-part-preserved t g c =
    let test = c.loop-part-test.true in
    next_pattern c.args.what apat_of c.args.parts.now c.loop-part.part-index c.part-item.result _ c.args.scope.now c.loop-part.scope c.bind_apat.new.scope c.loop-part.invariant (omega (arith, test)) c.part-item.is refl c.in_ok-bind_apat.ensures

pub bind_comma_pats-loop-part-preserved : goal.bind_comma_pats-loop-part-preserved
bind_comma_pats-loop-part-preserved t g c =
    let test = c.loop-part-test.true in
    next_pattern c.args.what comma_pat_of c.args.parts.now c.loop-part.part-index c.part-item.result _ c.args.scope.now c.loop-part.scope c.bind_pat.new.scope c.loop-part.invariant (omega (arith, test)) c.part-item.is (comma_pat_parts c.part-item.result) c.in_ok-bind_pat.ensures

pub bind_cons_pats-loop-part-preserved : goal.bind_cons_pats-loop-part-preserved
bind_cons_pats-loop-part-preserved t g c =
    let test = c.loop-part-test.true in
    next_pattern c.args.what cons_pat_of c.args.parts.now c.loop-part.part-index c.part-item.result _ c.args.scope.now c.loop-part.scope c.bind_left_pat.new.scope c.loop-part.invariant (omega (arith, test)) c.part-item.is (cons_pat_parts c.part-item.result) c.in_ok-bind_left_pat.ensures
