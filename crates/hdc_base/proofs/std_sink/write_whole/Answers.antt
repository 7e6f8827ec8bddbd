-- A write that takes more holds more of the front, and one that fails keeps what is held.
use Rattle.std.proofs.Common.{arith}
use Rattle.std.proofs.lemmas.Grind.{common_steps}
use Rattle.hdc_base.proofs.Taken.{appends_more, appends_kept}
use Rattle.hdc_base.proofs.std_sink.write_whole.Goals as goal
use Rattle.hdc_base.proofs.std_sink.write_whole.Goals.{in-Ok, in-Err}

pub loop-preserved : goal.loop-preserved
loop-preserved g c =
    elim c.match-write.branch [
      | in-Ok w ↦ record {
        within = grind (arith, common_steps);
        holds = appends_more _ _ _ _ _ _ _ _ w.written-is (grind (arith, common_steps)) c.loop.invariant.holds w.in-Ok.ensures.bytes;
        counts = grind (arith, common_steps);
      }
      | in-Err w ↦ record {
        within = grind (arith, common_steps);
        holds = rw w.written-is (appends_kept _ _ _ _ c.loop.invariant.holds w.in-Err.ensures.bytes);
        counts = grind (arith, common_steps);
      }
    ]
