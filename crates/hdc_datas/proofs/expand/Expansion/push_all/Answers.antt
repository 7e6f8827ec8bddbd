use Rattle.std.proofs.Common.{◌-◌, arith}
use Rattle.hdc_datas.proofs.Steps.{all_step}
use Rattle.hdc_datas.proofs.expand.Expansion.push_all.Goals as goal

pub loop-count-preserved : goal.loop-count-preserved
loop-count-preserved c = record {
  within = omega arith;
  puts =
      all_step c.args.self.now c.loop-count.self c.push.new.self c.args.environment c.args.parts.now (c.loop-count.count - 1) c.loop-count.count c.index-parts-count.result
      (omega (arith, c.loop-count-test.true, c.loop-count.invariant.within)) (omega (arith, c.loop-count-test.true)) c.index-parts-count.is c.loop-count.invariant.puts c.in_ok-push.ensures;
}
