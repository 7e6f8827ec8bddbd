use Rattle.std.proofs.Common.{◌+◌, arith}
use Rattle.hdc_datas.proofs.Finding.{read_more}
use Rattle.hdc_datas.proofs.renaming.are_parameters.Goals as goal

pub loop-place-preserved : goal.loop-place-preserved
loop-place-preserved c =
    read_more c.args.parts.now c.loop-place.place (c.loop-place.place + 1) c.index-parts-place.result c.loop-place-test.true (omega arith) c.index-parts-place.is (c.is_variable.ensures c.if-not-is_variable.false) c.loop-place.invariant
