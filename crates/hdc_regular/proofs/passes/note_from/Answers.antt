use Rattle.std.proofs.Common.{◌<◌, ◌∙◌, length, arith}
use Rattle.hdc_regular.proofs.Steps.{one_more_judged}
use Rattle.hdc_regular.proofs.passes.note_from.Goals as goal

pub loop-number-preserved : goal.loop-number-preserved
loop-number-preserved c =
    let lt : c.loop-number.number < length c.args.summaries.now = omega arith in
    c.loop-number.invariant
    ∙ one_more_judged c.args.synonyms.now c.args.demands.now c.args.numbers.now c.args.summaries.now c.loop-number.number c.index-summaries-number.result c.loop-number.found c.note_summary.new.found lt c.index-summaries-number.is c.note_summary.ensures
