use Rattle.std.proofs.Common.{◌<◌, ◌≤◌, length, arith}
use Rattle.hdc_regular.specs.Passes.{before_of, text_of, built_texts}
use Rattle.hdc_regular.proofs.Steps.{size_texts, one_more_summed, all_summed}
use Rattle.hdc_regular.proofs.summary.summaries.Goals as goal

pub loop-number-preserved : goal.loop-number-preserved
loop-number-preserved c =
    let size = size_texts c.args.outlines.now (before_of c.args.texts.now) (text_of c.args.texts.now) c.args.texts.now.sounds in
    let given = c.requires.size in
    let lt : c.loop-number.number < length (built_texts c.args.outlines.now c.args.texts.now) = omega (arith, size, given) in
    one_more_summed (built_texts c.args.outlines.now c.args.texts.now) c.loop-number.number c.loop-number.summaries c.push.new.self c.in_ok-summary.summary lt c.in_ok-push.ensures.ok c.in_ok-summary.ensures c.loop-number.invariant

pub returns : goal.returns
returns c =
    let size = size_texts c.args.outlines.now (before_of c.args.texts.now) (text_of c.args.texts.now) c.args.texts.now.sounds in
    let given = c.requires.size in
    let le : length (built_texts c.args.outlines.now c.args.texts.now) ≤ c.loop-number.number = omega (arith, size, given) in
    all_summed (built_texts c.args.outlines.now c.args.texts.now) c.loop-number.number c.loop-number.summaries le c.loop-number.invariant
