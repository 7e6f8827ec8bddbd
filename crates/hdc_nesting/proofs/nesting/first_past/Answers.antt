use Rattle.std.proofs.Common.{◌≤◌, arith}
use borrow.Author.Count.{below_more}
use Rattle.hdc_nesting.specs.Nesting.{nesting}
use Rattle.hdc_nesting.proofs.Counted.{counts_next}
use Rattle.hdc_nesting.proofs.Bounds.{nesting_by, nesting_at_most}
use Rattle.hdc_nesting.proofs.nesting.first_past.Goals as goal

pub pass-requires : goal.pass-requires
pass-requires c =
    let e = nesting_by c.args.tokens.now c.loop-i.i c.loop-i.counts c.loop-i.invariant.counted in
    let h = nesting_at_most c.args.tokens.now c.loop-i.i in
    omega arith

pub loop-i-preserved : goal.loop-i-preserved
loop-i-preserved c =
    let e = nesting_by c.args.tokens.now c.loop-i.i c.loop-i.counts c.loop-i.invariant.counted in
    let h : nesting c.args.tokens.now c.loop-i.i ≤ c.args.limit = omega arith in
    record {
      counted = counts_next c.args.tokens.now c.loop-i.i c.index-tokens-i.result c.loop-i.counts c.pass.new.self c.loop-i-test.true c.index-tokens-i.is c.loop-i.invariant.counted c.in_ok-pass.ensures;
      none = below_more (λ k. nesting c.args.tokens.now k ≤ c.args.limit) c.loop-i.i c.loop-i.invariant.none h;
    }
