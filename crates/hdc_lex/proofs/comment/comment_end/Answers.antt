use Rattle.std.proofs.Common.{length, sym, ap, ◌∙◌, arith}
use Rattle.hdc_lex.specs.Grammar.{begins_with_both}
use Rattle.hdc_lex.proofs.Comments.{one_opened, one_closed, one_walked}
use Rattle.hdc_lex.proofs.comment.comment_end.Goals as goal

pub loop-rest-preserved-then-begins_with_both : goal.loop-rest-preserved-then-begins_with_both
loop-rest-preserved-then-begins_with_both c =
    let opens = ap (begins_with_both 123 45) (sym c.behind-rest.ensures.rest) ∙ sym c.begins_with_both.ensures.found ∙ c.if-begins_with_both.true in
    record {
      rest = one_opened c.args.text.now c.loop-rest.offset c.loop-rest.depth opens c.loop-rest.invariant.rest;
      within = omega (arith, c.begins_with_both.ensures.long c.if-begins_with_both.true, c.behind-rest.ensures.size, c.loop-rest.invariant.within);
      depth = omega (arith, c.loop-rest.invariant.depth);
    }

pub loop-rest-preserved-then-begins_with_both-2 : goal.loop-rest-preserved-then-begins_with_both-2
loop-rest-preserved-then-begins_with_both-2 c =
    let opens = ap (begins_with_both 123 45) (sym c.behind-rest.ensures.rest) ∙ sym c.begins_with_both.ensures.found ∙ c.if-begins_with_both.false in
    let closes = ap (begins_with_both 45 125) (sym c.behind-rest.ensures.rest) ∙ sym c.begins_with_both-else-begins_with_both.ensures.found ∙ c.if-begins_with_both-2.true in
    record {
      rest = one_closed c.args.text.now c.loop-rest.offset c.loop-rest.depth c.saturating_sub-depth.result opens closes c.if-depth-eq1.false c.saturating_sub-depth.ensures c.loop-rest.invariant.rest;
      within = omega (arith, c.begins_with_both-else-begins_with_both.ensures.long c.if-begins_with_both-2.true, c.behind-rest.ensures.size, c.loop-rest.invariant.within);
      depth = omega (arith, c.loop-rest.invariant.depth, c.saturating_sub-depth.ensures);
    }

pub loop-rest-preserved : goal.loop-rest-preserved
loop-rest-preserved c =
    let opens = ap (begins_with_both 123 45) (sym c.behind-rest.ensures.rest) ∙ sym c.begins_with_both.ensures.found ∙ c.if-begins_with_both.false in
    let closes = ap (begins_with_both 45 125) (sym c.behind-rest.ensures.rest) ∙ sym c.begins_with_both-else-begins_with_both.ensures.found ∙ c.if-begins_with_both-2.false in
    record {
      rest = one_walked c.args.text.now c.loop-rest.offset c.loop-rest.depth opens closes (ap length (sym c.behind-rest.ensures.rest)) c.if-rest-lt2.false c.loop-rest.invariant.rest;
      within = omega (arith, c.if-rest-lt2.false, c.behind-rest.ensures.size, c.loop-rest.invariant.within);
      depth = omega (arith, c.loop-rest.invariant.depth);
    }
