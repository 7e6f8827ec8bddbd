use Rattle.std.proofs.Common.{sym, ap, subst, ◌∙◌}
use Rattle.hdc_layout.specs.Roles.{is_where}
use Rattle.hdc_layout.specs.LaidOut.{laid_out, IsLaidOut}
use Rattle.hdc_layout.proofs.Whole.{up_to_token, past_token, up_to_end}
use Rattle.hdc_layout.proofs.layout.lay_out.Goals as goal

pub loop-token-preserved : goal.loop-token-preserved
loop-token-preserved c =
    past_token (laid_out c.args.tokens c.args.end) c.mark.new.self c.token.new.self c.behind-before.result c.in-Some.token c.next.new.self c.args.end
    (up_to_token (laid_out c.args.tokens c.args.end) c.loop-token.layout c.mark.new.self c.loop-token.before c.in-Some.token c.is_where.result c.mark_before-mark.result c.loop-token.ahead c.next.new.self c.args.end c.loop-token.invariant c.in-Some.ensures c.mark_before-mark.ensures (c.is_where.ensures ∙ ap is_where c.role_of.ensures) c.in_ok-mark.ensures)
    c.in_ok-token.ensures c.behind-before.ensures

pub returns : goal.returns
returns c =
    subst (λ answer. IsLaidOut answer c.finish.result)
    (sym (up_to_end (laid_out c.args.tokens c.args.end) c.loop-token.layout c.mark-2.new.self c.loop-token.before c.mark_at_end.result c.loop-token.ahead c.args.end c.loop-token.invariant c.in_default.ensures.0 c.mark_at_end.ensures c.in_ok-mark-2.ensures))
    c.finish.ensures
