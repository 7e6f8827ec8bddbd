use Rattle.std.proofs.Common.{◌-◌, ◌<◌, length, drop, ap, subst, ◌∙◌}
use Rattle.hdc_written.proofs.Binding.{left_past_one}
use Rattle.hdc_written.proofs.scope.Scope.leave.Goals as goal

pub loop-self-preserved : goal.loop-self-preserved
loop-self-preserved g c =
    ap (λ s. drop (length s - c.args.size) s) c.forget.ensures
    ∙ left_past_one c.loop-self.self c.args.size (subst (λ n. c.args.size < n) c.size.ensures c.loop-self-test.true)
    ∙ c.loop-self.invariant
