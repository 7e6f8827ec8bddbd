use Rattle.std.proofs.Common.{sym, ap, ◌∙◌}
use Rattle.hdc_layout.specs.Roles.{role_of}
use Rattle.hdc_layout.specs.Rules.{role_step}
use Rattle.hdc_layout.specs.Progress.{after_steps}
use Rattle.hdc_layout.proofs.Closing.{token_given}
use Rattle.hdc_layout.proofs.rules.Layout.token.Goals as goal

pub returns : goal.returns
returns c =
    token_given c.args.self.now c.role.new.self c.args.token (role_step (role_of c.args.token.word) c.args.token.at c.args.self.now.stack) c.push.new.self
    (ap (λ r. after_steps c.args.self.now (role_step r c.args.token.at c.args.self.now.stack)) (sym c.role_of.ensures) ∙ c.in_ok-role.ensures) c.in_ok-push.ensures.ok
