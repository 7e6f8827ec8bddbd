use Rattle.std.proofs.Common.{sym, ap, ◌∙◌, ◌-◌, take, length, is_some, reverse}
use Rattle.std.specs.Option.{option_flatten}
use Rattle.hdc_written.specs.Scopes.{standing_for}
use Rattle.hdc_written.proofs.Linked.{bound_since, not_bound_since}
use Rattle.hdc_written.proofs.scope.Scope.is_bound_since.Goals as goal

pub returns-in-Some : goal.returns-in-Some
returns-in-Some g c =
    bound_since c.args.name.now (reverse c.self.inside.entries.items) c.in-Some.place c.args.size (sym (c.in-Some.ensures ∙ ap option_flatten (c.copied.ensures ∙ c.get.ensures.value) ∙ c.self.invariant.1 c.args.name))
    ∙ ap (λ s. is_some (standing_for c.args.name.now (take (length s - c.args.size) s))) c.self.view_is

pub returns-in-None : goal.returns-in-None
returns-in-None g c =
    not_bound_since c.args.name.now (reverse c.self.inside.entries.items) c.args.size (sym (c.in-None.ensures ∙ ap option_flatten (c.copied.ensures ∙ c.get.ensures.value) ∙ c.self.invariant.1 c.args.name))
    ∙ ap (λ s. is_some (standing_for c.args.name.now (take (length s - c.args.size) s))) c.self.view_is
