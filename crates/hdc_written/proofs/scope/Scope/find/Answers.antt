use Rattle.std.proofs.Common.{◌<◌, sym, ap, subst, ◌∙◌, reverse, get_or}
use Rattle.std.proofs.lemmas.List.{length-reverse, reverse-reverse}
use Rattle.std.specs.Option.{option_flatten}
use Rattle.hdc_written.specs.Scopes.{standing_for}
use Rattle.hdc_written.proofs.Linked.{place_within, stands, stands_for_none}
use Rattle.hdc_written.proofs.scope.Scope.find.Goals as goal

pub index-requires : goal.index-requires
index-requires g c =
    subst (λ n. c.in-Some.place < n) (length-reverse c.self.inside.entries.items ∙ sym c.self.inside.entries.ok.0)
    (place_within c.args.name.now (reverse c.self.inside.entries.items) c.in-Some.place
    (sym (c.in-Some.ensures ∙ ap option_flatten (c.copied.ensures ∙ c.get.ensures.value) ∙ c.self.invariant.1 c.args.name)))

pub returns-in-Some : goal.returns-in-Some
returns-in-Some g c =
    sym (stands c.args.name.now (reverse c.self.inside.entries.items) c.in-Some.place c.index.result.now
    (sym (c.in-Some.ensures ∙ ap option_flatten (c.copied.ensures ∙ c.get.ensures.value) ∙ c.self.invariant.1 c.args.name))
    (c.index.ensures ∙ ap (λ es. get_or es c.in-Some.place c.index.result.now) (sym (reverse-reverse c.self.inside.entries.items))))
    ∙ ap (standing_for c.args.name.now) c.self.view_is

pub returns-in-None : goal.returns-in-None
returns-in-None g c =
    sym (stands_for_none c.args.name.now (reverse c.self.inside.entries.items)
    (sym (c.in-None.ensures ∙ ap option_flatten (c.copied.ensures ∙ c.get.ensures.value) ∙ c.self.invariant.1 c.args.name)))
    ∙ ap (standing_for c.args.name.now) c.self.view_is
