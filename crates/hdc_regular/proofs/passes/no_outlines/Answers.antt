use Rattle.std.proofs.Common.{[], ◌∷◌, ◌++◌, None, sym, ap, ◌∙◌, add-one}
use Rattle.hdc_regular.specs.Building.{no_outline}
use Rattle.hdc_regular.specs.Judged.{repeat_of}
use Rattle.hdc_regular.proofs.Steps.{one_more_of}
use Rattle.hdc_regular.proofs.passes.no_outlines.Goals as goal

pub loop-place-preserved : goal.loop-place-preserved
loop-place-preserved c =
    c.in_ok-push.ensures.ok
    ∙ ap (λ z. c.loop-place.known ++ (record { alias = None; holds = z }) ∷ []) c.new.ensures
    ∙ ap (λ z. z ++ no_outline ∷ []) c.loop-place.invariant
    ∙ one_more_of no_outline c.loop-place._place
    ∙ ap (repeat_of no_outline) (sym (add-one c.loop-place._place))
