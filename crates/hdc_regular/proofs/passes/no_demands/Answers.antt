use Rattle.std.proofs.Common.{[], ◌∷◌, ◌++◌, sym, ap, ◌∙◌, add-one}
use Rattle.hdc_regular.specs.Demands.{no_demand}
use Rattle.hdc_regular.specs.Judged.{repeat_of}
use Rattle.hdc_regular.proofs.Steps.{one_more_of}
use Rattle.hdc_regular.proofs.passes.no_demands.Goals as goal

pub loop-place-preserved : goal.loop-place-preserved
loop-place-preserved c =
    c.in_ok-push.ensures.ok
    ∙ ap (λ z. c.loop-place.demands ++ z ∷ []) c.new.ensures
    ∙ ap (λ z. z ++ no_demand ∷ []) c.loop-place.invariant
    ∙ one_more_of no_demand c.loop-place._place
    ∙ ap (repeat_of no_demand) (sym (add-one c.loop-place._place))
