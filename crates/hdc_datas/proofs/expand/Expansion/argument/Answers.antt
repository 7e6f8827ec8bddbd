use Rattle.std.proofs.Common.{◌+◌, ◌∙◌, List, get_or, ap}
use Rattle.hdc_datas.specs.declared.expand.Closure.{Closure}
use Rattle.hdc_datas.proofs.Steps.{place_within, place_value}
use Rattle.hdc_datas.proofs.expand.Expansion.argument.Goals as goal

pub returns-then-place-environment-clause-within : goal.returns-then-place-environment-clause-within
returns-then-place-environment-clause-within c =
    place_within c.args.self.now c.args.environment c.args.number c.index-as_slice-environment.result c.requires.well c.requires.within c.if-place-environment.true
    (c.index-as_slice-environment.is ∙ ap (λ (z : List Closure). get_or z (c.args.environment.start + c.args.number) c.index-as_slice-environment.result) c.as_slice.ensures)

pub returns-then-place-environment-clause-value : goal.returns-then-place-environment-clause-value
returns-then-place-environment-clause-value c =
    place_value c.args.self.now c.args.environment c.args.number c.index-as_slice-environment.result c.requires.well c.requires.within c.if-place-environment.true
    (c.index-as_slice-environment.is ∙ ap (λ (z : List Closure). get_or z (c.args.environment.start + c.args.number) c.index-as_slice-environment.result) c.as_slice.ensures)
