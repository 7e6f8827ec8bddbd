use Rattle.std.proofs.Common.{◌∙◌, List, get_or, ap, arith}
use Rattle.hdc_resolved.specs.declared.type_exp.Type as T
use Rattle.hdc_datas.proofs.Projecting.{projected}
use Rattle.hdc_datas.proofs.projection.root_of.Goals as goal

pub loop-root-preserved : goal.loop-root-preserved
loop-root-preserved c = λ ss all.
    let size = c.len.ensures in
    projected ss c.args.projections.now c.in-Synonym.number c.in-Some.place c.in-Synonym.arguments c.loop-root.root.now c.index-as_slice-place.result all c.in-Synonym.is c.in-Some.ensures (omega (arith, c.if-place-len.true, size))
    (c.index-as_slice-place.is ∙ ap (λ (z : List T.Type). get_or z c.in-Some.place c.index-as_slice-place.result) c.as_slice.ensures)
    ∙ c.loop-root.invariant ss all
