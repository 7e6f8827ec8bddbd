use Rattle.std.proofs.Common.{◌≤◌, ◌-◌, ◌∙◌, length, ap, sym, subst, arith}
use Rattle.std.specs.Result.{IfOk}
use Rattle.hdc_tree.specs.declared.program.NextTop.{NextTop}
use Rattle.hdc_regular.specs.Built.{built_declaration}
use Rattle.hdc_regular.specs.Named.{body_of}
use Rattle.hdc_regular.specs.PartMirror.{parts_of}
use Rattle.hdc_regular.specs.Passes.{kind_of, IsBody}
use Rattle.hdc_regular.proofs.Steps.{next_there, none_there}
use Rattle.hdc_regular.proofs.summary.build_in.Goals as goal

pub returns-then-place-rest : goal.returns-then-place-rest
returns-then-place-rest c =
    subst (λ z. IfOk c.build_top-then-place-rest.result (λ b. IsBody b (built_declaration c.args.outlines.now c.args.names.now c.args.is_sound z)))
    (sym (next_there c.args.tree.now c.as_slice-rest.result.now c.args.index c.index-rest-place.result c.as_slice-rest.ensures c.if-index-eq0.false c.if-place-rest.true c.index-rest-place.is ∙ ap (λ (z : NextTop). z.top) c.index-rest-place.is)) c.build_top-then-place-rest.ensures

pub returns : goal.returns
returns c =
    let le : length c.as_slice-rest.result.now ≤ c.args.index - 1 = omega arith in
    let none = ap (built_declaration c.args.outlines.now c.args.names.now c.args.is_sound) (none_there c.args.tree.now c.as_slice-rest.result.now c.args.index c.as_slice-rest.ensures c.if-index-eq0.false le) in
    (ap kind_of (sym none), ap parts_of c.new.ensures ∙ ap body_of (sym none))
