use Rattle.std.proofs.Common.{◌≡◌, ◌+◌, sym, ap, ◌∙◌, arith, false, Ok}
use Rattle.std.proofs.lemmas.List.{drop_more, drop_all}
use Rattle.hdc_names.specs.Chain.{read_out}
use Rattle.hdc_names.proofs.Building.{not_read, not_read_out, all_read, all_read_out}
use Rattle.hdc_names.proofs.chain.steps.Goals as goal

pub returns-then-not-branch : goal.returns-then-not-branch
returns-then-not-branch c =
    let test = c.loop-index-test.true in
    let no : c.in_ok-read_next.field-0 ≡ false = c.if-not-branch.true in
    let out = not_read_out c.args.signed c.args.rest.now c.loop-index.index (c.loop-index.index + 1) _ _ c.loop-index.progress c.loop-index.invariant (drop_more c.args.rest.now c.loop-index.index _ (omega (arith, test))) (omega arith) (rw no at c.in_ok-read_next.ensures) in record {
      answers = not_read c.args.signed c.args.rest.now (c.loop-index.index + 1) out;
      read = ap read_out out;
    }

pub returns : goal.returns
returns c =
    let test = c.loop-index-test.false in
    let out = all_read_out c.args.signed c.args.rest.now c.loop-index.index c.loop-index.progress c.loop-index.invariant (drop_all c.loop-index.index c.args.rest.now (omega (arith, test))) in record {
      answers = all_read c.args.signed c.args.rest.now c.loop-index.progress c.in_ok-finish.field-0 out c.in_ok-finish.ensures;
      read = ap read_out out ∙ ap Ok (sym c.in_ok-finish.ensures);
    }
