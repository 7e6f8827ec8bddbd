use Rattle.std.proofs.lemmas.Result.{err_from_is_err_and}
use Rattle.hdc_written.specs.Mirror.{tops_of}
use Rattle.hdc_names.proofs.Checking.{told, want_told}
use Rattle.hdc_names.proofs.check.check_trees.Goals as goal

pub returns-in_err-before : goal.returns-in_err-before
returns-in_err-before c =
    let p = err_from_is_err_and c.from_residual.result c.from_residual.ensures.1 in
    rw (p.1, p.2) (want_told (tops_of c.args.prelude.now) (tops_of c.args.program.now))

pub returns-in_err-found : goal.returns-in_err-found
returns-in_err-found c =
    let p = err_from_is_err_and c.from_residual-in_err-found.result c.from_residual-in_err-found.ensures.1 in
    rw (p.1, p.2) (want_told (tops_of c.args.prelude.now) (tops_of c.args.program.now))

pub returns : goal.returns
returns c = told (tops_of c.args.prelude.now) (tops_of c.args.program.now) c.in_ok-before.before c.in_ok-found.found c.judge.result c.in_ok-before.ensures c.in_ok-found.ensures c.judge.ensures
