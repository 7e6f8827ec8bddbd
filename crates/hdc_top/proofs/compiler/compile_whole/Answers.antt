use Rattle.hdc_top.proofs.Texts.{code_compiles, not_built_compiles, names_compiles}
use Rattle.hdc_top.proofs.compiler.compile_whole.Goals as goal

pub returns-in-Some : goal.returns-in-Some
returns-in-Some c = code_compiles c.args.whole.now c.in_ok-prelude.prelude c.in-Ok.resolved c.in-Some.code c.in_ok-prelude.ensures c.in-Ok.ensures (rw (c.as_slice.ensures, c.in-Some.is) at c.in_ok-code-in-Ok.ensures)

pub returns-in-Ok : goal.returns-in-Ok
returns-in-Ok c = not_built_compiles c.args.whole.now c.in_ok-prelude.prelude c.in-Ok.resolved _ c.in_ok-prelude.ensures c.in-Ok.ensures (rw (c.as_slice.ensures, c.in-None.is) at c.in_ok-code-in-Ok.ensures) c.not_yet.ensures

pub returns : goal.returns
returns c = names_compiles c.args.whole.now c.in_ok-prelude.prelude c.in-Err.stop _ c.in_ok-prelude.ensures c.in-Err.ensures c.names_stop.ensures
