use Rattle.hdc_top.proofs.Texts.{laid_compiles, unlaid_compiles}
use Rattle.hdc_top.proofs.compiler.compile.Goals as goal

pub returns-in-Ok : goal.returns-in-Ok
returns-in-Ok c = laid_compiles c.args.text.now c.in-Ok.laid _ _ c.in-Ok.ensures c.end_of.ensures (rw c.as_slice.ensures at c.compile_laid.ensures)

pub returns-in-Err : goal.returns-in-Err
returns-in-Err c = unlaid_compiles c.args.text.now c.in-Err.stop c.in-Err.ensures
