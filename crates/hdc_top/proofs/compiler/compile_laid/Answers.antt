use Rattle.hdc_top.proofs.Texts.{whole_compiles, parser_compiles}
use Rattle.hdc_top.proofs.compiler.compile_laid.Goals as goal

pub returns-in-Ok : goal.returns-in-Ok
returns-in-Ok c = whole_compiles c.args.laid.now c.args.end c.in-Ok.whole _ c.in-Ok.ensures c.compile_whole.ensures

pub returns-in-Err : goal.returns-in-Err
returns-in-Err c = parser_compiles c.args.laid.now c.args.end c.in-Err.stop _ c.in-Err.ensures c.parser_stop.ensures
