use Rattle.hdc_top.proofs.Texts.{lexer_stops, layout_stops}
use Rattle.hdc_top.proofs.reader.laid_tokens.Goals as goal

pub returns-in-Ok-lay_out : goal.returns-in-Ok-lay_out
returns-in-Ok-lay_out c = record { tokens = c.in-Ok.tokens; lexed = c.in-Ok.ensures; laid_out = rw c.end_of.ensures at c.in-Ok-lay_out.ensures }

pub returns-in-Err-lay_out : goal.returns-in-Err-lay_out
returns-in-Err-lay_out c = layout_stops c.args.text.now c.in-Ok.tokens _ c.in-Err-lay_out.stop _ c.in-Ok.ensures c.end_of.ensures c.in-Err-lay_out.ensures c.layout_stop.ensures

pub returns-in-Err : goal.returns-in-Err
returns-in-Err c = lexer_stops c.args.text.now c.in-Err.stop _ c.in-Err.ensures c.lexer_stop.ensures
