use Rattle.hdc_resolved.specs.Mirror.{expression_of}
use Rattle.hdc_top.specs.Arithmetic.{arithmetic}
use Rattle.hdc_top.proofs.Emitting.{program_emitted}
use Rattle.hdc_top.proofs.generator.generate.Goals as goal

pub returns-in_ok-put-2 : goal.returns-in_ok-put-2
returns-in_ok-put-2 c = program_emitted (arithmetic (expression_of c.args.exp.now)) c.new-code.result.items c.put.new.code.items c.emit.new.code.items c.put-then-branch.new.code.items c.from_vec.result c.in_ok-emit.field-0 c.new-code.ensures.items c.in_ok-put.ensures c.if-branch.true c.in_ok-emit.ensures c.in_ok-put-2.ensures c.from_vec.ensures
