use Rattle.std.proofs.Common.{arith}
use Rattle.hdc_written.specs.Mirror.{aexp_of}
use Rattle.hdc_written.proofs.Numbered.{count_operands-each}
use Rattle.hdc_names.proofs.depth.function_depth.Goals as goal

pub returns-in-Some : goal.returns-in-Some
returns-in-Some c = let count = count_operands-each aexp_of c.args.args.now in omega arith
