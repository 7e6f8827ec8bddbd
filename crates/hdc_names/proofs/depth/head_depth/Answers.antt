use Rattle.std.proofs.Common.{arith}
use Rattle.hdc_written.specs.Mirror.{comma_qual_of}
use Rattle.hdc_written.proofs.Numbered.{count_qualifiers-each}
use Rattle.hdc_names.proofs.depth.head_depth.Goals as goal

pub returns-in-Some : goal.returns-in-Some
returns-in-Some c = let count = count_qualifiers-each comma_qual_of c.args.rest.now in omega arith
