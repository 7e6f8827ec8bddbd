use Rattle.std.proofs.Common.{ap}
use Rattle.hdc_code.specs.Machine.{Config}
use Rattle.hdc_code.proofs.Paths.{path_counts, same_end}
use Rattle.hdc_code.proofs.laws.one_path.Goals as goal

pub returns-clause-counted : goal.returns-clause-counted
returns-clause-counted c = path_counts

pub returns-clause-outcome : goal.returns-clause-outcome
returns-clause-outcome c = λ code first second ticks others a b. let same = ap (λ (e : Config). e.state) (same_end code first second ticks others a b) in cc

pub returns-clause-ticks : goal.returns-clause-ticks
returns-clause-ticks c = λ code first second ticks others a b. ap (λ (e : Config). e.ticks) (same_end code first second ticks others a b)
