use Rattle.hdc_top.proofs.Dues.{due_once}
use Rattle.hdc_top.proofs.laws.one_due.Goals as goal

pub returns-clause-status : goal.returns-clause-status
returns-clause-status c = λ words text first second bytes others h g. (due_once words text first bytes h second others g).0

pub returns-clause-bytes : goal.returns-clause-bytes
returns-clause-bytes c = λ words text first second bytes others h g. (due_once words text first bytes h second others g).1
