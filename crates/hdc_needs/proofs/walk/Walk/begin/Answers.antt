use Rattle.hdc_needs.proofs.Describing.{begun_done}
use Rattle.hdc_needs.proofs.Results.{ok_then}
use Rattle.hdc_needs.proofs.walk.Walk.begin.Goals as goal

pub returns : goal.returns
returns c state h = ok_then c.begin.result (λ e. begun_done c.args.self.now c.begin.new.self state e h) c.begin.ensures
