use Rattle.hdc_needs.proofs.Describing.{introduced_done}
use Rattle.hdc_needs.proofs.Results.{ok_then}
use Rattle.hdc_needs.proofs.walk.Walk.introduce.Goals as goal

pub returns : goal.returns
returns c state h = ok_then c.bind.result (λ e. introduced_done c.args.self.now c.args.name.now c.bind.new.self state e h) (rw c.as_slice.ensures at c.bind.ensures)
