use Rattle.hdc_needs.proofs.Describing.{behind_done}
use Rattle.hdc_needs.proofs.walk.Walk.go_behind.Goals as goal

pub returns : goal.returns
returns c state h = behind_done c.args.self.now c.go_behind.new.self state c.go_behind.ensures h
