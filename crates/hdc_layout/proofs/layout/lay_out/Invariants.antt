use Rattle.std.proofs.Common.{◌≡◌, length}
use Rattle.hdc_layout.specs.Marks.{marked_list}
use Rattle.hdc_layout.specs.LaidOut.{laid_out}
use Rattle.hdc_layout.proofs.Whole.{still}
use Rattle.hdc_layout.proofs.layout.lay_out.Given as goal

-- the answer is what the layout still answers, with the tokens ahead
abbrev pub invariant-loop-token : goal.invariant-loop-token
invariant-loop-token l = laid_out l.fn.tokens l.end ≡ still l.layout (marked_list l.before l.ahead l.end) l.end

abbrev pub decreases-loop-token : goal.decreases-loop-token
decreases-loop-token l = length l.ahead
