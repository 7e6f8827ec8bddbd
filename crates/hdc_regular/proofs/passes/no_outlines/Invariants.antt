use Rattle.std.proofs.Common.{◌≡◌}
use Rattle.hdc_regular.specs.Building.{no_outline}
use Rattle.hdc_regular.specs.Judged.{repeat_of}
use Rattle.hdc_regular.proofs.passes.no_outlines.Given as goal

abbrev pub invariant-loop-place : goal.invariant-loop-place
invariant-loop-place l = l.known ≡ repeat_of no_outline l._place
