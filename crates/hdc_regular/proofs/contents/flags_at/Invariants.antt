use Rattle.std.proofs.Common.{◌≡◌, [], drop}
use Rattle.hdc_regular.specs.Contents.{flags_set}
use Rattle.hdc_regular.proofs.contents.flags_at.Given as goal

abbrev pub invariant-loop-place : goal.invariant-loop-place
invariant-loop-place l = flags_set [] l.places ≡ flags_set l.flags (drop l.place-index l.places)
