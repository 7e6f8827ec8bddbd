use Rattle.std.proofs.Common.{◌≡◌, drop}
use Rattle.hdc_written.specs.Mirror.{tops_behind}
use Rattle.hdc_resolving.specs.Named.{numbered}
use Rattle.hdc_resolving.specs.Standing.{constructors_in}
use Rattle.hdc_resolving.proofs.names.construct_next_tops.Given as goal

abbrev pub invariant-loop-part : goal.invariant-loop-part
invariant-loop-part l = constructors_in (tops_behind l.tops) (numbered l.initial.numbering) ≡ constructors_in (tops_behind (drop l.part-index l.tops)) (numbered l.numbering)
