use Rattle.std.proofs.Common.{◌≡◌, drop}
use Rattle.hdc_resolving.specs.Standing.{constructors_from}
use Rattle.hdc_resolving.proofs.names.construct_bars.Given as goal

abbrev pub invariant-loop-part : goal.invariant-loop-part
invariant-loop-part l = constructors_from l.number 1 l.parts l.initial.scope ≡ constructors_from l.number l.tag (drop l.part-index l.parts) l.scope
