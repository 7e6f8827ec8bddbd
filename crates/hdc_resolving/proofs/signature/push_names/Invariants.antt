use Rattle.std.proofs.Common.{◌≡◌, ◌++◌, drop}
use Rattle.hdc_written.specs.Mirror.{names_behind}
use Rattle.hdc_resolving.specs.Locals.{signed_names}
use Rattle.hdc_resolving.proofs.signature.push_names.Given as goal

abbrev pub invariant-loop-part : goal.invariant-loop-part
invariant-loop-part l = l.initial.names ++ signed_names l.known l.walk.names (names_behind l.parts) ≡ l.names ++ signed_names l.known l.walk.names (names_behind (drop l.part-index l.parts))
