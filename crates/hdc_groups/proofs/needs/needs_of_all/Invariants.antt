use Rattle.std.proofs.Common.{◌≡◌, ◌++◌, length, drop}
use Rattle.std.specs.Prelude.{map}
use Rattle.hdc_resolved.specs.Mirror.{binding_of}
use Rattle.hdc_groups.specs.Needs.{needs_among, binding_needs}
use Rattle.hdc_groups.proofs.needs.needs_of_all.Given as goal

abbrev pub invariant-loop-decl : goal.invariant-loop-decl
invariant-loop-decl l = binding_needs (map binding_of l.decls) ≡ l.needs.items ++ map (needs_among (length l.decls)) (map binding_of (drop l.decl-index l.decls))
