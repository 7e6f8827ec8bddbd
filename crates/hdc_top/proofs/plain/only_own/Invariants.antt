use Rattle.std.proofs.Common.{◌≡◌, ◌++◌, map, drop}
use Rattle.hdc_resolved.specs.Mirror.{binding_of}
use Rattle.hdc_top.specs.Main.{own_bindings}
use Rattle.hdc_top.proofs.PlainBindings.{found}
use Rattle.hdc_top.proofs.plain.only_own.Given as goal

abbrev pub invariant-loop-decl : goal.invariant-loop-decl
invariant-loop-decl l = own_bindings (map binding_of l.decls) ≡ found l.own ++ own_bindings (map binding_of (drop l.decl-index l.decls))
