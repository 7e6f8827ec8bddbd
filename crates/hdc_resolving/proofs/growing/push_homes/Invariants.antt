use Rattle.std.proofs.Common.{◌≡◌, ◌++◌, drop}
use Rattle.hdc_resolving.specs.Locals.{housed}
use Rattle.hdc_resolving.proofs.growing.push_homes.Given as goal

abbrev pub invariant-loop-declaration : goal.invariant-loop-declaration
invariant-loop-declaration l = l.initial.order ++ housed l.homes l.declarations ≡ l.order ++ housed l.homes (drop l.declaration-index l.declarations)
