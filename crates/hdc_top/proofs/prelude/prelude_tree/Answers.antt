use Rattle.std.proofs.Common.{sym, subst}
use Rattle.hdc_top.specs.Prelude.{IsPrelude, stored, without}
use Rattle.hdc_top.proofs.prelude.prelude_tree.Goals as goal

pub returns-in-Some : goal.returns-in-Some
returns-in-Some c = stored c.in-Some.tree (rw c.in-Some.is at c.in_ok-tree.ensures)

pub returns-in_ok-no_declarations-in-None : goal.returns-in_ok-no_declarations-in-None
returns-in_ok-no_declarations-in-None c = subst IsPrelude (sym c.in_ok-no_declarations-in-None.ensures) (without (rw c.in-None.is at c.in_ok-tree.ensures))
