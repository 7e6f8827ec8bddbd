use Rattle.std.proofs.Common.{◌≡◌, drop}
use Rattle.hdc_written.specs.Mirror.{tops_behind}
use Rattle.hdc_type_names.specs.TypeNames.{with_tops}
use Rattle.hdc_type_names.proofs.naming.Naming.add_next_tops.Given as goal

abbrev pub invariant-loop-next : goal.invariant-loop-next
invariant-loop-next l = with_tops l.initial.self (tops_behind l.tops) ≡ with_tops l.self (tops_behind (drop l.next-index l.tops))
