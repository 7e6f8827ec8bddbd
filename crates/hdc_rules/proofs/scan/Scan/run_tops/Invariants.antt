use Rattle.std.proofs.Common.{◌≡◌, drop}
use Rattle.hdc_written.specs.Mirror.{tops_behind}
use Rattle.hdc_rules.specs.Scan.{run_tops}
use Rattle.hdc_rules.proofs.scan.Scan.run_tops.Given as goal

abbrev pub invariant-loop-part : goal.invariant-loop-part
invariant-loop-part l = run_tops l.known (tops_behind l.tops) l.initial.self ≡ run_tops l.known (tops_behind (drop l.part-index l.tops)) l.self
