use Rattle.std.proofs.Common.{◌≡◌, suc, drop}
use Rattle.hdc_written.specs.Breaches.{all_noted}
use Rattle.hdc_written.specs.Mirror.{tops_behind}
use Rattle.hdc_synonyms.specs.Noted.{cyclic_breaches}
use Rattle.hdc_synonyms.proofs.cyclic.note_next_tops.Given as goal

abbrev pub invariant-loop-index : goal.invariant-loop-index
invariant-loop-index l = all_noted l.initial.found (cyclic_breaches l.cyclic 1 (tops_behind l.tops)) ≡ all_noted l.found (cyclic_breaches l.cyclic (suc l.index) (tops_behind (drop l.index l.tops)))
