use Rattle.std.proofs.Common.{◌≡◌, drop}
use Rattle.hdc_written.specs.Mirror.{tops_behind}
use Rattle.hdc_resolving.specs.Growths.{text_of}
use Rattle.hdc_resolving.specs.Named.{numbered}
use Rattle.hdc_resolving.specs.Standing.{tops_named}
use Rattle.hdc_resolving.proofs.names.name_next_tops.Given as goal

abbrev pub invariant-loop-part : goal.invariant-loop-part
invariant-loop-part l = tops_named (tops_behind l.tops) (text_of l.initial.before) (numbered l.initial.numbering) ≡ tops_named (tops_behind (drop l.part-index l.tops)) (text_of l.before) (numbered l.numbering)
