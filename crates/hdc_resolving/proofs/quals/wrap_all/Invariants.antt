use Rattle.std.proofs.Common.{◌≡◌, length, map}
use Rattle.hdc_resolved.specs.Mirror.{qualifiers_of}
use Rattle.hdc_resolving.specs.Parts.{part_of, wrapped}
use Rattle.hdc_resolving.specs.Numbering as numbering
use Rattle.hdc_resolving.proofs.quals.wrap_all.Given as goal

abbrev pub invariant-loop-part : goal.invariant-loop-part
invariant-loop-part l = record {
  what : wrapped l.known (map part_of l.fn.parts) (record { quals = qualifiers_of l.fn.behind; counter = l.initial.walk.counter }) ≡ wrapped l.known (map part_of l.parts) (record { quals = qualifiers_of l.whole; counter = l.walk.counter });
  moved : l.walk ≡ numbering.moved l.walk.counter l.initial.walk;
}

abbrev pub decreases-loop-part : goal.decreases-loop-part
decreases-loop-part l = length l.parts
