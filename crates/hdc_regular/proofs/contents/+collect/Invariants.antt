use Rattle.std.proofs.Common.{◌≡◌, ◌++◌, drop}
use Rattle.hdc_regular.specs.PartMirror.{parts_of}
use Rattle.hdc_regular.specs.Contents.{each_variables_in, each_uses_in}
use Rattle.hdc_regular.proofs.contents.+collect.Given as goal

abbrev pub invariant-collect_parts-loop-part : goal.invariant-collect_parts-loop-part
invariant-collect_parts-loop-part l =
    (l.initial.variables ++ each_variables_in (parts_of l.parts) ≡ l.variables ++ each_variables_in (parts_of (drop l.part-index l.parts)))
    × (l.initial.uses ++ each_uses_in (parts_of l.parts) ≡ l.uses ++ each_uses_in (parts_of (drop l.part-index l.parts)))
