use Rattle.std.proofs.Common.{◌≡◌, ◌++◌, drop}
use Rattle.hdc_regular.specs.PartMirror.{parts_of}
use Rattle.hdc_regular.specs.Walk.{each_alias_of}
use Rattle.hdc_regular.proofs.contents.aliases.Given as goal

abbrev pub invariant-loop-part : goal.invariant-loop-part
invariant-loop-part l = each_alias_of (parts_of l.parts) ≡ l.aliases ++ each_alias_of (parts_of (drop l.part-index l.parts))
