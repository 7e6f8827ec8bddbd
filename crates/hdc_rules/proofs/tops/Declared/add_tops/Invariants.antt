use Rattle.std.proofs.Common.{◌≡◌, ◌++◌, drop}
use Rattle.hdc_written.specs.Mirror.{tops_behind}
use Rattle.hdc_rules.specs.Bindings.{each_named, types_named, constructed_in, signed_at, fixed_at}
use Rattle.hdc_rules.proofs.tops.Declared.add_tops.Given as goal

abbrev pub invariant-loop-part : goal.invariant-loop-part
invariant-loop-part l = record {
  types : l.initial.self.types ++ each_named types_named (tops_behind l.parts) ≡ l.self.types ++ each_named types_named (tops_behind (drop l.part-index l.parts));
  constructors : l.initial.self.constructors ++ each_named constructed_in (tops_behind l.parts) ≡ l.self.constructors ++ each_named constructed_in (tops_behind (drop l.part-index l.parts));
  signed : l.initial.self.signed ++ each_named signed_at (tops_behind l.parts) ≡ l.self.signed ++ each_named signed_at (tops_behind (drop l.part-index l.parts));
  fixed : l.initial.self.fixed ++ each_named fixed_at (tops_behind l.parts) ≡ l.self.fixed ++ each_named fixed_at (tops_behind (drop l.part-index l.parts));
}
