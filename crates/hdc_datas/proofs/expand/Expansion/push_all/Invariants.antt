use Rattle.std.proofs.Common.{◌≤◌, length, map, drop}
use Rattle.hdc_resolved.specs.Mirror.{type_tree_of, types}
use Rattle.hdc_datas.specs.Closures.{types_in, Puts}
use Rattle.hdc_datas.proofs.expand.Expansion.push_all.Given as goal

abbrev pub invariant-loop-count : goal.invariant-loop-count
invariant-loop-count l = record {
  within : l.count ≤ length l.parts;
  puts : Puts (λ ss. types_in ss l.initial.self l.environment (types (map type_tree_of (drop l.count l.parts)))) l.initial.self l.self;
}

abbrev pub decreases-loop-count : goal.decreases-loop-count
decreases-loop-count l = l.count
