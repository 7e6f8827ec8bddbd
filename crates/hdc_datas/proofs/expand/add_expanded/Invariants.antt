use Rattle.std.proofs.Common.{◌≡◌, ◌++◌, map}
use Rattle.hdc_resolved.specs.Mirror.{synonym_of, type_tree_of}
use Rattle.hdc_datas.specs.Closures.{IsWell, output_of}
use Rattle.hdc_datas.specs.Expanded.{expanded}
use Rattle.hdc_datas.proofs.expand.add_expanded.Given as goal

abbrev pub invariant-loop : goal.invariant-loop
invariant-loop l = record {
  well : IsWell l.expansion;
  so_far : l.initial.nodes ++ expanded (map synonym_of l.synonyms) (type_tree_of l.part) ≡ l.nodes ++ output_of (map synonym_of l.synonyms) l.expansion;
}
