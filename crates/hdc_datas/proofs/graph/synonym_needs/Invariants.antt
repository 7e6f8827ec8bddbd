use Rattle.std.proofs.Common.{◌≡◌, ◌++◌, map, drop, length}
use Rattle.hdc_resolved.specs.Mirror.{synonym_of}
use Rattle.hdc_datas.specs.Needs.{needs_within}
use Rattle.hdc_datas.proofs.graph.synonym_needs.Given as goal

abbrev pub invariant-loop-synonym : goal.invariant-loop-synonym
invariant-loop-synonym l =
    needs_within (length l.synonyms) (map synonym_of l.synonyms)
    ≡ l.needs.items ++ needs_within (length l.synonyms) (map synonym_of (drop l.synonym-index l.synonyms))
