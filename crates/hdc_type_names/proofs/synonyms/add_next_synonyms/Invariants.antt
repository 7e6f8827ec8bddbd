use Rattle.std.proofs.Common.{◌≡◌, ◌++◌, map, drop}
use Rattle.hdc_resolved.specs.Mirror.{synonym_of}
use Rattle.hdc_written.specs.Mirror.{tops_behind}
use Rattle.hdc_type_names.specs.Synonyms.{each_synonym}
use Rattle.hdc_type_names.proofs.synonyms.add_next_synonyms.Given as goal

abbrev pub invariant-loop-next : goal.invariant-loop-next
invariant-loop-next l =
    map synonym_of l.initial.synonyms ++ each_synonym l.names (tops_behind l.tops)
    ≡ map synonym_of l.synonyms ++ each_synonym l.names (tops_behind (drop l.next-index l.tops))
