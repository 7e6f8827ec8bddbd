use Rattle.std.proofs.Common.{◌≡◌, ◌++◌, map, drop}
use Rattle.hdc_resolved.specs.Mirror.{types, type_tree_of}
use Rattle.hdc_datas.specs.Needs.{each_synonyms_in}
use Rattle.hdc_datas.proofs.used.+add_used.Given as goal

abbrev pub invariant-add_all_used-loop-part : goal.invariant-add_all_used-loop-part
invariant-add_all_used-loop-part l =
    l.initial.numbers ++ each_synonyms_in (types (map type_tree_of l.parts))
    ≡ l.numbers ++ each_synonyms_in (types (map type_tree_of (drop l.part-index l.parts)))
