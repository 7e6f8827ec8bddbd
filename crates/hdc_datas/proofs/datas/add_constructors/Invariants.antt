use Rattle.std.proofs.Common.{◌≡◌, ◌++◌, drop}
use Rattle.hdc_datas.specs.Datas.{constructors_behind}
use Rattle.hdc_datas.specs.Expanded.{expanded}
use Rattle.hdc_datas.specs.Settled.{synonyms_of}
use Rattle.hdc_datas.proofs.datas.add_constructors.Given as goal

abbrev pub invariant-loop-part : goal.invariant-loop-part
invariant-loop-part l =
    l.initial.cons ++ constructors_behind (expanded (synonyms_of l.meanings)) l.names l.variables l.parts
    ≡ l.cons ++ constructors_behind (expanded (synonyms_of l.meanings)) l.names l.variables (drop l.part-index l.parts)
