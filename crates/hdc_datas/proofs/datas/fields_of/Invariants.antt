use Rattle.std.proofs.Common.{◌≡◌, ◌++◌, drop}
use Rattle.hdc_datas.specs.Datas.{fields_of}
use Rattle.hdc_datas.specs.Expanded.{expanded}
use Rattle.hdc_datas.specs.Settled.{synonyms_of}
use Rattle.hdc_datas.proofs.datas.fields_of.Given as goal

abbrev pub invariant-loop-part : goal.invariant-loop-part
invariant-loop-part l =
    fields_of (expanded (synonyms_of l.meanings)) l.names l.variables l.parts
    ≡ l.fields ++ fields_of (expanded (synonyms_of l.meanings)) l.names l.variables (drop l.part-index l.parts)
