use Rattle.std.proofs.Common.{◌≡◌, ◌++◌, drop}
use Rattle.hdc_written.specs.Mirror.{tops_behind}
use Rattle.hdc_datas.specs.Datas.{each_data}
use Rattle.hdc_datas.specs.Expanded.{expanded}
use Rattle.hdc_datas.specs.Settled.{synonyms_of}
use Rattle.hdc_datas.proofs.datas.add_next_tops.Given as goal

abbrev pub invariant-loop-next : goal.invariant-loop-next
invariant-loop-next l =
    l.initial.datas ++ each_data (expanded (synonyms_of l.meanings)) l.names (tops_behind l.tops)
    ≡ l.datas ++ each_data (expanded (synonyms_of l.meanings)) l.names (tops_behind (drop l.next-index l.tops))
