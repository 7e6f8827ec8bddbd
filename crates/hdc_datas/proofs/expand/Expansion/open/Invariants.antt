use Rattle.hdc_datas.specs.Settled.{synonyms_of}
use Rattle.hdc_datas.proofs.Steps.{AreOpened}
use Rattle.hdc_datas.proofs.expand.Expansion.open.Given as goal

abbrev pub invariant-loop-part : goal.invariant-loop-part
invariant-loop-part l = AreOpened (synonyms_of l.meanings) l.environment l.arguments l.part-index l.initial.self l.self
