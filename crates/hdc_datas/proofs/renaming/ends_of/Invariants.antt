use Rattle.std.proofs.Common.{map}
use Rattle.hdc_resolved.specs.Mirror.{synonym_of}
use Rattle.hdc_datas.specs.Settled.{AreEnds}
use Rattle.hdc_datas.proofs.renaming.ends_of.Given as goal

abbrev pub invariant-loop-number : goal.invariant-loop-number
invariant-loop-number l = AreEnds (map synonym_of l.synonyms) l.ends
