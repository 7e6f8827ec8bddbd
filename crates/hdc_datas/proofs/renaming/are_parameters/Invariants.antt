use Rattle.hdc_datas.proofs.Finding.{AreRead}
use Rattle.hdc_datas.proofs.renaming.are_parameters.Given as goal

abbrev pub invariant-loop-place : goal.invariant-loop-place
invariant-loop-place l = AreRead l.parts l.place
