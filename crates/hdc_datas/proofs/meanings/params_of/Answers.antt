use Rattle.hdc_datas.proofs.Finding.{params_here, params_past}
use Rattle.hdc_datas.proofs.meanings.params_of.Goals as goal

pub returns-in-Some : goal.returns-in-Some
returns-in-Some c = params_here c.args.synonyms.now c.args.number c.in-Some.synonym.now c.in-Some.ensures.lookup.3.0 c.in-Some.ensures.lookup.1

pub returns-in-None : goal.returns-in-None
returns-in-None c = params_past c.args.synonyms.now c.args.number c.in-None.ensures.lookup.3
