use Rattle.std.proofs.Common.{◌∙◌, ap}
use Rattle.hdc_datas.specs.Expanded.{substituted}
use Rattle.hdc_datas.proofs.Finding.{meaning_here, meaning_none}
use Rattle.hdc_datas.proofs.meanings.Meanings.find.Goals as goal

pub returns-in-Some : goal.returns-in-Some
returns-in-Some c = λ xs sized.
    c.end_of.ensures xs sized
    ∙ ap (substituted xs) (meaning_here c.args.self.now.synonyms.now c.end_of.result c.in-Some.synonym.now c.requires.each c.in-Some.ensures.lookup.3.0 c.in-Some.ensures.lookup.1)

pub returns-in-None : goal.returns-in-None
returns-in-None c = λ xs sized.
    c.end_of.ensures xs sized
    ∙ ap (substituted xs) (meaning_none c.args.self.now.synonyms.now c.end_of.result c.in-None.ensures.lookup.3)
