use Rattle.std.proofs.Common.{◌∙◌, ap}
use Rattle.hdc_datas.specs.Closures.{in_environment, values_in}
use Rattle.hdc_datas.specs.Settled.{synonyms_of}
use Rattle.hdc_datas.proofs.expand.Expansion.close.Goals as goal

pub returns-clause-value : goal.returns-clause-value
returns-clause-value c =
    let ss = synonyms_of c.args.meanings.now in
    c.close_root.ensures.value ss ∙ ap (in_environment (values_in ss c.args.self.now) c.args.environment) (c.root_of.ensures ss c.requires.settled.arguments)
