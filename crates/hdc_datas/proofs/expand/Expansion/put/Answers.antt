use Rattle.std.proofs.Common.{ap, subst}
use Rattle.std.proofs.lemmas.Result.{on_ok_weaker}
use Rattle.hdc_datas.specs.Closures.{in_environment, values_in, IsPut}
use Rattle.hdc_datas.specs.Settled.{synonyms_of}
use Rattle.hdc_datas.proofs.expand.Expansion.put.Goals as goal

pub returns : goal.returns
returns c =
    let ss = synonyms_of c.args.meanings.now in
    on_ok_weaker c.put_root.result
    (subst (λ z. IsPut ss z c.args.nodes.now c.args.self.now c.put_root.new.nodes c.put_root.new.self) (ap (in_environment (values_in ss c.args.self.now) c.args.environment) (c.root_of.ensures ss c.requires.settled.arguments)))
    c.put_root.ensures
