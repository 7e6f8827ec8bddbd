use Rattle.std.proofs.Common.{length, refl}
use Rattle.std.proofs.lemmas.Result.{on_ok_weaker}
use Rattle.hdc_resolved.specs.Mirror.{type_tree_of}
use Rattle.hdc_datas.specs.Settled.{synonyms_of}
use Rattle.hdc_datas.proofs.Steps.{entered, entered_none}
use Rattle.hdc_datas.proofs.expand.Expansion.enter.Goals as goal

pub returns-in_ok-inner-in-Some : goal.returns-in_ok-inner-in-Some
returns-in_ok-inner-in-Some c =
    on_ok_weaker c.push.result
    (entered (synonyms_of c.args.meanings.now) c.args.environment c.args.number (length c.args.arguments.now) c.args.arguments.now c.args.self.now refl
    c.open.new.self c.push.new.self c.in_ok-inner-in-Some.inner (type_tree_of c.in-Some.meaning.now) c.in-Some.ensures c.in_ok-inner-in-Some.ensures)
    c.push.ensures

pub returns-in-None : goal.returns-in-None
returns-in-None c =
    entered_none (synonyms_of c.args.meanings.now) c.args.environment c.args.number (length c.args.arguments.now) c.args.arguments.now c.args.self.now refl c.requires.well c.in-None.ensures
