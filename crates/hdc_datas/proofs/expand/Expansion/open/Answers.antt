use Rattle.std.proofs.Common.{◌+◌, ℕ, length, refl, subst, arith}
use Rattle.hdc_datas.specs.Settled.{synonyms_of}
use Rattle.hdc_datas.proofs.Steps.{AreOpened, opened_well, opened_more, opens_all}
use Rattle.hdc_datas.proofs.expand.Expansion.open.Goals as goal

pub close-closure-requires-clause-well : goal.close-closure-requires-clause-well
close-closure-requires-clause-well c = opened_well (synonyms_of c.args.meanings.now) c.args.environment c.args.arguments.now c.args.self.now c.requires.well c.loop-part.self c.loop-part.part-index c.loop-part.invariant

pub loop-part-preserved : goal.loop-part-preserved
loop-part-preserved c =
    opened_more (synonyms_of c.args.meanings.now) c.args.environment c.args.arguments.now c.args.self.now c.requires.well c.loop-part.self (record { arguments = c.push.new.self; pending = c.loop-part.self.pending }) c.loop-part.part-index (c.loop-part.part-index + 1) c.part-item.result c.close-closure.result
    c.requires.within c.loop-part-test.true (omega arith) c.part-item.is c.close-closure.ensures.value c.close-closure.ensures.within refl c.in_ok-push.ensures.ok c.loop-part.invariant

pub returns : goal.returns
returns c =
    opens_all (synonyms_of c.args.meanings.now) c.args.environment c.args.arguments.now c.args.self.now c.requires.well c.loop-part.self (record { start = c.len-start.result; count = length c.args.arguments.now }) c.len-start.ensures refl
    (subst (λ (n : ℕ). AreOpened (synonyms_of c.args.meanings.now) c.args.environment c.args.arguments.now n c.args.self.now c.loop-part.self) (omega (arith, c.loop-part-test.false, c.loop-part.auto.part-index-end)) c.loop-part.invariant)
