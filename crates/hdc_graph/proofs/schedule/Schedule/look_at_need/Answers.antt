use Rattle.std.proofs.Common.{arith, refl}
use Rattle.std.proofs.lemmas.Result.{on_ok_weaker}
use Rattle.hdc_graph.proofs.Settling.{need_lies, paid_now, paid_now_less, waiting_now}
use Rattle.hdc_graph.proofs.schedule.Schedule.look_at_need.Goals as goal

pub is_met-requires : goal.is_met-requires
is_met-requires c = omega (arith, need_lies c.args.self.now c.args.component c.args.need _ c.requires.under_way c.requires.need, c.requires.under_way.places_each)

pub push-requires-else-is_met : goal.push-requires-else-is_met
push-requires-else-is_met c = omega (arith, need_lies c.args.self.now c.args.component c.args.need _ c.requires.under_way c.requires.need, c.requires.under_way.waiting_each)

pub returns-then-is_met-clause-under_way : goal.returns-then-is_met-clause-under_way
returns-then-is_met-clause-under_way c =
    on_ok_weaker c.push.result (paid_now c.args.self.now c.args.component c.args.need c.args.cursor c.set.new.self c.push.new.self c.requires.under_way c.requires.need (c.if-is_met.ensures.met refl) c.set.ensures) c.push.ensures.ok

pub returns-then-is_met-clause-less : goal.returns-then-is_met-clause-less
returns-then-is_met-clause-less c =
    on_ok_weaker c.push.result (paid_now_less c.args.self.now c.args.component c.args.need c.args.cursor _ c.set.new.self c.push.new.self c.requires.under_way c.requires.need c.requires.cursor c.set.ensures) c.push.ensures.ok

pub returns-else-is_met-clause-under_way : goal.returns-else-is_met-clause-under_way
returns-else-is_met-clause-under_way c =
    on_ok_weaker c.push-else-is_met.result (waiting_now c.args.self.now c.args.component c.args.need _ c.push-else-is_met.new.self c.requires.under_way c.requires.need (c.if-is_met.ensures.not_met refl)) c.push-else-is_met.ensures
