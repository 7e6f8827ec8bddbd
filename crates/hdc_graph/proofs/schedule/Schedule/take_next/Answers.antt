use Rattle.std.proofs.Common.{◌<◌, arith, sym, subst}
use Rattle.hdc_graph.specs.declared.schedule.Schedule.{Schedule}
use Rattle.hdc_graph.specs.Schedule.{IsScheduling, untaken}
use Rattle.hdc_graph.proofs.Settling.{chosen_lies, taken_less, taken_next}
use Rattle.hdc_graph.proofs.schedule.Schedule.take_next.Goals as goal

pub take-requires-clause-place : goal.take-requires-clause-place
take-requires-clause-place c = omega (arith, chosen_lies c.args.self.now c.in-Some.component c.pop.new.self c.requires.under_way c.requires.settled c.in-Some.ensures.0, c.requires.under_way.places_each)

pub take-requires-clause-waiting : goal.take-requires-clause-waiting
take-requires-clause-waiting c = omega (arith, chosen_lies c.args.self.now c.in-Some.component c.pop.new.self c.requires.under_way c.requires.settled c.in-Some.ensures.0, c.requires.under_way.waiting_each)

pub returns-clause-under_way : goal.returns-clause-under_way
returns-clause-under_way c = subst IsScheduling (sym c.in_ok-take.ensures) (taken_next c.args.self.now c.in-Some.component c.pop.new.self c.requires.under_way c.requires.settled c.in-Some.ensures.0 c.in-Some.ensures.1)

pub returns-clause-fewer : goal.returns-clause-fewer
returns-clause-fewer c = subst (λ (s : Schedule). untaken s.places < untaken c.args.self.now.places) (sym c.in_ok-take.ensures) (taken_less c.args.self.now c.in-Some.component c.pop.new.self c.requires.under_way c.requires.settled c.in-Some.ensures.0)
