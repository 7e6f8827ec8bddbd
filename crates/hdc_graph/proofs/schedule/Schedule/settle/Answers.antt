use Rattle.std.proofs.Common.{◌≤◌, arith, refl, length}
use Rattle.std.proofs.lemmas.Result.{on_ok_weaker}
use Rattle.hdc_graph.proofs.Settling.{looked_lies, taken_kept, ready_kept, owes_nothing}
use Rattle.hdc_graph.proofs.schedule.Schedule.settle.Goals as goal

pub is_taken-requires : goal.is_taken-requires
is_taken-requires c = omega (arith, looked_lies c.args.self.now c.args.component c.requires, c.requires.places_each)

pub cursor_of-cursor-requires : goal.cursor_of-cursor-requires
cursor_of-cursor-requires c = omega (arith, looked_lies c.args.self.now c.args.component c.requires, c.requires.cursors_each)

pub list-needs-requires : goal.list-needs-requires
list-needs-requires c = omega (arith, looked_lies c.args.self.now c.args.component c.requires, c.requires.needs_each)

pub returns-then-is_taken-clause-under_way : goal.returns-then-is_taken-clause-under_way
returns-then-is_taken-clause-under_way c = taken_kept c.args.self.now c.args.component c.requires (c.if-is_taken.ensures.taken refl)

pub returns-then-cursor-needs-clause-under_way : goal.returns-then-cursor-needs-clause-under_way
returns-then-cursor-needs-clause-under_way c =
    let past : length c.list-needs.result.now ≤ c.cursor_of-cursor.result = c.if-cursor-needs.true in
    on_ok_weaker c.insert.result (ready_kept c.args.self.now c.args.component c.insert.new.self c.requires (owes_nothing c.args.self.now c.args.component c.cursor_of-cursor.result c.list-needs.result.now c.cursor_of-cursor.ensures c.list-needs.ensures past) (c.if-is_taken.ensures.not_taken refl)) c.insert.ensures
