use Rattle.std.proofs.Common.{subst}
use Rattle.hdc_needs.specs.declared.frames.OpenBlock.{OpenBlock}
use Rattle.hdc_needs.specs.Kept.{declarations_of}
use Rattle.hdc_needs.specs.Orders.{IsOrderIn}
use Rattle.hdc_needs.specs.Values.{AreNoted}
use Rattle.hdc_needs.proofs.Describing.{closed_block, closed_patterns}
use Rattle.hdc_needs.proofs.Results.{ok_then}
use Rattle.hdc_needs.proofs.walk.Walk.close.Goals as goal

pub returns-in_ok-block_order-in-Some-block : goal.returns-in_ok-block_order-in-Some-block
returns-in_ok-block_order-in-Some-block c state h =
    let k = c.in-Some-block.block-is in
    let order = c.in_ok-block_order-in-Some-block.field-0 in
    ok_then c.push.result
    (λ more. closed_block c.args.self.now c.leave.new.self c.pop.new.self c.in-Some.frame c.in-Some-block.block c.note_needy.new.found order c.push.new.self state c.in-Some.ensures c.leave.ensures c.in-Some-block.is
    (subst (λ (o : OpenBlock). AreNoted o.graph (declarations_of o.declarations) c.args.self.now.found c.note_needy.new.found) k c.in_ok-note_needy-in-Some-block.ensures)
    (subst (λ (o : OpenBlock). IsOrderIn o.graph (declarations_of o.declarations) order) k c.in_ok-block_order-in-Some-block.ensures) more h)
    c.push.ensures

pub returns-in-None-block : goal.returns-in-None-block
returns-in-None-block c state h = closed_patterns c.args.self.now c.leave.new.self c.pop.new.self c.in-Some.frame state c.in-Some.ensures c.leave.ensures c.in-None-block.is h
