use Rattle.hdc_top.proofs.PlainBindings.{has_members, has_signatures, denied}
use Rattle.hdc_top.proofs.plain.is_empty.Goals as goal

pub returns-then-not-is_empty : goal.returns-then-not-is_empty
returns-then-not-is_empty c = has_members c.args.block.now (denied c.is_empty.result c.if-not-is_empty.true c.is_empty.ensures.1)

pub returns : goal.returns
returns c = has_signatures c.args.block.now c.is_empty-2.result (c.is_empty.ensures.0 c.if-not-is_empty.false) c.is_empty-2.ensures.0 c.is_empty-2.ensures.1
