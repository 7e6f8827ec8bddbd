use Rattle.hdc_top.proofs.NoTree.{unlaid_no_tree, syntax_no_tree, nesting_no_tree}
use Rattle.hdc_top.proofs.prelude.stored_tree.Goals as goal

pub returns-in-Err-Syntax : goal.returns-in-Err-Syntax
returns-in-Err-Syntax c = syntax_no_tree _ c.in-Ok.laid _ _ c.in-Ok.ensures (rw c.as_slice.ensures at (rw c.in-Err-Syntax.field-0-is at c.in-Err-Syntax.ensures))

pub returns-in-Err-Nesting : goal.returns-in-Err-Nesting
returns-in-Err-Nesting c = nesting_no_tree _ c.in-Ok.laid _ _ c.in-Ok.ensures (rw c.as_slice.ensures at (rw c.in-Err-Nesting.field-0-is at c.in-Err-Nesting.ensures))

pub returns-in-Err-Refused : goal.returns-in-Err-Refused
returns-in-Err-Refused c = unlaid_no_tree _ _ (rw c.in-Err-Refused.field-0-is at c.in-Err-Refused.ensures)

pub returns-in-Err-Limit : goal.returns-in-Err-Limit
returns-in-Err-Limit c = unlaid_no_tree _ _ (rw c.in-Err-Limit.field-0-is at c.in-Err-Limit.ensures)
