-- What the code keeps of blocks and of names that they bind.
use Rattle.std.specs.Prelude.{Option, None, Some}
use Rattle.std.specs.Borrow.{Bor}
use Rattle.hdc_tree.specs.declared.expression.Block.{Block}
use Rattle.hdc_written.specs.Written.{Declarations, no_declaration}
use Rattle.hdc_written.specs.Mirror.{block_of}
use Rattle.hdc_needs.specs.declared.names.BoundName.{BoundName}
use Rattle.hdc_needs.specs.Walk.{Mention}

-- the declarations of a block, if there are any
abbrev pub declarations_of : Option (Bor Block) → Declarations
declarations_of None = no_declaration
declarations_of (Some b) = block_of b.now

abbrev pub mention_of : BoundName → Mention
mention_of b = record { number = b.number; name = b.name.now }
