-- Blocks and openers on a stack, which is a list from its top.
use Rattle.std.specs.Prelude.{ℕ, List, [], ◌∷◌, Bool, true, false, not, ◌&&◌, ◌||◌, Option, Some, None}
use Rattle.hdc_layout.specs.declared.role.Answer.{Answer}
use Rattle.hdc_layout.specs.declared.role.Answer.TheVariants as answer
use Rattle.hdc_layout.specs.declared.summary.Entry.{Entry}
use Rattle.hdc_layout.specs.declared.summary.Entry.TheVariants as entry
use Rattle.hdc_layout.specs.declared.summary.Block.{Block}
use Rattle.hdc_layout.specs.declared.summary.Block.TheVariants as block
use Rattle.hdc_layout.specs.declared.summary.Summary.{Summary}
use Rattle.hdc_layout.specs.Roles.{answers, is_bracket}

-- the entry on top
abbrev pub top : List Entry → Option Entry
top [] = None
top (e ∷ below) = Some e

-- the current block is the nearest to the top
abbrev pub current : List Entry → Block
current [] = block.Nowhere
current (entry.Implicit n ∷ below) = block.Implicit n
current (entry.Explicit ∷ below) = block.Explicit
current (entry.Opener o ∷ below) = current below

-- an explicit block, and no block, have column 0
abbrev pub column : Block → ℕ
column block.Nowhere = 0
column block.Explicit = 0
column (block.Implicit n) = n

-- the block is explicit
abbrev pub is_explicit : Block → Bool
is_explicit block.Explicit = true
is_explicit block.Nowhere = false
is_explicit (block.Implicit n) = false

-- from the top of the stack an answer finds its opener before an explicit block and before a ( or a [ that it does not
-- answer
abbrev pub finds : Answer → List Entry → Bool
finds a [] = false
finds a (entry.Implicit n ∷ below) = finds a below
finds a (entry.Explicit ∷ below) = false
finds a (entry.Opener o ∷ below) = answers a o || (not (is_bracket o) && finds a below)

-- what is asked of a stack: its current block, and which openers are found
abbrev pub summary_of : List Entry → Summary
summary_of stack = record {
  block = current stack;
  let_opener = finds answer.In stack;
  if_opener = finds answer.Then stack;
  then_opener = finds answer.Else stack;
  case_opener = finds answer.Of stack;
  paren = finds answer.CloseParen stack;
  bracket = finds answer.CloseBracket stack;
}
