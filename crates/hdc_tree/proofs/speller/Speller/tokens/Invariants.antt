use Rattle.std.proofs.Common.{◌≡◌, ◌++◌, length, reverse}
use Rattle.hdc_tree.proofs.speller.Speller.tokens.Given as goal

-- what is in order, and then what is left, are the tokens
abbrev pub invariant-loop-token : goal.invariant-loop-token
invariant-loop-token l = l.in_order.items ++ reverse l.tokens.items ≡ reverse l.initial.tokens.items

abbrev pub decreases-loop-token : goal.decreases-loop-token
decreases-loop-token l = length l.tokens.items
