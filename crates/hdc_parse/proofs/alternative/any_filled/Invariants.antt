use Rattle.std.proofs.Common.{◌≡◌, drop}
use Rattle.hdc_tree.specs.Form.{any_of}
use Rattle.hdc_tree.specs.ExpressionForm.{filled_next_alt}
use Rattle.hdc_parse.proofs.alternative.any_filled.Given as goal

abbrev pub invariant-loop-next : goal.invariant-loop-next
invariant-loop-next l = any_of filled_next_alt (drop l.next-index l.rest) ≡ any_of filled_next_alt l.rest
