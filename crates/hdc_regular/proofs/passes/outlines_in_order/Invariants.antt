use Rattle.std.proofs.Common.{◌≡◌, drop}
use Rattle.hdc_regular.specs.Building.{no_outline}
use Rattle.hdc_regular.specs.Judged.{repeat_of}
use Rattle.hdc_regular.specs.Outlines.{outlines_by}
use Rattle.hdc_regular.specs.Passes.{before_of, text_of}
use Rattle.hdc_regular.proofs.passes.outlines_in_order.Given as goal

abbrev pub invariant-loop-number : goal.invariant-loop-number
invariant-loop-number l =
    outlines_by (before_of l.texts) (text_of l.texts) l.texts.sounds l.order (repeat_of no_outline l.size)
    ≡ outlines_by (before_of l.texts) (text_of l.texts) l.texts.sounds (drop l.number-index l.order) l.known
