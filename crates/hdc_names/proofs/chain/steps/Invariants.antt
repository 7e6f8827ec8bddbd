use Rattle.std.proofs.Common.{◌≡◌, suc, drop}
use Rattle.hdc_names.specs.Chain as spec
use Rattle.hdc_names.proofs.chain.steps.Given as goal

abbrev pub invariant-loop-index : goal.invariant-loop-index
invariant-loop-index l = spec.rest_read 1 l.fn.rest (spec.start l.fn.signed) ≡ spec.rest_read (suc l.index) (drop l.index l.fn.rest) l.progress
