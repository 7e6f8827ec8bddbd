use Rattle.std.proofs.Common.{◌≡◌, ◌<◌, ℕ, false, get_or}
use Rattle.hdc_datas.proofs.order.is_one_set.Given as goal

abbrev pub invariant-loop-flag : goal.invariant-loop-flag
invariant-loop-flag l = (n : ℕ) → n < l.flag-index → get_or l.flags n false ≡ false
