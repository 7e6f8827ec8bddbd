use Rattle.std.proofs.Common.{◌≡◌, ℕ, length, get_or}
use Rattle.hdc_datas.proofs.renaming.own_numbers.Given as goal

abbrev pub invariant-loop-number : goal.invariant-loop-number
invariant-loop-number l = record {
  size : length l.numbers ≡ l.number;
  own : (n : ℕ) → get_or l.numbers n n ≡ n;
}
