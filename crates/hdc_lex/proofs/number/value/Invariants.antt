use Rattle.std.proofs.Common.{◌≡◌, ◌-◌, ◌^◌, take, min}
use Rattle.hdc_lex.specs.Numbers.{number_of}
use Rattle.hdc_lex.proofs.number.value.Given as goal

-- the number of the digits so far, up to the bound
abbrev pub invariant-loop-digit : goal.invariant-loop-digit
invariant-loop-digit l = l.value ≡ min (number_of l.radix (take l.digit-index l.digits)) (2 ^ 64 - 1)
