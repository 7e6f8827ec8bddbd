-- Arithmetic on integers of 64 bits.
use Rattle.std.specs.Prelude.{◌^◌, Bool, nat_lt, if◌then◌else◌, Result, Ok, Err, ℤ, pos, negsuc, ◌+ℤ◌, ◌-ℤ◌, ◌*ℤ◌}
use Rattle.hdc_value.specs.declared.arithmetic.Op.{Op}
use Rattle.hdc_value.specs.declared.arithmetic.Op.TheVariants.{Add, Sub, Mul}
use Rattle.hdc_value.specs.declared.outcome.TrapKind.{TrapKind}
use Rattle.hdc_value.specs.declared.outcome.TrapKind.TheVariants.{Overflow}

-- whether 64 bits hold the integer
abbrev pub is_in_range : ℤ → Bool
is_in_range (pos n) = nat_lt n (2 ^ 63)
is_in_range (negsuc n) = nat_lt n (2 ^ 63)

-- the result of an operator among all integers
abbrev pub exact : Op → ℤ → ℤ → ℤ
exact Add a b = a +ℤ b
exact Sub a b = a -ℤ b
exact Mul a b = a *ℤ b

-- the exact result where 64 bits hold it, and else an overflow
abbrev pub arith_of : Op → ℤ → ℤ → Result ℤ TrapKind
arith_of op a b = if is_in_range (exact op a b) then Ok (exact op a b) else Err Overflow
