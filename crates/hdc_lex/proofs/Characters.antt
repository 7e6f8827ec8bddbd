-- Characters by their codes.
use Rattle.std.proofs.Common.{◌≡◌, ℕ, ◌-◌, ◌^◌, arith, min, Ok, Err, Some}
use Rattle.hdc_lex.specs.Characters.{coded}
use Rattle.hdc_lex.specs.Grammar.{greatest_code}
use Rattle.hdc_lex.specs.declared.lexeme.Fault.TheVariants as fault
use Rattle.hdc_lex.proofs.Numbers.{bounded}

-- a code that stops far behind the greatest is as good where it is compared
pub coded_bound : (n size : ℕ) → coded (min n (2 ^ 64 - 1)) size ≡ coded n size
coded_bound n size = bounded greatest_code n (λ code. Ok (Some code, size)) (Err fault.Literal) (omega arith)

pub ruleset code_steps = (coded_bound)
