-- What a program of arithmetic means.
use Rattle.std.specs.Prelude.{ℕ, zero, suc, Option, Some, None, Result, Ok, Err, ℤ}
use Rattle.hdc_base.specs.declared.place.Place.{Place}
use Rattle.hdc_value.specs.declared.arithmetic.Op.{Op}
use Rattle.hdc_value.specs.declared.outcome.Value.TheVariants.{Int}
use Rattle.hdc_value.specs.declared.outcome.TrapKind.{TrapKind}
use Rattle.hdc_value.specs.declared.outcome.Outcome.{Outcome}
use Rattle.hdc_value.specs.declared.outcome.Outcome.TheVariants as outcome
use Rattle.hdc_value.specs.Arithmetic.{arith_of}
use Rattle.hdc_value.specs.Answer.{Answer}
use Rattle.hdc_top.specs.Arithmetic.{Tree, literal, binary}

-- a result as an outcome; a trap stands at the operator
abbrev pub at_operator : Place → Result ℤ TrapKind → Outcome
at_operator at (Ok value) = outcome.Value (Int value)
at_operator at (Err kind) = outcome.Trap (record { kind = kind; place = at })

-- an operator on the outcomes of its operands, of which the left one comes first; the first trap is the outcome
abbrev pub apply : Op → Place → Outcome → Outcome → Outcome
apply op at (outcome.Trap trap) b = outcome.Trap trap
apply op at (outcome.Value a) (outcome.Trap trap) = outcome.Trap trap
apply op at (outcome.Value (Int a)) (outcome.Value (Int b)) = at_operator at (arith_of op a b)

-- the outcome of an expression, which unfolds nothing
abbrev pub eval : Tree → Outcome
eval (literal at value) = outcome.Value (Int value)
eval (binary op at a b) = apply op at (eval a) (eval b)

-- the program with this tree, at a budget of unfoldings: the use of main is one, and none is left for it at 0
abbrev pub meaning : Tree → ℕ → Option Answer
meaning tree zero = None
meaning tree (suc budget) = Some (record { outcome = eval tree; unfoldings = 1 })
