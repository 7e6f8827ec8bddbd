-- The machine: one processor that executes instructions over a stack of values.
use Rattle.std.specs.Prelude.{ℕ, zero, suc, ◌+◌, List, [], ◌∷◌, Option, Some, None, Result, Ok, Err, ℤ, slice_get}
use Rattle.std.specs.Option.{option_and_then}
use Rattle.hdc_base.specs.declared.place.Place.{Place}
use Rattle.hdc_value.specs.declared.outcome.Value.{Value}
use Rattle.hdc_value.specs.declared.outcome.Value.TheVariants as value
use Rattle.hdc_value.specs.declared.outcome.TrapKind.{TrapKind}
use Rattle.hdc_value.specs.declared.outcome.Outcome.{Outcome}
use Rattle.hdc_value.specs.declared.outcome.Outcome.TheVariants as outcome
use Rattle.hdc_value.specs.Arithmetic.{arith_of}
use Rattle.hdc_code.specs.declared.instr.Instr.{Instr}
use Rattle.hdc_code.specs.declared.instr.Instr.TheVariants as instr

-- what the processor does: it runs at a place of its code over a stack, the top first, or it has ended
pub data State : Type 0 where
  running : (place : ℕ) (stack : List Value) → State
  ended : (result : Outcome) → State

-- a state, and the unfoldings counted so far
pub record Config : Type 0 where
  pub state : State
  pub ticks : ℕ

abbrev pub running_at : ℕ → List Value → ℕ → Config
running_at place stack ticks = record { state = running place stack; ticks = ticks }

abbrev pub ended_with : Outcome → ℕ → Config
ended_with result ticks = record { state = ended result; ticks = ticks }

-- at the first instruction, with nothing on the stack and nothing counted
abbrev pub start : Config
start = running_at 0 [] 0

-- what an operator leaves: its result on the stack, or the end with a trap at the place
abbrev pub after_operator : Place → ℕ → List Value → ℕ → Result ℤ TrapKind → Config
after_operator at place stack ticks (Ok n) = running_at (place + 1) (value.Int n ∷ stack) ticks
after_operator at place stack ticks (Err kind) = ended_with (outcome.Trap (record { kind = kind; place = at })) ticks

-- what an instruction at a place does, or none where it lacks an operand
abbrev pub execute : Instr → ℕ → List Value → ℕ → Option Config
execute (instr.Int n) place stack ticks = Some (running_at (place + 1) (value.Int n ∷ stack) ticks)
execute (instr.Prim op at) place [] ticks = None
execute (instr.Prim op at) place (b ∷ []) ticks = None
execute (instr.Prim op at) place (value.Int b ∷ value.Int a ∷ stack) ticks = Some (after_operator at place stack ticks (arith_of op a b))
execute instr.Tick place stack ticks = Some (running_at (place + 1) stack (ticks + 1))
execute instr.Ret place [] ticks = None
execute instr.Ret place (v ∷ stack) ticks = Some (ended_with (outcome.Value v) ticks)

-- one step, or none at the end, past the code, or where an operand is missing
abbrev pub step_of : List Instr → State → ℕ → Option Config
step_of code (running place stack) ticks = option_and_then (λ i. execute i place stack ticks) (slice_get code place)
step_of code (ended result) ticks = None

abbrev pub step : List Instr → Config → Option Config
step code c = step_of code c.state c.ticks

-- the configuration after a number of steps, where there are so many
abbrev pub steps : ℕ → List Instr → Config → Option Config
steps zero code c = Some c
steps (suc n) code c = option_and_then (steps n code) (step code c)
