-- Sound code, and code that carries a meaning.
use Rattle.std.specs.Prelude.{◌≡◌, ℕ, ◌≤◌, List, Option, Some, None, IsSome, ◌⊎◌}
use Rattle.hdc_value.specs.declared.outcome.Outcome.{Outcome}
use Rattle.hdc_value.specs.Answer.{Answer}
use Rattle.hdc_code.specs.declared.instr.Instr.{Instr}
use Rattle.hdc_code.specs.Machine.{State, running, ended, Config, ended_with, start, step, steps}

-- from the start, some number of steps leads here
pub record Reaches (code : List Instr) (c : Config) : Type 0 where
  pub count : ℕ
  pub path : steps count code start ≡ Some c

abbrev pub HasEnded : State → Type 0
HasEnded (running place stack) = ⊥
HasEnded (ended result) = Unit {0}

-- wherever the code comes, it has ended or has a step
abbrev pub IsSound : List Instr → Type 0
IsSound code = (c : Config) → Reaches code c → HasEnded c.state ⊎ IsSome (step code c)

-- the run ends so
abbrev pub EndsWith : List Instr → Outcome → ℕ → Type 0
EndsWith code result ticks = Reaches code (ended_with result ticks)

-- what the code does is what the meaning answers at this budget: where it answers nothing, no end is reached within
-- the budget, and where it answers, no more is counted than the unfoldings, and each end has the outcome and their number
abbrev pub CarriesAt : List Instr → ℕ → Option Answer → Type 0
CarriesAt code budget None = (result : Outcome) (ticks : ℕ) → EndsWith code result ticks → ticks ≤ budget → ⊥
CarriesAt code budget (Some answer) = ((c : Config) → Reaches code c → c.ticks ≤ answer.unfoldings) × ((result : Outcome) (ticks : ℕ) → EndsWith code result ticks → (result ≡ answer.outcome) × (ticks ≡ answer.unfoldings))
