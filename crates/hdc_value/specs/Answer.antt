-- What a meaning answers.
use Rattle.std.specs.Prelude.{ℕ}
use Rattle.hdc_value.specs.declared.outcome.Outcome.{Outcome}

-- the outcome of an evaluation, and how many unfoldings it made
pub record Answer : Type 0 where
  pub outcome : Outcome
  pub unfoldings : ℕ
