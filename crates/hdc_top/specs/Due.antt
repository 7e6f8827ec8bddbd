-- What is due for the words of a job and the text of its file.
use Rattle.std.specs.Prelude.{◌≡◌, ℕ, ◌<◌, ◌≤◌, List, Option, Some, None, IfSome, length}
use Rattle.hdc_base.specs.declared.refusal.Which.TheVariants.{Program}
use Rattle.hdc_base.specs.declared.refusal.Limit.TheVariants.{Long}
use Rattle.hdc_base.specs.declared.refusal.Stop.{Stop}
use Rattle.hdc_base.specs.declared.refusal.Stop.TheVariants as stop
use Rattle.hdc_base.specs.Taken.{Appends, AppendsPrefix}
use Rattle.hdc_base.specs.Counts.{Rose}
use Rattle.hdc_value.specs.declared.outcome.Outcome.{Outcome}
use Rattle.hdc_value.specs.declared.outcome.Outcome.TheVariants as outcome
use Rattle.hdc_value.specs.Answer.{Answer}
use Rattle.hdc_top.specs.Arithmetic.{Tree}
use Rattle.hdc_top.specs.Meaning.{meaning}
use Rattle.hdc_top.specs.Stopped.{most_bytes, MeansTree, IsStopped}
use Rattle.hdc_top.specs.Report.{run_text, stop_text}
use Rattle.hdc_top.specs.Words.{job_of, usage_text}

-- how many unfoldings a run may make
abbrev pub budget : ℕ
budget = 1000000

-- a text that is too long
abbrev pub too_long : Stop
too_long = stop.Limit (Long Program)

-- the status of a stop; for want of memory nothing is due
abbrev pub stop_status : Stop → ℕ
stop_status (stop.Refused r) = 1
stop_status (stop.Limit l) = 8
stop_status stop.Want = 7

-- the status of a run that ended
abbrev pub status_of : Outcome → ℕ
status_of (outcome.Value v) = 0
status_of (outcome.Trap t) = 3

-- the status and the bytes that are due for a text
pub data IsDueFor (text : List ℕ) : ℕ → List ℕ → Type 0 where
  long : most_bytes < length text → IsDueFor text 8 (stop_text too_long)
  stopped : (s : Stop) → length text ≤ most_bytes → IsStopped text s → IsDueFor text (stop_status s) (stop_text s)
  ran : (tree : Tree) (answer : Answer) → length text ≤ most_bytes → MeansTree text tree → meaning tree budget ≡ Some answer → IsDueFor text (status_of answer.outcome) (run_text answer.outcome answer.unfoldings)

-- the same for words, where the text is that of their file
pub data IsDue (words : List (List ℕ)) (text : List ℕ) : ℕ → List ℕ → Type 0 where
  usage : job_of words ≡ None → IsDue words text 2 usage_text
  job : (file : List ℕ) (status : ℕ) (bytes : List ℕ) → job_of words ≡ Some file → IsDueFor text status bytes → IsDue words text status bytes

-- the text is what the store tells of the job's file, where it tells that
abbrev pub IsTold : (List ℕ → Option (List ℕ)) → List (List ℕ) → List ℕ → Type 0
IsTold holds words text = (file : List ℕ) → job_of words ≡ Some file → IfSome (holds file) (λ told. text ≡ told)

-- the status and the bytes are those due for the words and a text that is the file's, where the store tells that
pub record IsDueFrom (holds : List ℕ → Option (List ℕ)) (words : List (List ℕ)) (status : ℕ) (bytes : List ℕ) : Type 0 where
  pub text : List ℕ
  pub told : IsTold holds words text
  pub due : IsDue words text status bytes

-- with this status the sink took exactly the bytes that are due
pub record Delivers (holds : List ℕ → Option (List ℕ)) (words : List (List ℕ)) (status : ℕ) (before after : Option (List ℕ)) : Type 0 where
  pub bytes : List ℕ
  pub due : IsDueFrom holds words status bytes
  pub taken : Appends before bytes after

-- the sink took some of the bytes that are due, from their front
pub record DeliversPrefix (holds : List ℕ → Option (List ℕ)) (words : List (List ℕ)) (before after : Option (List ℕ)) : Type 0 where
  pub status : ℕ
  pub bytes : List ℕ
  pub due : IsDueFrom holds words status bytes
  pub taken : AppendsPrefix before bytes after

-- the faults of the job's file rose
pub record FileFails (before after : List ℕ → ℕ) (words : List (List ℕ)) : Type 0 where
  pub file : List ℕ
  pub job : job_of words ≡ Some file
  pub rose : Rose (before file) (after file)

-- the store tells this text of the job's file
pub record IsFileText (holds : List ℕ → Option (List ℕ)) (words : List (List ℕ)) (text : List ℕ) : Type 0 where
  pub file : List ℕ
  pub job : job_of words ≡ Some file
  pub held : holds file ≡ Some text
