-- The words of a job.
use Rattle.std.specs.Prelude.{ℕ, List, [], ◌∷◌, Bool, false, not, ◌&&◌, ◌==◌, codes, Option, Some, None, if◌then◌else◌}
use Rattle.std.specs.Str.{bytes_eq}

abbrev pub begins_with_dash : List ℕ → Bool
begins_with_dash [] = false
begins_with_dash (b ∷ bs) = b == 45

-- the file of the job: the words are the program's name, run, and a file that does not begin with a dash
abbrev pub job_of : List (List ℕ) → Option (List ℕ)
job_of [] = None
job_of (program ∷ []) = None
job_of (program ∷ action ∷ []) = None
job_of (program ∷ action ∷ file ∷ []) = if bytes_eq action (codes "run") && not (begins_with_dash file) then Some file else None
job_of (program ∷ action ∷ file ∷ another ∷ more) = None

-- what is written where the words name no job
abbrev pub usage_text : List ℕ
usage_text = codes "usage: hdc ACTION FILE [--procs P] [--input FILE] [--schedule FILE] [--budget B]\n"
