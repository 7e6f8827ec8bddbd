-- What a table of names and texts holds.
use Rattle.std.specs.Prelude.{ℕ, List, [], ◌∷◌, Option, Some, None, if◌then◌else◌}
use Rattle.std.specs.Str.{bytes_eq}
use Rattle.hdc_base.specs.Counts.{next_fails}

-- the text beside the first equal name, where there is one
abbrev pub text_under : List (List ℕ) → List (List ℕ) → List ℕ → Option (List ℕ)
text_under [] texts name = None
text_under (n ∷ names) [] name = None
text_under (n ∷ names) (t ∷ texts) name = if bytes_eq n name then Some t else text_under names texts name

-- the text that the next load finds: none where its number is among those of the loads that fail
abbrev pub next_text : List ℕ → ℕ → List (List ℕ) → List (List ℕ) → List ℕ → Option (List ℕ)
next_text fails calls names texts name = if next_fails fails calls then None else text_under names texts name
