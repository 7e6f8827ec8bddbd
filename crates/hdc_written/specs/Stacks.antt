-- Stacks as lists that begin with the last one.
use Rattle.std.specs.Prelude.{◌≡◌, List, [], ◌∷◌, Option, Some, None}

-- the last one was taken away, if there was one
abbrev pub IsPopped : {A : Type 0} → Option A → List A → List A → Type 0
IsPopped None old new = (old ≡ []) × (new ≡ [])
IsPopped (Some x) old new = old ≡ x ∷ new

-- the last one
abbrev pub top_of : {A : Type 0} → List A → Option A
top_of [] = None
top_of (x ∷ xs) = Some x
