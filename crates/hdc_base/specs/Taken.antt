-- What a put does to the bytes that a sink has taken.
use Rattle.std.specs.Prelude.{◌≡◌, ℕ, List, ◌++◌, Option, Some, IfSome, take}

-- where the bytes taken before are told, those taken after are told, and are these with the piece behind them
abbrev pub Appends : Option (List ℕ) → List ℕ → Option (List ℕ) → Type 0
Appends old piece new = IfSome old (λ bytes. new ≡ Some (bytes ++ piece))

-- the same with a part of the piece from its front
abbrev pub AppendsPrefix : Option (List ℕ) → List ℕ → Option (List ℕ) → Type 0
AppendsPrefix old piece new = IfSome old (λ bytes. (count : ℕ) × (new ≡ Some (bytes ++ take count piece)))
