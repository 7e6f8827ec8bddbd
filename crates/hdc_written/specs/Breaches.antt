-- Places where rules on names are broken, and the first of them.
use Rattle.std.specs.Prelude.{◌≡◌, ◌⊎◌, ◌<◌, ℕ, ◌==◌, nat_lt, Bool, List, [], ◌∷◌, Option, Some, None, if◌then◌else◌}
use Rattle.hdc_base.specs.declared.place.At.{At}
use Rattle.hdc_written.specs.declared.breach.Breach.{Breach}
use Rattle.hdc_written.specs.declared.breach.Found.{Found}

abbrev pub breach : ℕ → At → Breach
breach n at = record { rule = n; at = at }

-- a place is before another in a text
abbrev pub IsBefore : At → At → Type 0
IsBefore p q = (p.line < q.line) ⊎ ((p.line ≡ q.line) × (p.col < q.col))

-- the least place comes first, and at one place the lowest rule
abbrev pub ComesBefore : Breach → Breach → Type 0
ComesBefore b c = IsBefore b.at c.at ⊎ ((b.at ≡ c.at) × (b.rule < c.rule))

-- the first of what is broken, where this says what is; none where nothing is
abbrev pub IsFirst : (Breach → Type 0) → Option Breach → Type 0
IsFirst Broken None = (b : Breach) → Broken b → ⊥
IsFirst Broken (Some b) = Broken b × ((c : Breach) → Broken c → ComesBefore c b → ⊥)

-- one of a list
abbrev pub IsOneOf : Breach → List Breach → Type 0
IsOneOf b [] = ⊥
IsOneOf b (c ∷ cs) = (b ≡ c) ⊎ IsOneOf b cs

-- ---- as the code has it

abbrev pub comes_before : Breach → Breach → Bool
comes_before b c =
    if b.at.line == c.at.line then (if b.at.col == c.at.col then nat_lt b.rule c.rule else nat_lt b.at.col c.at.col) else nat_lt b.at.line c.at.line

abbrev pub nothing_found : Found
nothing_found = record { breach = None }

abbrev pub first_of : Option Breach → Breach → Breach
first_of None b = b
first_of (Some a) b = if comes_before b a then b else a

-- one more breach is found, and those of a list
abbrev pub noted : Found → Breach → Found
noted f b = record { breach = Some (first_of f.breach b) }

abbrev pub all_noted : Found → List Breach → Found
all_noted f [] = f
all_noted f (b ∷ bs) = all_noted (noted f b) bs

-- what was found in one way and in another
abbrev pub joined_with : Found → Option Breach → Found
joined_with f None = f
joined_with f (Some b) = noted f b

abbrev pub joined : Found → Found → Found
joined f g = joined_with f g.breach
