-- Lists by number, and sets.
use Rattle.std.specs.Prelude.{◌≡◌, ℕ, ◌<◌, ◌⊎◌, List, [], ◌∷◌, ◌++◌, length, slice_index, slice_index_or, slice_set, Option, None}

-- the number is in the list
abbrev pub Has : List ℕ → ℕ → Type 0
Has [] x = ⊥
Has (y ∷ ys) x = (y ≡ x) ⊎ Has ys x

-- a list of lists at a number
abbrev pub list_at : List (List ℕ) → ℕ → List ℕ
list_at lists i = slice_index_or lists i []

-- a list's last item was taken away
abbrev pub IsLast : ℕ → ℕ → List (List ℕ) → List (List ℕ) → Type 0
IsLast i last old new = (rest : List ℕ) × (list_at old i ≡ rest ++ last ∷ []) × (new ≡ slice_set old i rest)

-- a number came to those that were there
abbrev pub IsInserted : ℕ → List ℕ → List ℕ → Type 0
IsInserted n old new = ((x : ℕ) → Has old x → Has new x) × Has new n × ((x : ℕ) → Has new x → Has old x ⊎ (n ≡ x))

-- each number of the list is above this one
abbrev pub AllAbove : ℕ → List ℕ → Type 0
AllAbove n xs = (x : ℕ) → Has xs x → n < x

-- the place of a component
abbrev pub place_in : List (Option ℕ) → ℕ → Option ℕ
place_in places c = slice_index_or places c None

-- so many times nothing
abbrev pub AreNone : ℕ → List (Option ℕ) → Type 0
AreNone count xs = (length xs ≡ count) × ((k : ℕ) → place_in xs k ≡ None)

-- so many empty lists
abbrev pub AreEmpty : ℕ → List (List ℕ) → Type 0
AreEmpty count lists = (length lists ≡ count) × ((k : ℕ) → list_at lists k ≡ [])

-- so many times 0
abbrev pub AreZero : ℕ → List ℕ → Type 0
AreZero count xs = (length xs ≡ count) × ((k : ℕ) → slice_index xs k ≡ 0)
