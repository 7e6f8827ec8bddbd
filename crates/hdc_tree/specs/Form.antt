-- Lists in trees that are well formed.
use Rattle.std.specs.Prelude.{List, [], ◌∷◌, length, Bool, true, false, nat_le, ◌&&◌, ◌||◌}

-- whether all are true
abbrev pub every : List Bool → Bool
every [] = true
every (b ∷ bs) = b && every bs

-- whether each of a list is formed
abbrev pub each_formed : {A : Type 0} → (A → Bool) → List A → Bool
each_formed formed [] = true
each_formed formed (x ∷ xs) = formed x && each_formed formed xs

-- whether one of a list at least is so
abbrev pub any_of : {A : Type 0} → (A → Bool) → List A → Bool
any_of holds [] = false
any_of holds (x ∷ xs) = holds x || any_of holds xs

-- whether a list has one to six members, as many as may follow the first of a tuple
abbrev pub few : {A : Type 0} → List A → Bool
few xs = nat_le 1 (length xs) && nat_le (length xs) 6
