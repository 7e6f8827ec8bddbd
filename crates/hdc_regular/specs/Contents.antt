-- What stands in types.
use Rattle.std.specs.Prelude.{ℕ, zero, suc, Bool, true, false, List, [], ◌∷◌, ◌++◌, Option}
use Rattle.hdc_base.specs.declared.place.At.{At}
use Rattle.hdc_regular.specs.declared.contents.Usage.{Usage}
use Rattle.hdc_regular.specs.Resolved.{Resolved, parameter, use_of, other, Parts, no_part, next_part}
use Rattle.hdc_regular.specs.Walk.{each_alias_of}

-- the variables of a type, in its order
abbrev mutual
  pub variables_in : Resolved → List ℕ
  variables_in (parameter i) = i ∷ []
  variables_in (use_of n at ts) = each_variables_in ts
  variables_in (other ts) = each_variables_in ts

  pub each_variables_in : Parts → List ℕ
  each_variables_in no_part = []
  each_variables_in (next_part t ts) = variables_in t ++ each_variables_in ts

-- a use, with the variables that its arguments are
abbrev pub usage : ℕ → At → List (Option ℕ) → Usage
usage n at vs = record { number = n; at = at; arguments = vs }

-- the uses in a type, in its order
abbrev mutual
  pub uses_in : Resolved → List Usage
  uses_in (parameter i) = []
  uses_in (use_of n at ts) = usage n at (each_alias_of ts) ∷ each_uses_in ts
  uses_in (other ts) = each_uses_in ts

  pub each_uses_in : Parts → List Usage
  each_uses_in no_part = []
  each_uses_in (next_part t ts) = uses_in t ++ each_uses_in ts

-- a flag is set, and before it there are flags
abbrev pub flag_set : List Bool → ℕ → List Bool
flag_set [] zero = true ∷ []
flag_set [] (suc n) = false ∷ flag_set [] n
flag_set (b ∷ bs) zero = true ∷ bs
flag_set (b ∷ bs) (suc n) = b ∷ flag_set bs n

-- one after another
abbrev pub flags_set : List Bool → List ℕ → List Bool
flags_set bs [] = bs
flags_set bs (n ∷ ns) = flags_set (flag_set bs n) ns
