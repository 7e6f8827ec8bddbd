-- Types whose names are resolved, and declarations of such types.
use Rattle.std.specs.Prelude.{◌≡◌, ◌⊎◌, ℕ, zero, suc, List, slice_index_or, Bool, true, false}
use Rattle.hdc_base.specs.declared.place.At.{At}

mutual
  pub data Resolved : Type 0 where
    -- a variable of the head, by its place there
    parameter : ℕ → Resolved
    -- what the declaration with this number declares, used at this place with these arguments
    use_of : ℕ → At → Parts → Resolved
    -- a type of another kind, and its parts
    other : Parts → Resolved

  pub data Parts : Type 0 where
    no_part : Parts
    next_part : Resolved → Parts → Parts

-- the part at a place; behind the last one there is nothing
abbrev pub part_at : ℕ → Parts → Resolved
part_at n no_part = other no_part
part_at zero (next_part t ts) = t
part_at (suc n) (next_part t ts) = part_at n ts

-- the variables of a head with so many, from this one on
abbrev pub parameters_from : ℕ → ℕ → Parts
parameters_from i zero = no_part
parameters_from i (suc k) = next_part (parameter i) (parameters_from (suc i) k)

-- the second type is the first, or stands in it
abbrev mutual
  pub Has : Resolved → Resolved → Type 0
  Has (parameter i) s = parameter i ≡ s
  Has (use_of n at ts) s = (use_of n at ts ≡ s) ⊎ EachHas ts s
  Has (other ts) s = (other ts ≡ s) ⊎ EachHas ts s

  pub EachHas : Parts → Resolved → Type 0
  EachHas no_part s = ⊥
  EachHas (next_part t ts) s = Has t s ⊎ EachHas ts s

pub data Declaration : Type 0 where
  -- a data type with so many parameters, and its fields
  data_type : ℕ → Parts → Declaration
  -- a synonym that breaks no rule, and its meaning
  synonym : Resolved → Declaration
  -- any other, which nothing names
  neither : Declaration

-- the declaration with a number
abbrev pub declaration_at : List Declaration → ℕ → Declaration
declaration_at ds n = slice_index_or ds n neither

abbrev pub is_synonym : Declaration → Bool
is_synonym (data_type k ts) = false
is_synonym (synonym t) = true
is_synonym neither = false

-- the fields of a data type
abbrev pub fields_of : Declaration → Parts
fields_of (data_type k ts) = ts
fields_of (synonym t) = no_part
fields_of neither = no_part

-- the meaning of a synonym
abbrev pub meaning_of : Declaration → Resolved
meaning_of (data_type k ts) = other no_part
meaning_of (synonym t) = t
meaning_of neither = other no_part
