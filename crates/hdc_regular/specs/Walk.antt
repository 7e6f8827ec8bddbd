-- What a walk over types finds, where synonyms are not expanded, but much is known of each.
use Rattle.std.specs.Prelude.{ℕ, zero, suc, ◌==◌, Bool, true, false, ◌&&◌, List, [], ◌∷◌, ◌++◌, Option, Some, None, slice_index_or}
use Rattle.hdc_base.specs.declared.place.At.{At}
use Rattle.hdc_written.specs.declared.breach.Breach.{Breach}
use Rattle.hdc_written.specs.Breaches.{breach}
use Rattle.hdc_regular.specs.Resolved.{Resolved, parameter, use_of, other, Parts, no_part, next_part}

-- the variable that a type is, if it is one
abbrev pub alias_of : Resolved → Option ℕ
alias_of (parameter i) = Some i
alias_of (use_of n at ts) = None
alias_of (other ts) = None

abbrev pub each_alias_of : Parts → List (Option ℕ)
each_alias_of no_part = []
each_alias_of (next_part t ts) = alias_of t ∷ each_alias_of ts

-- what is known of declarations: which are synonyms, and whether the uses in the meaning of a synonym are in order for a head of
-- so many variables, where these are the variables that its arguments are
pub record Tables : Type 0 where
  pub synonyms : ℕ → Bool
  pub fits : ℕ → ℕ → List (Option ℕ) → Bool

-- a variable for which another may stand
abbrev pub followed : (ℕ → Option ℕ) → Option ℕ → Option ℕ
followed u None = None
followed u (Some j) = u j

abbrev pub each_followed : (ℕ → Option ℕ) → List (Option ℕ) → List (Option ℕ)
each_followed u [] = []
each_followed u (a ∷ vs) = followed u a ∷ each_followed u vs

abbrev pub one_of : List (Option ℕ) → ℕ → Option ℕ
one_of vs j = slice_index_or vs j None

abbrev pub is_variable : ℕ → Option ℕ → Bool
is_variable i None = false
is_variable i (Some j) = j == i

-- these are so many variables of a head in order, from this one on
abbrev pub in_order : ℕ → ℕ → List (Option ℕ) → Bool
in_order i zero [] = true
in_order i zero (a ∷ vs) = false
in_order i (suc k) [] = false
in_order i (suc k) (a ∷ vs) = is_variable i a && in_order (suc i) k vs

-- the uses by a use of a synonym are in order, or one of a data type is
abbrev pub use_fits : Tables → Bool → ℕ → ℕ → List (Option ℕ) → Bool
use_fits known true n k vs = known.fits n k vs
use_fits known false n k vs = in_order 0 k vs

-- a use in the group of its data type that is not in order breaks rule 10
abbrev pub wrong_use : Bool → Bool → At → List Breach
wrong_use true false at = breach 10 at ∷ []
wrong_use true true at = []
wrong_use false b at = []

-- where these are in the group, for a head of so many variables
abbrev mutual
  pub wrong : Tables → (ℕ → Bool) → ℕ → (ℕ → Option ℕ) → Resolved → List Breach
  wrong known own k u (parameter i) = []
  wrong known own k u (use_of n at ts) = wrong_use (own n) (use_fits known (known.synonyms n) n k (each_followed u (each_alias_of ts))) at ++ each_wrong known own k u ts
  wrong known own k u (other ts) = each_wrong known own k u ts

  pub each_wrong : Tables → (ℕ → Bool) → ℕ → (ℕ → Option ℕ) → Parts → List Breach
  each_wrong known own k u no_part = []
  each_wrong known own k u (next_part t ts) = wrong known own k u t ++ each_wrong known own k u ts

-- nothing is broken
abbrev pub is_nothing : List Breach → Bool
is_nothing [] = true
is_nothing (b ∷ bs) = false

-- the group with this number, by the numbers of declarations
abbrev pub is_in_group : List ℕ → ℕ → ℕ → Bool
is_in_group numbers group n = slice_index_or numbers n 0 == group
