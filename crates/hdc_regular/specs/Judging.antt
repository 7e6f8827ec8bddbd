-- What is found among the uses in a data type.
use Rattle.std.specs.Prelude.{ℕ, Bool, true, false, List, [], ◌∷◌, ◌++◌, slice_index_or}
use Rattle.hdc_written.specs.declared.breach.Breach.{Breach}
use Rattle.hdc_regular.specs.declared.contents.Usage.{Usage}
use Rattle.hdc_regular.specs.declared.demand.Demand.{Demand}
use Rattle.hdc_regular.specs.Walk.{in_order, wrong_use, is_in_group}
use Rattle.hdc_regular.specs.Demands.{demand_at, met}

abbrev pub fits_by : Bool → List Demand → ℕ → Usage → Bool
fits_by true demands count x = met (demand_at demands x.number) count x.arguments
fits_by false demands count x = in_order 0 count x.arguments

-- what is used has the variables of a head in order, where these are synonyms with these demands
abbrev pub usage_fits : List Bool → List Demand → ℕ → Usage → Bool
usage_fits synonyms demands count x = fits_by (slice_index_or synonyms x.number false) demands count x

-- a use in a data type of the group with this number
abbrev pub usage_wrong : List Bool → List Demand → List ℕ → ℕ → ℕ → Usage → List Breach
usage_wrong synonyms demands numbers group count x = wrong_use (is_in_group numbers group x.number) (usage_fits synonyms demands count x) x.at

-- the same for each use
abbrev pub uses_wrong : List Bool → List Demand → List ℕ → ℕ → ℕ → List Usage → List Breach
uses_wrong synonyms demands numbers group count [] = []
uses_wrong synonyms demands numbers group count (x ∷ xs) = usage_wrong synonyms demands numbers group count x ++ uses_wrong synonyms demands numbers group count xs
