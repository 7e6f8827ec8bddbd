-- The breaches that are found in declarations, by what is known of them.
use Rattle.std.specs.Prelude.{ℕ, suc, List, [], ◌∷◌, ◌++◌, Some, slice_index_or}
use Rattle.hdc_written.specs.declared.breach.Breach.{Breach}
use Rattle.hdc_regular.specs.Resolved.{Declaration, data_type, synonym, neither}
use Rattle.hdc_regular.specs.Walk.{Tables, each_wrong, is_in_group}

-- in the fields of a data type
abbrev pub declared_wrong : Tables → List ℕ → ℕ → Declaration → List Breach
declared_wrong known numbers n (data_type k ts) = each_wrong known (is_in_group numbers (slice_index_or numbers n 0)) k (λ j. Some j) ts
declared_wrong known numbers n (synonym t) = []
declared_wrong known numbers n neither = []

-- in declarations that are numbered from this number on
abbrev pub all_wrong : Tables → List ℕ → ℕ → List Declaration → List Breach
all_wrong known numbers n [] = []
all_wrong known numbers n (d ∷ ds) = declared_wrong known numbers n d ++ all_wrong known numbers (suc n) ds
