-- What is found in the declarations of a text behind a prelude, where there is an order of their synonyms.
use Rattle.std.specs.Prelude.{ℕ, zero, suc, Bool, List, [], ◌∷◌, length, drop, slice_index_or}
use Rattle.hdc_tree.specs.declared.program.Top.{Top}
use Rattle.hdc_written.specs.declared.breach.Breach.{Breach}
use Rattle.hdc_regular.specs.declared.contents.Usage.{Usage}
use Rattle.hdc_regular.specs.declared.demand.Demand.{Demand}
use Rattle.hdc_regular.specs.Resolved.{Declaration, data_type, synonym, neither, declaration_at}
use Rattle.hdc_regular.specs.Expansion.{synonyms_of}
use Rattle.hdc_regular.specs.Walk.{Tables, is_in_group}
use Rattle.hdc_regular.specs.Contents.{uses_in}
use Rattle.hdc_regular.specs.Building.{no_outline}
use Rattle.hdc_regular.specs.Built.{built_by}
use Rattle.hdc_regular.specs.Outlines.{outlines_by}
use Rattle.hdc_regular.specs.Demands.{no_demand, demand_at, met, demands_by}
use Rattle.hdc_regular.specs.Model.{all_wrong}

-- so many times the same
abbrev pub repeat_of : {A : Type 0} → A → ℕ → List A
repeat_of x zero = []
repeat_of x (suc n) = x ∷ repeat_of x n

-- the declarations as they are built, once all synonyms are looked at in this order
abbrev pub built_in_order : List Top → List Top → List Bool → List ℕ → ℕ → List Declaration
built_in_order ps ts sounds order size = built_by (outlines_by ps ts sounds order (repeat_of no_outline size)) ps ts sounds

-- the uses in the meaning of a synonym
abbrev pub uses_of_synonym : Declaration → List Usage
uses_of_synonym (data_type k ts) = []
uses_of_synonym (synonym t) = uses_in t
uses_of_synonym neither = []

-- what each synonym asks, where each declaration is in the group with its number
abbrev pub demands_of : List Declaration → List ℕ → List ℕ → List Demand
demands_of es numbers order =
    demands_by (λ n. is_in_group numbers (slice_index_or numbers n 0)) (synonyms_of es) (λ n. uses_of_synonym (declaration_at es n)) order (repeat_of no_demand (length es))

abbrev pub tables_of : List Declaration → List Demand → Tables
tables_of es demands = record { synonyms = synonyms_of es; fits = λ n. met (demand_at demands n) }

-- the breaches that are found from a declaration on
abbrev pub breaches_from : ℕ → List Declaration → List ℕ → List ℕ → List Breach
breaches_from from es numbers order = all_wrong (tables_of es (demands_of es numbers order)) numbers from (drop from es)
