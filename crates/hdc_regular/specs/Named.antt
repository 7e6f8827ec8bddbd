-- What declarations name, where synonyms are not expanded.
use Rattle.std.specs.Prelude.{◌≡◌, ℕ, true, List, map}
use Rattle.hdc_graph.specs.Needs.{Nodes, Needs}
use Rattle.hdc_regular.specs.Resolved.{Parts, no_part, next_part, Declaration, data_type, synonym, neither}
use Rattle.hdc_regular.specs.Expansion.{each_types_in, synonyms_of}

-- the types of a declaration: the fields of a data type, or the meaning of a synonym
abbrev pub body_of : Declaration → Parts
body_of (data_type k ts) = ts
body_of (synonym t) = next_part t no_part
body_of neither = no_part

-- a declaration needs those that its types name
abbrev pub named_needs : List Declaration → Nodes
named_needs ds = map (λ d. each_types_in (body_of d)) ds

-- a synonym names another one
abbrev pub NamesSynonym : List Declaration → ℕ → ℕ → Type 0
NamesSynonym ds n b = (synonyms_of ds n ≡ true) × Needs (named_needs ds) n b × (synonyms_of ds b ≡ true)
