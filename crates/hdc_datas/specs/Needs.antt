-- Which synonyms name which.
use Rattle.std.specs.Prelude.{ℕ, Bool, true, false, List, [], ◌∷◌, ◌++◌, length, ltb}
use Rattle.hdc_graph.specs.Needs.{Reaches}
use Rattle.hdc_resolved.specs.Syntax.{TypeTree, int_type, char_type, list_type, tuple_type, function_type, data_type, synonym_type, type_variable, unknown_type, TypeTrees, no_type, next_type, SynonymOf}

-- the synonyms that a type names, in its order
abbrev mutual
  pub synonyms_in : TypeTree → List ℕ
  synonyms_in int_type = []
  synonyms_in char_type = []
  synonyms_in (list_type t) = synonyms_in t
  synonyms_in (tuple_type ts) = each_synonyms_in ts
  synonyms_in (function_type t u) = synonyms_in t ++ synonyms_in u
  synonyms_in (data_type n ts) = each_synonyms_in ts
  synonyms_in (synonym_type n ts) = n ∷ each_synonyms_in ts
  synonyms_in (type_variable n) = []
  synonyms_in (unknown_type ts) = []

  pub each_synonyms_in : TypeTrees → List ℕ
  each_synonyms_in no_type = []
  each_synonyms_in (next_type t ts) = synonyms_in t ++ each_synonyms_in ts

-- those of these numbers that are below a limit
abbrev pub kept_where : Bool → ℕ → List ℕ → List ℕ
kept_where true n ns = n ∷ ns
kept_where false n ns = ns

abbrev pub below : ℕ → List ℕ → List ℕ
below limit [] = []
below limit (n ∷ ns) = kept_where (ltb n limit) n (below limit ns)

-- for each synonym, those that its meaning names, where there are so many synonyms
abbrev pub needs_within : ℕ → List SynonymOf → List (List ℕ)
needs_within limit [] = []
needs_within limit (s ∷ ss) = below limit (synonyms_in s.meaning) ∷ needs_within limit ss

abbrev pub synonym_needs : List SynonymOf → List (List ℕ)
synonym_needs ss = needs_within (length ss) ss

-- no synonym leads to itself by what meanings name
abbrev pub NoSynonymReachesItself : List SynonymOf → Type 0
NoSynonymReachesItself ss = (n : ℕ) → Reaches (synonym_needs ss) n n → ⊥
