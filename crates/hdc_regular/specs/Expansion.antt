-- Types whose synonyms are expanded.
use Rattle.std.specs.Prelude.{◌≡◌, ℕ, zero, suc, List, [], ◌∷◌, ◌++◌, map, length, Bool, true, false}
use Rattle.hdc_base.specs.declared.place.At.{At}
use Rattle.hdc_graph.specs.Needs.{Nodes, Reaches}
use Rattle.hdc_regular.specs.Resolved.{Resolved, parameter, use_of, other, Parts, no_part, next_part, part_at, parameters_from, EachHas, Declaration, data_type, declaration_at, is_synonym, fields_of, meaning_of}

-- the meaning of a synonym with these arguments, used at this place: each use in it gets that place, and each argument keeps its own
abbrev mutual
  pub placed : At → Parts → Resolved → Resolved
  placed at us (parameter i) = part_at i us
  placed at us (use_of n a ts) = use_of n at (each_placed at us ts)
  placed at us (other ts) = other (each_placed at us ts)

  pub each_placed : At → Parts → Parts → Parts
  each_placed at us no_part = no_part
  each_placed at us (next_part t ts) = next_part (placed at us t) (each_placed at us ts)

-- a use of a synonym with this meaning, or of a data type
abbrev pub used : Bool → Resolved → ℕ → At → Parts → Resolved
used true m n at ts = placed at ts m
used false m n at ts = use_of n at ts

-- a type with its synonyms expanded, where this says which declarations are synonyms, and what they mean
abbrev mutual
  pub expanded : (ℕ → Bool) → (ℕ → Resolved) → Resolved → Resolved
  expanded synonyms meanings (parameter i) = parameter i
  expanded synonyms meanings (use_of n at ts) = used (synonyms n) (meanings n) n at (each_expanded synonyms meanings ts)
  expanded synonyms meanings (other ts) = other (each_expanded synonyms meanings ts)

  pub each_expanded : (ℕ → Bool) → (ℕ → Resolved) → Parts → Parts
  each_expanded synonyms meanings no_part = no_part
  each_expanded synonyms meanings (next_part t ts) = next_part (expanded synonyms meanings t) (each_expanded synonyms meanings ts)

-- which declarations of a list are synonyms
abbrev pub synonyms_of : List Declaration → ℕ → Bool
synonyms_of ds n = is_synonym (declaration_at ds n)

-- what synonyms mean, expanded so many times
abbrev pub expanded_meaning : List Declaration → ℕ → ℕ → Resolved
expanded_meaning ds zero n = other no_part
expanded_meaning ds (suc f) n = expanded (synonyms_of ds) (expanded_meaning ds f) (meaning_of (declaration_at ds n))

-- no synonym reaches itself, so that as many times as there are declarations are enough
abbrev pub full_meaning : List Declaration → ℕ → Resolved
full_meaning ds = expanded_meaning ds (length ds)

-- the data types that a type uses
abbrev mutual
  pub types_in : Resolved → List ℕ
  types_in (parameter i) = []
  types_in (use_of n at ts) = n ∷ each_types_in ts
  types_in (other ts) = each_types_in ts

  pub each_types_in : Parts → List ℕ
  each_types_in no_part = []
  each_types_in (next_part t ts) = types_in t ++ each_types_in ts

-- a data type needs those that its fields use, with their synonyms expanded
abbrev pub needs_by : (ℕ → Bool) → (ℕ → Resolved) → List Declaration → Nodes
needs_by synonyms meanings ds = map (λ d. each_types_in (each_expanded synonyms meanings (fields_of d))) ds

abbrev pub data_needs : List Declaration → Nodes
data_needs ds = needs_by (synonyms_of ds) (full_meaning ds) ds

-- the data type with this number uses, at this place, a type of its own recursive group with arguments
-- that are not the variables of its own head in order
pub record IsIrregularUse (ds : List Declaration) (number : ℕ) (at : At) : Type 0 where
  pub count : ℕ
  pub fields : Parts
  pub is_data : declaration_at ds number ≡ data_type count fields
  pub what : ℕ
  pub arguments : Parts
  pub uses : EachHas (each_expanded (synonyms_of ds) (full_meaning ds) fields) (use_of what at arguments)
  pub reaches : Reaches (data_needs ds) what number
  pub differ : arguments ≡ parameters_from 0 count → ⊥
