-- What is found out about synonyms before types are expanded.
use Rattle.std.specs.Prelude.{◌≡◌, ℕ, zero, suc, ◌<◌, List, [], ◌∷◌, length, map, slice_index_or, Option, None, Some}
use Rattle.hdc_resolved.specs.Mirror.{synonym_of}
use Rattle.hdc_resolved.specs.Syntax.{TypeTrees, no_type, next_type, type_variable, SynonymOf}
use Rattle.hdc_value.specs.declared.ty.TypeNode.{TypeNode}
use Rattle.hdc_value.specs.declared.ty.TypeNode.TheVariants as node
use Rattle.hdc_datas.specs.declared.meanings.Meanings.{Meanings}
use Rattle.hdc_datas.specs.Expanded.{substituted, flat_at, expanded_meaning}

-- what a synonym means in prefix order
abbrev pub meaning_of : List SynonymOf → ℕ → List TypeNode
meaning_of ss n = expanded_meaning (length ss) ss n

-- what each synonym means is its meaning in prefix order, by what all of them mean
abbrev pub EachUnfolds : List SynonymOf → Type 0
EachUnfolds ss = (n : ℕ) → n < length ss → meaning_of ss n ≡ flat_at (meaning_of ss) ss n

-- with so many arguments a synonym means this
abbrev pub StandsFor : List SynonymOf → ℕ → ℕ → List TypeNode → Type 0
StandsFor ss n count ns = (xs : List (List TypeNode)) → length xs ≡ count → substituted xs (meaning_of ss n) ≡ substituted xs ns

-- how many parameters a synonym has
abbrev pub params_at : List SynonymOf → ℕ → ℕ
params_at [] n = 0
params_at (s ∷ ss) zero = s.params
params_at (s ∷ ss) (suc n) = params_at ss n

-- variables by their numbers, from this one on
abbrev pub variables_from : ℕ → ℕ → TypeTrees
variables_from i zero = no_type
variables_from i (suc n) = next_type (type_variable i) (variables_from (suc i) n)

-- with as many arguments as it has parameters, a synonym means what another one means, which has as many
pub record Renames (ss : List SynonymOf) (n m : ℕ) : Type 0 where
  pub params : params_at ss n ≡ params_at ss m
  pub means : StandsFor ss n (params_at ss n) (meaning_of ss m)

-- each synonym renames the one that the list has for it
abbrev pub AreEnds : List SynonymOf → List ℕ → Type 0
AreEnds ss ends = (n : ℕ) → Renames ss n (slice_index_or ends n n)

-- a synonym means its argument at this place, if there is one
abbrev pub IsProjection : List SynonymOf → ℕ → Option ℕ → Type 0
IsProjection ss n None = Unit {0}
IsProjection ss n (Some place) = meaning_of ss n ≡ node.Var place ∷ []

-- each synonym means the argument that the list has for it
abbrev pub AreProjections : List SynonymOf → List (Option ℕ) → Type 0
AreProjections ss projections = (n : ℕ) → IsProjection ss n (slice_index_or projections n None)

-- what is found out about synonyms holds
pub record AreSettled (ss : List SynonymOf) (ends : List ℕ) (projections : List (Option ℕ)) : Type 0 where
  pub each : EachUnfolds ss
  pub all : AreEnds ss ends
  pub arguments : AreProjections ss projections

abbrev pub synonyms_of : Meanings → List SynonymOf
synonyms_of m = map synonym_of m.synonyms.now

abbrev pub HoldsFor : Meanings → Type 0
HoldsFor m = AreSettled (synonyms_of m) m.ends.now m.projections.now
