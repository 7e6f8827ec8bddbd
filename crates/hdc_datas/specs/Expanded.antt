-- Types in prefix order, in which synonyms are expanded.
use Rattle.std.specs.Prelude.{ℕ, zero, suc, List, [], ◌∷◌, ◌++◌, slice_index_or, length}
use Rattle.hdc_value.specs.declared.ty.TypeNode.{TypeNode}
use Rattle.hdc_value.specs.declared.ty.TypeNode.TheVariants as node
use Rattle.hdc_resolved.specs.Syntax.{TypeTree, int_type, char_type, list_type, tuple_type, function_type, data_type, synonym_type, type_variable, unknown_type, TypeTrees, no_type, next_type, SynonymOf}

-- what stands for a node: for a variable the argument at its place, and nothing where there is none
abbrev pub replaced : List (List TypeNode) → TypeNode → List TypeNode
replaced arguments node.Int = node.Int ∷ []
replaced arguments node.Char = node.Char ∷ []
replaced arguments node.List = node.List ∷ []
replaced arguments (node.Tuple n) = node.Tuple n ∷ []
replaced arguments node.Fun = node.Fun ∷ []
replaced arguments (node.Data n k) = node.Data n k ∷ []
replaced arguments (node.Var i) = slice_index_or arguments i []

-- a type with arguments in place of its variables
abbrev pub substituted : List (List TypeNode) → List TypeNode → List TypeNode
substituted arguments [] = []
substituted arguments (n ∷ ns) = replaced arguments n ++ substituted arguments ns

abbrev pub count_of : TypeTrees → ℕ
count_of no_type = 0
count_of (next_type t ts) = suc (count_of ts)

-- a type in prefix order, by what each synonym means in prefix order
abbrev mutual
  pub flat : (ℕ → List TypeNode) → TypeTree → List TypeNode
  flat meaning int_type = node.Int ∷ []
  flat meaning char_type = node.Char ∷ []
  flat meaning (list_type t) = node.List ∷ flat meaning t
  flat meaning (tuple_type ts) = node.Tuple (count_of ts) ∷ all_flat meaning ts
  flat meaning (function_type t u) = node.Fun ∷ (flat meaning t ++ flat meaning u)
  flat meaning (data_type n ts) = node.Data n (count_of ts) ∷ all_flat meaning ts
  flat meaning (synonym_type n ts) = substituted (each_flat meaning ts) (meaning n)
  flat meaning (type_variable n) = node.Var n ∷ []
  flat meaning (unknown_type ts) = node.Tuple 0 ∷ []

  -- types one behind another
  pub all_flat : (ℕ → List TypeNode) → TypeTrees → List TypeNode
  all_flat meaning no_type = []
  all_flat meaning (next_type t ts) = flat meaning t ++ all_flat meaning ts

  -- each of these types
  pub each_flat : (ℕ → List TypeNode) → TypeTrees → List (List TypeNode)
  each_flat meaning no_type = []
  each_flat meaning (next_type t ts) = flat meaning t ∷ each_flat meaning ts

-- the meaning of the synonym with a number in prefix order, and nothing past the end
abbrev pub flat_at : (ℕ → List TypeNode) → List SynonymOf → ℕ → List TypeNode
flat_at meaning [] n = []
flat_at meaning (s ∷ ss) zero = flat meaning s.meaning
flat_at meaning (s ∷ ss) (suc n) = flat_at meaning ss n

-- the meaning of a synonym in prefix order, where synonyms are expanded so many times
abbrev pub expanded_meaning : ℕ → List SynonymOf → ℕ → List TypeNode
expanded_meaning zero ss n = []
expanded_meaning (suc times) ss n = flat_at (expanded_meaning times ss) ss n

-- a type in prefix order in which synonyms are expanded; none reaches itself, so as many times as there are synonyms will do
abbrev pub expanded : List SynonymOf → TypeTree → List TypeNode
expanded ss t = flat (expanded_meaning (length ss) ss) t
