-- Synonyms that reach themselves.
use Rattle.std.specs.Prelude.{◌≡◌, ℕ, suc, List, [], ◌∷◌, ◌++◌, Option, Some, None, slice_get}
use Rattle.hdc_tree.specs.declared.program.Synonym.{Synonym}
use Rattle.hdc_tree.specs.declared.program.Top.{Top}
use Rattle.hdc_tree.specs.declared.program.Top.TheVariants as top
use Rattle.hdc_graph.specs.Needs.{Nodes, Reaches}
use Rattle.hdc_written.specs.declared.breach.Breach.{Breach}
use Rattle.hdc_written.specs.Scopes.{Binding, standing_for}
use Rattle.hdc_written.specs.WrittenTypes.{WrittenType, type_constructor, type_variable, unit_type, type_in_parentheses, tuple_type, list_type, arrow_type, Types, no_type, next_type}
use Rattle.hdc_written.specs.TypeMirror.{type_exp_of}

-- the type that a declaration with this number declares; data types and synonyms share their names
abbrev pub top_types : ℕ → Top → List (Binding ℕ)
top_types n (top.Data d) = record { name = d.name.text; what = n } ∷ []
top_types n (top.Synonym s) = record { name = s.name.text; what = n } ∷ []
top_types n top.Empty = []
top_types n (top.Fixity f) = []
top_types n (top.Signature x xs a t) = []
top_types n (top.Equation h r) = []

-- the types of declarations, numbered from this number on: of two with one name the first counts
abbrev pub declared_types : ℕ → List Top → List (Binding ℕ)
declared_types n [] = []
declared_types n (t ∷ ts) = top_types n t ++ declared_types (suc n) ts

-- the declaration of a name, where the text has one; other names are built in or the prelude's, and lead nowhere
abbrev pub number_of : Option ℕ → List ℕ
number_of None = []
number_of (Some n) = n ∷ []

-- what a type needs: the declarations of the constructors that it names, in arguments too, in the order of the text
abbrev mutual
  pub type_needs : List (Binding ℕ) → WrittenType → List ℕ
  type_needs declared (type_constructor c ts) = number_of (standing_for c.text declared) ++ each_type_needs declared ts
  type_needs declared (type_variable x) = []
  type_needs declared (unit_type a) = []
  type_needs declared (type_in_parentheses a t) = type_needs declared t
  type_needs declared (tuple_type a ts) = each_type_needs declared ts
  type_needs declared (list_type a t) = type_needs declared t
  type_needs declared (arrow_type t ts) = type_needs declared t ++ each_type_needs declared ts

  pub each_type_needs : List (Binding ℕ) → Types → List ℕ
  each_type_needs declared no_type = []
  each_type_needs declared (next_type t ts) = type_needs declared t ++ each_type_needs declared ts

-- what a declaration needs: a synonym what its meaning needs, and any other nothing
abbrev pub top_needs : List (Binding ℕ) → Top → List ℕ
top_needs declared (top.Synonym s) = type_needs declared (type_exp_of s.meaning)
top_needs declared top.Empty = []
top_needs declared (top.Data d) = []
top_needs declared (top.Fixity f) = []
top_needs declared (top.Signature x xs a t) = []
top_needs declared (top.Equation h r) = []

-- the same for each declaration
abbrev pub each_top_needs : List (Binding ℕ) → List Top → Nodes
each_top_needs declared [] = []
each_top_needs declared (t ∷ ts) = top_needs declared t ∷ each_top_needs declared ts

-- the graph of a text: its declarations, numbered from 0, and what they need
abbrev pub synonym_needs : List Top → Nodes
synonym_needs ts = each_top_needs (declared_types 0 ts) ts

-- rule 9 is broken at the name of each synonym that reaches itself
pub record IsCyclicSynonym (ts : List Top) (b : Breach) : Type 0 where
  pub rule : b.rule ≡ 9
  pub number : ℕ
  pub synonym : Synonym
  pub is_synonym : slice_get ts number ≡ Some (top.Synonym synonym)
  pub at : b.at ≡ synonym.name.at
  pub reaches : Reaches (synonym_needs ts) number number
