-- What the names of types stand for in a text, where its declarations are numbered.
use Rattle.std.specs.Prelude.{ℕ, suc, Bool, true, false, List, [], ◌∷◌, ◌++◌, length, slice_index_or}
use Rattle.hdc_tree.specs.declared.program.Top.{Top}
use Rattle.hdc_tree.specs.declared.program.Top.TheVariants as top
use Rattle.hdc_written.specs.declared.breach.Breach.{Breach}
use Rattle.hdc_written.specs.Scopes.{Binding}
use Rattle.hdc_rules.specs.Known.{Counted}
use Rattle.hdc_rules.specs.Bindings.{typed_breaches}
use Rattle.hdc_regular.specs.declared.standing.Standing.{Standing}
use Rattle.hdc_regular.specs.declared.standing.Standing.TheVariants as standing

-- a declaration in whose types nothing is broken is sound, unless it reaches itself
abbrev pub is_sound : List Breach → Bool → Bool
is_sound [] false = true
is_sound [] true = false
is_sound (b ∷ bs) cyclic = false

-- the same for declarations, where it is known from the n-th on which reach themselves
abbrev pub each_sound : Counted → List Bool → ℕ → List Top → List Bool
each_sound types cyclic n [] = []
each_sound types cyclic n (t ∷ ts) = is_sound (typed_breaches types t) (slice_index_or cyclic n false) ∷ each_sound types cyclic (suc n) ts

-- a sound synonym stands for its meaning
abbrev pub synonym_standing : Bool → ℕ → ℕ → Standing
synonym_standing true n k = standing.Synonym n k
synonym_standing false n k = standing.NotExpanded

-- the type that a declaration with this number declares; data types and synonyms share their names
abbrev pub top_standings : Bool → ℕ → Top → List (Binding Standing)
top_standings sound n (top.Data d) = record { name = d.name.text; what = standing.DataType n } ∷ []
top_standings sound n (top.Synonym s) = record { name = s.name.text; what = synonym_standing sound n (length s.params) } ∷ []
top_standings sound n top.Empty = []
top_standings sound n (top.Fixity f) = []
top_standings sound n (top.Signature x xs a t) = []
top_standings sound n (top.Equation h r) = []

-- the types of declarations, numbered from this number on: of two with one name the first counts
abbrev pub each_standing : List Bool → ℕ → List Top → List (Binding Standing)
each_standing sounds n [] = []
each_standing sounds n (t ∷ ts) = top_standings (slice_index_or sounds n false) n t ++ each_standing sounds (suc n) ts
