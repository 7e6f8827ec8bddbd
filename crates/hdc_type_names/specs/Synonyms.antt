-- The synonyms of a prelude and of a program behind it.
use Rattle.std.specs.Prelude.{List, [], ◌∷◌, ◌++◌, length}
use Rattle.hdc_resolved.specs.Syntax.{SynonymOf}
use Rattle.hdc_tree.specs.declared.program.Synonym.{Synonym}
use Rattle.hdc_tree.specs.declared.program.Top.{Top}
use Rattle.hdc_tree.specs.declared.program.Top.TheVariants as top
use Rattle.hdc_written.specs.TypeMirror.{type_exp_of}
use Rattle.hdc_type_names.specs.ResolvedTypes.{resolved_type}
use Rattle.hdc_type_names.specs.TypeNames.{TypeNames, prelude_types, program_types}
use Rattle.hdc_type_names.specs.Variables.{places_from}

-- a synonym, by what the names of types stand for
abbrev pub resolved_synonym : TypeNames → Synonym → SynonymOf
resolved_synonym names s = record { text = s.name.text; params = length s.params; meaning = resolved_type names (places_from 0 s.params) (type_exp_of s.meaning) }

-- the synonym that a declaration declares, if it declares one
abbrev pub top_synonyms : TypeNames → Top → List SynonymOf
top_synonyms names top.Empty = []
top_synonyms names (top.Data d) = []
top_synonyms names (top.Synonym s) = resolved_synonym names s ∷ []
top_synonyms names (top.Fixity f) = []
top_synonyms names (top.Signature x xs a t) = []
top_synonyms names (top.Equation h r) = []

abbrev pub each_synonym : TypeNames → List Top → List SynonymOf
each_synonym names [] = []
each_synonym names (t ∷ ts) = top_synonyms names t ++ each_synonym names ts

-- all of them in the order of the text, the prelude's first
abbrev pub all_synonyms : List Top → List Top → List SynonymOf
all_synonyms ps ts = each_synonym (prelude_types ps) ps ++ each_synonym (program_types ps ts) ts
