-- Data types that are not regular.
use Rattle.std.specs.Prelude.{◌≡◌, ℕ, ◌≤◌, List, ◌++◌, length, Bool}
use Rattle.hdc_tree.specs.declared.program.Top.{Top}
use Rattle.hdc_graph.specs.Needs.{AreCyclic}
use Rattle.hdc_written.specs.declared.breach.Breach.{Breach}
use Rattle.hdc_written.specs.Scopes.{Binding}
use Rattle.hdc_rules.specs.Known.{prelude_known, program_known}
use Rattle.hdc_synonyms.specs.Synonyms.{synonym_needs}
use Rattle.hdc_regular.specs.declared.standing.Standing.{Standing}
use Rattle.hdc_regular.specs.Resolved.{Declaration}
use Rattle.hdc_regular.specs.Expansion.{IsIrregularUse}
use Rattle.hdc_regular.specs.Standings.{each_sound, each_standing}
use Rattle.hdc_regular.specs.Resolving.{each_declaration}

-- which declarations of a prelude and of a text behind it are sound, where it is known which reach themselves
abbrev pub sounds_of : List Top → List Top → List Bool → List Bool → List Bool
sounds_of ps ts before cyclic = each_sound (prelude_known ps).types before 0 ps ++ each_sound (program_known ps ts).types cyclic 0 ts

-- what names stand for in the prelude, and in the text, whose types come first
abbrev pub names_before : List Top → List Bool → List (Binding Standing)
names_before ps sounds = each_standing sounds 0 ps

abbrev pub names_of : List Top → List Top → List Bool → List (Binding Standing)
names_of ps ts sounds = each_standing sounds (length ps) ts ++ names_before ps sounds

-- the declarations of both, numbered through
abbrev pub declarations_by : List Top → List Top → List Bool → List Declaration
declarations_by ps ts sounds = each_declaration (names_before ps sounds) sounds 0 ps ++ each_declaration (names_of ps ts sounds) sounds (length ps) ts

-- rule 10 is broken by a text behind a prelude where one of its data types is not regular; there is no prelude before a prelude
pub record IsIrregular (ps ts : List Top) (b : Breach) : Type 0 where
  pub rule : b.rule ≡ 10
  pub cyclic_before : List Bool
  pub are_before : AreCyclic (synonym_needs ps) cyclic_before
  pub cyclic : List Bool
  pub are_cyclic : AreCyclic (synonym_needs ts) cyclic
  pub number : ℕ
  pub of_text : length ps ≤ number
  pub irregular : IsIrregularUse (declarations_by ps ts (sounds_of ps ts cyclic_before cyclic)) number b.at
