-- What is found in declarations is where they break the rule.
use Rattle.std.specs.Prelude.{ℕ, ◌+◌, ◌<◌, ◌↔◌, ◌++◌, List, Bool, length, slice_index}
use Rattle.hdc_tree.specs.declared.program.Top.{Top}
use Rattle.hdc_graph.specs.Groups.{AreGroups}
use Rattle.hdc_graph.specs.Needs.{Nodes, IsClosed, IsNumbering, NeedsComeFirst, AreCyclic}
use Rattle.hdc_written.specs.declared.breach.Breach.{Breach}
use Rattle.hdc_written.specs.Breaches.{IsOneOf}
use Rattle.hdc_synonyms.specs.Synonyms.{synonym_needs}
use Rattle.hdc_regular.specs.Resolved.{Declaration}
use Rattle.hdc_regular.specs.Named.{named_needs}
use Rattle.hdc_regular.specs.Irregular.{sounds_of, IsIrregular}
use Rattle.hdc_regular.specs.Order.{group_order}
use Rattle.hdc_regular.specs.Judged.{built_in_order, breaches_from}

-- what is known of the numbers of the components of a graph
pub record AreRanked (g : Nodes) (numbers : List ℕ) : Type 0 where
  pub numbering : IsNumbering g numbers
  pub first : NeedsComeFirst g numbers
  pub below : (a : ℕ) → a < length g → slice_index numbers a < length g
  pub closed : IsClosed g

-- the groups of the synonyms of a prelude, and behind them those of a text
abbrev pub order_of : List Top → List (List ℕ) → List (List ℕ) → List ℕ
order_of ps groups_before groups = group_order 0 groups_before ++ group_order (length ps) groups

-- the declarations of both as they are built in this order, where it is known which synonyms reach themselves
abbrev pub built_declarations : List Top → List Top → List Bool → List Bool → List ℕ → List Declaration
built_declarations ps ts before cyclic order = built_in_order ps ts (sounds_of ps ts before cyclic) order (length ps + length ts)

-- by the components and groups of the synonyms of two texts, and by the components of all declarations as they are built, each
-- breach that is found in the second text is one of the rule, and each breach of the rule is found
abbrev pub FindsAll : Type 0
FindsAll =
    (ps ts : List Top) (before cyclic : List Bool) → AreCyclic (synonym_needs ps) before → AreCyclic (synonym_needs ts) cyclic
    → (components_before components : List ℕ) → AreRanked (synonym_needs ps) components_before → AreRanked (synonym_needs ts) components
    → (groups_before groups : List (List ℕ)) → AreGroups (synonym_needs ps) groups_before → AreGroups (synonym_needs ts) groups
    → IsClosed (named_needs (built_declarations ps ts before cyclic (order_of ps groups_before groups)))
    → (numbers : List ℕ) → IsNumbering (named_needs (built_declarations ps ts before cyclic (order_of ps groups_before groups))) numbers
    → (b : Breach) → IsOneOf b (breaches_from (length ps) (built_declarations ps ts before cyclic (order_of ps groups_before groups)) numbers (order_of ps groups_before groups)) ↔ IsIrregular ps ts b
