-- What is known of the synonyms of a text.
use Rattle.std.specs.Prelude.{List}
use Rattle.hdc_tree.specs.declared.program.Top.{Top}
use Rattle.hdc_graph.specs.Groups.{AreGroups}
use Rattle.hdc_graph.specs.Needs.{AreCyclic}
use Rattle.hdc_synonyms.specs.Synonyms.{synonym_needs}
use Rattle.hdc_regular.specs.declared.node_order.Synonyms.{Synonyms}
use Rattle.hdc_regular.specs.Laws.{AreRanked}

-- which of them reach themselves, their components and their groups
pub record AreKnown (ts : List Top) (s : Synonyms) : Type 0 where
  pub cyclic : AreCyclic (synonym_needs ts) s.components.cyclic
  pub ranked : AreRanked (synonym_needs ts) s.components.numbers
  pub groups : AreGroups (synonym_needs ts) s.groups
