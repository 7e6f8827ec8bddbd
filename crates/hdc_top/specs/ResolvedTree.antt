-- The resolved tree of a prelude and of a program behind it.
use Rattle.std.specs.Prelude.{◌≡◌, ℕ, Bool, List, ◌++◌, map}
use Rattle.hdc_tree.specs.declared.program.Top.{Top}
use Rattle.hdc_written.specs.Written.{Declarations}
use Rattle.hdc_names.specs.declared.chain.NextOperand.{NextOperand}
use Rattle.hdc_names.specs.Chain.{Tree}
use Rattle.hdc_names.specs.Trees.{AreTrees}
use Rattle.hdc_resolved.specs.declared.program.Resolved.{Resolved}
use Rattle.hdc_resolved.specs.Mirror.{binding_of, signed_of, synonym_of}
use Rattle.hdc_resolving.specs.Grouped.{by_trees}
use Rattle.hdc_bindings.specs.Tops.{all_bindings, all_signatures}
use Rattle.hdc_needs.specs.Needy.{text_blocks}
use Rattle.hdc_needs.specs.Orders.{AreOrders}
use Rattle.hdc_graph.specs.Groups.{AreGroups}
use Rattle.hdc_groups.specs.Needs.{binding_needs}
use Rattle.hdc_type_names.specs.Synonyms.{all_synonyms}
use Rattle.hdc_datas.specs.Datas.{all_datas}
use Rattle.hdc_datas.specs.Needs.{NoSynonymReachesItself}

-- each block of the two texts, in the order in which they end, has its order, the prelude's first
abbrev pub AreBlockOrders : List Top → List Top → List (List ℕ) → Type 0
AreBlockOrders ps ts orders = AreOrders (text_blocks ps ++ text_blocks ts) orders

-- behind what there is stand the orders of these blocks
pub record IsAdded (blocks : List Declarations) (old new : List (List ℕ)) : Type 0 where
  pub found : List (List ℕ)
  pub ordered : AreOrders blocks found
  pub behind : new ≡ old ++ found

-- a prelude and a program behind it have this tree
pub record IsResolved (ps ts : List Top) (r : Resolved) : Type 0 where
  pub orders : List (List ℕ)
  pub ordered : AreBlockOrders ps ts orders
  pub bindings : (trees : Bool → List NextOperand → Tree) → AreTrees trees → map binding_of r.decls ≡ all_bindings (by_trees trees) ps ts orders
  pub signatures : map signed_of r.signatures ≡ all_signatures ps ts orders
  pub groups : AreGroups (binding_needs (map binding_of r.decls)) r.groups
  pub synonyms : map synonym_of r.synonyms ≡ all_synonyms ps ts
  pub datas : NoSynonymReachesItself (all_synonyms ps ts) → r.datas ≡ all_datas ps ts
