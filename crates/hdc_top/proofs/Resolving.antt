-- What is resolved of texts that keep the rules.
use Rattle.std.proofs.Common.{◌≡◌, List, map, ap, sym, ◌∙◌}
use Rattle.hdc_tree.specs.declared.program.Top.{Top}
use Rattle.hdc_names.proofs.ChainNodes.{the_tree, are_trees}
use Rattle.hdc_resolved.specs.declared.program.Resolved.{Resolved}
use Rattle.hdc_resolved.specs.Mirror.{binding_of}
use Rattle.hdc_resolved.specs.Syntax.{Binding}
use Rattle.hdc_resolving.specs.Grouped.{by_steps}
use Rattle.hdc_bindings.specs.Tops.{all_bindings}
use Rattle.hdc_bindings.proofs.Congruence.{same_text}
use Rattle.hdc_top.specs.ResolvedTree.{IsResolved}
use Rattle.hdc_top.specs.Names.{BreakNone}
use Rattle.hdc_top.specs.Resolved.{AreBindings}
use Rattle.hdc_top.proofs.Orders.{block_orders_once}

-- the bindings of the resolved tree
pub resolved_are : (ps ts : List Top) (r : Resolved) → IsResolved ps ts r → AreBindings ps ts (map binding_of r.decls)
resolved_are ps ts r h = record { trees = the_tree; right = are_trees; orders = h.orders; ordered = h.ordered; are = h.bindings the_tree are_trees }

-- a text has one list of bindings
pub bindings_once : (ps ts : List Top) (bs cs : List Binding) → BreakNone ps ts → AreBindings ps ts bs → AreBindings ps ts cs → bs ≡ cs
bindings_once ps ts bs cs none h g =
    h.are
    ∙ sym (same_text h.trees h.right ps ts h.orders)
    ∙ ap (all_bindings by_steps ps ts) (block_orders_once ps ts h.orders g.orders none h.ordered g.ordered)
    ∙ same_text g.trees g.right ps ts g.orders
    ∙ sym g.are
