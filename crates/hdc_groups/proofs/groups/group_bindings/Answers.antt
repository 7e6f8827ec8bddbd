use Rattle.std.proofs.Common.{sym, subst}
use Rattle.std.specs.Prelude.{map}
use Rattle.hdc_graph.specs.Needs.{IsClosed}
use Rattle.hdc_resolved.specs.Mirror.{binding_of}
use Rattle.hdc_groups.proofs.Closed.{binding_needs_closed}
use Rattle.hdc_groups.proofs.groups.group_bindings.Goals as goal

pub from_needs-graph-requires : goal.from_needs-graph-requires
from_needs-graph-requires c = subst IsClosed (sym c.in_ok-needs_of_all.ensures) (binding_needs_closed (map binding_of c.args.decls.now))
