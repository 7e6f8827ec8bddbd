use Rattle.std.proofs.Common.{map, sym, subst}
use Rattle.hdc_graph.specs.Needs.{IsClosed}
use Rattle.hdc_resolved.specs.Mirror.{synonym_of}
use Rattle.hdc_datas.proofs.Ranks.{closed_needs}
use Rattle.hdc_datas.proofs.graph.synonym_graph.Goals as goal

pub from_needs-requires : goal.from_needs-requires
from_needs-requires c = subst IsClosed (sym c.in_ok-needs.ensures) (closed_needs (map synonym_of c.args.synonyms.now))
