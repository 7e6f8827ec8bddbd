use Rattle.std.proofs.Common.{◌≡◌, ◌++◌, drop}
use Rattle.hdc_written.specs.Mirror.{each_declaration, next_decl_of}
use Rattle.hdc_needs.specs.Bind.{start}
use Rattle.hdc_needs.proofs.bind.add_nodes.Given as goal

abbrev pub invariant-loop-part : goal.invariant-loop-part
invariant-loop-part l = l.initial.graph ++ start (each_declaration next_decl_of l.parts) ≡ l.graph ++ start (each_declaration next_decl_of (drop l._part-index l.parts))
