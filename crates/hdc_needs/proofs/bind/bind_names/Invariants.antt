use Rattle.std.proofs.Common.{◌≡◌, drop, map}
use Rattle.hdc_needs.specs.Bind.{bind_all}
use Rattle.hdc_needs.specs.Kept.{mention_of}
use Rattle.hdc_needs.proofs.bind.bind_names.Given as goal

abbrev pub invariant-loop-name : goal.invariant-loop-name
invariant-loop-name l = bind_all l.level l.size (map mention_of l.names) l.initial.scope l.initial.graph ≡ bind_all l.level l.size (map mention_of (drop l.name-index l.names)) l.scope l.graph
