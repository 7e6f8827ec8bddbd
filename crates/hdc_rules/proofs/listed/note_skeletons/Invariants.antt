use Rattle.std.proofs.Common.{◌≡◌, drop, map}
use Rattle.hdc_written.specs.Breaches.{all_noted}
use Rattle.hdc_rules.specs.Names.{bound_skeletons}
use Rattle.hdc_rules.proofs.listed.note_skeletons.Given as goal

abbrev pub invariant-loop-name : goal.invariant-loop-name
invariant-loop-name l = all_noted l.initial.found (bound_skeletons (map (λ x. x.now) l.name-items)) ≡ all_noted l.found (bound_skeletons (map (λ x. x.now) (drop l.name-index l.name-items)))
