use Rattle.std.proofs.Common.{◌≡◌, drop, map}
use Rattle.hdc_written.specs.Breaches.{all_noted}
use Rattle.hdc_rules.specs.Names.{not_among}
use Rattle.hdc_rules.proofs.listed.note_outside.Given as goal

abbrev pub invariant-loop-name : goal.invariant-loop-name
invariant-loop-name l = all_noted l.initial.found (not_among l.rule l.bound (map (λ x. x.now) l.name-items)) ≡ all_noted l.found (not_among l.rule l.bound (map (λ x. x.now) (drop l.name-index l.name-items)))
