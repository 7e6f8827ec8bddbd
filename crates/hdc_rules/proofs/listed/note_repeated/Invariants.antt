use Rattle.std.proofs.Common.{◌≡◌, drop, map}
use Rattle.hdc_written.specs.Breaches.{all_noted}
use Rattle.hdc_rules.specs.Names.{repeated}
use Rattle.hdc_rules.proofs.listed.note_repeated.Given as goal

abbrev pub invariant-loop-name : goal.invariant-loop-name
invariant-loop-name l = all_noted l.initial.found (repeated l.rule l.initial.seen (map (λ x. x.now) l.name-items)) ≡ all_noted l.found (repeated l.rule l.seen (map (λ x. x.now) (drop l.name-index l.name-items)))
