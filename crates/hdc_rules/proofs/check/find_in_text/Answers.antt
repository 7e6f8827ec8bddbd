use Rattle.std.proofs.Common.{ap, ◌∙◌}
use Rattle.hdc_written.specs.declared.breach.Found.{Found}
use Rattle.hdc_written.specs.Breaches.{all_noted}
use Rattle.hdc_written.specs.Mirror.{tops_of}
use Rattle.hdc_rules.specs.Bindings.{tops_breaches}
use Rattle.hdc_rules.proofs.Checking.{first_found}
use Rattle.hdc_rules.proofs.check.find_in_text.Goals as goal

pub returns : goal.returns
returns c =
    first_found c.args.known.now c.args.values (tops_of c.args.tree.now) c.new.result c.note_tops.new.found c.run_tree.new.self
    (c.in_ok-note_tops.ensures ∙ ap (λ (f : Found). all_noted f (tops_breaches c.args.known.now.types (tops_of c.args.tree.now))) c.nothing-found.ensures)
    c.in_ok-run_tree.ensures
