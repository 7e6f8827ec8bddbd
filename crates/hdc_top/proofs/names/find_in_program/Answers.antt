use Rattle.hdc_written.specs.Breaches.{IsOneOf}
use Rattle.hdc_written.specs.Mirror.{tops_of}
use Rattle.hdc_rules.specs.Uses.{program_breaches}
use Rattle.hdc_synonyms.specs.Synonyms.{IsCyclicSynonym}
use Rattle.hdc_regular.specs.Irregular.{IsIrregular}
use Rattle.hdc_needs.specs.Needy.{IsNeedy}
use Rattle.hdc_top.proofs.Joining.{first_of_four}
use Rattle.hdc_top.proofs.names.find_in_program.Goals as goal

pub returns : goal.returns
returns c =
    first_of_four (λ b. IsOneOf b (program_breaches (tops_of c.args.prelude.now) (tops_of c.args.program.now))) (IsCyclicSynonym (tops_of c.args.program.now)) (IsIrregular (tops_of c.args.prelude.now) (tops_of c.args.program.now)) (IsNeedy (tops_of c.args.program.now))
    c.in_ok-rules.rules c.in_ok-cyclic.cyclic c.in_ok-irregular.irregular c.in_ok-needy.needy c.join.result c.join-2.result c.join-3.result
    c.join.ensures c.join-2.ensures c.join-3.ensures c.in_ok-rules.ensures c.in_ok-cyclic.ensures c.in_ok-irregular.ensures c.in_ok-needy.ensures
