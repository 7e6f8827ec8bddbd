use Rattle.hdc_numbers.proofs.Bindings.{prelude_binding, program_binding}
use Rattle.hdc_numbers.proofs.laws.bindings_have_places.Goals as goal

pub returns-clause-in_prelude : goal.returns-clause-in_prelude
returns-clause-in_prelude c = λ join orders ps ts. prelude_binding ps ts join orders

pub returns-clause-in_program : goal.returns-clause-in_program
returns-clause-in_program c = λ join orders ps ts. program_binding ps ts join orders
