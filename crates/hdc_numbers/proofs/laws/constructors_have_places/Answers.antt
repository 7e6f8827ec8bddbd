use Rattle.hdc_numbers.proofs.Constructors.{prelude_constructor, program_constructor}
use Rattle.hdc_numbers.proofs.laws.constructors_have_places.Goals as goal

pub returns-clause-in_prelude : goal.returns-clause-in_prelude
returns-clause-in_prelude c = prelude_constructor

pub returns-clause-in_program : goal.returns-clause-in_program
returns-clause-in_program c = program_constructor
