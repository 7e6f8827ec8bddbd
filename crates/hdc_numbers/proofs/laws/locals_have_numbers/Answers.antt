use Rattle.hdc_numbers.proofs.Locals.{prelude_locals, program_locals, all_entered, all_moved}
use Rattle.hdc_numbers.proofs.laws.locals_have_numbers.Goals as goal

pub returns-clause-in_prelude : goal.returns-clause-in_prelude
returns-clause-in_prelude c = prelude_locals

pub returns-clause-in_program : goal.returns-clause-in_program
returns-clause-in_program c = program_locals

pub returns-clause-entered : goal.returns-clause-entered
returns-clause-entered c = all_entered

pub returns-clause-moved : goal.returns-clause-moved
returns-clause-moved c = all_moved
