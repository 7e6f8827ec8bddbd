use Rattle.hdc_numbers.proofs.Types.{prelude_synonym, program_synonym, prelude_data, program_data}
use Rattle.hdc_numbers.proofs.laws.types_have_places.Goals as goal

pub returns-clause-synonym_in_prelude : goal.returns-clause-synonym_in_prelude
returns-clause-synonym_in_prelude c = prelude_synonym

pub returns-clause-synonym_in_program : goal.returns-clause-synonym_in_program
returns-clause-synonym_in_program c = program_synonym

pub returns-clause-data_in_prelude : goal.returns-clause-data_in_prelude
returns-clause-data_in_prelude c = prelude_data

pub returns-clause-data_in_program : goal.returns-clause-data_in_program
returns-clause-data_in_program c = program_data
