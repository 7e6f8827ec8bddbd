use Rattle.hdc_numbers.proofs.Locals.{expression_on, links_on, operand_on, alternative_on, right_side_on, declaration_on, declarations_on, top_on}
use Rattle.hdc_numbers.proofs.laws.numbers_go_on.Goals as goal

pub returns-clause-expression : goal.returns-clause-expression
returns-clause-expression c = expression_on

pub returns-clause-links : goal.returns-clause-links
returns-clause-links c = links_on

pub returns-clause-operand : goal.returns-clause-operand
returns-clause-operand c = operand_on

pub returns-clause-alternative : goal.returns-clause-alternative
returns-clause-alternative c = alternative_on

pub returns-clause-right_side : goal.returns-clause-right_side
returns-clause-right_side c = right_side_on

pub returns-clause-declaration : goal.returns-clause-declaration
returns-clause-declaration c = declaration_on

pub returns-clause-declarations : goal.returns-clause-declarations
returns-clause-declarations c = declarations_on

pub returns-clause-top : goal.returns-clause-top
returns-clause-top c = top_on
