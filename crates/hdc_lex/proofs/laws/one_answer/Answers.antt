use Rattle.hdc_lex.proofs.OneAnswer.{same_answer}
use Rattle.hdc_lex.proofs.laws.one_answer.Goals as goal

pub returns : goal.returns
returns c = same_answer
