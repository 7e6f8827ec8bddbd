use Rattle.hdc_top.proofs.Dues.{due_written, due_usage, due_limit, due_long, due_refused, due_no_program}
use Rattle.hdc_top.proofs.job.serve.Goals as goal

pub returns-in-Done-clause-not_read : goal.returns-in-Done-clause-not_read
returns-in-Done-clause-not_read g c = λ e. absurd ((due_written _ _ _ _ c.in-Ok.ensures.due).read e)

pub returns-in-Done-clause-not_written : goal.returns-in-Done-clause-not_written
returns-in-Done-clause-not_written g c = λ e. absurd ((due_written _ _ _ _ c.in-Ok.ensures.due).written e)

pub returns-in-Done-clause-unread : goal.returns-in-Done-clause-unread
returns-in-Done-clause-unread g c = λ e. absurd ((due_written _ _ _ _ c.in-Ok.ensures.due).read e)

pub returns-in-Done-clause-want : goal.returns-in-Done-clause-want
returns-in-Done-clause-want g c = λ e. absurd ((due_written _ _ _ _ c.in-Ok.ensures.due).ample e)

pub returns-in-Done-clause-usage : goal.returns-in-Done-clause-usage
returns-in-Done-clause-usage g c = due_usage _ _ _ _ c.in-Ok.ensures.due

pub returns-in-Done-clause-limit : goal.returns-in-Done-clause-limit
returns-in-Done-clause-limit g c = due_limit _ _ _ _ c.in-Ok.ensures.due

pub returns-in-Done-clause-past_limit : goal.returns-in-Done-clause-past_limit
returns-in-Done-clause-past_limit g c = λ text file size _ _ _. due_long _ _ _ _ c.in-Ok.ensures.due text file size

pub returns-in-Done-clause-refused : goal.returns-in-Done-clause-refused
returns-in-Done-clause-refused g c = due_refused _ _ _ _ c.in-Ok.ensures.due

pub returns-in-Done-clause-no_program : goal.returns-in-Done-clause-no_program
returns-in-Done-clause-no_program g c = λ text file none size _ _ _. due_no_program _ _ _ _ c.in-Ok.ensures.due text file none size
