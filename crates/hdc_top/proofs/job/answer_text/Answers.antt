use Rattle.hdc_top.proofs.Dues.{run_due, answer_due, stop_due}
use Rattle.hdc_top.proofs.Texts.{compiled_stop}
use Rattle.hdc_top.proofs.job.answer_text.Goals as goal

pub returns-in_ok-record-in-Ok : goal.returns-in_ok-record-in-Ok
returns-in_ok-record-in-Ok c =
    let due = run_due c.args.text.now c.in-Ok.code c.in-Ok.ensures.0 _ _ c.requires c.in-Ok.ensures.1 c.in-Ok.ensures.2 c.in_ok-record-in-Ok.ensures in
    answer_due c.args.text.now c.ran.result _ _ due c.ran.ensures.status c.ran.ensures.text

pub returns-in-Err : goal.returns-in-Err
returns-in-Err c = stop_due c.args.text.now c.in-Err.stop c.stopped.result c.requires (λ told. compiled_stop c.args.text.now c.in-Err.stop told c.in-Err.ensures) c.stopped.ensures.told c.stopped.ensures.status c.stopped.ensures.text
