use Rattle.std.proofs.Common.{sym, ap, ◌∙◌}
use Rattle.hdc_written.specs.Mirror.{exp_of}
use Rattle.hdc_names.specs.Walk.{turned}
use Rattle.hdc_names.proofs.ChainNodes.{turned_last}
use Rattle.hdc_names.proofs.joining.join.Goals as goal

pub loop-step-preserved : goal.loop-step-preserved
loop-step-preserved c =
    c.loop-step.invariant
    ∙ ap (λ z. turned (exp_of c.args.exp.now) z c.loop-step.joining) c.in-Some.ensures
    ∙ turned_last (exp_of c.args.exp.now) c.pop.new.self c.in-Some.step c.loop-step.joining
    ∙ ap (turned (exp_of c.args.exp.now) c.pop.new.self) (sym c.in_ok-turn.ensures)
