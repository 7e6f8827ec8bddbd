use Rattle.std.proofs.Common.{◌<◌, sym, subst}
use Rattle.std.proofs.lemmas.Result.{on_ok_weaker}
use Rattle.hdc_graph.specs.Search.{IsUnderWay, work, with_pending}
use Rattle.hdc_graph.specs.declared.search.Search.{Search}
use Rattle.hdc_graph.proofs.Stepping.{keeps_entered, less_entered, keeps_met, keeps_passed}
use Rattle.hdc_graph.proofs.search.Search.look_at.Goals as goal

pub returns-in-Unseen-clause-under_way : goal.returns-in-Unseen-clause-under_way
returns-in-Unseen-clause-under_way c =
    on_ok_weaker c.enter.result (λ e. subst (IsUnderWay c.args.graph.now) (sym e) (keeps_entered c.args.graph.now c.args.self.now c.args.node c.requires.under_way c.requires.lies (sym c.in-Unseen.ensures))) c.enter.ensures

pub returns-in-Unseen-clause-less : goal.returns-in-Unseen-clause-less
returns-in-Unseen-clause-less c =
    on_ok_weaker c.enter.result (λ e. subst (λ (s : Search). work c.args.graph.now s < work c.args.graph.now (with_pending c.args.node c.args.self.now)) (sym e) (less_entered c.args.graph.now c.args.self.now c.args.node c.requires.under_way (sym c.in-Unseen.ensures))) c.enter.ensures

pub returns-in-OnPath-clause-under_way : goal.returns-in-OnPath-clause-under_way
returns-in-OnPath-clause-under_way c =
    on_ok_weaker c.meet.result (λ e. subst (IsUnderWay c.args.graph.now) (sym e) (keeps_met c.args.graph.now c.args.self.now c.args.node c.in-OnPath.place c.requires.under_way c.requires.lies (sym c.in-OnPath.ensures))) c.meet.ensures

pub returns-in-Finished-clause-under_way : goal.returns-in-Finished-clause-under_way
returns-in-Finished-clause-under_way c = keeps_passed c.args.graph.now c.args.self.now c.args.node _ c.requires.under_way c.requires.lies (sym c.in-Finished.ensures)
