use Rattle.std.proofs.Common.{List, ℕ, sym, subst}
use Rattle.hdc_graph.specs.Lists.{IsInserted}
use Rattle.hdc_graph.proofs.Inserting.{inserted}
use Rattle.hdc_graph.proofs.ready.Ready.insert.Goals as goal

pub returns : goal.returns
returns c =
    subst (λ (xs : List ℕ). IsInserted c.args.number xs c.insert.new.self.keys) c.self.view_is
    (subst (λ (xs : List ℕ). IsInserted c.args.number c.self.inside.set.keys xs) (sym c.in_ok-insert.ensures.keys) (inserted c.args.number c.self.inside.set.keys))
