use Rattle.hdc_top.proofs.resolve.resolve.Goals as goal

pub returns-in_ok-resolved_tree-in-Ok : goal.returns-in_ok-resolved_tree-in-Ok
returns-in_ok-resolved_tree-in-Ok c = (c.in-Ok.ensures, c.in_ok-resolved_tree-in-Ok.ensures)
