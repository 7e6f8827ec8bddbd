use Rattle.std.proofs.Common.{◌∙◌, ap}
use Rattle.hdc_resolved.proofs.Mirror.{type_var}
use Rattle.hdc_resolved.specs.Mirror.{type_tree_of}
use Rattle.hdc_datas.specs.Expanded.{expanded}
use Rattle.hdc_datas.proofs.projection.variable_of.Goals as goal

pub returns-in-Var : goal.returns-in-Var
returns-in-Var c = λ ss. ap (λ z. expanded ss (type_tree_of z)) c.in-Var.is ∙ ap (expanded ss) (type_var c.in-Var.place)
