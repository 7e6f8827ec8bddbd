use Rattle.std.proofs.Common.{◌∙◌, ap}
use Rattle.std.proofs.lemmas.Bool.{eqb-true}
use Rattle.hdc_resolved.proofs.Mirror.{type_var}
use Rattle.hdc_resolved.specs.Mirror.{type_tree_of}
use Rattle.hdc_resolved.specs.Syntax.{type_variable}
use Rattle.hdc_datas.proofs.renaming.is_variable.Goals as goal

pub returns-in-Var : goal.returns-in-Var
returns-in-Var c = λ same. ap type_tree_of c.in-Var.is ∙ type_var c.in-Var.number ∙ ap type_variable (eqb-true c.in-Var.number c.args.place same)
