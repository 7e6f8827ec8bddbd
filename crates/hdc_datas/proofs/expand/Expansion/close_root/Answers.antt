use Rattle.std.proofs.Common.{◌∙◌, sym, ap}
use Rattle.hdc_resolved.proofs.Mirror.{type_var}
use Rattle.hdc_resolved.specs.Mirror.{type_tree_of}
use Rattle.hdc_resolved.specs.Syntax.{type_variable}
use Rattle.hdc_datas.specs.Closures.{type_in}
use Rattle.hdc_datas.proofs.expand.Expansion.close_root.Goals as goal

pub returns-in-Some-argument-clause-value : goal.returns-in-Some-argument-clause-value
returns-in-Some-argument-clause-value c = λ ss.
    c.in-Some-argument.ensures.value ss
    ∙ ap (λ z. type_in ss c.args.self.now z (type_variable c.in-Var.number)) (sym c.in-Some.is)
    ∙ ap (type_in ss c.args.self.now c.args.environment) (sym (type_var c.in-Var.number))
    ∙ ap (λ z. type_in ss c.args.self.now c.args.environment (type_tree_of z)) (sym c.in-Var.is)
