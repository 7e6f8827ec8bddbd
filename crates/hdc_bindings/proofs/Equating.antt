-- Equations and guards, to which others can be added.
use Rattle.std.proofs.Common.{◌≡◌, map}
use Rattle.hdc_resolved.specs.Syntax as resolved
use Rattle.hdc_resolved.specs.Mirror.{pattern_of, expression_of, right_of, equation_of, guard_of, patterns}
use Rattle.hdc_resolved.specs.declared.expression.Alt.{Alt, out-Alt}
use Rattle.hdc_resolved.specs.declared.expression.Guard.{Guard, out-Guard}
use Rattle.hdc_resolved.proofs.Mirror.{alt_is, guard_is}

pub equation_is : (a : Alt) → equation_of a ≡ resolved.equation (out-Alt a).place (patterns (map pattern_of (out-Alt a).pats)) (right_of (out-Alt a).rhs)
equation_is a = λ i es. alt_is a es i

pub guarding_is : (g : Guard) → guard_of g ≡ resolved.guard (expression_of (out-Guard g).test) (expression_of (out-Guard g).body)
guarding_is g = λ i gs. guard_is g gs i

pub ruleset added = (equation_is, guarding_is)
