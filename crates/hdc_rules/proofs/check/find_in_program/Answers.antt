use Rattle.std.proofs.Common.{IfOk, subst}
use Rattle.hdc_written.specs.declared.breach.Found.{Found}
use Rattle.hdc_written.specs.Breaches.{IsFirst, IsOneOf}
use Rattle.hdc_written.specs.Mirror.{tops_of}
use Rattle.hdc_rules.specs.declared.known.Known.{Known}
use Rattle.hdc_rules.specs.Known.{Values, program_values}
use Rattle.hdc_rules.specs.Uses.{text_breaches}
use Rattle.hdc_rules.proofs.check.find_in_program.Goals as goal

pub returns : goal.returns
returns c =
    let First : Known → Values → Type 0 = λ k v. IfOk c.find_in_text.result (λ (found : Found). IsFirst (λ b. IsOneOf b (text_breaches k v (tops_of c.args.program.now))) found.breach) in
    subst (λ k. First k (program_values (tops_of c.args.prelude.now) (tops_of c.args.program.now))) c.in_ok-known.ensures (subst (λ v. First c.in_ok-known.known v) c.in_ok-values.ensures c.find_in_text.ensures)
