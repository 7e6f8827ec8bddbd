-- The first of what was found in four ways.
use Rattle.std.proofs.Common.{◌≡◌, ◌⊎◌}
use Rattle.hdc_written.specs.declared.breach.Breach.{Breach}
use Rattle.hdc_written.specs.declared.breach.Found.{Found}
use Rattle.hdc_written.specs.Breaches.{IsFirst, joined}
use Rattle.hdc_written.proofs.FirstBreach.{first_of_both}

pub first_of_four : (P Q R S : Breach → Type 0) (p q r s pq pqr pqrs : Found) → pq ≡ joined p q → pqr ≡ joined pq r → pqrs ≡ joined pqr s → IsFirst P p.breach → IsFirst Q q.breach → IsFirst R r.breach → IsFirst S s.breach → IsFirst (λ b. ((P b ⊎ Q b) ⊎ R b) ⊎ S b) pqrs.breach
first_of_four P Q R S p q r s pq pqr pqrs d e f a b c g =
    let two : IsFirst (λ x. P x ⊎ Q x) pq.breach = rw d (first_of_both P Q p q.breach a b) in
    let three : IsFirst (λ x. (P x ⊎ Q x) ⊎ R x) pqr.breach = rw e (first_of_both (λ x. P x ⊎ Q x) R pq r.breach two c) in
    rw f (first_of_both (λ x. (P x ⊎ Q x) ⊎ R x) S pqr s.breach three g)
