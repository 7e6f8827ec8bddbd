use Rattle.std.proofs.Common.{◌≡◌, None, Some, map, ap, sym, ◌∙◌}
use Rattle.hdc_resolved.specs.Mirror.{member_of, signed_of}
use Rattle.hdc_resolving.specs.Growths.{text_of, current_of, done_with}
use Rattle.hdc_resolving.proofs.Members.{on_ok, with_named}
use Rattle.hdc_resolving.proofs.growing.Growing.close.Goals as goal

pub returns-in-Some : goal.returns-in-Some
returns-in-Some c =
    let s = c.args.self.now in
    let current : s.current ≡ Some c.in-Some.current = sym c.take.ensures.value ∙ c.in-Some.is in
    let none : current_of c.take.new.self ≡ None = ap current_of c.take.ensures.after in
    on_ok c.push.result
    (λ pushed.
    let done : map member_of c.push.new.self ≡ done_with (map member_of s.done) (current_of s.current) =
    ap (map member_of) pushed ∙ with_named s.done c.in-Some.current ∙ ap (λ z. done_with (map member_of s.done) (current_of z)) (sym current) in
    λ i. record { done = done i; current = none i; before = text_of s.before; signatures = map signed_of s.signatures; homes = s.homes; next = s.next })
    c.push.ensures.ok
