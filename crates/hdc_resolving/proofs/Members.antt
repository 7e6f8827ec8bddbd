-- Bindings in memory, as bindings to which others can be added.
use Rattle.std.proofs.Common.{◌≡◌, ℕ, suc, List, [], ◌∷◌, ◌++◌, None, Some, Result, Ok, Err, OnOk, map, ap, ◌∙◌}
use Rattle.std.proofs.lemmas.List.{map-append}
use Rattle.hdc_base.specs.declared.place.Place.{Place}
use Rattle.hdc_resolved.specs.Syntax as resolved
use Rattle.hdc_resolved.specs.Mirror.{pattern_of, right_of, member_of, equations_of}
use Rattle.hdc_resolved.specs.declared.expression.Alt.{Alt}
use Rattle.hdc_resolved.specs.declared.expression.Rhs.{Rhs}
use Rattle.hdc_resolved.specs.declared.expression.Member.{Member}
use Rattle.hdc_resolved.specs.declared.expression.Member.TheVariants as member
use Rattle.hdc_resolved.specs.declared.pattern.Pat.{Pat}
use Rattle.hdc_resolved.proofs.Mirror.{member_named, member_matched}
use Rattle.hdc_resolving.specs.declared.growing.Current as memory
use Rattle.hdc_resolving.specs.Growths.{Binding, Grown, current_of, done_with}

pub on_ok : {T E P Q : Type 0} (r : Result T E) → (P → Q) → OnOk r P → OnOk r Q
on_ok (Ok x) f p = f p
on_ok (Err e) f p = p

named_binding : (p : Place) (n : ℕ) (alts : List Alt) → member_of (member.Named p n alts) ≡ resolved.named p n (equations_of alts)
named_binding p n alts = λ i ms. member_named p n alts ms i

matched_binding : (p : Place) (q : Pat) (r : Rhs) → member_of (member.Matched p q r) ≡ resolved.matched p (pattern_of q) (right_of r)
matched_binding p q r = λ i ms. member_matched p q r ms i

-- the current function is done
pub with_named : (done : List Member) (c : memory.Current) → map member_of (done ++ (member.Named c.place c.number c.equations ∷ [])) ≡ done_with (map member_of done) (current_of (Some c))
with_named done c = map-append member_of done (member.Named c.place c.number c.equations ∷ []) ∙ ap (λ z. map member_of done ++ (z ∷ [])) (named_binding c.place c.number c.equations)

-- a pattern is done
pub with_matched : (done : List Member) (p : Place) (q : Pat) (r : Rhs) → map member_of (done ++ (member.Matched p q r ∷ [])) ≡ map member_of done ++ (resolved.matched p (pattern_of q) (right_of r) ∷ [])
with_matched done p q r = map-append member_of done (member.Matched p q r ∷ []) ∙ ap (λ z. map member_of done ++ (z ∷ [])) (matched_binding p q r)

-- with these bindings, behind which the next begins another
abbrev pub begins_anew : Grown → List Binding → Grown
begins_anew g ms = record { done = ms; current = g.current; before = None; signatures = g.signatures; homes = g.homes ++ (g.next ∷ []); next = suc g.next }
