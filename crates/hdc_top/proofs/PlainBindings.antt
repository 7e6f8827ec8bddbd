-- Plain bindings, as the resolved tree in memory has them.
use Rattle.std.proofs.Common.{◌≡◌, ℕ, ◌==◌, Bool, true, false, List, [], ◌∷◌, length, map, Option, Some, None, Bor, refl, sym, ap, subst, ◌∙◌, arith}
use Rattle.std.proofs.lemmas.Bool.Decides.{nat_tests}
use Rattle.hdc_base.specs.declared.place.Place.{Place}
use Rattle.hdc_resolved.specs.declared.pattern.Pat.{Pat}
use Rattle.hdc_resolved.specs.declared.program.Decl.{Decl}
use Rattle.hdc_resolved.specs.declared.expression.Signature.{Signature}
use Rattle.hdc_resolved.specs.declared.expression.Exp.{Exp}
use Rattle.hdc_resolved.specs.declared.expression.Quals.{Quals}
use Rattle.hdc_resolved.specs.declared.expression.Rhs.{Rhs}
use Rattle.hdc_resolved.specs.declared.expression.Guard.{Guard}
use Rattle.hdc_resolved.specs.declared.expression.Alt.{Alt, out-Alt}
use Rattle.hdc_resolved.specs.declared.expression.Block as B
use Rattle.hdc_resolved.specs.declared.expression.Block.{out-Block}
use Rattle.hdc_resolved.specs.declared.expression.Member.{Member, Member-F, roll-Member, out-Member, roll-out-Member}
use Rattle.hdc_resolved.specs.declared.expression.Member.TheVariants as m
use Rattle.hdc_resolved.specs.Syntax.{Signed, Patterns, no_pattern, pattern, Equations, equation, RightSide, block, Members, Binding}
use Rattle.hdc_resolved.specs.Mirror.{pattern_of, patterns, right_of, signed_of, block_of, equations_of, member_of, members_of, binding_of}
use Rattle.hdc_resolved.proofs.Mirror.{alt_is, block_is, member_named, member_matched}
use Rattle.hdc_top.specs.Main.{is_empty, plain_side, plain_equation}

-- the binding of a program that is found, if one is
abbrev pub found : Option (Bor Decl) → List Binding
found None = []
found (Some d) = binding_of d.now ∷ []

-- ---- blocks

member_bound_by : (f : Member-F Exp Member Quals Rhs Alt B.Block Guard) (ms : Members) (ss : List Signed) (order : List ℕ) → is_empty (block (member_of (roll-Member f) ms) ss order) ≡ false
member_bound_by (Member-F.Named at x alts) ms ss order =
    subst (λ z. is_empty (block (member_of z ms) ss order) ≡ false) (sym (m.rolls-Named at x alts)) (ap (λ z. is_empty (block z ss order)) (member_named at x alts ms))
member_bound_by (Member-F.Matched at p r) ms ss order =
    subst (λ z. is_empty (block (member_of z ms) ss order) ≡ false) (sym (m.rolls-Matched at p r)) (ap (λ z. is_empty (block z ss order)) (member_matched at p r ms))

member_bound : (a : Member) (ms : Members) (ss : List Signed) (order : List ℕ) → is_empty (block (member_of a ms) ss order) ≡ false
member_bound a ms ss order = subst (λ z. is_empty (block (member_of z ms) ss order) ≡ false) (roll-out-Member a) (member_bound_by (out-Member a) ms ss order)

members_bound : (ms : List Member) (ss : List Signed) (order : List ℕ) → (ms ≡ [] → ⊥) → is_empty (block (members_of ms) ss order) ≡ false
members_bound [] ss order some = absurd (some refl)
members_bound (a ∷ ms) ss order some = member_bound a (members_of ms) ss order

signatures_signed : (ss : List Signature) (order : List ℕ) (r : Bool) → (r ≡ true → ss ≡ []) → (ss ≡ [] → r ≡ true) → is_empty (block (members_of []) (map signed_of ss) order) ≡ r
signatures_signed [] order r f g = sym (g refl)
signatures_signed (s ∷ ss) order true f g = let clash : s ∷ ss ≡ [] = f refl in cc
signatures_signed (s ∷ ss) order false f g = refl

-- a block with members is not empty
pub has_members : (b : B.Block) → ((out-Block b).members ≡ [] → ⊥) → false ≡ is_empty (block_of b)
has_members b some = sym (ap is_empty (block_is b) ∙ members_bound (out-Block b).members (map signed_of (out-Block b).signatures) (out-Block b).order some)

-- one without is empty where it has no signatures
pub has_signatures : (b : B.Block) (r : Bool) → (out-Block b).members ≡ [] → (r ≡ true → (out-Block b).signatures ≡ []) → ((out-Block b).signatures ≡ [] → r ≡ true) → r ≡ is_empty (block_of b)
has_signatures b r none f g = sym (ap is_empty (block_is b) ∙ ap (λ ms. is_empty (block (members_of ms) (map signed_of (out-Block b).signatures) (out-Block b).order)) none ∙ signatures_signed (out-Block b).signatures (out-Block b).order r f g)

-- ---- equations

two_equations : (at other : Place) (ps qs : Patterns) (r s : RightSide) (es : Equations) → plain_equation (equation at ps r (equation other qs s es)) ≡ None
two_equations at other no_pattern qs r s es = refl
two_equations at other (pattern p ps) qs r s es = refl

-- where another equation stands behind the first
pub further_equation : (a : Alt) (as' : List Alt) → (length as' == 0) ≡ false → plain_equation (equations_of (a ∷ as')) ≡ None
further_equation a [] h = cc
further_equation a (b ∷ bs) h =
    let f = out-Alt a in
    let g = out-Alt b in
    ap plain_equation (alt_is a (equations_of (b ∷ bs)) ∙ ap (λ z. equation f.place (patterns (map pattern_of f.pats)) (right_of f.rhs) z) (alt_is b (equations_of bs)))
    ∙ two_equations f.place g.place (patterns (map pattern_of f.pats)) (patterns (map pattern_of g.pats)) (right_of f.rhs) (right_of g.rhs) (equations_of bs)

patterned : (at : Place) (qs : List Pat) (r : RightSide) (es : Equations) → (qs ≡ [] → ⊥) → plain_equation (equation at (patterns (map pattern_of qs)) r es) ≡ None
patterned at [] r es some = absurd (some refl)
patterned at (q ∷ qs) r es some = refl

-- where the first has patterns
pub has_patterns : (a : Alt) (as' : List Alt) → ((out-Alt a).pats ≡ [] → ⊥) → plain_equation (equations_of (a ∷ as')) ≡ None
has_patterns a as' some = ap plain_equation (alt_is a (equations_of as')) ∙ patterned (out-Alt a).place (out-Alt a).pats (right_of (out-Alt a).rhs) (equations_of as') some

-- where it is alone and has none
pub one_equation : (a : Alt) (as' : List Alt) → (length as' == 0) ≡ true → (out-Alt a).pats ≡ [] → plain_equation (equations_of (a ∷ as')) ≡ plain_side (right_of (out-Alt a).rhs)
one_equation a [] h none = let f = out-Alt a in ap plain_equation (alt_is a (equations_of []) ∙ ap (λ qs. equation f.place (patterns (map pattern_of qs)) (right_of f.rhs) (equations_of [])) none)
one_equation a (b ∷ bs) h none = absurd (grind (arith, nat_tests, h))

-- what a test denies
pub denied : {A : Type 0} (r : Bool) → r ≡ false → (A → r ≡ true) → A → ⊥
denied r h f a = let t = f a in cc
