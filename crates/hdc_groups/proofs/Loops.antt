-- One turn of a loop over parts, of which each adds what it uses.
use Rattle.std.proofs.Common.{◌≡◌, ℕ, ◌+◌, ◌<◌, List, ◌∷◌, ◌++◌, length, drop, get_or, sym, ap, ◌∙◌, append_assoc}
use Rattle.std.proofs.lemmas.List.{drop_more}
use Rattle.hdc_resolved.specs.declared.expression.Alt.{Alt, out-Alt}
use Rattle.hdc_resolved.specs.declared.expression.Guard.{Guard, out-Guard}
use Rattle.hdc_resolved.specs.declared.expression.Member.{Member}
use Rattle.hdc_resolved.specs.Syntax.{no_member}
use Rattle.hdc_resolved.specs.Mirror.{expression_of, equations_of, right_of, guards_of, member_of, members_of}
use Rattle.hdc_resolved.proofs.Mirror.{alt_is, guard_is}
use Rattle.hdc_groups.specs.TopUses.{expression_uses, equations_uses, right_uses, guards_uses, members_uses}
use Rattle.hdc_groups.proofs.Members.{one_more}

-- what an equation uses
abbrev pub one_equation : Alt → List ℕ
one_equation a = right_uses (right_of (out-Alt a).rhs)

-- and a guard with what it guards
abbrev pub one_guard : Guard → List ℕ
one_guard g = expression_uses (expression_of (out-Guard g).test) ++ expression_uses (expression_of (out-Guard g).body)

-- and a member
abbrev pub one_member : Member → List ℕ
one_member a = members_uses (member_of a no_member)

-- one more part
one_turn : {A : Type 0} (all : List A → List ℕ) (one : A → List ℕ) → ((a : A) (behind : List A) → all (a ∷ behind) ≡ one a ++ all behind) → (parts : List A) (i : ℕ) (x : A) (start now later : List ℕ) → start ++ all parts ≡ now ++ all (drop i parts) → i < length parts → x ≡ get_or parts i x → later ≡ now ++ one x → start ++ all parts ≡ later ++ all (drop (i + 1) parts)
one_turn all one more parts i x start now later so_far lt is e =
    so_far
    ∙ ap (λ z. now ++ all z) (drop_more parts i x lt ∙ ap (λ y. y ∷ drop (i + 1) parts) (sym is))
    ∙ ap (λ z. now ++ z) (more x (drop (i + 1) parts))
    ∙ sym (append_assoc now (one x) (all (drop (i + 1) parts)))
    ∙ ap (λ z. z ++ all (drop (i + 1) parts)) (sym e)

-- one more equation
pub next_equation : (parts : List Alt) (i : ℕ) (x : Alt) (start now later : List ℕ) → start ++ equations_uses (equations_of parts) ≡ now ++ equations_uses (equations_of (drop i parts)) → i < length parts → x ≡ get_or parts i x → later ≡ now ++ one_equation x → start ++ equations_uses (equations_of parts) ≡ later ++ equations_uses (equations_of (drop (i + 1) parts))
next_equation = one_turn (λ parts. equations_uses (equations_of parts)) one_equation (λ a behind. ap equations_uses (alt_is a (equations_of behind)))

-- one more guard
pub next_guard : (parts : List Guard) (i : ℕ) (x : Guard) (start now later : List ℕ) → start ++ guards_uses (guards_of parts) ≡ now ++ guards_uses (guards_of (drop i parts)) → i < length parts → x ≡ get_or parts i x → later ≡ now ++ one_guard x → start ++ guards_uses (guards_of parts) ≡ later ++ guards_uses (guards_of (drop (i + 1) parts))
next_guard = one_turn (λ parts. guards_uses (guards_of parts)) one_guard (λ a behind. ap guards_uses (guard_is a (guards_of behind)) ∙ sym (append_assoc (expression_uses (expression_of (out-Guard a).test)) (expression_uses (expression_of (out-Guard a).body)) (guards_uses (guards_of behind))))

-- one more member
pub next_member : (parts : List Member) (i : ℕ) (x : Member) (start now later : List ℕ) → start ++ members_uses (members_of parts) ≡ now ++ members_uses (members_of (drop i parts)) → i < length parts → x ≡ get_or parts i x → later ≡ now ++ one_member x → start ++ members_uses (members_of parts) ≡ later ++ members_uses (members_of (drop (i + 1) parts))
next_member = one_turn (λ parts. members_uses (members_of parts)) one_member (λ a behind. one_more a (members_of behind))
