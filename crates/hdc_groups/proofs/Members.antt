-- What a member uses stands before what the members behind it use.
use Rattle.std.proofs.Common.{◌≡◌, ◌++◌, sym, ap, subst, ◌∙◌, append-nil}
use Rattle.hdc_resolved.specs.declared.expression.Exp.{Exp}
use Rattle.hdc_resolved.specs.declared.expression.Quals.{Quals}
use Rattle.hdc_resolved.specs.declared.expression.Rhs.{Rhs}
use Rattle.hdc_resolved.specs.declared.expression.Alt.{Alt}
use Rattle.hdc_resolved.specs.declared.expression.Guard.{Guard}
use Rattle.hdc_resolved.specs.declared.expression.Block as B
use Rattle.hdc_resolved.specs.declared.expression.Member.{Member, Member-F, roll-Member, out-Member, roll-out-Member}
use Rattle.hdc_resolved.specs.declared.expression.Member.TheVariants as m
use Rattle.hdc_resolved.specs.Syntax.{Members, no_member}
use Rattle.hdc_resolved.specs.Mirror.{equations_of, right_of, member_of}
use Rattle.hdc_resolved.proofs.Mirror.{member_named, member_matched}
use Rattle.hdc_groups.specs.TopUses.{equations_uses, right_uses, members_uses}

-- by its variants
one_more_of : (f : Member-F Exp Member Quals Rhs Alt B.Block Guard) (ms : Members) → members_uses (member_of (roll-Member f) ms) ≡ members_uses (member_of (roll-Member f) no_member) ++ members_uses ms
one_more_of (Member-F.Named at x alts) ms =
    subst (λ z. members_uses (member_of z ms) ≡ members_uses (member_of z no_member) ++ members_uses ms) (sym (m.rolls-Named at x alts))
    (ap members_uses (member_named at x alts ms) ∙ sym (ap (λ z. z ++ members_uses ms) (ap members_uses (member_named at x alts no_member) ∙ append-nil (equations_uses (equations_of alts)))))
one_more_of (Member-F.Matched at p r) ms =
    subst (λ z. members_uses (member_of z ms) ≡ members_uses (member_of z no_member) ++ members_uses ms) (sym (m.rolls-Matched at p r))
    (ap members_uses (member_matched at p r ms) ∙ sym (ap (λ z. z ++ members_uses ms) (ap members_uses (member_matched at p r no_member) ∙ append-nil (right_uses (right_of r)))))

-- a member before others
pub one_more : (a : Member) (ms : Members) → members_uses (member_of a ms) ≡ members_uses (member_of a no_member) ++ members_uses ms
one_more a ms = subst (λ z. members_uses (member_of z ms) ≡ members_uses (member_of z no_member) ++ members_uses ms) (roll-out-Member a) (one_more_of (out-Member a) ms)
