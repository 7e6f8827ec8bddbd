use Rattle.std.proofs.Common.{◌≡◌, [], ◌∷◌, ◌++◌, sym, ap, is_some}
use Rattle.hdc_written.proofs.Linked.{linked_one_less, indexed_one_less, name_is_there}
use Rattle.hdc_written.proofs.scope.Scope.forget.Goals as goal

pub invariant_of-self : goal.invariant_of-self
invariant_of-self g c =
    let shrinks : c.self.inside.entries.items ≡ c.pop.new.self.items ++ c.in-Some.entry ∷ [] = c.in-Some.ensures.items in (
      (linked_one_less c.self.inside.entries.items c.pop.new.self.items c.in-Some.entry shrinks c.self.invariant.0).1,
      indexed_one_less c.self.inside.places (c.get_mut.follows.lender c.in-Some.entry.before) c.self.inside.entries.items c.pop.new.self.items c.in-Some.entry shrinks c.self.invariant.0
          ((c.get_mut.follows.holds c.in-Some.entry.before).3 (sym (ap is_some c.in-Some-get_mut.ensures.value))) c.self.invariant.1,
    )

pub invariant_of-self-in_default-get_mut : goal.invariant_of-self-in_default-get_mut
invariant_of-self-in_default-get_mut g c =
    absurd (name_is_there c.self.inside.places c.self.inside.entries.items c.pop.new.self.items c.in-Some.entry c.in-Some.ensures.items c.self.invariant.1
    (sym c.in_default-get_mut.ensures.value))
