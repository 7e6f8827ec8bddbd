-- What stands in a type.
use Rattle.std.proofs.Common.{◌≡◌, ◌⊎◌, inl, inr, ℕ, zero, suc, refl, sym, ap, subst}
use Rattle.hdc_base.specs.declared.place.At.{At}
use Rattle.hdc_regular.specs.Resolved.{Resolved, parameter, use_of, other, Parts, no_part, next_part, part_at, Has, EachHas}
use Rattle.hdc_regular.specs.Expansion.{placed, each_placed}

-- a variable or a use, and no type of another kind
abbrev pub IsProper : Resolved → Type 0
IsProper (parameter i) = Unit {0}
IsProper (use_of n at ts) = Unit {0}
IsProper (other ts) = ⊥

-- a type that is no variable
abbrev pub IsNode : Resolved → Type 0
IsNode (parameter i) = ⊥
IsNode (use_of n at ts) = Unit {0}
IsNode (other ts) = Unit {0}

-- a type of another kind with no parts has no variable and no use
pub empty_has : (s : Resolved) → IsProper s → Has (other no_part) s → ⊥
empty_has s p (inl e) = subst IsProper (sym e) p
empty_has s p (inr h) = h

-- what stands in a part stands in the parts
pub each_of_part : (j : ℕ) (ts : Parts) (s : Resolved) → IsProper s → Has (part_at j ts) s → EachHas ts s
each_of_part j no_part s p h = empty_has s p h
each_of_part zero (next_part t ts) s p h = inl h
each_of_part (suc j) (next_part t ts) s p h = inr (each_of_part j ts s p h)

-- what stands in the parts stands in one of them
pub part_of_each : (ts : Parts) (s : Resolved) → EachHas ts s → (j : ℕ) × Has (part_at j ts) s
part_of_each no_part s h = absurd h
part_of_each (next_part t ts) s (inl h) = (zero, h)
part_of_each (next_part t ts) s (inr h) = let r = part_of_each ts s h in (suc r.0, r.1)

-- what stands in a meaning with its arguments is of the meaning, or stands in an argument that it holds
abbrev pub OfPlaced : At → Parts → (Resolved → Type 0) → Resolved → Type 0
OfPlaced at us In s = ((r : Resolved) × In r × IsNode r × (placed at us r ≡ s)) ⊎ ((j : ℕ) × In (parameter j) × Has (part_at j us) s)

of_placed_more : (at : At) (us : Parts) (In More : Resolved → Type 0) (s : Resolved) → ((r : Resolved) → In r → More r) → OfPlaced at us In s → OfPlaced at us More s
of_placed_more at us In More s more (inl (r, i, n, e)) = inl (r, more r i, n, e)
of_placed_more at us In More s more (inr (j, i, h)) = inr (j, more (parameter j) i, h)

mutual
  pub of_placed : (at : At) (us : Parts) (t : Resolved) (s : Resolved) → Has (placed at us t) s → OfPlaced at us (Has t) s
  of_placed at us (parameter i) s h = inr (i, refl, h)
  of_placed at us (use_of n a ts) s (inl e) = inl (use_of n a ts, inl refl, tt, e)
  of_placed at us (use_of n a ts) s (inr h) = of_placed_more at us (EachHas ts) (Has (use_of n a ts)) s (λ r i. inr i) (of_each_placed at us ts s h)
  of_placed at us (other ts) s (inl e) = inl (other ts, inl refl, tt, e)
  of_placed at us (other ts) s (inr h) = of_placed_more at us (EachHas ts) (Has (other ts)) s (λ r i. inr i) (of_each_placed at us ts s h)

  pub of_each_placed : (at : At) (us : Parts) (ts : Parts) (s : Resolved) → EachHas (each_placed at us ts) s → OfPlaced at us (EachHas ts) s
  of_each_placed at us no_part s h = absurd h
  of_each_placed at us (next_part t ts) s (inl h) = of_placed_more at us (Has t) (EachHas (next_part t ts)) s (λ r i. inl i) (of_placed at us t s h)
  of_each_placed at us (next_part t ts) s (inr h) = of_placed_more at us (EachHas ts) (EachHas (next_part t ts)) s (λ r i. inr i) (of_each_placed at us ts s h)

-- what stands in a type stands in itself
pub has_itself : (t : Resolved) → Has t t
has_itself (parameter i) = refl
has_itself (use_of n a ts) = inl refl
has_itself (other ts) = inl refl

-- with the arguments it stands in the meaning with the arguments
mutual
  pub placed_has : (at : At) (us : Parts) (t r : Resolved) → Has t r → Has (placed at us t) (placed at us r)
  placed_has at us (parameter i) r e = subst (λ z. Has (part_at i us) (placed at us z)) e (has_itself (part_at i us))
  placed_has at us (use_of n a ts) r (inl e) = inl (ap (placed at us) e)
  placed_has at us (use_of n a ts) r (inr h) = inr (each_placed_has at us ts r h)
  placed_has at us (other ts) r (inl e) = inl (ap (placed at us) e)
  placed_has at us (other ts) r (inr h) = inr (each_placed_has at us ts r h)

  pub each_placed_has : (at : At) (us : Parts) (ts : Parts) (r : Resolved) → EachHas ts r → EachHas (each_placed at us ts) (placed at us r)
  each_placed_has at us no_part r h = absurd h
  each_placed_has at us (next_part t ts) r (inl h) = inl (placed_has at us t r h)
  each_placed_has at us (next_part t ts) r (inr h) = inr (each_placed_has at us ts r h)

same_parameter : (us : Parts) (i j : ℕ) (s : Resolved) → parameter i ≡ parameter j → Has (part_at j us) s → Has (part_at i us) s
same_parameter us i j s e h = let same : i ≡ j = cc in subst (λ k. Has (part_at k us) s) (sym same) h

-- and so does what stands in an argument that the meaning holds
mutual
  pub argument_has : (at : At) (us : Parts) (t : Resolved) (j : ℕ) (s : Resolved) → Has t (parameter j) → Has (part_at j us) s → Has (placed at us t) s
  argument_has at us (parameter i) j s e h = same_parameter us i j s e h
  argument_has at us (use_of n a ts) j s (inl e) h = absurd (subst IsNode e tt)
  argument_has at us (use_of n a ts) j s (inr i) h = inr (each_argument_has at us ts j s i h)
  argument_has at us (other ts) j s (inl e) h = absurd (subst IsNode e tt)
  argument_has at us (other ts) j s (inr i) h = inr (each_argument_has at us ts j s i h)

  pub each_argument_has : (at : At) (us : Parts) (ts : Parts) (j : ℕ) (s : Resolved) → EachHas ts (parameter j) → Has (part_at j us) s → EachHas (each_placed at us ts) s
  each_argument_has at us no_part j s i h = absurd i
  each_argument_has at us (next_part t ts) j s (inl i) h = inl (argument_has at us t j s i h)
  each_argument_has at us (next_part t ts) j s (inr i) h = inr (each_argument_has at us ts j s i h)
