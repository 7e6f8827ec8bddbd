-- What stands in a type whose synonyms are expanded.
use Rattle.std.proofs.Common.{◌∙◌, ap, ◌∷◌, None, ◌≡◌, ◌⊎◌, inl, inr, ℕ, zero, suc, Bool, true, false, refl, sym, subst}
use Rattle.hdc_base.specs.declared.place.At.{At}
use Rattle.hdc_regular.specs.Resolved.{Resolved, parameter, use_of, other, Parts, no_part, next_part, part_at, Has, EachHas}
use Rattle.hdc_regular.specs.Walk.{alias_of, each_alias_of}
use Rattle.hdc_regular.specs.Expansion.{placed, each_placed, used, expanded, each_expanded}
use Rattle.hdc_regular.proofs.Within.{IsProper, IsNode, OfPlaced, empty_has, each_of_part, part_of_each, of_placed, placed_has, argument_has}

-- where this says which declarations are synonyms, and what they mean
module _ (synonyms : ℕ → Bool) (meanings : ℕ → Resolved) where
  -- a part of expanded types is an expanded part
  pub part_expanded : (j : ℕ) (ts : Parts) → part_at j (each_expanded synonyms meanings ts) ≡ expanded synonyms meanings (part_at j ts)
  part_expanded j no_part = refl
  part_expanded zero (next_part t ts) = refl
  part_expanded (suc j) (next_part t ts) = part_expanded j ts

  -- what a use gives: what stands in the meaning of a synonym, but for its variables, or the use of a data type
  abbrev pub UseGives : Bool → ℕ → At → Parts → Resolved → Type 0
  UseGives true n at ts s = (r : Resolved) × Has (meanings n) r × IsNode r × (placed at (each_expanded synonyms meanings ts) r ≡ s)
  UseGives false n at ts s = use_of n at (each_expanded synonyms meanings ts) ≡ s

  -- what a type gives as such, and not by a part
  abbrev pub Gives : Resolved → Resolved → Type 0
  Gives (parameter i) s = parameter i ≡ s
  Gives (use_of n at ts) s = UseGives (synonyms n) n at ts s
  Gives (other ts) s = other (each_expanded synonyms meanings ts) ≡ s

  -- one that stands in a type gives it
  abbrev pub Given : (Resolved → Type 0) → Resolved → Type 0
  Given In s = (r : Resolved) × In r × Gives r s

  given_more : (In More : Resolved → Type 0) (s : Resolved) → ((r : Resolved) → In r → More r) → Given In s → Given More s
  given_more In More s more (r, i, g) = (r, more r i, g)

  -- every meaning of a synonym with arguments
  of_used : (b : Bool) (n : ℕ) (at : At) (ts : Parts) (s : Resolved)
      → Has (used b (meanings n) n at (each_expanded synonyms meanings ts)) s
      → UseGives b n at ts s ⊎ ((j : ℕ) × Has (part_at j (each_expanded synonyms meanings ts)) s) ⊎ EachHas (each_expanded synonyms meanings ts) s
  of_used true n at ts s h = by (of_placed at (each_expanded synonyms meanings ts) (meanings n) s h)
    where
      by : OfPlaced at (each_expanded synonyms meanings ts) (Has (meanings n)) s → UseGives true n at ts s ⊎ ((j : ℕ) × Has (part_at j (each_expanded synonyms meanings ts)) s) ⊎ EachHas (each_expanded synonyms meanings ts) s
      by (inl (r, i, k, e)) = inl (r, i, k, e)
      by (inr (j, i, g)) = inr (inl (j, g))
  of_used false n at ts s (inl e) = inl e
  of_used false n at ts s (inr h) = inr (inr h)

  of_use : (n : ℕ) (at : At) (ts : Parts) (s : Resolved) → IsProper s → (EachHas (each_expanded synonyms meanings ts) s → Given (EachHas ts) s)
      → UseGives (synonyms n) n at ts s ⊎ ((j : ℕ) × Has (part_at j (each_expanded synonyms meanings ts)) s) ⊎ EachHas (each_expanded synonyms meanings ts) s
      → Given (Has (use_of n at ts)) s
  of_use n at ts s p each (inl g) = (use_of n at ts, inl refl, g)
  of_use n at ts s p each (inr (inl (j, h))) = given_more (EachHas ts) (Has (use_of n at ts)) s (λ r i. inr i) (each (each_of_part j (each_expanded synonyms meanings ts) s p h))
  of_use n at ts s p each (inr (inr h)) = given_more (EachHas ts) (Has (use_of n at ts)) s (λ r i. inr i) (each h)

  -- what stands in an expanded type is given by what stands in the type
  mutual
    pub of_expanded : (t s : Resolved) → IsProper s → Has (expanded synonyms meanings t) s → Given (Has t) s
    of_expanded (parameter i) s p h = (parameter i, refl, h)
    of_expanded (use_of n at ts) s p h = of_use n at ts s p (of_each_expanded ts s p) (of_used (synonyms n) n at ts s h)
    of_expanded (other ts) s p (inl e) = (other ts, inl refl, e)
    of_expanded (other ts) s p (inr h) = given_more (EachHas ts) (Has (other ts)) s (λ r i. inr i) (of_each_expanded ts s p h)

    pub of_each_expanded : (ts : Parts) (s : Resolved) → IsProper s → EachHas (each_expanded synonyms meanings ts) s → Given (EachHas ts) s
    of_each_expanded no_part s p h = absurd h
    of_each_expanded (next_part t ts) s p (inl h) = given_more (Has t) (EachHas (next_part t ts)) s (λ r i. inl i) (of_expanded t s p h)
    of_each_expanded (next_part t ts) s p (inr h) = given_more (EachHas ts) (EachHas (next_part t ts)) s (λ r i. inr i) (of_each_expanded ts s p h)

  -- ---- the other way, where a synonym is no variable, and has only those arguments that its meaning holds

  abbrev pub OnlyHeld : Bool → ℕ → Parts → Type 0
  OnlyHeld true n ts = (alias_of (meanings n) ≡ None) × ((j : ℕ) → (part_at j ts ≡ other no_part) ⊎ Has (meanings n) (parameter j))
  OnlyHeld false n ts = Unit {0}

  abbrev mutual
    pub IsExact : Resolved → Type 0
    IsExact (parameter i) = Unit {0}
    IsExact (use_of n at ts) = OnlyHeld (synonyms n) n ts × EachExact ts
    IsExact (other ts) = EachExact ts

    pub EachExact : Parts → Type 0
    EachExact no_part = Unit {0}
    EachExact (next_part t ts) = IsExact t × EachExact ts

  -- what a use gives stands in the expanded use
  use_has : (b : Bool) (n : ℕ) (at : At) (ts : Parts) (s : Resolved) → UseGives b n at ts s → Has (used b (meanings n) n at (each_expanded synonyms meanings ts)) s
  use_has true n at ts s (r, i, k, e) = subst (Has (placed at (each_expanded synonyms meanings ts) (meanings n))) e (placed_has at (each_expanded synonyms meanings ts) (meanings n) r i)
  use_has false n at ts s e = inl e

  -- what stands in the expanded arguments of a use stands in the expanded use
  part_has : (n : ℕ) (at : At) (ts : Parts) (s : Resolved) (j : ℕ) → IsProper s → Has (part_at j (each_expanded synonyms meanings ts)) s → (part_at j ts ≡ other no_part) ⊎ Has (meanings n) (parameter j)
      → Has (placed at (each_expanded synonyms meanings ts) (meanings n)) s
  part_has n at ts s j p h (inl e) = absurd (empty_has s p (subst (λ z. Has (expanded synonyms meanings z) s) e (subst (λ z. Has z s) (part_expanded j ts) h)))
  part_has n at ts s j p h (inr i) = argument_has at (each_expanded synonyms meanings ts) (meanings n) j s i h

  arguments_have : (b : Bool) (n : ℕ) (at : At) (ts : Parts) (s : Resolved) → IsProper s → OnlyHeld b n ts → EachHas (each_expanded synonyms meanings ts) s
      → Has (used b (meanings n) n at (each_expanded synonyms meanings ts)) s
  arguments_have true n at ts s p only h = let r = part_of_each (each_expanded synonyms meanings ts) s h in part_has n at ts s r.0 p r.1 (only.1 r.0)
  arguments_have false n at ts s p only h = inr h

  -- what is given by what stands in a type stands in the expanded type
  mutual
    pub expanded_has : (t r s : Resolved) → IsProper s → IsExact t → Has t r → Gives r s → Has (expanded synonyms meanings t) s
    expanded_has (parameter i) r s p x e g = subst (λ z. Gives z s) (sym e) g
    expanded_has (use_of n at ts) r s p x (inl e) g = use_has (synonyms n) n at ts s (subst (λ z. Gives z s) (sym e) g)
    expanded_has (use_of n at ts) r s p x (inr h) g = arguments_have (synonyms n) n at ts s p x.0 (each_expanded_has ts r s p x.1 h g)
    expanded_has (other ts) r s p x (inl e) g = inl (subst (λ z. Gives z s) (sym e) g)
    expanded_has (other ts) r s p x (inr h) g = inr (each_expanded_has ts r s p x h g)

    pub each_expanded_has : (ts : Parts) (r s : Resolved) → IsProper s → EachExact ts → EachHas ts r → Gives r s → EachHas (each_expanded synonyms meanings ts) s
    each_expanded_has no_part r s p x h g = absurd h
    each_expanded_has (next_part t ts) r s p x (inl h) g = inl (expanded_has t r s p x.0 h g)
    each_expanded_has (next_part t ts) r s p x (inr h) g = inr (each_expanded_has ts r s p x.1 h g)

  -- ---- variables

  gives_parameter : (r : Resolved) (i : ℕ) → Gives r (parameter i) → r ≡ parameter i
  gives_parameter (parameter j) i g = g
  gives_parameter (use_of n at ts) i g = absurd (by (synonyms n) g)
    where
      not_placed : (r : Resolved) → IsNode r → placed at (each_expanded synonyms meanings ts) r ≡ parameter i → ⊥
      not_placed (parameter j) k e = k
      not_placed (use_of m a us) k e = cc
      not_placed (other us) k e = cc

      by : (b : Bool) → UseGives b n at ts (parameter i) → ⊥
      by true (r, h, k, e) = not_placed r k e
      by false e = cc
  gives_parameter (other ts) i g = cc

  -- an expanded type holds the variables that the type holds
  pub holds_of : (t : Resolved) (i : ℕ) → Has (expanded synonyms meanings t) (parameter i) → Has t (parameter i)
  holds_of t i h = let r = of_expanded t (parameter i) tt h in subst (Has t) (gives_parameter r.0 i r.2) r.1

  pub has_held : (t : Resolved) (i : ℕ) → IsExact t → Has t (parameter i) → Has (expanded synonyms meanings t) (parameter i)
  has_held t i x h = expanded_has t (parameter i) (parameter i) tt x h refl

  -- an expanded type is the variable that the type is
  none_placed : (at : At) (us : Parts) (t : Resolved) → alias_of t ≡ None → alias_of (placed at us t) ≡ None
  none_placed at us (parameter i) e = cc
  none_placed at us (use_of n a ts) e = refl
  none_placed at us (other ts) e = refl

  alias_of_used : (b : Bool) (n : ℕ) (at : At) (ts us : Parts) → OnlyHeld b n ts → alias_of (used b (meanings n) n at us) ≡ None
  alias_of_used true n at ts us only = none_placed at us (meanings n) only.0
  alias_of_used false n at ts us only = refl

  pub alias_expanded : (t : Resolved) → IsExact t → alias_of (expanded synonyms meanings t) ≡ alias_of t
  alias_expanded (parameter i) x = refl
  alias_expanded (use_of n at ts) x = alias_of_used (synonyms n) n at ts (each_expanded synonyms meanings ts) x.0
  alias_expanded (other ts) x = refl

  pub each_alias_expanded : (ts : Parts) → EachExact ts → each_alias_of (each_expanded synonyms meanings ts) ≡ each_alias_of ts
  each_alias_expanded no_part x = refl
  each_alias_expanded (next_part t ts) x = ap (λ z. z ∷ each_alias_of (each_expanded synonyms meanings ts)) (alias_expanded t x.0) ∙ ap (λ z. alias_of t ∷ z) (each_alias_expanded ts x.1)

  -- what stands in an exact type is exact
  mutual
    pub exact_within : (t : Resolved) (n : ℕ) (at : At) (us : Parts) → IsExact t → Has t (use_of n at us) → EachExact us
    exact_within (parameter i) n at us x h = cc
    exact_within (use_of m a ts) n at us x (inl e) = let same : ts ≡ us = cc in subst EachExact same x.1
    exact_within (use_of m a ts) n at us x (inr h) = each_exact_within ts n at us x.1 h
    exact_within (other ts) n at us x (inl e) = cc
    exact_within (other ts) n at us x (inr h) = each_exact_within ts n at us x h

    pub each_exact_within : (ts : Parts) (n : ℕ) (at : At) (us : Parts) → EachExact ts → EachHas ts (use_of n at us) → EachExact us
    each_exact_within no_part n at us x h = absurd h
    each_exact_within (next_part t ts) n at us x (inl h) = exact_within t n at us x.0 h
    each_exact_within (next_part t ts) n at us x (inr h) = each_exact_within ts n at us x.1 h

  -- ---- uses of data types

  -- a use of a data type in the meaning of a synonym, with its arguments, or a use of a data type as such
  abbrev pub UseOfType : Bool → ℕ → At → Parts → ℕ → At → Parts → Type 0
  UseOfType true n at ts m a us = (b : At) × (vs : Parts) × Has (meanings n) (use_of m b vs) × (at ≡ a) × (each_placed at (each_expanded synonyms meanings ts) vs ≡ us)
  UseOfType false n at ts m a us = (n ≡ m) × (at ≡ a) × (each_expanded synonyms meanings ts ≡ us)

  use_of_type : (b : Bool) (n : ℕ) (at : At) (ts : Parts) (m : ℕ) (a : At) (us : Parts) → UseGives b n at ts (use_of m a us) → UseOfType b n at ts m a us
  use_of_type true n at ts m a us (r, h, k, e) = by r h k e
    where
      by : (r : Resolved) → Has (meanings n) r → IsNode r → placed at (each_expanded synonyms meanings ts) r ≡ use_of m a us → UseOfType true n at ts m a us
      by (parameter j) h k e = absurd k
      by (use_of l b vs) h k e = let same : l ≡ m = cc in (b, vs, subst (λ z. Has (meanings n) (use_of z b vs)) same h, cc, cc)
      by (other vs) h k e = cc
  use_of_type false n at ts m a us e = (cc, cc, cc)

  -- a use of a data type in an expanded type comes from a use in the type
  abbrev pub Source : (Resolved → Type 0) → ℕ → At → Parts → Type 0
  Source In m a us = (n : ℕ) × (at : At) × (ts : Parts) × In (use_of n at ts) × UseOfType (synonyms n) n at ts m a us

  source_of : (In : Resolved → Type 0) (m : ℕ) (a : At) (us : Parts) (r : Resolved) → In r → Gives r (use_of m a us) → Source In m a us
  source_of In m a us (parameter i) h g = cc
  source_of In m a us (use_of n at ts) h g = (n, at, ts, h, use_of_type (synonyms n) n at ts m a us g)
  source_of In m a us (other ts) h g = cc

  pub each_source : (ts : Parts) (m : ℕ) (a : At) (us : Parts) → EachHas (each_expanded synonyms meanings ts) (use_of m a us) → Source (EachHas ts) m a us
  each_source ts m a us h = let r = of_each_expanded ts (use_of m a us) tt h in source_of (EachHas ts) m a us r.0 r.1 r.2

  gives_type : (b : Bool) (n : ℕ) (at : At) (ts : Parts) (m : ℕ) (a : At) (us : Parts) → UseOfType b n at ts m a us → UseGives b n at ts (use_of m a us)
  gives_type true n at ts m a us (b, vs, h, e, f) = (use_of m b vs, h, tt, cc)
  gives_type false n at ts m a us (d, e, f) = cc

  -- and each such use is one in the expanded type
  pub each_of_source : (ts : Parts) (m : ℕ) (a : At) (us : Parts) → EachExact ts → Source (EachHas ts) m a us → EachHas (each_expanded synonyms meanings ts) (use_of m a us)
  each_of_source ts m a us x (n, at, vs, h, u) = each_expanded_has ts (use_of n at vs) (use_of m a us) tt x h (gives_type (synonyms n) n at vs m a us u)
