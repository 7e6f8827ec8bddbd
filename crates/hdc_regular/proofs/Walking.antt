-- A walk over types with synonyms finds what is not in order in the expanded types.
use Rattle.std.proofs.Common.{rules, ◌≡◌, ◌⊎◌, inl, inr, ℕ, zero, suc, ◌==◌, Bool, true, false, ◌&&◌, List, [], ◌∷◌, Option, Some, None, refl, sym, ap, subst, ◌∙◌}
use Rattle.hdc_base.specs.declared.place.At.{At}
use Rattle.hdc_written.specs.declared.breach.Breach.{Breach}
use Rattle.hdc_written.specs.Breaches.{breach, IsOneOf}
use Rattle.hdc_written.proofs.FirstBreach.{one_of_left, one_of_right, one_of_either}
use Rattle.hdc_regular.specs.Resolved.{Resolved, parameter, use_of, other, Parts, no_part, next_part, part_at, parameters_from, Has, EachHas}
use Rattle.hdc_regular.specs.Expansion.{placed, each_placed}
use Rattle.hdc_regular.specs.Walk.{alias_of, each_alias_of, Tables, followed, each_followed, one_of, is_variable, in_order, use_fits, wrong_use, wrong, each_wrong}

-- ---- variables that types are

pub alias_of_part : (j : ℕ) (us : Parts) → alias_of (part_at j us) ≡ one_of (each_alias_of us) j
alias_of_part j no_part = refl
alias_of_part zero (next_part t ts) = refl
alias_of_part (suc j) (next_part t ts) = alias_of_part j ts

mutual
  pub alias_placed : (at : At) (us : Parts) (t : Resolved) → alias_of (placed at us t) ≡ followed (one_of (each_alias_of us)) (alias_of t)
  alias_placed at us (parameter i) = alias_of_part i us
  alias_placed at us (use_of n a ts) = refl
  alias_placed at us (other ts) = refl

  pub each_alias_placed : (at : At) (us : Parts) (ts : Parts) → each_alias_of (each_placed at us ts) ≡ each_followed (one_of (each_alias_of us)) (each_alias_of ts)
  each_alias_placed at us no_part = refl
  each_alias_placed at us (next_part t ts) = ap (λ z. z ∷ each_alias_of (each_placed at us ts)) (alias_placed at us t) ∙ ap (λ z. followed (one_of (each_alias_of us)) (alias_of t) ∷ z) (each_alias_placed at us ts)

pub one_followed : (u : ℕ → Option ℕ) (vs : List (Option ℕ)) (j : ℕ) → one_of (each_followed u vs) j ≡ followed u (one_of vs j)
one_followed u [] j = refl
one_followed u (v ∷ vs) zero = refl
one_followed u (v ∷ vs) (suc j) = one_followed u vs j

-- variables for which others stand, for which others stand
followed_twice : (u : ℕ → Option ℕ) (vs : List (Option ℕ)) (a : Option ℕ) → followed u (followed (one_of vs) a) ≡ followed (one_of (each_followed u vs)) a
followed_twice u vs None = refl
followed_twice u vs (Some j) = sym (one_followed u vs j)

pub each_followed_twice : (u : ℕ → Option ℕ) (vs ws : List (Option ℕ)) → each_followed u (each_followed (one_of vs) ws) ≡ each_followed (one_of (each_followed u vs)) ws
each_followed_twice u vs [] = refl
each_followed_twice u vs (w ∷ ws) = ap (λ z. z ∷ each_followed u (each_followed (one_of vs) ws)) (followed_twice u vs w) ∙ ap (λ z. followed (one_of (each_followed u vs)) w ∷ z) (each_followed_twice u vs ws)

-- each variable for itself
pub each_itself : (vs : List (Option ℕ)) → each_followed (λ j. Some j) vs ≡ vs
each_itself [] = refl
each_itself (None ∷ vs) = ap (λ (z : List (Option ℕ)). None ∷ z) (each_itself vs)
each_itself (Some j ∷ vs) = ap (λ (z : List (Option ℕ)). Some j ∷ z) (each_itself vs)

-- ---- variables in order

both : (a b : Bool) → a ≡ true → b ≡ true → (a && b) ≡ true
both true true d e = refl
both true false d e = cc
both false b d e = cc

left_of : (a b : Bool) → (a && b) ≡ true → a ≡ true
left_of true b e = refl
left_of false b e = e

right_of : (a b : Bool) → (a && b) ≡ true → b ≡ true
right_of true b e = e
right_of false b e = cc

pub order_of_parameters : (i k : ℕ) → in_order i k (each_alias_of (parameters_from i k)) ≡ true
order_of_parameters i zero = refl
order_of_parameters i (suc k) = both (i == i) (in_order (suc i) k (each_alias_of (parameters_from (suc i) k))) (search rules) (order_of_parameters (suc i) k)

variable_of : (t : Resolved) (i : ℕ) → is_variable i (alias_of t) ≡ true → t ≡ parameter i
variable_of (parameter j) i e = let same : j ≡ i = search rules in ap (λ z. parameter z) same
variable_of (use_of n at ts) i e = cc
variable_of (other ts) i e = cc

pub parameters_of_order : (i k : ℕ) (us : Parts) → in_order i k (each_alias_of us) ≡ true → us ≡ parameters_from i k
parameters_of_order i zero no_part e = refl
parameters_of_order i zero (next_part t ts) e = cc
parameters_of_order i (suc k) no_part e = cc
parameters_of_order i (suc k) (next_part t ts) e =
    ap (λ z. next_part z ts) (variable_of t i (left_of (is_variable i (alias_of t)) (in_order (suc i) k (each_alias_of ts)) e))
    ∙ ap (λ z. next_part (parameter i) z) (parameters_of_order (suc i) k ts (right_of (is_variable i (alias_of t)) (in_order (suc i) k (each_alias_of ts)) e))

-- ---- what a walk finds

module _ (known : Tables) (own : ℕ → Bool) (k : ℕ) (u : ℕ → Option ℕ) where
  -- a use in a type that does not fit
  abbrev pub Misfit : (Resolved → Type 0) → Breach → Type 0
  Misfit In b = (n : ℕ) × (at : At) × (ts : Parts) × In (use_of n at ts) × (own n ≡ true) × (use_fits known (known.synonyms n) n k (each_followed u (each_alias_of ts)) ≡ false) × (b ≡ breach 10 at)

  misfit_more : (In More : Resolved → Type 0) (b : Breach) → ((r : Resolved) → In r → More r) → Misfit In b → Misfit More b
  misfit_more In More b more (n, at, ts, i, o, f, e) = (n, at, ts, more (use_of n at ts) i, o, f, e)

  of_wrong_use : (o f : Bool) (at : At) (b : Breach) → IsOneOf b (wrong_use o f at) → (o ≡ true) × (f ≡ false) × (b ≡ breach 10 at)
  of_wrong_use true false at b (inl e) = (refl, refl, e)
  of_wrong_use true false at b (inr h) = absurd h
  of_wrong_use true true at b h = absurd h
  of_wrong_use false f at b h = absurd h

  wrong_use_has : (o f : Bool) (at : At) → o ≡ true → f ≡ false → IsOneOf (breach 10 at) (wrong_use o f at)
  wrong_use_has true false at d e = inl refl
  wrong_use_has true true at d e = cc
  wrong_use_has false f at d e = cc

  of_use : (n : ℕ) (at : At) (ts : Parts) (b : Breach) → (IsOneOf b (each_wrong known own k u ts) → Misfit (EachHas ts) b)
      → IsOneOf b (wrong_use (own n) (use_fits known (known.synonyms n) n k (each_followed u (each_alias_of ts))) at) ⊎ IsOneOf b (each_wrong known own k u ts)
      → Misfit (Has (use_of n at ts)) b
  of_use n at ts b each (inl h) = let r = of_wrong_use (own n) (use_fits known (known.synonyms n) n k (each_followed u (each_alias_of ts))) at b h in (n, at, ts, inl refl, r.0, r.1, r.2)
  of_use n at ts b each (inr h) = misfit_more (EachHas ts) (Has (use_of n at ts)) b (λ r i. inr i) (each h)

  of_next : (t : Resolved) (ts : Parts) (b : Breach) → (IsOneOf b (wrong known own k u t) → Misfit (Has t) b) → (IsOneOf b (each_wrong known own k u ts) → Misfit (EachHas ts) b)
      → IsOneOf b (wrong known own k u t) ⊎ IsOneOf b (each_wrong known own k u ts) → Misfit (EachHas (next_part t ts)) b
  of_next t ts b here behind (inl h) = misfit_more (Has t) (EachHas (next_part t ts)) b (λ r i. inl i) (here h)
  of_next t ts b here behind (inr h) = misfit_more (EachHas ts) (EachHas (next_part t ts)) b (λ r i. inr i) (behind h)

  mutual
    pub of_wrong : (t : Resolved) (b : Breach) → IsOneOf b (wrong known own k u t) → Misfit (Has t) b
    of_wrong (parameter i) b h = absurd h
    of_wrong (use_of n at ts) b h =
        of_use n at ts b (of_each_wrong ts b) (one_of_either b (wrong_use (own n) (use_fits known (known.synonyms n) n k (each_followed u (each_alias_of ts))) at) (each_wrong known own k u ts) h)
    of_wrong (other ts) b h = misfit_more (EachHas ts) (Has (other ts)) b (λ r i. inr i) (of_each_wrong ts b h)

    pub of_each_wrong : (ts : Parts) (b : Breach) → IsOneOf b (each_wrong known own k u ts) → Misfit (EachHas ts) b
    of_each_wrong no_part b h = absurd h
    of_each_wrong (next_part t ts) b h = of_next t ts b (of_wrong t b) (of_each_wrong ts b) (one_of_either b (wrong known own k u t) (each_wrong known own k u ts) h)

  same_use : (n m : ℕ) (at a : At) (ts us : Parts) → use_of n at ts ≡ use_of m a us → own m ≡ true → use_fits known (known.synonyms m) m k (each_followed u (each_alias_of us)) ≡ false
      → (own n ≡ true) × (use_fits known (known.synonyms n) n k (each_followed u (each_alias_of ts)) ≡ false) × (at ≡ a)
  same_use n m at a ts us e o f =
      let d : n ≡ m = cc in
      let g : ts ≡ us = cc in (
        subst (λ z. own z ≡ true) (sym d) o,
        subst (λ z. use_fits known (known.synonyms z) z k (each_followed u (each_alias_of ts)) ≡ false) (sym d)
            (subst (λ z. use_fits known (known.synonyms m) m k (each_followed u (each_alias_of z)) ≡ false) (sym g) f),
        cc,
      )

  here_wrong : (n m : ℕ) (at a : At) (ts us : Parts) → use_of n at ts ≡ use_of m a us → own m ≡ true → use_fits known (known.synonyms m) m k (each_followed u (each_alias_of us)) ≡ false
      → IsOneOf (breach 10 a) (wrong known own k u (use_of n at ts))
  here_wrong n m at a ts us e o f =
      let r = same_use n m at a ts us e o f in
      one_of_left (breach 10 a) (wrong_use (own n) (use_fits known (known.synonyms n) n k (each_followed u (each_alias_of ts))) at) (each_wrong known own k u ts)
      (subst (λ z. IsOneOf (breach 10 z) (wrong_use (own n) (use_fits known (known.synonyms n) n k (each_followed u (each_alias_of ts))) at)) r.2
      (wrong_use_has (own n) (use_fits known (known.synonyms n) n k (each_followed u (each_alias_of ts))) at r.0 r.1))

  mutual
    pub wrong_has : (t : Resolved) (n : ℕ) (at : At) (ts : Parts) → Has t (use_of n at ts) → own n ≡ true → use_fits known (known.synonyms n) n k (each_followed u (each_alias_of ts)) ≡ false → IsOneOf (breach 10 at) (wrong known own k u t)
    wrong_has (parameter i) n at ts i' o f = cc
    wrong_has (use_of m a us) n at ts (inl e) o f = here_wrong m n a at us ts e o f
    wrong_has (use_of m a us) n at ts (inr i) o f = one_of_right (breach 10 at) (wrong_use (own m) (use_fits known (known.synonyms m) m k (each_followed u (each_alias_of us))) a) (each_wrong known own k u us) (each_wrong_has us n at ts i o f)
    wrong_has (other us) n at ts (inl e) o f = cc
    wrong_has (other us) n at ts (inr i) o f = each_wrong_has us n at ts i o f

    pub each_wrong_has : (us : Parts) (n : ℕ) (at : At) (ts : Parts) → EachHas us (use_of n at ts) → own n ≡ true → use_fits known (known.synonyms n) n k (each_followed u (each_alias_of ts)) ≡ false → IsOneOf (breach 10 at) (each_wrong known own k u us)
    each_wrong_has no_part n at ts i o f = absurd i
    each_wrong_has (next_part t us) n at ts (inl i) o f = one_of_left (breach 10 at) (wrong known own k u t) (each_wrong known own k u us) (wrong_has t n at ts i o f)
    each_wrong_has (next_part t us) n at ts (inr i) o f = one_of_right (breach 10 at) (wrong known own k u t) (each_wrong known own k u us) (each_wrong_has us n at ts i o f)
