-- What is found out in order is found out of all.
use Rattle.std.proofs.Common.{Option, ◌≡◌, ◌≢◌, ◌⊎◌, inl, inr, ℕ, ◌<◌, ◌≤◌, Bool, true, false, List, [], ◌∷◌, length, refl, sym, ap, subst, ◌∙◌, arith, get_or-set_same, get_or-set_other, length-set}
use Rattle.std.proofs.Math.ListN.{set}
use Rattle.std.proofs.lemmas.Bool.{cases_lt}
use Rattle.hdc_graph.specs.Lists.{Has}
use Rattle.hdc_regular.specs.declared.contents.Usage.{Usage}
use Rattle.hdc_regular.specs.declared.demand.Demand.{Demand}
use Rattle.hdc_synonyms.specs.Adding.{AllBelow}
use Rattle.hdc_regular.specs.Order.{IsOrder}
use Rattle.hdc_regular.specs.Demands.{no_demand, demand_at, by_own, by_use, demanded, demands_by}

-- two numbers are one, or not
pub same_or_not : (a b : ℕ) → (a ≡ b) ⊎ (a ≡ b → ⊥)
same_or_not a b = by (cases_lt a b) (cases_lt b a)
  where
    by : (a < b) ⊎ (b ≤ a) → (b < a) ⊎ (a ≤ b) → (a ≡ b) ⊎ (a ≡ b → ⊥)
    by (inl lt) s = inr (λ e. omega (arith, lt, e))
    by (inr ge) (inl lt) = inr (λ e. omega (arith, lt, e))
    by (inr ge) (inr le) = inl (omega (arith, ge, le))

-- one that is before all, or among them
abbrev pub BeforeOrIn : (ℕ → Type 0) → List ℕ → ℕ → Type 0
BeforeOrIn Before ns x = Before x ⊎ Has ns x

pub shifted : (Before : ℕ → Type 0) (n : ℕ) (ns : List ℕ) (x : ℕ) → BeforeOrIn Before (n ∷ ns) x → BeforeOrIn (λ y. Before y ⊎ (n ≡ y)) ns x
shifted Before n ns x (inl b) = inl (inl b)
shifted Before n ns x (inr (inl e)) = inl (inr e)
shifted Before n ns x (inr (inr h)) = inr h

-- ---- demands

-- each synonym among these uses is one of these
abbrev pub AreNamed : (ℕ → Bool) → (ℕ → Type 0) → List Usage → Type 0
AreNamed synonyms In [] = Unit {0}
AreNamed synonyms In (x ∷ xs) = (synonyms x.number ≡ true → In x.number) × AreNamed synonyms In xs

module _ (own : ℕ → ℕ → Bool) (synonyms : ℕ → Bool) (uses : ℕ → List Usage) (Names : ℕ → ℕ → Type 0) where
  own_agree : (o s : Bool) (e f : Demand) (vs : List (Option ℕ)) (d : Demand) → (s ≡ true → e ≡ f) → by_own o s e vs d ≡ by_own o s f vs d
  own_agree true true e f vs d h = ap (λ z. by_use true z vs d) (h refl)
  own_agree true false e f vs d h = refl
  own_agree false s e f vs d h = refl

  demanded_agree : (g : ℕ → Bool) (ds es : List Demand) (In : ℕ → Type 0) (xs : List Usage) (d : Demand) → AreNamed synonyms In xs → ((b : ℕ) → In b → demand_at ds b ≡ demand_at es b)
      → demanded g synonyms ds xs d ≡ demanded g synonyms es xs d
  demanded_agree g ds es In [] d named agree = refl
  demanded_agree g ds es In (x ∷ xs) d named agree =
      ap (demanded g synonyms ds xs) (own_agree (g x.number) (synonyms x.number) (demand_at ds x.number) (demand_at es x.number) x.arguments d (λ is. agree x.number (named.0 is)))
      ∙ demanded_agree g ds es In xs (by_own (g x.number) (synonyms x.number) (demand_at es x.number) x.arguments d) named.1 agree

  module _ (named : (n : ℕ) → AreNamed synonyms (Names n) (uses n)) where
    -- what is known of those that are done is what their uses demand by what is known, and they name none that is not done
    pub record AreDone (Done : ℕ → Type 0) (ds : List Demand) : Type 0 where
      pub demand : (n : ℕ) → Done n → demand_at ds n ≡ demanded (own n) synonyms ds (uses n) no_demand
      pub closed : (n b : ℕ) → Done n → Names n b → Done b

    module _ (Done : ℕ → Type 0) (ds : List Demand) (h : AreDone Done ds) (n : ℕ) (lt : n < length ds) (below : (b : ℕ) → Names n b → Done b) where
      new : List Demand
      new = set ds n (demanded (own n) synonyms ds (uses n) no_demand)

      at_new : demand_at new n ≡ demanded (own n) synonyms ds (uses n) no_demand
      unfolding new
      at_new = get_or-set_same ds n (demanded (own n) synonyms ds (uses n) no_demand) no_demand lt

      other_new : (x : ℕ) → (x ≡ n → ⊥) → demand_at new x ≡ demand_at ds x
      unfolding new
      other_new x ne = let apart : x ≢ n = ne in get_or-set_other ds n x (demanded (own n) synonyms ds (uses n) no_demand) no_demand apart

      -- those that were done are as they were
      kept : (x : ℕ) → Done x → demand_at ds x ≡ demand_at new x
      kept x d = by (same_or_not x n)
        where
          by : (x ≡ n) ⊎ (x ≡ n → ⊥) → demand_at ds x ≡ demand_at new x
          by (inl e) = subst (λ z. demand_at ds z ≡ demand_at new z) (sym e) (h.demand n (subst Done e d) ∙ sym at_new)
          by (inr ne) = sym (other_new x ne)

      next_demand : (x : ℕ) → Done x ⊎ (n ≡ x) → demand_at new x ≡ demanded (own x) synonyms new (uses x) no_demand
      next_demand x (inl d) = sym (kept x d) ∙ h.demand x d ∙ demanded_agree (own x) ds new (Names x) (uses x) no_demand (named x) (λ b i. kept b (h.closed x b d i))
      next_demand x (inr e) = subst (λ z. demand_at new z ≡ demanded (own z) synonyms new (uses z) no_demand) e (at_new ∙ demanded_agree (own n) ds new (Names n) (uses n) no_demand (named n) (λ b i. kept b (below b i)))

      next_closed : (x b : ℕ) → Done x ⊎ (n ≡ x) → Names x b → Done b ⊎ (n ≡ b)
      next_closed x b (inl d) i = inl (h.closed x b d i)
      next_closed x b (inr e) i = inl (below b (subst (λ z. Names z b) (sym e) i))

      pub next_done : AreDone (λ x. Done x ⊎ (n ≡ x)) (set ds n (demanded (own n) synonyms ds (uses n) no_demand))
      unfolding new
      next_done = record { demand = next_demand; closed = next_closed }

    below_still : (ds : List Demand) (n : ℕ) (d : Demand) (ns : List ℕ) → AllBelow (length ds) ns → AllBelow (length (set ds n d)) ns
    below_still ds n d ns h = subst (λ z. AllBelow z ns) (sym (length-set ds n d)) h

    -- once all are looked at in order, what is known of each is what its uses demand by what is known
    pub all_done : (ns : List ℕ) (Done : ℕ → Type 0) (ds : List Demand) → AreDone Done ds → IsOrder Names Done ns → AllBelow (length ds) ns
        → (n : ℕ) → BeforeOrIn Done ns n → demand_at (demands_by own synonyms uses ns ds) n ≡ demanded (own n) synonyms (demands_by own synonyms uses ns ds) (uses n) no_demand
    all_done [] Done ds h o below n (inl d) = h.demand n d
    all_done [] Done ds h o below n (inr i) = absurd i
    all_done (m ∷ ns) Done ds h o below n b =
        all_done ns (λ x. Done x ⊎ (m ≡ x)) (set ds m (demanded (own m) synonyms ds (uses m) no_demand)) (next_done Done ds h m below.0 o.0) o.1
        (below_still ds m (demanded (own m) synonyms ds (uses m) no_demand) ns below.1) n (shifted Done m ns n b)
