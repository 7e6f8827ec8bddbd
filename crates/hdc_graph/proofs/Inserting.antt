-- A number is inserted into a set in order, and the least is taken away.
use Rattle.std.proofs.Common.{◌≡◌, ℕ, ◌<◌, inl, inr, List, [], ◌∷◌, length, refl, sym, ◌∙◌, subst, arith, nat_cmp, Ordering, Less, Equal, Greater, All, Option, Some, None, IsSome, IfSome, IfNone, MatchOption}
use Rattle.std.proofs.lemmas.Cmp.{ranked}
use Rattle.std.specs.BTreeSet.{insert_key}
use Rattle.std.specs.Ordering.{match_ordering}
use Rattle.std.proofs.lemmas.List.Elements.{All-head, All-tail}
use Rattle.hdc_graph.specs.Lists.{IsInserted, AllAbove}

module _ (k : ℕ) where
  insert_by : (o : Ordering) (x : ℕ) (xs : List ℕ) → nat_cmp k x ≡ o → IsInserted k xs (insert_key nat_cmp xs k) → IsInserted k (x ∷ xs) (match_ordering o (k ∷ x ∷ xs) (x ∷ xs) (x ∷ insert_key nat_cmp xs k))
  insert_by Less x xs e h = (λ y i. inr i, inl refl, λ y i. elim i [ inl is ↦ inr is | inr r ↦ inl r ])
  insert_by Equal x xs e h = (λ y i. i, inl (sym (ranked k x Equal (sym e))), λ y i. inl i)
  insert_by Greater x xs e h = (λ y i. elim i [ inl is ↦ inl is | inr r ↦ inr (h.0 y r) ], inr h.1, λ y i. elim i [ inl is ↦ inl (inl is) | inr r ↦ elim (h.2 y r) [ inl old ↦ inl (inr old) | inr new ↦ inr new ] ])

  pub inserted : (xs : List ℕ) → IsInserted k xs (insert_key nat_cmp xs k)
  inserted [] = (λ y i. absurd i, inl refl, λ y i. elim i [ inl e ↦ inr e | inr n ↦ absurd n ])
  inserted (x ∷ xs) = insert_by (nat_cmp k x) x xs refl (inserted xs)

above : (k : ℕ) (xs : List ℕ) → All (λ b. nat_cmp k b ≡ Less) xs → AllAbove k xs
above k [] a x h = absurd h
above k (y ∷ xs) a x (inl e) = subst (λ (z : ℕ). k < z) e (ranked k y Less (sym (All-head (λ b. nat_cmp k b ≡ Less) y xs a)))
above k (y ∷ xs) a x (inr h) = above k xs (All-tail (λ b. nat_cmp k b ≡ Less) y xs a) x h

-- the least of a set in order is taken away
pub popped : (old now new : List ℕ) (r : Option ℕ) → old ≡ now → IfSome r (λ k. old ≡ k ∷ new) → IfSome r (λ k. All (λ b. nat_cmp k b ≡ Less) new) → (0 < length old → IsSome r) → IfNone r (new ≡ old) → MatchOption r ((now ≡ []) × (new ≡ [])) (λ least. (now ≡ least ∷ new) × AllAbove least new)
popped [] now new None is a b c d = (sym is, d)
popped (x ∷ old) now new None is a b c d = absurd (let s = c (omega arith) in cc)
popped old now new (Some k) is a b c d = (sym is ∙ a, above k new b)
