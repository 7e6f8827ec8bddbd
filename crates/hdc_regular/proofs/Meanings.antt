-- What synonyms mean, expanded as many times as there are declarations, is all that they mean.
use Rattle.std.proofs.Common.{◌≡◌, inl, inr, ℕ, zero, suc, ◌<◌, Bool, true, false, List, length, refl, ap, ◌∙◌, arith}
use Rattle.hdc_base.specs.declared.place.At.{At}
use Rattle.hdc_regular.specs.Resolved.{Resolved, parameter, use_of, other, Parts, no_part, next_part, Has, EachHas, Declaration, declaration_at, meaning_of}
use Rattle.hdc_regular.specs.Expansion.{placed, used, expanded, each_expanded, synonyms_of, expanded_meaning, full_meaning}
use Rattle.hdc_regular.proofs.Groups.{UsesOf}

module _ (synonyms : ℕ → Bool) (M N : ℕ → Resolved) where
  used_agree : (b : Bool) (n : ℕ) (at : At) (ts us : Parts) → ts ≡ us → (b ≡ true → M n ≡ N n) → used b (M n) n at ts ≡ used b (N n) n at us
  used_agree true n at ts us e h = ap (λ z. placed at z (M n)) e ∙ ap (placed at us) (h refl)
  used_agree false n at ts us e h = ap (λ z. use_of n at z) e

  -- meanings that agree on the synonyms of a type expand it to the same
  mutual
    pub expanded_agree : (t : Resolved) → ((n : ℕ) → UsesOf (Has t) n → synonyms n ≡ true → M n ≡ N n) → expanded synonyms M t ≡ expanded synonyms N t
    expanded_agree (parameter i) h = refl
    expanded_agree (use_of n at ts) h =
        used_agree (synonyms n) n at (each_expanded synonyms M ts) (each_expanded synonyms N ts)
        (each_expanded_agree ts (λ m u is. h m (u.0, u.1, inr u.2) is)) (λ is. h n (at, ts, inl refl) is)
    expanded_agree (other ts) h = ap (λ z. other z) (each_expanded_agree ts (λ m u is. h m (u.0, u.1, inr u.2) is))

    pub each_expanded_agree : (ts : Parts) → ((n : ℕ) → UsesOf (EachHas ts) n → synonyms n ≡ true → M n ≡ N n) → each_expanded synonyms M ts ≡ each_expanded synonyms N ts
    each_expanded_agree no_part h = refl
    each_expanded_agree (next_part t ts) h =
        ap (λ z. next_part z (each_expanded synonyms M ts)) (expanded_agree t (λ m u is. h m (u.0, u.1, inl u.2) is))
        ∙ ap (λ z. next_part (expanded synonyms N t) z) (each_expanded_agree ts (λ m u is. h m (u.0, u.1, inr u.2) is))

module _ (ds : List Declaration) (rank : ℕ → ℕ)
    (falls : (a b : ℕ) → synonyms_of ds a ≡ true → UsesOf (Has (meaning_of (declaration_at ds a))) b → synonyms_of ds b ≡ true → rank b < rank a) where
  -- once more changes nothing
  once_more : (f n : ℕ) → synonyms_of ds n ≡ true → rank n < f → expanded_meaning ds f n ≡ expanded_meaning ds (suc f) n
  once_more zero n is lt = absurd (omega (arith, lt))
  once_more (suc f) n is lt =
      expanded_agree (synonyms_of ds) (expanded_meaning ds f) (expanded_meaning ds (suc f)) (meaning_of (declaration_at ds n))
      (λ m u so. once_more f m so (let less : rank m < rank n = falls n m is u so in omega (arith, less, lt)))

  pub full_solved : (n : ℕ) → synonyms_of ds n ≡ true → rank n < length ds → full_meaning ds n ≡ expanded (synonyms_of ds) (full_meaning ds) (meaning_of (declaration_at ds n))
  full_solved n is lt = once_more (length ds) n is lt
