-- Types in prefix order are the same where the synonyms that they name mean the same.
use Rattle.std.proofs.Common.{◌≡◌, ◌⊎◌, inl, inr, ℕ, zero, suc, ◌<◌, ◌≤◌, Bool, true, false, List, [], ◌∷◌, ◌++◌, ltb, refl, ap, ◌∙◌, arith}
use Rattle.std.proofs.lemmas.Bool.{cases_lt, lt-ltb, ltb-true}
use Rattle.hdc_graph.specs.Lists.{Has}
use Rattle.hdc_graph.specs.Needs.{needs_of}
use Rattle.hdc_resolved.specs.Syntax.{TypeTree, int_type, char_type, list_type, tuple_type, function_type, data_type, synonym_type, type_variable, unknown_type, TypeTrees, no_type, next_type, SynonymOf}
use Rattle.hdc_value.specs.declared.ty.TypeNode.{TypeNode}
use Rattle.hdc_value.specs.declared.ty.TypeNode.TheVariants as node
use Rattle.hdc_datas.specs.Expanded.{substituted, flat, all_flat, each_flat, count_of, flat_at}
use Rattle.hdc_datas.specs.Needs.{synonyms_in, each_synonyms_in, kept_where, below, needs_within}

pub has_left : (ms ns : List ℕ) (x : ℕ) → Has ms x → Has (ms ++ ns) x
has_left [] ns x h = absurd h
has_left (m ∷ ms) ns x (inl e) = inl e
has_left (m ∷ ms) ns x (inr h) = inr (has_left ms ns x h)

pub has_right : (ms ns : List ℕ) (x : ℕ) → Has ns x → Has (ms ++ ns) x
has_right [] ns x h = h
has_right (m ∷ ms) ns x h = inr (has_right ms ns x h)

-- one below the limit is kept
pub below_has : (limit : ℕ) (ns : List ℕ) (b : ℕ) → b < limit → Has ns b → Has (below limit ns) b
below_has limit [] b lt h = absurd h
below_has limit (n ∷ ns) b lt (inl e) = by (ltb n limit) (lt-ltb n limit (omega (arith, e, lt)))
  where
    by : (c : Bool) → c ≡ true → Has (kept_where c n (below limit ns)) b
    by true d = inl e
    by false d = cc
below_has limit (n ∷ ns) b lt (inr h) = by (ltb n limit) (below_has limit ns b lt h)
  where
    by : (c : Bool) → Has (below limit ns) b → Has (kept_where c n (below limit ns)) b
    by true k = inr k
    by false k = k

-- and no other
pub below_limit : (limit : ℕ) (ns : List ℕ) (b : ℕ) → Has (below limit ns) b → b < limit
below_limit limit [] b h = absurd h
below_limit limit (n ∷ ns) b h = by (ltb n limit) (ltb-true n limit) (below_limit limit ns b) h
  where
    by : (c : Bool) → (c ≡ true → n < limit) → (Has (below limit ns) b → b < limit) → Has (kept_where c n (below limit ns)) b → b < limit
    by true less more (inl e) = let lt : n < limit = less refl in omega (arith, e, lt)
    by true less more (inr k) = more k
    by false less more k = more k

module _ (m k : ℕ → List TypeNode) where
  mutual
    pub flat_agree : (t : TypeTree) → ((b : ℕ) → Has (synonyms_in t) b → m b ≡ k b) → flat m t ≡ flat k t
    flat_agree int_type h = refl
    flat_agree char_type h = refl
    flat_agree (list_type t) h = ap (λ z. node.List ∷ z) (flat_agree t h)
    flat_agree (tuple_type ts) h = ap (λ z. node.Tuple (count_of ts) ∷ z) (all_agree ts h)
    flat_agree (function_type t u) h =
        ap (λ z. node.Fun ∷ (z ++ flat m u)) (flat_agree t (λ b i. h b (has_left (synonyms_in t) (synonyms_in u) b i)))
        ∙ ap (λ z. node.Fun ∷ (flat k t ++ z)) (flat_agree u (λ b i. h b (has_right (synonyms_in t) (synonyms_in u) b i)))
    flat_agree (data_type n ts) h = ap (λ z. node.Data n (count_of ts) ∷ z) (all_agree ts h)
    flat_agree (synonym_type n ts) h =
        ap (λ z. substituted z (m n)) (each_agree ts (λ b i. h b (inr i)))
        ∙ ap (λ z. substituted (each_flat k ts) z) (h n (inl refl))
    flat_agree (type_variable n) h = refl
    flat_agree (unknown_type ts) h = refl

    pub all_agree : (ts : TypeTrees) → ((b : ℕ) → Has (each_synonyms_in ts) b → m b ≡ k b) → all_flat m ts ≡ all_flat k ts
    all_agree no_type h = refl
    all_agree (next_type t ts) h =
        ap (λ z. z ++ all_flat m ts) (flat_agree t (λ b i. h b (has_left (synonyms_in t) (each_synonyms_in ts) b i)))
        ∙ ap (λ z. flat k t ++ z) (all_agree ts (λ b i. h b (has_right (synonyms_in t) (each_synonyms_in ts) b i)))

    pub each_agree : (ts : TypeTrees) → ((b : ℕ) → Has (each_synonyms_in ts) b → m b ≡ k b) → each_flat m ts ≡ each_flat k ts
    each_agree no_type h = refl
    each_agree (next_type t ts) h =
        ap (λ z. z ∷ each_flat m ts) (flat_agree t (λ b i. h b (has_left (synonyms_in t) (each_synonyms_in ts) b i)))
        ∙ ap (λ z. flat k t ∷ z) (each_agree ts (λ b i. h b (has_right (synonyms_in t) (each_synonyms_in ts) b i)))

  -- the meaning of a synonym, where what is named past the limit means the same too
  pub at_agree : (rs : List SynonymOf) (limit n : ℕ) → ((b : ℕ) → Has (needs_of (needs_within limit rs) n) b → m b ≡ k b) → ((b : ℕ) → limit ≤ b → m b ≡ k b) → flat_at m rs n ≡ flat_at k rs n
  at_agree [] limit n h past = refl
  at_agree (s ∷ rs) limit zero h past = flat_agree s.meaning (λ b i. by b i (cases_lt b limit))
    where
      by : (b : ℕ) → Has (synonyms_in s.meaning) b → (b < limit) ⊎ (limit ≤ b) → m b ≡ k b
      by b i (inl lt) = h b (below_has limit (synonyms_in s.meaning) b lt i)
      by b i (inr ge) = past b ge
  at_agree (s ∷ rs) limit (suc n) h past = at_agree rs limit n h past
