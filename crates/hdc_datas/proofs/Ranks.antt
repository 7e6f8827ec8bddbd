-- Where no synonym reaches itself, the numbers of components rank them, and expanding as often as there are synonyms will do.
use Rattle.std.proofs.Common.{◌≡◌, ◌⊎◌, inl, inr, ℕ, zero, suc, ◌<◌, ◌≤◌, Bool, true, false, List, [], ◌∷◌, length, get_or, refl, sym, ap, subst, ◌∙◌, arith}
use Rattle.std.specs.Prelude.{EachIndex, IsTrue, slice_index}
use Rattle.std.proofs.lemmas.Bool.{cases_lt}
use Rattle.hdc_graph.specs.Lists.{Has}
use Rattle.hdc_graph.specs.Needs.{Nodes, Needs, needs_of, Reaches, one, further, AreMutual, AreCyclic, IsClosed, IsNumbering, NeedsComeFirst}
use Rattle.hdc_graph.proofs.Noting.{has_contained, contains_had}
use Rattle.hdc_resolved.specs.Syntax.{SynonymOf}
use Rattle.hdc_value.specs.declared.ty.TypeNode.{TypeNode}
use Rattle.hdc_datas.specs.Expanded.{flat_at, expanded_meaning}
use Rattle.hdc_datas.specs.Needs.{synonyms_in, needs_within, synonym_needs, NoSynonymReachesItself}
use Rattle.hdc_datas.specs.Settled.{EachUnfolds}
use Rattle.hdc_datas.proofs.Agreement.{below_limit, at_agree}

unfoldable pub rank : List ℕ → ℕ → ℕ
rank numbers n = get_or numbers n 0

through : {g : Nodes} {a b c : ℕ} → Reaches g a b → Reaches g b c → Reaches g a c
through (one a b n) r = further a b _ n r
through (further a b c n s) r = further a b _ n (through s r)

-- there are as many lists of needs as synonyms
pub length_needs : (limit : ℕ) (ss : List SynonymOf) → length (needs_within limit ss) ≡ length ss
length_needs limit [] = refl
length_needs limit (s ∷ ss) = ap (λ (n : ℕ). suc n) (length_needs limit ss)

needs_below : (limit : ℕ) (ss : List SynonymOf) (n b : ℕ) → Has (needs_of (needs_within limit ss) n) b → b < limit
needs_below limit [] n b h = absurd h
needs_below limit (s ∷ ss) zero b h = below_limit limit (synonyms_in s.meaning) b h
needs_below limit (s ∷ ss) (suc n) b h = needs_below limit ss n b h

needs_from : (limit : ℕ) (ss : List SynonymOf) (n b : ℕ) → Has (needs_of (needs_within limit ss) n) b → n < length ss
needs_from limit [] n b h = absurd h
needs_from limit (s ∷ ss) zero b h = omega arith
needs_from limit (s ∷ ss) (suc n) b h = let lt = needs_from limit ss n b h in omega (arith, lt)

flat_past : (m : ℕ → List TypeNode) (ss : List SynonymOf) (n : ℕ) → length ss ≤ n → flat_at m ss n ≡ []
flat_past m [] n ge = refl
flat_past m (s ∷ ss) zero ge = absurd (omega (arith, ge))
flat_past m (s ∷ ss) (suc n) ge = flat_past m ss n (omega (arith, ge))

-- past the end nothing is meant
pub meaning_past : (times : ℕ) (ss : List SynonymOf) (n : ℕ) → length ss ≤ n → expanded_meaning times ss n ≡ []
meaning_past zero ss n ge = refl
meaning_past (suc times) ss n ge = flat_past (expanded_meaning times ss) ss n ge

-- numbers of components, where no synonym reaches itself
pub record AreRanks (ss : List SynonymOf) (numbers : List ℕ) : Type 0 where
  pub never : NoSynonymReachesItself ss
  pub numbering : IsNumbering (synonym_needs ss) numbers
  pub first : NeedsComeFirst (synonym_needs ss) numbers
  pub low : (n : ℕ) → n < length ss → rank numbers n < length ss

module _ (ss : List SynonymOf) (numbers : List ℕ) (are : AreRanks ss numbers) where
  mutual_never : (n b : ℕ) → Needs (synonym_needs ss) n b → AreMutual (synonym_needs ss) n b → ⊥
  mutual_never n b need (inl e) = are.never n (subst (λ z. Reaches (synonym_needs ss) n z) (sym e) (one n b need))
  mutual_never n b need (inr r) = are.never n (through r.0 r.1)

  -- what is needed has a lower rank
  pub falls : (n b : ℕ) → Has (needs_of (synonym_needs ss) n) b → rank numbers b < rank numbers n
  unfolding rank
  falls n b h =
      let need : Needs (synonym_needs ss) n b = contains_had (needs_of (synonym_needs ss) n) b h in
      let le : get_or numbers b 0 ≤ get_or numbers n 0 = are.first n b need in
      let size = length_needs (length ss) ss in
      let n_in : n < length (synonym_needs ss) = let lt = needs_from (length ss) ss n b h in omega (arith, lt, size) in
      let b_in : b < length (synonym_needs ss) = let lt = needs_below (length ss) ss n b h in omega (arith, lt, size) in
      by need le ((are.numbering.agree n b n_in b_in).0) (cases_lt (get_or numbers b 0) (get_or numbers n 0))
    where
      by : Needs (synonym_needs ss) n b → get_or numbers b 0 ≤ get_or numbers n 0 → (get_or numbers n 0 ≡ get_or numbers b 0 → AreMutual (synonym_needs ss) n b) → (get_or numbers b 0 < get_or numbers n 0) ⊎ (get_or numbers n 0 ≤ get_or numbers b 0) → get_or numbers b 0 < get_or numbers n 0
      by need le same (inl lt) = lt
      by need le same (inr ge) = absurd (mutual_never n b need (same (omega (arith, le, ge))))

  stable : (f h n : ℕ) → rank numbers n < f → rank numbers n < h → expanded_meaning f ss n ≡ expanded_meaning h ss n
  stable zero h n a b = absurd (omega (arith, a))
  stable (suc f) zero n a b = absurd (omega (arith, b))
  stable (suc f) (suc h) n a b =
      at_agree (expanded_meaning f ss) (expanded_meaning h ss) ss (length ss) n
      (λ c i. let lt = falls n c i in stable f h c (omega (arith, lt, a)) (omega (arith, lt, b)))
      (λ c ge. meaning_past f ss c ge ∙ sym (meaning_past h ss c ge))

  -- what a synonym means is its meaning in prefix order, by what the others mean
  pub meaning_is : (n : ℕ) → n < length ss → expanded_meaning (length ss) ss n ≡ flat_at (expanded_meaning (length ss) ss) ss n
  meaning_is n lt = let low = are.low n lt in stable (length ss) (suc (length ss)) n low (omega (arith, low))

-- what is needed is a synonym
pub closed_needs : (ss : List SynonymOf) → IsClosed (synonym_needs ss)
closed_needs ss a b need =
    let size = length_needs (length ss) ss in
    let lt = needs_below (length ss) ss a b (has_contained (needs_of (synonym_needs ss) a) b need) in
    omega (arith, size, lt)

pub graph_size : (ss : List SynonymOf) (g : Nodes) → g ≡ synonym_needs ss → length g ≡ length ss
graph_size ss g is = ap length is ∙ length_needs (length ss) ss

-- what the components of the graph of synonyms say, if none is in a circle
module _ (ss : List SynonymOf) (g : Nodes) (numbers : List ℕ) (cyclic : List Bool) (is : g ≡ synonym_needs ss) (each : AreCyclic g cyclic) where
  size : length g ≡ length ss
  size = graph_size ss g is

  never : ((n : ℕ) → get_or cyclic n false ≡ false) → NoSynonymReachesItself ss
  never unset n r = by (each.reaches n (omega (arith, size, starts r)))
    where
      starts : {b : ℕ} → Reaches (synonym_needs ss) n b → n < length ss
      starts (one a b need) = needs_from (length ss) ss n b (has_contained (needs_of (synonym_needs ss) n) b need)
      starts (further a b c need s) = needs_from (length ss) ss n b (has_contained (needs_of (synonym_needs ss) n) b need)

      by : (IsTrue (get_or cyclic n false) → Reaches g n n) × (Reaches g n n → IsTrue (get_or cyclic n false)) → ⊥
      by both = let t : get_or cyclic n false ≡ true = both.1 (subst (λ z. Reaches z n n) (sym is) r) in let f = unset n in cc

  -- then each synonym unfolds
  pub each_unfolds : IsNumbering g numbers → NeedsComeFirst g numbers → EachIndex numbers (λ n. slice_index numbers n < length g) → ((n : ℕ) → get_or cyclic n false ≡ false) → EachUnfolds ss
  unfolding rank
  each_unfolds numbering first low unset =
      let ranks : AreRanks ss numbers = record {
        never = never unset;
        numbering = subst (λ z. IsNumbering z numbers) is numbering;
        first = subst (λ z. NeedsComeFirst z numbers) is first;
        low = λ n lt. by n (omega (arith, lt, size, numbering.each));
      } in
      meaning_is ss numbers ranks
    where
      by : (n : ℕ) → n < length numbers → get_or numbers n 0 < length ss
      by n lt = let h : get_or numbers n 0 < length g = low n lt in omega (arith, h, size)

  -- and one that is in a circle reaches itself
  pub one_reaches : (n : ℕ) × (n < length cyclic) × IsTrue (get_or cyclic n false) → NoSynonymReachesItself ss → ⊥
  one_reaches circle none = none circle.0 (subst (λ z. Reaches z circle.0 circle.0) is ((each.reaches circle.0 (omega (arith, each.each, circle.1))).0 circle.2))
