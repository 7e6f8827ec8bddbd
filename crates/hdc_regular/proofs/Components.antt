-- The components of the graph of names are the recursive groups of data types.
use Rattle.std.proofs.Common.{◌≡◌, ◌⊎◌, inl, inr, ℕ, ◌<◌, ◌≤◌, false, List, [], length, get_or, sym, ap, subst, arith}
use Rattle.std.proofs.lemmas.List.{get_or_past}
use Rattle.std.proofs.lemmas.Bool.{cases_lt}
use Rattle.hdc_graph.specs.Needs.{Nodes, Needs, needs_of, Reaches, one, further, IsClosed, AreMutual, IsNumbering}
use Rattle.hdc_regular.specs.Resolved.{Resolved, Declaration}
use Rattle.hdc_regular.specs.Expansion.{synonyms_of, needs_by}
use Rattle.hdc_regular.specs.Named.{named_needs}
use Rattle.hdc_regular.proofs.Groups.{AreSolved, UsesType, used_reached, reached_by_names, reached_by_fields, reaches_through}

-- a node that needs another is one of the graph
pub needing_below : (g : Nodes) (a b : ℕ) → Needs g a b → a < length g
needing_below g a b (k, lt, e) = by (cases_lt a (length g))
  where
    by : (a < length g) ⊎ (length g ≤ a) → a < length g
    by (inl l) = l
    by (inr ge) = let none : length (needs_of g a) ≡ 0 = ap length (get_or_past g a [] ge) in absurd (omega (arith, lt, none))

reaching_below : {g : Nodes} {a b : ℕ} → Reaches g a b → a < length g
reaching_below {g} (one a b n) = needing_below g a b n
reaching_below {g} (further a b c n r) = needing_below g a b n

reached_below : {g : Nodes} {a b : ℕ} → IsClosed g → Reaches g a b → b < length g
reached_below closed (one a b n) = closed a b n
reached_below closed (further a b c n r) = reached_below closed r

module _ (ds : List Declaration) (meanings : ℕ → Resolved) (rank : ℕ → ℕ) (h : AreSolved ds meanings rank)
    (closed : IsClosed (named_needs ds)) (numbers : List ℕ) (numbering : IsNumbering (named_needs ds) numbers) where
  abbrev pub AreTogether : ℕ → ℕ → Type 0
  AreTogether a b = get_or numbers a 0 ≡ get_or numbers b 0

  -- a type that a data type uses is in its component exactly where it reaches the data type by the expanded types
  pub own_reaches : (d x : ℕ) → synonyms_of ds d ≡ false → UsesType ds meanings rank h d x → AreTogether x d → Reaches (needs_by (synonyms_of ds) meanings ds) x d
  own_reaches d x is u e = by ((numbering.agree x d (reached_below closed r.0) (reaching_below r.0)).0 e)
    where
      r : Reaches (named_needs ds) d x × (synonyms_of ds x ≡ false)
      r = used_reached ds meanings rank h d x u

      by : AreMutual (named_needs ds) x d → Reaches (needs_by (synonyms_of ds) meanings ds) x d
      by (inl same) = subst (λ z. Reaches (needs_by (synonyms_of ds) meanings ds) z d) (sym same) (reached_by_fields ds meanings rank h d d is is (subst (Reaches (named_needs ds) d) same r.0))
      by (inr s) = reached_by_fields ds meanings rank h x d r.1 is s.0

  pub reaches_own : (d x : ℕ) → UsesType ds meanings rank h d x → Reaches (needs_by (synonyms_of ds) meanings ds) x d → AreTogether x d
  reaches_own d x u s =
      let r = used_reached ds meanings rank h d x u in
      (numbering.agree x d (reached_below closed r.0) (reaching_below r.0)).1 (inr (reached_by_names ds meanings rank h s, r.0))

  -- a synonym that uses a type of the component of what names it is in that component
  pub between : (e n x : ℕ) → Needs (named_needs ds) e n → UsesType ds meanings rank h n x → AreTogether x e → AreTogether n e
  between e n x need u same = by ((numbering.agree x e (reached_below closed r.0) (needing_below (named_needs ds) e n need)).0 same)
    where
      r : Reaches (named_needs ds) n x × (synonyms_of ds x ≡ false)
      r = used_reached ds meanings rank h n x u

      back : AreMutual (named_needs ds) x e → Reaches (named_needs ds) n e
      back (inl eq) = subst (Reaches (named_needs ds) n) eq r.0
      back (inr s) = reaches_through ds meanings rank h r.0 s.0

      by : AreMutual (named_needs ds) x e → AreTogether n e
      by m = (numbering.agree n e (closed e n need) (needing_below (named_needs ds) e n need)).1 (inr (back m, one e n need))
