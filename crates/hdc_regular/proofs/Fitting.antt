-- What a walk finds is what is not in order in the expanded types.
use Rattle.std.proofs.Common.{rules, arith, ◌≡◌, inl, ℕ, zero, suc, ◌<◌, Bool, true, false, List, [], ◌∷◌, Option, get_or, refl, sym, ap, subst, ◌∙◌}
use Rattle.hdc_base.specs.declared.place.At.{At}
use Rattle.hdc_graph.specs.Needs.{Needs, IsClosed, IsNumbering}
use Rattle.hdc_written.specs.declared.breach.Breach.{Breach}
use Rattle.hdc_written.specs.Breaches.{breach, IsOneOf}
use Rattle.hdc_regular.specs.Resolved.{Resolved, use_of, Parts, Has, EachHas, Declaration, declaration_at}
use Rattle.hdc_regular.specs.Expansion.{each_placed, each_expanded, synonyms_of}
use Rattle.hdc_regular.specs.Named.{body_of, named_needs}
use Rattle.hdc_regular.specs.Walk.{each_alias_of, Tables, each_followed, one_of, in_order, use_fits, each_wrong, is_nothing, is_in_group}
use Rattle.hdc_regular.proofs.Expanding.{UseOfType, Source, EachExact, each_source, each_of_source, each_alias_expanded, each_exact_within}
use Rattle.hdc_regular.proofs.Groups.{AreSolved, meaning_used, used_in_meaning, named}
use Rattle.hdc_regular.proofs.Components.{between}
use Rattle.hdc_regular.proofs.Walking.{each_alias_placed, each_followed_twice, of_each_wrong, each_wrong_has, Misfit}

module _ (known : Tables) (meanings : ℕ → Resolved) (own : ℕ → Bool) where
  -- a use, at a place, of a type of the group that is not in order
  abbrev pub Unordered : (Resolved → Type 0) → ℕ → (ℕ → Option ℕ) → At → Type 0
  Unordered In k u c = (m : ℕ) × (us : Parts) × In (use_of m c us) × (own m ≡ true) × (in_order 0 k (each_followed u (each_alias_of us)) ≡ false)

  abbrev pub AnyUnordered : (Resolved → Type 0) → ℕ → (ℕ → Option ℕ) → Type 0
  AnyUnordered In k u = (c : At) × Unordered In k u c

  -- of a synonym of the group it is known whether the uses in its meaning are in order
  pub record IsFitting (n : ℕ) : Type 0 where
    pub misfit : (k : ℕ) (vs : List (Option ℕ)) → known.fits n k vs ≡ false → AnyUnordered (Has (meanings n)) k (one_of vs)
    pub unfit : (k : ℕ) (vs : List (Option ℕ)) → AnyUnordered (Has (meanings n)) k (one_of vs) → known.fits n k vs ≡ false

  -- the same of each synonym of the group that types name; and another one uses no type of the group
  pub record AreFitting (ts : Parts) : Type 0 where
    pub each_fits : (n : ℕ) (at : At) (us : Parts) → EachHas ts (use_of n at us) → known.synonyms n ≡ true → own n ≡ true → IsFitting n
    pub apart : (n : ℕ) (at : At) (us : Parts) → EachHas ts (use_of n at us) → known.synonyms n ≡ true → (m : ℕ) (c : At) (ws : Parts) → Has (meanings n) (use_of m c ws) → own m ≡ true → own n ≡ true

  module _ (ts : Parts) (exact : EachExact known.synonyms meanings ts) (fitting : AreFitting ts) (k : ℕ) (u : ℕ → Option ℕ) where
    -- the variables that the arguments of a use in a meaning are
    aliases_through : (at : At) (us ws : Parts) → EachExact known.synonyms meanings us
        → each_followed u (each_alias_of (each_placed at (each_expanded known.synonyms meanings us) ws)) ≡ each_followed (one_of (each_followed u (each_alias_of us))) (each_alias_of ws)
    aliases_through at us ws x =
        ap (each_followed u) (each_alias_placed at (each_expanded known.synonyms meanings us) ws)
        ∙ ap (λ z. each_followed u (each_followed (one_of z) (each_alias_of ws))) (each_alias_expanded known.synonyms meanings us x)
        ∙ each_followed_twice u (each_alias_of us) (each_alias_of ws)

    by_use : (n : ℕ) (at : At) (us : Parts) (b : Bool) → known.synonyms n ≡ b → EachHas ts (use_of n at us) → own n ≡ true
        → use_fits known b n k (each_followed u (each_alias_of us)) ≡ false → Unordered (EachHas (each_expanded known.synonyms meanings ts)) k u at
    by_use n at us true is i o f = by ((fitting.each_fits n at us i is o).misfit k (each_followed u (each_alias_of us)) f)
      where
        by : AnyUnordered (Has (meanings n)) k (one_of (each_followed u (each_alias_of us))) → Unordered (EachHas (each_expanded known.synonyms meanings ts)) k u at
        by (c, (m, ws, h, p, g)) = (
          m,
          each_placed at (each_expanded known.synonyms meanings us) ws,
          each_of_source known.synonyms meanings ts m at (each_placed at (each_expanded known.synonyms meanings us) ws) exact
              (n, at, us, i, subst (λ z. UseOfType known.synonyms meanings z n at us m at (each_placed at (each_expanded known.synonyms meanings us) ws)) (sym is) (c, ws, h, refl, refl)),
          p,
          ap (in_order 0 k) (aliases_through at us ws (each_exact_within known.synonyms meanings ts n at us exact i)) ∙ g,
        )
    by_use n at us false is i o f = (
      n,
      each_expanded known.synonyms meanings us,
      each_of_source known.synonyms meanings ts n at (each_expanded known.synonyms meanings us) exact
          (n, at, us, i, subst (λ z. UseOfType known.synonyms meanings z n at us n at (each_expanded known.synonyms meanings us)) (sym is) (refl, refl, refl)),
      o,
      ap (λ z. in_order 0 k (each_followed u z)) (each_alias_expanded known.synonyms meanings us (each_exact_within known.synonyms meanings ts n at us exact i)) ∙ f,
    )

    -- what is found is a use that is not in order
    pub found_unordered : (b : Breach) → IsOneOf b (each_wrong known own k u ts) → (c : At) × Unordered (EachHas (each_expanded known.synonyms meanings ts)) k u c × (b ≡ breach 10 c)
    found_unordered b h = by (of_each_wrong known own k u ts b h)
      where
        by : Misfit known own k u (EachHas ts) b → (c : At) × Unordered (EachHas (each_expanded known.synonyms meanings ts)) k u c × (b ≡ breach 10 c)
        by (n, at, us, i, o, f, e) = (at, by_use n at us (known.synonyms n) refl i o f, e)

    by_source : (m : ℕ) (c : At) (vs : Parts) → own m ≡ true → in_order 0 k (each_followed u (each_alias_of vs)) ≡ false
        → (n : ℕ) (at : At) (us : Parts) (b : Bool) → known.synonyms n ≡ b → EachHas ts (use_of n at us) → UseOfType known.synonyms meanings b n at us m c vs
        → (own n ≡ true) × (use_fits known b n k (each_followed u (each_alias_of us)) ≡ false) × (at ≡ c)
    by_source m c vs o g n at us true is i (d, ws, h, e, f) =
        let x = each_exact_within known.synonyms meanings ts n at us exact i in
        let p = fitting.apart n at us i is m d ws h o in
        let same : each_followed u (each_alias_of vs) ≡ each_followed (one_of (each_followed u (each_alias_of us))) (each_alias_of ws)
        = ap (λ z. each_followed u (each_alias_of z)) (sym f) ∙ aliases_through at us ws x in
        (p, (fitting.each_fits n at us i is p).unfit k (each_followed u (each_alias_of us)) (d, (m, ws, h, o, ap (in_order 0 k) (sym same) ∙ g)), e)
    by_source m c vs o g n at us false is i (d, e, f) =
        let x = each_exact_within known.synonyms meanings ts n at us exact i in (
          subst (λ z. own z ≡ true) (sym d) o,
          ap (λ z. in_order 0 k (each_followed u z)) (sym (each_alias_expanded known.synonyms meanings us x)) ∙ ap (λ z. in_order 0 k (each_followed u (each_alias_of z))) f ∙ g,
          e,
        )

    -- each use that is not in order is found
    pub unordered_found : (c : At) → Unordered (EachHas (each_expanded known.synonyms meanings ts)) k u c → IsOneOf (breach 10 c) (each_wrong known own k u ts)
    unordered_found c (m, vs, h, o, g) = by (each_source known.synonyms meanings ts m c vs h)
      where
        by : Source known.synonyms meanings (EachHas ts) m c vs → IsOneOf (breach 10 c) (each_wrong known own k u ts)
        by (n, at, us, i, v) =
            let r = by_source m c vs o g n at us (known.synonyms n) refl i v in
            subst (λ z. IsOneOf (breach 10 z) (each_wrong known own k u ts)) r.2 (each_wrong_has known own k u ts n at us i r.0 r.1)

-- ---- what is known of synonyms

some_of : (bs : List Breach) → is_nothing bs ≡ false → (b : Breach) × IsOneOf b bs
some_of [] e = cc
some_of (b ∷ bs) e = (b, inl refl)

not_nothing : (bs : List Breach) (b : Breach) → IsOneOf b bs → is_nothing bs ≡ false
not_nothing [] b h = absurd h
not_nothing (a ∷ bs) b h = refl

module _ (ds : List Declaration) (meanings : ℕ → Resolved) (rank : ℕ → ℕ) (h : AreSolved ds meanings rank)
    (closed : IsClosed (named_needs ds)) (numbers : List ℕ) (numbering : IsNumbering (named_needs ds) numbers)
    (fits : ℕ → ℕ → List (Option ℕ) → Bool) where
  abbrev pub known_of : Tables
  known_of = record { synonyms = synonyms_of ds; fits = fits }

  -- the group of a declaration
  abbrev pub own_group : ℕ → ℕ → Bool
  own_group e = is_in_group numbers (get_or numbers e 0)

  -- of each synonym it is known whether nothing is found in its meaning
  abbrev pub AreJudged : Type 0
  AreJudged = (n : ℕ) → synonyms_of ds n ≡ true → (k : ℕ) (vs : List (Option ℕ)) → fits n k vs ≡ is_nothing (each_wrong known_of (own_group n) k (one_of vs) (body_of (declaration_at ds n)))

  pub together : (a b : ℕ) → own_group b a ≡ true → get_or numbers a 0 ≡ get_or numbers b 0
  together a b e = search rules

  pub own_of_together : (a b : ℕ) → get_or numbers a 0 ≡ get_or numbers b 0 → own_group b a ≡ true
  own_of_together a b e = search rules

  apart_in : (e n : ℕ) (at : At) (us : Parts) → EachHas (body_of (declaration_at ds e)) (use_of n at us) → synonyms_of ds n ≡ true
      → (m : ℕ) (c : At) (ws : Parts) → Has (meanings n) (use_of m c ws) → own_group e m ≡ true → own_group e n ≡ true
  apart_in e n at us i is m c ws k o =
      own_of_together n e (between ds meanings rank h closed numbers numbering e n m (named ds meanings rank h e n at us i) (c, ws, meaning_used ds meanings rank h n m c ws is k) (together m e o))

  module _ (judged : AreJudged) where
    same_group : (e n : ℕ) → own_group e n ≡ true → own_group n ≡ own_group e
    same_group e n o = ap (is_in_group numbers) (together n e o)

    fitting_from : (e : ℕ) → ((n : ℕ) → Needs (named_needs ds) e n → synonyms_of ds n ≡ true → IsFitting known_of meanings (own_group n) n) → AreFitting known_of meanings (own_group e) (body_of (declaration_at ds e))
    fitting_from e below = record {
      each_fits = λ n at us i is o. subst (λ z. IsFitting known_of meanings z n) (same_group e n o) (below n (named ds meanings rank h e n at us i) is);
      apart = λ n at us i is m c ws k o. apart_in e n at us i is m c ws k o;
    }

    of_body : (n : ℕ) (is : synonyms_of ds n ≡ true) (fitting : AreFitting known_of meanings (own_group n) (body_of (declaration_at ds n))) → IsFitting known_of meanings (own_group n) n
    of_body n is fitting = record { misfit = misfit_of; unfit = unfit_of }
      where
        misfit_of : (k : ℕ) (vs : List (Option ℕ)) → fits n k vs ≡ false → AnyUnordered known_of meanings (own_group n) (Has (meanings n)) k (one_of vs)
        misfit_of k vs e = by (some_of (each_wrong known_of (own_group n) k (one_of vs) (body_of (declaration_at ds n))) (sym (judged n is k vs) ∙ e))
          where
            by : (b : Breach) × IsOneOf b (each_wrong known_of (own_group n) k (one_of vs) (body_of (declaration_at ds n))) → AnyUnordered known_of meanings (own_group n) (Has (meanings n)) k (one_of vs)
            by (b, i) = of_found (found_unordered known_of meanings (own_group n) (body_of (declaration_at ds n)) (h.exact n) fitting k (one_of vs) b i)
              where
                of_found : (c : At) × Unordered known_of meanings (own_group n) (EachHas (each_expanded (synonyms_of ds) meanings (body_of (declaration_at ds n)))) k (one_of vs) c × (b ≡ breach 10 c) → AnyUnordered known_of meanings (own_group n) (Has (meanings n)) k (one_of vs)
                of_found (c, (m, us, j, o, g), f) = (c, (m, us, used_in_meaning ds meanings rank h n m c us is j, o, g))

        unfit_of : (k : ℕ) (vs : List (Option ℕ)) → AnyUnordered known_of meanings (own_group n) (Has (meanings n)) k (one_of vs) → fits n k vs ≡ false
        unfit_of k vs (c, (m, us, j, o, g)) =
            judged n is k vs
            ∙ not_nothing (each_wrong known_of (own_group n) k (one_of vs) (body_of (declaration_at ds n))) (breach 10 c)
            (unordered_found known_of meanings (own_group n) (body_of (declaration_at ds n)) (h.exact n) fitting k (one_of vs) c (m, us, meaning_used ds meanings rank h n m c us is j, o, g))

    fitting_below : (f n : ℕ) → rank n < f → synonyms_of ds n ≡ true → IsFitting known_of meanings (own_group n) n
    fitting_below zero n lt is = absurd (omega (arith, lt))
    fitting_below (suc f) n lt is = of_body n is (fitting_from n (λ s need so. fitting_below f s (let less : rank s < rank n = h.falls n s is need so in omega (arith, less, lt)) so))

    -- so the walk over each declaration finds what is not in order
    pub all_fitting : (e : ℕ) → AreFitting known_of meanings (own_group e) (body_of (declaration_at ds e))
    all_fitting e = fitting_from e (λ n need is. fitting_below (suc (rank n)) n (omega arith) is)
