-- Data types reach one another by synonyms, as nodes of a graph, as they do by the expanded types.
use Rattle.std.proofs.Common.{◌≡◌, ◌⊎◌, inl, inr, ℕ, zero, suc, ◌<◌, Bool, true, false, List, [], ◌∷◌, get_or, Contains, refl, sym, ap, subst, arith}
use Rattle.std.proofs.Math.ListN.{get_or-map}
use Rattle.std.proofs.lemmas.List.Elements.{Contains-append_left, Contains-append_right, Contains-append_cases}
use Rattle.hdc_base.specs.declared.place.At.{At}
use Rattle.hdc_graph.specs.Needs.{Nodes, Needs, needs_of, Reaches, one, further}
use Rattle.hdc_regular.specs.Resolved.{Resolved, parameter, use_of, other, Parts, no_part, next_part, Has, EachHas, Declaration, data_type, synonym, neither, declaration_at, is_synonym, fields_of, meaning_of}
use Rattle.hdc_regular.specs.Expansion.{each_placed, expanded, each_expanded, synonyms_of, types_in, each_types_in, needs_by}
use Rattle.hdc_regular.specs.Named.{body_of, named_needs}
use Rattle.hdc_regular.proofs.Expanding.{UseOfType, Source, EachExact, each_source, each_of_source}

-- ---- the types that a type uses

-- nothing is in no list
in_nothing : (n : ℕ) → Contains [] n → ⊥
in_nothing n (k, lt, e) = omega (arith, lt)

-- the first item of a list is in it
pub in_first : (n : ℕ) (ns : List ℕ) → Contains (n ∷ ns) n
in_first n ns = (zero, omega arith, refl)

in_later : (n m : ℕ) (ns : List ℕ) → Contains ns n → Contains (m ∷ ns) n
in_later n m ns h = Contains-append_right (m ∷ []) ns n h

in_either : (n m : ℕ) (ns : List ℕ) → Contains (m ∷ ns) n → (m ≡ n) ⊎ Contains ns n
in_either n m ns h = by (Contains-append_cases (m ∷ []) ns n h)
  where
    first : (k : ℕ) → k < 1 → get_or (m ∷ []) k n ≡ n → m ≡ n
    first zero lt e = e
    first (suc k) lt e = absurd (omega (arith, lt))

    by : Contains (m ∷ []) n ⊎ Contains ns n → (m ≡ n) ⊎ Contains ns n
    by (inl (k, lt, e)) = inl (first k lt e)
    by (inr g) = inr g

abbrev pub UsesOf : (Resolved → Type 0) → ℕ → Type 0
UsesOf In n = (a : At) × (us : Parts) × In (use_of n a us)

uses_more : (In More : Resolved → Type 0) (n : ℕ) → ((r : Resolved) → In r → More r) → UsesOf In n → UsesOf More n
uses_more In More n more (a, us, h) = (a, us, more (use_of n a us) h)

of_use_in : (m : ℕ) (a : At) (us : Parts) (n : ℕ) → (Contains (each_types_in us) n → UsesOf (EachHas us) n) → (m ≡ n) ⊎ Contains (each_types_in us) n → UsesOf (Has (use_of m a us)) n
of_use_in m a us n each (inl e) = (a, us, inl (ap (λ k. use_of k a us) e))
of_use_in m a us n each (inr h) = uses_more (EachHas us) (Has (use_of m a us)) n (λ r i. inr i) (each h)

of_parts_in : (t : Resolved) (ts : Parts) (n : ℕ) → (Contains (types_in t) n → UsesOf (Has t) n) → (Contains (each_types_in ts) n → UsesOf (EachHas ts) n) → Contains (types_in t) n ⊎ Contains (each_types_in ts) n → UsesOf (EachHas (next_part t ts)) n
of_parts_in t ts n here behind (inl h) = uses_more (Has t) (EachHas (next_part t ts)) n (λ r i. inl i) (here h)
of_parts_in t ts n here behind (inr h) = uses_more (EachHas ts) (EachHas (next_part t ts)) n (λ r i. inr i) (behind h)

mutual
  pub of_types_in : (t : Resolved) (n : ℕ) → Contains (types_in t) n → UsesOf (Has t) n
  of_types_in (parameter i) n h = absurd (in_nothing n h)
  of_types_in (use_of m a us) n h = of_use_in m a us n (of_each_types_in us n) (in_either n m (each_types_in us) h)
  of_types_in (other ts) n h = uses_more (EachHas ts) (Has (other ts)) n (λ r i. inr i) (of_each_types_in ts n h)

  pub of_each_types_in : (ts : Parts) (n : ℕ) → Contains (each_types_in ts) n → UsesOf (EachHas ts) n
  of_each_types_in no_part n h = absurd (in_nothing n h)
  of_each_types_in (next_part t ts) n h = of_parts_in t ts n (of_types_in t n) (of_each_types_in ts n) (Contains-append_cases (types_in t) (each_types_in ts) n h)

mutual
  pub types_in_have : (t : Resolved) (n : ℕ) (a : At) (us : Parts) → Has t (use_of n a us) → Contains (types_in t) n
  types_in_have (parameter i) n a us e = cc
  types_in_have (use_of m b ts) n a us (inl e) = let same : m ≡ n = cc in subst (λ k. Contains (k ∷ each_types_in ts) n) (sym same) (in_first n (each_types_in ts))
  types_in_have (use_of m b ts) n a us (inr h) = in_later n m (each_types_in ts) (each_types_in_have ts n a us h)
  types_in_have (other ts) n a us (inl e) = cc
  types_in_have (other ts) n a us (inr h) = each_types_in_have ts n a us h

  pub each_types_in_have : (ts : Parts) (n : ℕ) (a : At) (us : Parts) → EachHas ts (use_of n a us) → Contains (each_types_in ts) n
  each_types_in_have no_part n a us h = absurd h
  each_types_in_have (next_part t ts) n a us (inl h) = Contains-append_left (types_in t) (each_types_in ts) n (types_in_have t n a us h)
  each_types_in_have (next_part t ts) n a us (inr h) = Contains-append_right (types_in t) (each_types_in ts) n (each_types_in_have ts n a us h)

-- ---- declarations

-- a synonym has its meaning alone
pub synonym_body : (d : Declaration) → is_synonym d ≡ true → body_of d ≡ next_part (meaning_of d) no_part
synonym_body (data_type k ts) e = cc
synonym_body (synonym t) e = refl
synonym_body neither e = cc

-- any other its fields
pub data_body : (d : Declaration) → is_synonym d ≡ false → body_of d ≡ fields_of d
data_body (data_type k ts) e = refl
data_body (synonym t) e = cc
data_body neither e = refl

-- what is named by a declaration
pub needs_named : (ds : List Declaration) (a : ℕ) → needs_of (named_needs ds) a ≡ each_types_in (body_of (declaration_at ds a))
needs_named ds a = get_or-map (λ d. each_types_in (body_of d)) ds a neither

pub needs_expanded : (synonyms : ℕ → Bool) (meanings : ℕ → Resolved) (ds : List Declaration) (a : ℕ) → needs_of (needs_by synonyms meanings ds) a ≡ each_types_in (each_expanded synonyms meanings (fields_of (declaration_at ds a)))
needs_expanded synonyms meanings ds a = get_or-map (λ d. each_types_in (each_expanded synonyms meanings (fields_of d))) ds a neither

-- ---- ways

-- what synonyms mean is what the meanings of those that they name make of it, and of each synonym there are only those
-- arguments that it holds; and synonyms do not reach themselves
pub record AreSolved (ds : List Declaration) (meanings : ℕ → Resolved) (rank : ℕ → ℕ) : Type 0 where
  pub solved : (n : ℕ) → synonyms_of ds n ≡ true → meanings n ≡ expanded (synonyms_of ds) meanings (meaning_of (declaration_at ds n))
  pub exact : (n : ℕ) → EachExact (synonyms_of ds) meanings (body_of (declaration_at ds n))
  pub falls : (a b : ℕ) → synonyms_of ds a ≡ true → Needs (named_needs ds) a b → synonyms_of ds b ≡ true → rank b < rank a

module _ (ds : List Declaration) (meanings : ℕ → Resolved) (rank : ℕ → ℕ) (h : AreSolved ds meanings rank) where
  -- the types of a declaration with their synonyms expanded
  abbrev pub full_body : ℕ → Parts
  full_body n = each_expanded (synonyms_of ds) meanings (body_of (declaration_at ds n))

  -- a declaration uses a type, as such or by its synonyms
  abbrev pub UsesType : ℕ → ℕ → Type 0
  UsesType n x = UsesOf (EachHas (full_body n)) x

  pub meaning_used : (n x : ℕ) (c : At) (ws : Parts) → synonyms_of ds n ≡ true → Has (meanings n) (use_of x c ws) → EachHas (full_body n) (use_of x c ws)
  meaning_used n x c ws is i =
      subst (λ z. EachHas (each_expanded (synonyms_of ds) meanings z) (use_of x c ws)) (sym (synonym_body (declaration_at ds n) is))
      (inl (subst (λ z. Has z (use_of x c ws)) (h.solved n is) i))

  pub used_in_meaning : (n x : ℕ) (c : At) (ws : Parts) → synonyms_of ds n ≡ true → EachHas (full_body n) (use_of x c ws) → Has (meanings n) (use_of x c ws)
  used_in_meaning n x c ws is i = by (subst (λ z. EachHas (each_expanded (synonyms_of ds) meanings z) (use_of x c ws)) (synonym_body (declaration_at ds n) is) i)
    where
      by : EachHas (next_part (expanded (synonyms_of ds) meanings (meaning_of (declaration_at ds n))) no_part) (use_of x c ws) → Has (meanings n) (use_of x c ws)
      by (inl k) = subst (λ z. Has z (use_of x c ws)) (sym (h.solved n is)) k
      by (inr k) = absurd k

  -- what stands in the types of a declaration is needed
  pub named : (n m : ℕ) (at : At) (ts : Parts) → EachHas (body_of (declaration_at ds n)) (use_of m at ts) → Needs (named_needs ds) n m
  named n m at ts i = subst (λ z. Contains z m) (sym (needs_named ds n)) (each_types_in_have (body_of (declaration_at ds n)) m at ts i)

  -- a type that is used is reached, and is no synonym
  abbrev pub IsReached : ℕ → ℕ → Type 0
  IsReached n x = Reaches (named_needs ds) n x × (synonyms_of ds x ≡ false)

  reached_from : (n x : ℕ) → ((s : ℕ) → Needs (named_needs ds) n s → synonyms_of ds s ≡ true → UsesType s x → IsReached s x) → UsesType n x → IsReached n x
  reached_from n x below (a, us, i) = by (each_source (synonyms_of ds) meanings (body_of (declaration_at ds n)) x a us i)
    where
      by_use : (b : Bool) (m : ℕ) (at : At) (ts : Parts) → synonyms_of ds m ≡ b → Needs (named_needs ds) n m → UseOfType (synonyms_of ds) meanings b m at ts x a us → IsReached n x
      by_use true m at ts is need (c, vs, k, e, f) = let r = below m need is (c, vs, meaning_used m x c vs is k) in (further n m x need r.0, r.1)
      by_use false m at ts is need (e, f, g) = (subst (Reaches (named_needs ds) n) e (one n m need), subst (λ z. synonyms_of ds z ≡ false) e is)

      by : Source (synonyms_of ds) meanings (EachHas (body_of (declaration_at ds n))) x a us → IsReached n x
      by (m, at, ts, k, u) = by_use (synonyms_of ds m) m at ts refl (named n m at ts k) u

  reached_by_synonym : (f n x : ℕ) → rank n < f → synonyms_of ds n ≡ true → UsesType n x → IsReached n x
  reached_by_synonym zero n x lt is u = absurd (omega (arith, lt))
  reached_by_synonym (suc f) n x lt is u = reached_from n x (λ s need so. reached_by_synonym f s x (let less : rank s < rank n = h.falls n s is need so in omega (arith, less, lt)) so) u

  -- what a declaration uses it reaches
  pub used_reached : (n x : ℕ) → UsesType n x → IsReached n x
  used_reached n x u = reached_from n x (λ s need so. reached_by_synonym (suc (rank s)) s x (omega arith) so) u

  -- ---- between data types

  abbrev pub fields_need : Nodes
  fields_need = needs_by (synonyms_of ds) meanings ds

  fields_are_used : (d : Declaration) (s : Resolved) → EachHas (each_expanded (synonyms_of ds) meanings (fields_of d)) s → EachHas (each_expanded (synonyms_of ds) meanings (body_of d)) s
  fields_are_used (data_type k ts) s i = i
  fields_are_used (synonym t) s i = absurd i
  fields_are_used neither s i = i

  pub needed_used : (a b : ℕ) → Needs fields_need a b → UsesType a b
  needed_used a b need =
      uses_more (EachHas (each_expanded (synonyms_of ds) meanings (fields_of (declaration_at ds a)))) (EachHas (full_body a)) b (fields_are_used (declaration_at ds a))
      (of_each_types_in (each_expanded (synonyms_of ds) meanings (fields_of (declaration_at ds a))) b (subst (λ z. Contains z b) (needs_expanded (synonyms_of ds) meanings ds a) need))

  used_needed : (a b : ℕ) → synonyms_of ds a ≡ false → UsesType a b → Needs fields_need a b
  used_needed a b is (c, us, i) =
      subst (λ z. Contains z b) (sym (needs_expanded (synonyms_of ds) meanings ds a))
      (each_types_in_have (each_expanded (synonyms_of ds) meanings (fields_of (declaration_at ds a))) b c us
      (subst (λ z. EachHas (each_expanded (synonyms_of ds) meanings z) (use_of b c us)) (data_body (declaration_at ds a) is) i))

  pub reaches_through : {g : Nodes} {a b c : ℕ} → Reaches g a b → Reaches g b c → Reaches g a c
  reaches_through (one a b n) r = further a b _ n r
  reaches_through (further a b c n s) r = further a b _ n (reaches_through s r)

  -- what data types reach by their expanded fields they reach by names
  pub reached_by_names : {a b : ℕ} → Reaches fields_need a b → Reaches (named_needs ds) a b
  reached_by_names (one a b need) = (used_reached a b (needed_used a b need)).0
  reached_by_names (further a b c need r) = reaches_through (used_reached a b (needed_used a b need)).0 (reached_by_names r)

  -- what is reached by names is used, or reached from what is used
  abbrev pub FromUsed : ℕ → ℕ → Type 0
  FromUsed a m = (x : ℕ) × UsesType a x × ((x ≡ m) ⊎ Reaches fields_need x m)

  use_named : (a b : ℕ) → UsesOf (EachHas (body_of (declaration_at ds a))) b → synonyms_of ds b ≡ false → UsesType a b
  use_named a b (at, ts, i) is = (
    at,
    each_expanded (synonyms_of ds) meanings ts,
    each_of_source (synonyms_of ds) meanings (body_of (declaration_at ds a)) b at (each_expanded (synonyms_of ds) meanings ts) (h.exact a)
        (b, at, ts, i, subst (λ z. UseOfType (synonyms_of ds) meanings z b at ts b at (each_expanded (synonyms_of ds) meanings ts)) (sym is) (refl, refl, refl)),
  )

  use_by_synonym : (a b x : ℕ) → UsesOf (EachHas (body_of (declaration_at ds a))) b → synonyms_of ds b ≡ true → UsesType b x → UsesType a x
  use_by_synonym a b x (at, ts, i) is (c, ws, k) = (
    at,
    each_placed at (each_expanded (synonyms_of ds) meanings ts) ws,
    each_of_source (synonyms_of ds) meanings (body_of (declaration_at ds a)) x at (each_placed at (each_expanded (synonyms_of ds) meanings ts) ws) (h.exact a)
        (b, at, ts, i, subst (λ z. UseOfType (synonyms_of ds) meanings z b at ts x at (each_placed at (each_expanded (synonyms_of ds) meanings ts) ws)) (sym is) (c, ws, used_in_meaning b x c ws is k, refl, refl)),
  )

  of_named : (a b : ℕ) → Needs (named_needs ds) a b → UsesOf (EachHas (body_of (declaration_at ds a))) b
  of_named a b need = of_each_types_in (body_of (declaration_at ds a)) b (subst (λ z. Contains z b) (needs_named ds a) need)

  step_to : (a b m : ℕ) (is : Bool) → synonyms_of ds b ≡ is → Needs (named_needs ds) a b → FromUsed b m → FromUsed a m
  step_to a b m true is need (x, u, r) = (x, use_by_synonym a b x (of_named a b need) is u, r)
  step_to a b m false is need (x, u, inl e) = (b, use_named a b (of_named a b need) is, inr (subst (Reaches fields_need b) e (one b x (used_needed b x is u))))
  step_to a b m false is need (x, u, inr r) = (b, use_named a b (of_named a b need) is, inr (further b x m (used_needed b x is u) r))

  pub from_used : {a m : ℕ} → Reaches (named_needs ds) a m → synonyms_of ds m ≡ false → FromUsed a m
  from_used (one a b need) is = (b, use_named a b (of_named a b need) is, inl refl)
  from_used (further a b c need r) is = step_to a b c (synonyms_of ds b) refl need (from_used r is)

  -- what data types reach by names they reach by their expanded fields
  pub reached_by_fields : (a m : ℕ) → synonyms_of ds a ≡ false → synonyms_of ds m ≡ false → Reaches (named_needs ds) a m → Reaches fields_need a m
  reached_by_fields a m is so r = by (from_used r so)
    where
      by : FromUsed a m → Reaches fields_need a m
      by (x, u, inl e) = subst (Reaches fields_need a) e (one a x (used_needed a x is u))
      by (x, u, inr s) = further a x m (used_needed a x is u) s
