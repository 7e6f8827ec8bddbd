-- What is found in declarations that are built is where data types are not regular.
use Rattle.std.proofs.Common.{◌≡◌, ◌⊎◌, inl, inr, ℕ, zero, suc, ◌+◌, ◌<◌, ◌≤◌, Bool, true, false, List, [], ◌∷◌, Option, Some, length, drop, Contains, refl, sym, ap, subst, ◌∙◌, arith}
use Rattle.std.proofs.lemmas.List.{get_or-drop}
use Rattle.hdc_base.specs.declared.place.At.{At}
use Rattle.hdc_graph.specs.Needs.{Nodes, Needs, needs_of, Reaches, one, further, IsClosed, IsNumbering}
use Rattle.hdc_written.specs.declared.breach.Breach.{Breach}
use Rattle.hdc_written.specs.Breaches.{breach, IsOneOf}
use Rattle.hdc_written.proofs.FirstBreach.{one_of_left, one_of_right, one_of_either}
use Rattle.hdc_regular.specs.Resolved.{Resolved, use_of, Parts, part_at, parameters_from, Has, EachHas, Declaration, data_type, synonym, neither, declaration_at, is_synonym, fields_of, meaning_of}
use Rattle.hdc_regular.specs.Expansion.{expanded, each_expanded, synonyms_of, full_meaning, each_types_in, needs_by, data_needs, IsIrregularUse}
use Rattle.hdc_regular.specs.Named.{body_of, named_needs}
use Rattle.hdc_regular.specs.Walk.{each_alias_of, Tables, each_followed, in_order}
use Rattle.hdc_regular.specs.Model.{declared_wrong, all_wrong}
use Rattle.hdc_regular.proofs.Expanding.{EachExact}
use Rattle.hdc_regular.proofs.Groups.{UsesOf, of_each_types_in, needs_named, needs_expanded, AreSolved, UsesType}
use Rattle.hdc_regular.proofs.Components.{own_reaches, reaches_own}
use Rattle.hdc_regular.proofs.Walking.{each_itself, order_of_parameters, parameters_of_order}
use Rattle.hdc_regular.proofs.Fitting.{known_of, own_group, together, own_of_together, AreFitting, Unordered, found_unordered, unordered_found}
use Rattle.hdc_regular.proofs.Meanings.{full_solved}

-- two declarations of one kind, which are data types with as many parameters
abbrev pub SameKind : Declaration → Declaration → Type 0
SameKind (data_type k ts) (data_type l us) = k ≡ l
SameKind (data_type k ts) (synonym u) = ⊥
SameKind (data_type k ts) neither = ⊥
SameKind (synonym t) (data_type l us) = ⊥
SameKind (synonym t) (synonym u) = Unit {0}
SameKind (synonym t) neither = ⊥
SameKind neither (data_type l us) = ⊥
SameKind neither (synonym u) = ⊥
SameKind neither neither = Unit {0}

same_synonym : (d e : Declaration) → SameKind d e → is_synonym e ≡ is_synonym d
same_synonym (data_type k ts) (data_type l us) h = refl
same_synonym (data_type k ts) (synonym u) h = absurd h
same_synonym (data_type k ts) neither h = absurd h
same_synonym (synonym t) (data_type l us) h = absurd h
same_synonym (synonym t) (synonym u) h = refl
same_synonym (synonym t) neither h = absurd h
same_synonym neither (data_type l us) h = absurd h
same_synonym neither (synonym u) h = absurd h
same_synonym neither neither h = refl

-- declarations that are built: they expand to the same, and name no more
pub record AreReduced (ds es : List Declaration) (meanings : ℕ → Resolved) : Type 0 where
  pub kinds : (n : ℕ) → SameKind (declaration_at ds n) (declaration_at es n)
  pub same : (n : ℕ) → each_expanded (synonyms_of ds) meanings (body_of (declaration_at es n)) ≡ each_expanded (synonyms_of ds) meanings (body_of (declaration_at ds n))
  pub exact : (n : ℕ) → EachExact (synonyms_of ds) meanings (body_of (declaration_at es n))
  pub within : (n m : ℕ) → UsesOf (EachHas (body_of (declaration_at es n))) m → UsesOf (EachHas (body_of (declaration_at ds n))) m

-- the meaning of a synonym is its first part
first_body : (s : ℕ → Bool) (M : ℕ → Resolved) (d : Declaration) → is_synonym d ≡ true → part_at 0 (each_expanded s M (body_of d)) ≡ expanded s M (meaning_of d)
first_body s M (data_type k ts) e = cc
first_body s M (synonym t) e = refl
first_body s M neither e = cc

pub of_meaning : (d : Declaration) (n : ℕ) → is_synonym d ≡ true → UsesOf (EachHas (body_of d)) n → UsesOf (Has (meaning_of d)) n
of_meaning (data_type k ts) n e u = cc
of_meaning (synonym t) n e (a, us, inl h) = (a, us, h)
of_meaning (synonym t) n e (a, us, inr h) = absurd h
of_meaning neither n e u = cc

-- ways through graphs in which each node needs what it needs in the other
more_reached : {g k : Nodes} → ((a b : ℕ) → Needs g a b → Needs k a b) → {a b : ℕ} → Reaches g a b → Reaches k a b
more_reached h (one a b n) = one a b (h a b n)
more_reached h (further a b c n r) = further a b c (h a b n) (more_reached h r)

module _ (ds es : List Declaration) (rank : ℕ → ℕ) (reduced : AreReduced ds es (full_meaning ds))
    (falls : (a b : ℕ) → synonyms_of ds a ≡ true → UsesOf (Has (meaning_of (declaration_at ds a))) b → synonyms_of ds b ≡ true → rank b < rank a)
    (bounded : (n : ℕ) → synonyms_of ds n ≡ true → rank n < length ds) where
  abbrev pub M : ℕ → Resolved
  M = full_meaning ds

  same_synonyms : synonyms_of es ≡ synonyms_of ds
  same_synonyms = λ i n. same_synonym (declaration_at ds n) (declaration_at es n) (reduced.kinds n) i

  also : (n : ℕ) → synonyms_of es n ≡ true → synonyms_of ds n ≡ true
  also n is = subst (λ s. s n ≡ true) same_synonyms is

  solved_by : (n : ℕ) → synonyms_of ds n ≡ true → synonyms_of es n ≡ true → M n ≡ expanded (synonyms_of ds) M (meaning_of (declaration_at es n))
  solved_by n is so =
      full_solved ds rank falls n is (bounded n is)
      ∙ sym (first_body (synonyms_of ds) M (declaration_at ds n) is)
      ∙ ap (part_at 0) (sym (reduced.same n))
      ∙ first_body (synonyms_of ds) M (declaration_at es n) so

  pub are_solved : AreSolved es M rank
  are_solved = record {
    solved = λ n is. subst (λ s. M n ≡ expanded s M (meaning_of (declaration_at es n))) (sym same_synonyms) (solved_by n (also n is) is);
    exact = λ n. subst (λ s. EachExact s M (body_of (declaration_at es n))) (sym same_synonyms) (reduced.exact n);
    falls = λ a b is need so.
        falls a b (also a is) (of_meaning (declaration_at ds a) b (also a is) (reduced.within a b (of_each_types_in (body_of (declaration_at es a)) b (subst (λ z. Contains z b) (needs_named es a) need)))) (also b so);
  }

  -- data types need the same
  same_fields : (d e : Declaration) → SameKind d e → each_expanded (synonyms_of ds) M (body_of e) ≡ each_expanded (synonyms_of ds) M (body_of d) → each_expanded (synonyms_of ds) M (fields_of e) ≡ each_expanded (synonyms_of ds) M (fields_of d)
  same_fields (data_type k ts) (data_type l us) h s = s
  same_fields (data_type k ts) (synonym u) h s = absurd h
  same_fields (data_type k ts) neither h s = absurd h
  same_fields (synonym t) (data_type l us) h s = absurd h
  same_fields (synonym t) (synonym u) h s = refl
  same_fields (synonym t) neither h s = absurd h
  same_fields neither (data_type l us) h s = absurd h
  same_fields neither (synonym u) h s = absurd h
  same_fields neither neither h s = refl

  same_needs : (a : ℕ) → needs_of (needs_by (synonyms_of es) M es) a ≡ needs_of (data_needs ds) a
  same_needs a =
      needs_expanded (synonyms_of es) M es a
      ∙ ap (λ s. each_types_in (each_expanded s M (fields_of (declaration_at es a)))) same_synonyms
      ∙ ap each_types_in (same_fields (declaration_at ds a) (declaration_at es a) (reduced.kinds a) (reduced.same a))
      ∙ sym (needs_expanded (synonyms_of ds) M ds a)

  reached_there : {a b : ℕ} → Reaches (needs_by (synonyms_of es) M es) a b → Reaches (data_needs ds) a b
  reached_there r = more_reached (λ a b need. subst (λ z. Contains z b) (same_needs a) need) r

  reached_here : {a b : ℕ} → Reaches (data_needs ds) a b → Reaches (needs_by (synonyms_of es) M es) a b
  reached_here r = more_reached (λ a b need. subst (λ z. Contains z b) (sym (same_needs a)) need) r

  -- ---- what is found

  module _ (closed : IsClosed (named_needs es)) (numbers : List ℕ) (numbering : IsNumbering (named_needs es) numbers) (fits : ℕ → ℕ → List (Option ℕ) → Bool)
      (fitting : (e : ℕ) → AreFitting (known_of es M rank are_solved closed numbers numbering fits) M (own_group es M rank are_solved closed numbers numbering fits e) (body_of (declaration_at es e))) where
    abbrev pub known : Tables
    known = known_of es M rank are_solved closed numbers numbering fits

    abbrev pub own : ℕ → ℕ → Bool
    own = own_group es M rank are_solved closed numbers numbering fits

    not_both : (b : Bool) → b ≡ true → b ≡ false → ⊥
    not_both true d e = cc
    not_both false d e = cc

    never : (b : Bool) → (b ≡ true → ⊥) → b ≡ false
    never true h = absurd (h refl)
    never false h = refl

    of_data : (n k : ℕ) (ts : Parts) (d : Declaration) → declaration_at es n ≡ data_type k ts → SameKind d (data_type k ts) → declaration_at ds n ≡ d → each_expanded (synonyms_of ds) M ts ≡ each_expanded (synonyms_of ds) M (body_of d)
        → (c : At) → Unordered known M (own n) (EachHas (each_expanded (synonyms_of es) M ts)) k (λ j. Some j) c → IsIrregularUse ds n c
    of_data n k ts (data_type l us) ise kind is same c (m, vs, h, o, g) =
        let used : UsesType es M rank are_solved n m = (c, vs, subst (λ z. EachHas (each_expanded (synonyms_of es) M (body_of z)) (use_of m c vs)) (sym ise) h) in
        let no_synonym : synonyms_of es n ≡ false = ap is_synonym ise in
        record {
          count = l;
          fields = us;
          is_data = is;
          what = m;
          arguments = vs;
          uses = subst (λ z. EachHas z (use_of m c vs)) (ap (λ s. each_expanded s M ts) same_synonyms ∙ same) h;
          reaches = reached_there (own_reaches es M rank are_solved closed numbers numbering n m no_synonym used (together es M rank are_solved closed numbers numbering fits m n o));
          differ = λ e. not_both (in_order 0 k (each_alias_of vs)) (subst (λ z. in_order 0 k (each_alias_of z) ≡ true) (sym (e ∙ ap (parameters_from 0) kind)) (order_of_parameters 0 k)) (ap (in_order 0 k) (sym (each_itself (each_alias_of vs))) ∙ g);
        }
    of_data n k ts (synonym t) ise kind is same c u = absurd kind
    of_data n k ts neither ise kind is same c u = absurd kind

    of_declared : (n : ℕ) (d : Declaration) (b : Breach) → declaration_at es n ≡ d → IsOneOf b (declared_wrong known numbers n d) → IsIrregularUse ds n b.at × (b.rule ≡ 10)
    of_declared n (data_type k ts) b is h =
        by (found_unordered known M (own n) ts
        (subst (λ z. EachExact (synonyms_of es) M (body_of z)) is (are_solved.exact n))
        (subst (λ z. AreFitting known M (own n) (body_of z)) is (fitting n)) k (λ j. Some j) b h)
      where
        by : (c : At) × Unordered known M (own n) (EachHas (each_expanded (synonyms_of es) M ts)) k (λ j. Some j) c × (b ≡ breach 10 c) → IsIrregularUse ds n b.at × (b.rule ≡ 10)
        by (c, u, e) = (
          subst (λ z. IsIrregularUse ds n z.at) (sym e)
              (of_data n k ts (declaration_at ds n) is (subst (SameKind (declaration_at ds n)) is (reduced.kinds n)) refl (subst (λ z. each_expanded (synonyms_of ds) M (body_of z) ≡ each_expanded (synonyms_of ds) M (body_of (declaration_at ds n))) is (reduced.same n)) c u),
          ap (λ z. z.rule) e,
        )
    of_declared n (synonym t) b is h = absurd h
    of_declared n neither b is h = absurd h

    declared_has : (n : ℕ) (e : Declaration) (c : At) → declaration_at es n ≡ e → (l : ℕ) (us : Parts) → declaration_at ds n ≡ data_type l us → SameKind (data_type l us) e
        → each_expanded (synonyms_of ds) M (body_of e) ≡ each_expanded (synonyms_of ds) M us → (m : ℕ) (vs : Parts) → EachHas (each_expanded (synonyms_of ds) M us) (use_of m c vs) → Reaches (data_needs ds) m n
        → (vs ≡ parameters_from 0 l → ⊥) → IsOneOf (breach 10 c) (declared_wrong known numbers n e)
    declared_has n (data_type k ts) c ise l us is kind same m vs h r d =
        let there : EachHas (each_expanded (synonyms_of es) M ts) (use_of m c vs) = subst (λ z. EachHas z (use_of m c vs)) (sym (ap (λ s. each_expanded s M ts) same_synonyms ∙ same)) h in
        let used : UsesType es M rank are_solved n m = (c, vs, subst (λ z. EachHas (each_expanded (synonyms_of es) M (body_of z)) (use_of m c vs)) (sym ise) there) in
        unordered_found known M (own n) ts
        (subst (λ z. EachExact (synonyms_of es) M (body_of z)) ise (are_solved.exact n))
        (subst (λ z. AreFitting known M (own n) (body_of z)) ise (fitting n)) k (λ j. Some j) c (
          m,
          vs,
          there,
          own_of_together es M rank are_solved closed numbers numbering fits m n (reaches_own es M rank are_solved closed numbers numbering n m used (reached_here r)),
          never (in_order 0 k (each_followed (λ j. Some j) (each_alias_of vs)))
              (λ e. d (parameters_of_order 0 k vs (ap (in_order 0 k) (sym (each_itself (each_alias_of vs))) ∙ e) ∙ ap (parameters_from 0) (sym kind))),
        )
    declared_has n (synonym t) c ise l us is kind same m vs h r d = absurd kind
    declared_has n neither c ise l us is kind same m vs h r d = absurd kind

    pub irregular_found : (n : ℕ) (c : At) → IsIrregularUse ds n c → IsOneOf (breach 10 c) (declared_wrong known numbers n (declaration_at es n))
    irregular_found n c u =
        declared_has n (declaration_at es n) c refl u.count u.fields u.is_data (subst (λ z. SameKind z (declaration_at es n)) u.is_data (reduced.kinds n))
        (subst (λ z. each_expanded (synonyms_of ds) M (body_of (declaration_at es n)) ≡ each_expanded (synonyms_of ds) M (body_of z)) u.is_data (reduced.same n)) u.what u.arguments u.uses u.reaches u.differ

    -- ---- in all declarations from one on

    in_tail : (n : ℕ) (xs : List Declaration) (b : Breach) → IsOneOf b (all_wrong known numbers n xs) → (i : ℕ) × IsOneOf b (declared_wrong known numbers (n + i) (declaration_at xs i))
    in_tail n [] b h = absurd h
    in_tail n (d ∷ xs) b h = by (one_of_either b (declared_wrong known numbers n d) (all_wrong known numbers (suc n) xs) h) (in_tail (suc n) xs b)
      where
        by : IsOneOf b (declared_wrong known numbers n d) ⊎ IsOneOf b (all_wrong known numbers (suc n) xs)
            → (IsOneOf b (all_wrong known numbers (suc n) xs) → (i : ℕ) × IsOneOf b (declared_wrong known numbers (suc n + i) (declaration_at xs i)))
            → (i : ℕ) × IsOneOf b (declared_wrong known numbers (n + i) (declaration_at (d ∷ xs) i))
        by (inl k) more = (0, let e : n ≡ n + 0 = omega arith in subst (λ z. IsOneOf b (declared_wrong known numbers z d)) e k)
        by (inr k) more = let r = more k in (suc r.0, let e : suc n + r.0 ≡ n + suc r.0 = omega arith in subst (λ z. IsOneOf b (declared_wrong known numbers z (declaration_at xs r.0))) e r.1)

    tail_has : (n : ℕ) (xs : List Declaration) (i : ℕ) (b : Breach) → IsOneOf b (declared_wrong known numbers (n + i) (declaration_at xs i)) → IsOneOf b (all_wrong known numbers n xs)
    tail_has n [] i b h = absurd h
    tail_has n (d ∷ xs) zero b h = one_of_left b (declared_wrong known numbers n d) (all_wrong known numbers (suc n) xs) (let e : n + 0 ≡ n = omega arith in subst (λ z. IsOneOf b (declared_wrong known numbers z d)) e h)
    tail_has n (d ∷ xs) (suc i) b h = one_of_right b (declared_wrong known numbers n d) (all_wrong known numbers (suc n) xs) (tail_has (suc n) xs i b (let e : n + suc i ≡ suc n + i = omega arith in subst (λ z. IsOneOf b (declared_wrong known numbers z (declaration_at xs i))) e h))

    -- what is found from a number on is where a data type from there on is not regular
    pub found_irregular : (from : ℕ) (b : Breach) → IsOneOf b (all_wrong known numbers from (drop from es)) → (n : ℕ) × (from ≤ n) × IsIrregularUse ds n b.at × (b.rule ≡ 10)
    found_irregular from b h = by (in_tail from (drop from es) b h)
      where
        by : (i : ℕ) × IsOneOf b (declared_wrong known numbers (from + i) (declaration_at (drop from es) i)) → (n : ℕ) × (from ≤ n) × IsIrregularUse ds n b.at × (b.rule ≡ 10)
        by (i, k) = let r = of_declared (from + i) (declaration_at es (from + i)) b refl (subst (λ z. IsOneOf b (declared_wrong known numbers (from + i) z)) (get_or-drop from es i neither) k) in (from + i, omega arith, r.0, r.1)

    pub all_found : (from n i : ℕ) (c : At) → from + i ≡ n → IsIrregularUse ds n c → IsOneOf (breach 10 c) (all_wrong known numbers from (drop from es))
    all_found from n i c e u =
        tail_has from (drop from es) i (breach 10 c)
        (subst (λ z. IsOneOf (breach 10 c) (declared_wrong known numbers (from + i) z)) (sym (get_or-drop from es i neither))
        (subst (λ z. IsOneOf (breach 10 c) (declared_wrong known numbers z (declaration_at es z))) (sym e) (irregular_found n c u)))
