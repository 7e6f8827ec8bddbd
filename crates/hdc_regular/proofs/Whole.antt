-- Declarations that are built expand as those that are written.
use Rattle.std.proofs.Common.{◌≡◌, ◌⊎◌, inl, inr, ℕ, zero, suc, ◌==◌, ◌+◌, ◌-◌, ◌<◌, ◌≤◌, Bool, true, false, List, [], ◌∷◌, ◌++◌, Option, Some, None, length, get_or, refl, sym, ap, subst, ◌∙◌, arith}
use Rattle.std.proofs.lemmas.List.{get_or_append_left, get_or-append-add}
use Rattle.std.proofs.lemmas.Bool.{cases_lt}
use Rattle.hdc_base.specs.declared.place.At.{At}
use Rattle.hdc_rules.specs.Types.{count_types}
use Rattle.hdc_regular.specs.Laws.{AreRanked}
use Rattle.hdc_regular.specs.Outlines.{outline_of}
use Rattle.hdc_regular.specs.Walk.{alias_of}
use Rattle.hdc_regular.specs.Building.{is_held}
use Rattle.hdc_regular.proofs.Flags.{flag_of_each, each_of_flag}
use Rattle.hdc_regular.proofs.Meanings.{full_solved}
use Rattle.hdc_tree.specs.declared.program.Top.{Top}
use Rattle.hdc_tree.specs.declared.program.Top.TheVariants as top
use Rattle.hdc_graph.specs.Needs.{Reaches}
use Rattle.hdc_written.specs.Scopes.{Binding, standing_for}
use Rattle.hdc_written.specs.WrittenTypes.{WrittenType, type_constructor, type_variable, unit_type, type_in_parentheses, tuple_type, list_type, arrow_type, Types, no_type, next_type}
use Rattle.hdc_written.specs.TypeMirror.{type_exp_of}
use Rattle.hdc_synonyms.specs.Synonyms.{synonym_needs}
use Rattle.hdc_regular.specs.declared.outline.Outline.{Outline}
use Rattle.hdc_regular.specs.declared.standing.Standing.{Standing}
use Rattle.hdc_regular.specs.declared.standing.Standing.TheVariants as standing
use Rattle.hdc_regular.specs.Resolved.{Resolved, parameter, use_of, other, Parts, no_part, next_part, part_at, Has, EachHas, Declaration, data_type, synonym, neither, declaration_at, is_synonym, meaning_of}
use Rattle.hdc_regular.specs.Expansion.{expanded, each_expanded, synonyms_of, full_meaning}
use Rattle.hdc_regular.specs.Named.{body_of}
use Rattle.hdc_regular.specs.Standings.{top_standings, each_standing}
use Rattle.hdc_regular.specs.Resolving.{arrows, used_where, applied, params_from, data_fields, sound_synonym, resolved, each_resolved, declaration_of}
use Rattle.hdc_regular.specs.Irregular.{names_before, names_of, declarations_by}
use Rattle.hdc_regular.specs.Building.{outline_at, built}
use Rattle.hdc_regular.specs.Built.{built_declaration, each_built_declaration, built_by}
use Rattle.hdc_regular.proofs.Expanding.{EachExact, alias_expanded, holds_of, has_held}
use Rattle.hdc_regular.proofs.Groups.{UsesOf}
use Rattle.hdc_regular.proofs.BuiltTypes.{IsOutline, IsKnown, AreKnown, EachKnown, built_same, each_built_same, built_exact, each_built_exact, built_within, each_built_within}
use Rattle.hdc_regular.proofs.NamedTypes.{of_two, stands_at}
use Rattle.hdc_regular.proofs.Ranks.{what_of, at_before, at_text, rank, rank_falls, rank_bounded}
use Rattle.hdc_regular.proofs.Reduced.{SameKind, AreReduced}

-- ---- one declaration

-- a name that stands for a data type or a synonym stands for one
abbrev pub IsNamed : (ℕ → Bool) → Option Standing → Type 0
IsNamed s None = Unit {0}
IsNamed s (Some (standing.DataType n)) = s n ≡ false
IsNamed s (Some (standing.Synonym n k)) = s n ≡ true
IsNamed s (Some standing.NotExpanded) = Unit {0}

module _ (s : ℕ → Bool) (M : ℕ → Resolved) (outlines : List Outline) (names : List (Binding Standing)) (agree : (x : List ℕ) → IsNamed s (standing_for x names)) where
  -- of the synonyms that are used it is known what they mean
  abbrev pub AreOutlined : (Resolved → Type 0) → Type 0
  AreOutlined In = (b : ℕ) → UsesOf In b → s b ≡ true → IsOutline (outline_at outlines b) (M b)

  use_known : (params : List (Binding ℕ)) (o : Option Standing) (count : ℕ) (at : At) (ts : Parts) → IsNamed s o → AreOutlined (Has (applied o count at ts)) → IsKnown s M outlines names params count o
  use_known params None count at ts k r = tt
  use_known params (Some (standing.DataType n)) count at ts k r = k
  use_known params (Some (standing.Synonym n j)) count at ts k r = (k, λ e. r n (at, ts, subst (λ z. Has (used_where z n at ts) (use_of n at ts)) (sym e) (inl refl)) k)
  use_known params (Some standing.NotExpanded) count at ts k r = tt

  other_outlined : (ts : Parts) → AreOutlined (Has (other ts)) → AreOutlined (EachHas ts)
  other_outlined ts r b u is = r b (u.0, u.1, inr u.2) is

  arguments_outlined : (o : Option Standing) (count : ℕ) (at : At) (ts : Parts) → AreOutlined (Has (applied o count at ts)) → AreOutlined (EachHas ts)
  arguments_outlined None count at ts r = other_outlined ts r
  arguments_outlined (Some (standing.DataType n)) count at ts r = λ b u is. r b (u.0, u.1, inr u.2) is
  arguments_outlined (Some (standing.Synonym n j)) count at ts r = by (j == count) r
    where
      by : (c : Bool) → AreOutlined (Has (used_where c n at ts)) → AreOutlined (EachHas ts)
      by true q = λ b u is. q b (u.0, u.1, inr u.2) is
      by false q = other_outlined ts q
  arguments_outlined (Some standing.NotExpanded) count at ts r = other_outlined ts r

  first_outlined : (t : Resolved) (ts : Parts) → AreOutlined (Has (arrows t ts)) → AreOutlined (Has t)
  first_outlined t no_part r = r
  first_outlined t (next_part v vs) r = λ b u is. r b (u.0, u.1, inr (inl u.2)) is

  rest_outlined : (t : Resolved) (ts : Parts) → AreOutlined (Has (arrows t ts)) → AreOutlined (EachHas ts)
  rest_outlined t no_part r = λ b u is. absurd u.2
  rest_outlined t (next_part v vs) r = λ b u is. r b (u.0, u.1, inr (inr u.2)) is

  mutual
    all_known : (params : List (Binding ℕ)) (t : WrittenType) → AreOutlined (Has (resolved names params t)) → AreKnown s M outlines names params t
    all_known params (type_constructor c ts) r = (
      use_known params (standing_for c.text names) (count_types ts) c.at (each_resolved names params ts) (agree c.text) r,
      each_known params ts (arguments_outlined (standing_for c.text names) (count_types ts) c.at (each_resolved names params ts) r),
    )
    all_known params (type_variable x) r = tt
    all_known params (unit_type a) r = tt
    all_known params (type_in_parentheses a t) r = all_known params t r
    all_known params (tuple_type a ts) r = each_known params ts (other_outlined (each_resolved names params ts) r)
    all_known params (list_type a t) r = all_known params t (λ b u is. r b (u.0, u.1, inr (inl u.2)) is)
    all_known params (arrow_type t ts) r = (all_known params t (first_outlined (resolved names params t) (each_resolved names params ts) r), each_known params ts (rest_outlined (resolved names params t) (each_resolved names params ts) r))

    each_known : (params : List (Binding ℕ)) (ts : Types) → AreOutlined (EachHas (each_resolved names params ts)) → EachKnown s M outlines names params ts
    each_known params no_type r = tt
    each_known params (next_type t ts) r = (all_known params t (λ b u is. r b (u.0, u.1, inl u.2) is), each_known params ts (λ b u is. r b (u.0, u.1, inr u.2) is))

  -- a declaration, and as it is built
  pub record IsReduced (d e : Declaration) : Type 0 where
    pub kind : SameKind d e
    pub same : each_expanded s M (body_of e) ≡ each_expanded s M (body_of d)
    pub exact : EachExact s M (body_of e)
    pub within : (m : ℕ) → UsesOf (EachHas (body_of e)) m → UsesOf (EachHas (body_of d)) m

  nothing_reduced : IsReduced neither neither
  nothing_reduced = record { kind = tt; same = refl; exact = tt; within = λ m u. u }

  first_within : (b r : Resolved) → ((m : ℕ) → UsesOf (Has b) m → UsesOf (Has r) m) → (m : ℕ) → UsesOf (EachHas (next_part b no_part)) m → UsesOf (EachHas (next_part r no_part)) m
  first_within b r w m (a, us, inl h) = let q = w m (a, us, h) in (q.0, q.1, inl q.2)
  first_within b r w m (a, us, inr h) = absurd h

  synonym_reduced : (sound : Bool) (params : List (Binding ℕ)) (t : WrittenType) → AreOutlined (EachHas (body_of (sound_synonym sound (resolved names params t)))) → IsReduced (sound_synonym sound (resolved names params t)) (sound_synonym sound (built outlines names params t))
  synonym_reduced true params t r =
      let k = all_known params t (λ b u is. r b (u.0, u.1, inl u.2) is) in
      record {
        kind = tt;
        same = ap (λ z. next_part z no_part) (built_same s M outlines names params t k);
        exact = (built_exact s M outlines names params t k, tt);
        within = first_within (built outlines names params t) (resolved names params t) (built_within outlines names params t);
      }
  synonym_reduced false params t r = nothing_reduced

  pub top_reduced : (sound : Bool) (t : Top) → AreOutlined (EachHas (body_of (declaration_of names sound t))) → IsReduced (declaration_of names sound t) (built_declaration outlines names sound t)
  top_reduced sound (top.Data d) r =
      let k = each_known (params_from 0 d.params) (data_fields d) r in
      record {
        kind = refl;
        same = each_built_same s M outlines names (params_from 0 d.params) (data_fields d) k;
        exact = each_built_exact s M outlines names (params_from 0 d.params) (data_fields d) k;
        within = each_built_within outlines names (params_from 0 d.params) (data_fields d);
      }
  top_reduced sound (top.Synonym y) r = synonym_reduced sound (params_from 0 y.params) (type_exp_of y.meaning) r
  top_reduced sound top.Empty r = nothing_reduced
  top_reduced sound (top.Fixity f) r = nothing_reduced
  top_reduced sound (top.Signature x xs a t) r = nothing_reduced
  top_reduced sound (top.Equation h e) r = nothing_reduced

-- ---- declarations by their numbers

pub built_each : (outlines : List Outline) (names : List (Binding Standing)) (sounds : List Bool) (n : ℕ) (ts : List Top) (i : ℕ)
    → declaration_at (each_built_declaration outlines names sounds n ts) i ≡ built_declaration outlines names (get_or sounds (n + i) false) (get_or ts i top.Empty)
built_each outlines names sounds n [] i = refl
built_each outlines names sounds n (t ∷ ts) zero = let e : n ≡ n + 0 = omega arith in ap (λ z. built_declaration outlines names (get_or sounds z false) t) e
built_each outlines names sounds n (t ∷ ts) (suc i) = let e : suc n + i ≡ n + suc i = omega arith in built_each outlines names sounds (suc n) ts i ∙ ap (λ z. built_declaration outlines names (get_or sounds z false) (get_or ts i top.Empty)) e

pub size_built : (outlines : List Outline) (names : List (Binding Standing)) (sounds : List Bool) (n : ℕ) (ts : List Top) → length (each_built_declaration outlines names sounds n ts) ≡ length ts
size_built outlines names sounds n [] = refl
size_built outlines names sounds n (t ∷ ts) = ap (λ z. suc z) (size_built outlines names sounds (suc n) ts)

-- the kind of declaration that a name stands for
abbrev IsKind : Standing → ℕ → Declaration → Type 0
IsKind (standing.DataType m) n d = (m ≡ n) × (is_synonym d ≡ false)
IsKind (standing.Synonym m k) n d = (m ≡ n) × (is_synonym d ≡ true)
IsKind standing.NotExpanded n d = Unit {0}

standing_kind : (names : List (Binding Standing)) (sound : Bool) (n : ℕ) (t : Top) (name : List ℕ) (w : Standing) → top_standings sound n t ≡ record { name = name; what = w } ∷ [] → IsKind w n (declaration_of names sound t)
standing_kind names sound n (top.Data d) name w e = let same : standing.DataType n ≡ w = ap what_of e in subst (λ z. IsKind z n (declaration_of names sound (top.Data d))) same (refl, refl)
standing_kind names true n (top.Synonym s) name w e = let same : standing.Synonym n (length s.params) ≡ w = ap what_of e in subst (λ z. IsKind z n (declaration_of names true (top.Synonym s))) same (refl, refl)
standing_kind names false n (top.Synonym s) name w e = let same : standing.NotExpanded ≡ w = ap what_of e in subst (λ z. IsKind z n (declaration_of names false (top.Synonym s))) same tt
standing_kind names sound n top.Empty name w e = cc
standing_kind names sound n (top.Fixity f) name w e = cc
standing_kind names sound n (top.Signature x xs a t) name w e = cc
standing_kind names sound n (top.Equation h r) name w e = cc

-- ---- both texts

module _ (ps ts : List Top) (sounds : List Bool) (before text : List ℕ)
    (ranked_before : AreRanked (synonym_needs ps) before) (ranked : AreRanked (synonym_needs ts) text)
    (apart_before : (i : ℕ) → i < length ps → get_or sounds i false ≡ true → Reaches (synonym_needs ps) i i → ⊥)
    (apart : (i : ℕ) → get_or sounds (length ps + i) false ≡ true → Reaches (synonym_needs ts) i i → ⊥)
    (outlines : List Outline) where
  abbrev ds : List Declaration
  ds = declarations_by ps ts sounds

  abbrev es : List Declaration
  es = built_by outlines ps ts sounds

  there_before : (n : ℕ) → n < length ps → declaration_at ds n ≡ declaration_of (names_before ps sounds) (get_or sounds n false) (get_or ps n top.Empty)
  there_before = at_before ps ts sounds before text ranked_before ranked apart_before apart

  there_text : (i : ℕ) → declaration_at ds (length ps + i) ≡ declaration_of (names_of ps ts sounds) (get_or sounds (length ps + i) false) (get_or ts i top.Empty)
  there_text = at_text ps ts sounds before text ranked_before ranked apart_before apart

  known_by : (w : Standing) (n : ℕ) (d : Declaration) → declaration_at ds n ≡ d → IsKind w n d → IsNamed (synonyms_of ds) (Some w)
  known_by (standing.DataType m) n d e (same, is) = ap (synonyms_of ds) same ∙ ap is_synonym e ∙ is
  known_by (standing.Synonym m k) n d e (same, is) = ap (synonyms_of ds) same ∙ ap is_synonym e ∙ is
  known_by standing.NotExpanded n d e k = tt

  known_in_prelude : (x : List ℕ) (w : Standing) → standing_for x (names_before ps sounds) ≡ Some w → IsNamed (synonyms_of ds) (Some w)
  known_in_prelude x w e =
      let h = stands_at sounds 0 0 ps x w e in
      let at0 : 0 + h.place ≡ h.place = omega arith in
      known_by w (0 + h.place) (declaration_of (names_before ps sounds) (get_or sounds (0 + h.place) false) (get_or ps h.place top.Empty))
      (subst (λ z. declaration_at ds z ≡ declaration_of (names_before ps sounds) (get_or sounds z false) (get_or ps h.place top.Empty)) (sym at0) (there_before h.place h.within))
      (standing_kind (names_before ps sounds) (get_or sounds (0 + h.place) false) (0 + h.place) (get_or ps h.place top.Empty) h.names w h.declares)

  known_in_text : (x : List ℕ) (w : Standing) → standing_for x (names_of ps ts sounds) ≡ Some w → IsNamed (synonyms_of ds) (Some w)
  known_in_text x w e = by (of_two x (each_standing sounds (length ps) ts) (names_before ps sounds) w e)
    where
      by : (standing_for x (each_standing sounds (length ps) ts) ≡ Some w) ⊎ (standing_for x (names_before ps sounds) ≡ Some w) → IsNamed (synonyms_of ds) (Some w)
      by (inr f) = known_in_prelude x w f
      by (inl f) =
          let h = stands_at sounds (length ps) 0 ts x w f in
          known_by w (length ps + h.place) (declaration_of (names_of ps ts sounds) (get_or sounds (length ps + h.place) false) (get_or ts h.place top.Empty))
          (there_text h.place)
          (standing_kind (names_of ps ts sounds) (get_or sounds (length ps + h.place) false) (length ps + h.place) (get_or ts h.place top.Empty) h.names w h.declares)

  known_before : (x : List ℕ) → IsNamed (synonyms_of ds) (standing_for x (names_before ps sounds))
  known_before x = by (standing_for x (names_before ps sounds)) refl
    where
      by : (o : Option Standing) → standing_for x (names_before ps sounds) ≡ o → IsNamed (synonyms_of ds) o
      by None e = tt
      by (Some w) e = known_in_prelude x w e

  known_there : (x : List ℕ) → IsNamed (synonyms_of ds) (standing_for x (names_of ps ts sounds))
  known_there x = by (standing_for x (names_of ps ts sounds)) refl
    where
      by : (o : Option Standing) → standing_for x (names_of ps ts sounds) ≡ o → IsNamed (synonyms_of ds) o
      by None e = tt
      by (Some w) e = known_in_text x w e

  built_before : (n : ℕ) → n < length ps → declaration_at es n ≡ built_declaration outlines (names_before ps sounds) (get_or sounds n false) (get_or ps n top.Empty)
  built_before n lt =
      let less : n < length (each_built_declaration outlines (names_before ps sounds) sounds 0 ps) = subst (λ z. n < z) (sym (size_built outlines (names_before ps sounds) sounds 0 ps)) lt in
      let e : 0 + n ≡ n = omega arith in
      get_or_append_left (each_built_declaration outlines (names_before ps sounds) sounds 0 ps) (each_built_declaration outlines (names_of ps ts sounds) sounds (length ps) ts) neither n less
      ∙ built_each outlines (names_before ps sounds) sounds 0 ps n
      ∙ ap (λ z. built_declaration outlines (names_before ps sounds) (get_or sounds z false) (get_or ps n top.Empty)) e

  built_text : (i : ℕ) → declaration_at es (length ps + i) ≡ built_declaration outlines (names_of ps ts sounds) (get_or sounds (length ps + i) false) (get_or ts i top.Empty)
  built_text i =
      ap (λ z. get_or (each_built_declaration outlines (names_before ps sounds) sounds 0 ps ++ each_built_declaration outlines (names_of ps ts sounds) sounds (length ps) ts) (z + i) neither) (sym (size_built outlines (names_before ps sounds) sounds 0 ps))
      ∙ get_or-append-add (each_built_declaration outlines (names_before ps sounds) sounds 0 ps) (each_built_declaration outlines (names_of ps ts sounds) sounds (length ps) ts) i neither
      ∙ built_each outlines (names_of ps ts sounds) sounds (length ps) ts i

  -- what holds of a declaration and of it as it is built
  abbrev Holds : Declaration → Declaration → Type 0
  Holds d e = SameKind d e × (each_expanded (synonyms_of ds) (full_meaning ds) (body_of e) ≡ each_expanded (synonyms_of ds) (full_meaning ds) (body_of d))
      × EachExact (synonyms_of ds) (full_meaning ds) (body_of e) × ((m : ℕ) → UsesOf (EachHas (body_of e)) m → UsesOf (EachHas (body_of d)) m)

  abbrev pub OutlinedAt : ℕ → Type 0
  OutlinedAt n = (b : ℕ) → UsesOf (EachHas (body_of (declaration_at ds n))) b → synonyms_of ds b ≡ true → IsOutline (outline_at outlines b) (full_meaning ds b)

  holds_by : (n : ℕ) → OutlinedAt n → (n < length ps) ⊎ (length ps ≤ n) → Holds (declaration_at ds n) (declaration_at es n)
  holds_by n o (inl lt) =
      let r = top_reduced (synonyms_of ds) (full_meaning ds) outlines (names_before ps sounds) known_before (get_or sounds n false) (get_or ps n top.Empty)
      (λ b u is. o b (subst (λ z. UsesOf (EachHas (body_of z)) b) (sym (there_before n lt)) u) is) in
      subst (λ z. Holds z (declaration_at es n)) (sym (there_before n lt)) (subst (Holds (declaration_of (names_before ps sounds) (get_or sounds n false) (get_or ps n top.Empty))) (sym (built_before n lt)) (r.kind, r.same, r.exact, r.within))
  holds_by n o (inr ge) =
      let i = n - length ps in
      let at : length ps + i ≡ n = omega (arith, ge) in
      let r = top_reduced (synonyms_of ds) (full_meaning ds) outlines (names_of ps ts sounds) known_there (get_or sounds (length ps + i) false) (get_or ts i top.Empty)
      (λ b u is. o b (subst (λ z. UsesOf (EachHas (body_of (declaration_at ds z))) b) at (subst (λ z. UsesOf (EachHas (body_of z)) b) (sym (there_text i)) u)) is) in
      subst (λ z. Holds (declaration_at ds z) (declaration_at es z)) at
      (subst (λ z. Holds z (declaration_at es (length ps + i))) (sym (there_text i)) (subst (Holds (declaration_of (names_of ps ts sounds) (get_or sounds (length ps + i) false) (get_or ts i top.Empty))) (sym (built_text i)) (r.kind, r.same, r.exact, r.within)))

  -- a declaration that is built expands as it is written
  pub holds_at : (n : ℕ) → OutlinedAt n → Holds (declaration_at ds n) (declaration_at es n)
  holds_at n o = holds_by n o (cases_lt n (length ps))

  -- the declarations that are built expand as those that are written, and name no more
  pub all_reduced : ((n : ℕ) → synonyms_of ds n ≡ true → IsOutline (outline_at outlines n) (full_meaning ds n)) → AreReduced (declarations_by ps ts sounds) (built_by outlines ps ts sounds) (full_meaning (declarations_by ps ts sounds))
  all_reduced outlined = record {
    kinds = λ n. (holds_at n (λ b u is. outlined b is)).0;
    same = λ n. (holds_at n (λ b u is. outlined b is)).1;
    exact = λ n. (holds_at n (λ b u is. outlined b is)).2;
    within = λ n m u. (holds_at n (λ b u is. outlined b is)).3 m u;
  }

  -- ---- outlines

  -- what is known of a synonym by its built meaning is so
  pub outline_right : (n : ℕ) → synonyms_of ds n ≡ true → OutlinedAt n → IsOutline (outline_of (body_of (declaration_at es n))) (full_meaning ds n)
  outline_right n is o = by (declaration_at es n) (declaration_at ds n) refl (holds_at n o) is
    where
      solved : full_meaning ds n ≡ expanded (synonyms_of ds) (full_meaning ds) (meaning_of (declaration_at ds n))
      solved = full_solved ds (rank ps ts sounds before text ranked_before ranked apart_before apart) (rank_falls ps ts sounds before text ranked_before ranked apart_before apart) n is (rank_bounded ps ts sounds before text ranked_before ranked apart_before apart n is)

      of_flag : (t : Resolved) (j : ℕ) → (is_held [] j ≡ true) ⊎ Has t (parameter j) → Has t (parameter j)
      of_flag t j (inl e) = cc
      of_flag t j (inr h) = h

      right : (t : Resolved) → full_meaning ds n ≡ expanded (synonyms_of ds) (full_meaning ds) t → EachExact (synonyms_of ds) (full_meaning ds) (next_part t no_part) → IsOutline (outline_of (next_part t no_part)) (full_meaning ds n)
      right t e x = record {
        alias = sym (ap alias_of e ∙ alias_expanded (synonyms_of ds) (full_meaning ds) t x.0);
        held = λ j f. subst (λ z. Has z (parameter j)) (sym e) (has_held (synonyms_of ds) (full_meaning ds) t j x.0 (of_each t j (each_of_flag [] (next_part t no_part) j f)));
        all = λ j h. flag_of_each [] (next_part t no_part) j (inl (holds_of (synonyms_of ds) (full_meaning ds) t j (subst (λ z. Has z (parameter j)) e h)));
      }
        where
          of_each : (t : Resolved) (j : ℕ) → (is_held [] j ≡ true) ⊎ EachHas (next_part t no_part) (parameter j) → Has t (parameter j)
          of_each t j (inl e) = cc
          of_each t j (inr (inl h)) = h
          of_each t j (inr (inr h)) = absurd h

      by : (e d : Declaration) → declaration_at ds n ≡ d → Holds d e → is_synonym d ≡ true → IsOutline (outline_of (body_of e)) (full_meaning ds n)
      by (synonym t) (synonym u) ise h so = right t (solved ∙ ap (λ z. expanded (synonyms_of ds) (full_meaning ds) (meaning_of z)) ise ∙ ap (part_at 0) (sym h.1)) h.2
      by (synonym t) (data_type k us) ise h so = cc
      by (synonym t) neither ise h so = cc
      by (data_type k ts) (synonym u) ise h so = absurd h.0
      by (data_type k ts) (data_type l us) ise h so = cc
      by (data_type k ts) neither ise h so = cc
      by neither (synonym u) ise h so = absurd h.0
      by neither (data_type l us) ise h so = cc
      by neither neither ise h so = cc
