-- Each synonym comes behind those that it names.
use Rattle.std.proofs.Common.{◌≡◌, ◌⊎◌, inl, inr, ℕ, zero, suc, ◌+◌, ◌-◌, ◌<◌, ◌≤◌, Bool, true, false, IsTrue, List, [], ◌∷◌, ◌++◌, Some, length, get_or, Contains, refl, sym, ap, subst, ◌∙◌, arith, length-append}
use Rattle.std.proofs.lemmas.List.{get_or_past, get_or_append_left, get_or-append-add}
use Rattle.std.proofs.lemmas.Bool.{cases_lt}
use Rattle.hdc_tree.specs.declared.program.Synonym.{Synonym}
use Rattle.hdc_tree.specs.declared.program.Top.{Top}
use Rattle.hdc_tree.specs.declared.program.Top.TheVariants as top
use Rattle.hdc_graph.specs.Needs.{Nodes, Needs, Reaches, one, further, AreMutual, AreCyclic}
use Rattle.hdc_written.specs.declared.breach.Breach.{Breach}
use Rattle.hdc_written.specs.Scopes.{Binding, standing_for}
use Rattle.hdc_written.specs.TypeMirror.{type_exp_of}
use Rattle.hdc_rules.specs.Known.{Counted}
use Rattle.hdc_rules.specs.Bindings.{typed_breaches}
use Rattle.hdc_synonyms.specs.Synonyms.{top_needs, each_top_needs, declared_types, synonym_needs}
use Rattle.hdc_synonyms.proofs.Adding.{size_each_top_needs}
use Rattle.hdc_regular.specs.Laws.{AreRanked}
use Rattle.hdc_regular.specs.declared.standing.Standing.{Standing}
use Rattle.hdc_regular.specs.declared.standing.Standing.TheVariants as standing
use Rattle.hdc_regular.specs.Resolved.{Has, Declaration, neither, declaration_at, is_synonym, meaning_of}
use Rattle.hdc_regular.specs.Expansion.{synonyms_of}
use Rattle.hdc_regular.specs.Standings.{is_sound, each_sound, top_standings, each_standing}
use Rattle.hdc_regular.specs.Resolving.{params_from, resolved, declaration_of, each_declaration}
use Rattle.hdc_regular.specs.Irregular.{names_before, names_of, declarations_by}
use Rattle.hdc_regular.proofs.Groups.{UsesOf}
use Rattle.hdc_regular.proofs.Components.{needing_below}
use Rattle.hdc_regular.proofs.NamedTypes.{IsNumber, of_two, stands_at, resolved_needs}

-- ---- a node that does not reach itself has a higher number than those that it needs

two_ways : {g : Nodes} {a b c : ℕ} → Reaches g a b → Reaches g b c → Reaches g a c
two_ways (one a b n) r = further a b _ n r
two_ways (further a b c n s) r = further a b _ n (two_ways s r)

number_falls : (g : Nodes) (numbers : List ℕ) → AreRanked g numbers → (a b : ℕ) → Needs g a b → (Reaches g a a → ⊥) → get_or numbers b 0 < get_or numbers a 0
number_falls g numbers h a b need never = by (cases_lt (get_or numbers b 0) (get_or numbers a 0))
  where
    mutual_never : AreMutual g a b → ⊥
    mutual_never (inl e) = never (subst (Reaches g a) (sym e) (one a b need))
    mutual_never (inr r) = never (two_ways r.0 r.1)

    by : (get_or numbers b 0 < get_or numbers a 0) ⊎ (get_or numbers a 0 ≤ get_or numbers b 0) → get_or numbers b 0 < get_or numbers a 0
    by (inl lt) = lt
    by (inr ge) =
        let le : get_or numbers b 0 ≤ get_or numbers a 0 = h.first a b need in
        let same : get_or numbers a 0 ≡ get_or numbers b 0 = omega (arith, le, ge) in
        absurd (mutual_never ((h.numbering.agree a b (needing_below g a b need) (h.closed a b need)).0 same))

-- ---- declarations by their numbers

pub declaration_each : (names : List (Binding Standing)) (sounds : List Bool) (n : ℕ) (ts : List Top) (i : ℕ)
    → declaration_at (each_declaration names sounds n ts) i ≡ declaration_of names (get_or sounds (n + i) false) (get_or ts i top.Empty)
declaration_each names sounds n [] i = refl
declaration_each names sounds n (t ∷ ts) zero = let e : n ≡ n + 0 = omega arith in ap (λ z. declaration_of names (get_or sounds z false) t) e
declaration_each names sounds n (t ∷ ts) (suc i) = let e : suc n + i ≡ n + suc i = omega arith in declaration_each names sounds (suc n) ts i ∙ ap (λ z. declaration_of names (get_or sounds z false) (get_or ts i top.Empty)) e

pub size_each_declaration : (names : List (Binding Standing)) (sounds : List Bool) (n : ℕ) (ts : List Top) → length (each_declaration names sounds n ts) ≡ length ts
size_each_declaration names sounds n [] = refl
size_each_declaration names sounds n (t ∷ ts) = ap (λ z. suc z) (size_each_declaration names sounds (suc n) ts)

-- what a synonym is
pub record IsSynonymTop (names : List (Binding Standing)) (sound : Bool) (t : Top) : Type 0 where
  pub synonym_of : Synonym
  pub is_top : t ≡ top.Synonym synonym_of
  pub is_so : sound ≡ true
  pub means : meaning_of (declaration_of names sound t) ≡ resolved names (params_from 0 synonym_of.params) (type_exp_of synonym_of.meaning)

pub synonym_top : (names : List (Binding Standing)) (sound : Bool) (t : Top) → is_synonym (declaration_of names sound t) ≡ true → IsSynonymTop names sound t
synonym_top names sound (top.Data d) e = cc
synonym_top names true (top.Synonym s) e = record { synonym_of = s; is_top = refl; is_so = refl; means = refl }
synonym_top names false (top.Synonym s) e = cc
synonym_top names sound top.Empty e = cc
synonym_top names sound (top.Fixity f) e = cc
synonym_top names sound (top.Signature x xs a t) e = cc
synonym_top names sound (top.Equation h r) e = cc

abbrev pub what_of : List (Binding Standing) → Standing
what_of [] = standing.NotExpanded
what_of (b ∷ bs) = b.what

-- the number that a name of this declaration stands for
standing_number : (sound : Bool) (n : ℕ) (t : Top) (name : List ℕ) (w : Standing) (b : ℕ) → top_standings sound n t ≡ record { name = name; what = w } ∷ [] → IsNumber w b → n ≡ b
standing_number sound n (top.Data d) name w b e is = let same : standing.DataType n ≡ w = ap what_of e in subst (λ z. IsNumber z b) (sym same) is
standing_number true n (top.Synonym s) name w b e is = let same : standing.Synonym n (length s.params) ≡ w = ap what_of e in subst (λ z. IsNumber z b) (sym same) is
standing_number false n (top.Synonym s) name w b e is = let same : standing.NotExpanded ≡ w = ap what_of e in absurd (subst (λ z. IsNumber z b) (sym same) is)
standing_number sound n top.Empty name w b e is = cc
standing_number sound n (top.Fixity f) name w b e is = cc
standing_number sound n (top.Signature x xs a t) name w b e is = cc
standing_number sound n (top.Equation h r) name w b e is = cc

needs_each : (declared : List (Binding ℕ)) (ts : List Top) (i : ℕ) → get_or (each_top_needs declared ts) i [] ≡ top_needs declared (get_or ts i top.Empty)
needs_each declared [] i = refl
needs_each declared (t ∷ ts) zero = refl
needs_each declared (t ∷ ts) (suc i) = needs_each declared ts i

-- a sound declaration does not reach itself
pub sound_apart : (types : Counted) (cyclic : List Bool) (n : ℕ) (ts : List Top) (i : ℕ) → get_or (each_sound types cyclic n ts) i false ≡ true → get_or cyclic (n + i) false ≡ false
sound_apart types cyclic n [] i e = cc
sound_apart types cyclic n (t ∷ ts) zero e = let same : n ≡ n + 0 = omega arith in subst (λ z. get_or cyclic z false ≡ false) same (by (typed_breaches types t) (get_or cyclic n false) e)
  where
    by : (bs : List Breach) (c : Bool) → is_sound bs c ≡ true → c ≡ false
    by [] true d = cc
    by [] false d = refl
    by (b ∷ bs) c d = cc
sound_apart types cyclic n (t ∷ ts) (suc i) e = let same : suc n + i ≡ n + suc i = omega arith in subst (λ z. get_or cyclic z false ≡ false) same (sound_apart types cyclic (suc n) ts i e)

not_true : (b : Bool) → IsTrue b → b ≡ false → ⊥
not_true true t e = cc
not_true false t e = cc

pub never_reaches : (g : Nodes) (cyclic : List Bool) → AreCyclic g cyclic → (i : ℕ) → get_or cyclic i false ≡ false → Reaches g i i → ⊥
never_reaches g cyclic h i e r = by (cases_lt i (length g))
  where
    first_below : {a b : ℕ} → Reaches g a b → a < length g
    first_below (one a b n) = needing_below g a b n
    first_below (further a b c n s) = needing_below g a b n

    by : (i < length g) ⊎ (length g ≤ i) → ⊥
    by (inl lt) = not_true (get_or cyclic i false) ((h.reaches i lt).1 r) e
    by (inr ge) = let lt = first_below r in omega (arith, lt, ge)

-- ---- both texts

module _ (ps ts : List Top) (sounds : List Bool) (before text : List ℕ)
    (ranked_before : AreRanked (synonym_needs ps) before) (ranked : AreRanked (synonym_needs ts) text)
    (apart_before : (i : ℕ) → i < length ps → get_or sounds i false ≡ true → Reaches (synonym_needs ps) i i → ⊥)
    (apart : (i : ℕ) → get_or sounds (length ps + i) false ≡ true → Reaches (synonym_needs ts) i i → ⊥) where
  abbrev pub all : List Declaration
  all = declarations_by ps ts sounds

  pub at_before : (n : ℕ) → n < length ps → declaration_at all n ≡ declaration_of (names_before ps sounds) (get_or sounds n false) (get_or ps n top.Empty)
  at_before n lt =
      let less : n < length (each_declaration (names_before ps sounds) sounds 0 ps) = subst (λ z. n < z) (sym (size_each_declaration (names_before ps sounds) sounds 0 ps)) lt in
      let e : 0 + n ≡ n = omega arith in
      get_or_append_left (each_declaration (names_before ps sounds) sounds 0 ps) (each_declaration (names_of ps ts sounds) sounds (length ps) ts) neither n less
      ∙ declaration_each (names_before ps sounds) sounds 0 ps n
      ∙ ap (λ z. declaration_of (names_before ps sounds) (get_or sounds z false) (get_or ps n top.Empty)) e

  pub at_text : (i : ℕ) → declaration_at all (length ps + i) ≡ declaration_of (names_of ps ts sounds) (get_or sounds (length ps + i) false) (get_or ts i top.Empty)
  at_text i =
      ap (λ z. get_or (each_declaration (names_before ps sounds) sounds 0 ps ++ each_declaration (names_of ps ts sounds) sounds (length ps) ts) (z + i) neither) (sym (size_each_declaration (names_before ps sounds) sounds 0 ps))
      ∙ get_or-append-add (each_declaration (names_before ps sounds) sounds 0 ps) (each_declaration (names_of ps ts sounds) sounds (length ps) ts) i neither
      ∙ declaration_each (names_of ps ts sounds) sounds (length ps) ts i

  abbrev rank_by : (n : ℕ) → (n < length ps) ⊎ (length ps ≤ n) → ℕ
  rank_by n (inl lt) = get_or before n 0
  rank_by n (inr ge) = length ps + get_or text (n - length ps) 0

  -- the synonyms of the prelude come first, and those of a text by the numbers of their components
  abbrev pub rank : ℕ → ℕ
  rank n = rank_by n (cases_lt n (length ps))

  -- ---- links from names to numbers

  link_before : (b : ℕ) (x : List ℕ) (w : Standing) → standing_for x (names_before ps sounds) ≡ Some w → IsNumber w b → standing_for x (declared_types 0 ps) ≡ Some b
  link_before b x w e is =
      let h = stands_at sounds 0 0 ps x w e in
      let number : 0 + h.place ≡ b = standing_number (get_or sounds (0 + h.place) false) (0 + h.place) (get_or ps h.place top.Empty) h.names w b h.declares is in
      h.declared ∙ ap (λ z. Some z) number

  below_before : (b : ℕ) (x : List ℕ) (w : Standing) → standing_for x (names_before ps sounds) ≡ Some w → IsNumber w b → b < length ps
  below_before b x w e is =
      let h = stands_at sounds 0 0 ps x w e in
      let number : 0 + h.place ≡ b = standing_number (get_or sounds (0 + h.place) false) (0 + h.place) (get_or ps h.place top.Empty) h.names w b h.declares is in
      let lt = h.within in omega (arith, number, lt)

  link_text : (b j : ℕ) → length ps + j ≡ b → (x : List ℕ) (w : Standing) → standing_for x (names_of ps ts sounds) ≡ Some w → IsNumber w b → standing_for x (declared_types 0 ts) ≡ Some j
  link_text b j at x w e is = by (of_two x (each_standing sounds (length ps) ts) (names_before ps sounds) w e)
    where
      by : (standing_for x (each_standing sounds (length ps) ts) ≡ Some w) ⊎ (standing_for x (names_before ps sounds) ≡ Some w) → standing_for x (declared_types 0 ts) ≡ Some j
      by (inl f) =
          let h = stands_at sounds (length ps) 0 ts x w f in
          let number : length ps + h.place ≡ b = standing_number (get_or sounds (length ps + h.place) false) (length ps + h.place) (get_or ts h.place top.Empty) h.names w b h.declares is in
          let same : 0 + h.place ≡ j = omega (arith, number, at) in
          h.declared ∙ ap (λ z. Some z) same
      by (inr f) = let lt = below_before b x w f is in absurd (omega (arith, lt, at))

  -- ---- a synonym needs those that it names

  pub needs_before : (a b : ℕ) → a < length ps → synonyms_of all a ≡ true → UsesOf (Has (meaning_of (declaration_at all a))) b → Needs (synonym_needs ps) a b
  needs_before a b lt is u =
      let same = at_before a lt in
      let h = synonym_top (names_before ps sounds) (get_or sounds a false) (get_or ps a top.Empty) (subst (λ z. is_synonym z ≡ true) same is) in
      let v : UsesOf (Has (resolved (names_before ps sounds) (params_from 0 h.synonym_of.params) (type_exp_of h.synonym_of.meaning))) b = subst (λ z. UsesOf (Has z) b) (ap meaning_of same ∙ h.means) u in
      subst (λ z. Contains z b) (sym (needs_each (declared_types 0 ps) ps a ∙ ap (top_needs (declared_types 0 ps)) h.is_top))
      (resolved_needs (names_before ps sounds) (params_from 0 h.synonym_of.params) (declared_types 0 ps) b b (link_before b) (type_exp_of h.synonym_of.meaning) v)

  pub needs_text : (i b j : ℕ) → length ps + j ≡ b → synonyms_of all (length ps + i) ≡ true → UsesOf (Has (meaning_of (declaration_at all (length ps + i)))) b → Needs (synonym_needs ts) i j
  needs_text i b j at is u =
      let same = at_text i in
      let h = synonym_top (names_of ps ts sounds) (get_or sounds (length ps + i) false) (get_or ts i top.Empty) (subst (λ z. is_synonym z ≡ true) same is) in
      let v : UsesOf (Has (resolved (names_of ps ts sounds) (params_from 0 h.synonym_of.params) (type_exp_of h.synonym_of.meaning))) b = subst (λ z. UsesOf (Has z) b) (ap meaning_of same ∙ h.means) u in
      subst (λ z. Contains z j) (sym (needs_each (declared_types 0 ts) ts i ∙ ap (top_needs (declared_types 0 ts)) h.is_top))
      (resolved_needs (names_of ps ts sounds) (params_from 0 h.synonym_of.params) (declared_types 0 ts) b j (link_text b j at) (type_exp_of h.synonym_of.meaning) v)

  -- a synonym of the prelude names none of the text
  pub stays_before : (a b : ℕ) → a < length ps → synonyms_of all a ≡ true → UsesOf (Has (meaning_of (declaration_at all a))) b → b < length ps
  stays_before a b lt is u =
      let need = needs_before a b lt is u in
      subst (λ z. b < z) (size_each_top_needs (declared_types 0 ps) ps) (ranked_before.closed a b need)

  pub sound_before : (a : ℕ) → a < length ps → synonyms_of all a ≡ true → get_or sounds a false ≡ true
  sound_before a lt is = (synonym_top (names_before ps sounds) (get_or sounds a false) (get_or ps a top.Empty) (subst (λ z. is_synonym z ≡ true) (at_before a lt) is)).is_so

  pub sound_text : (i : ℕ) → synonyms_of all (length ps + i) ≡ true → get_or sounds (length ps + i) false ≡ true
  sound_text i is = (synonym_top (names_of ps ts sounds) (get_or sounds (length ps + i) false) (get_or ts i top.Empty) (subst (λ z. is_synonym z ≡ true) (at_text i) is)).is_so

  below_number : (a : ℕ) → a < length ps → get_or before a 0 < length ps
  below_number a lt =
      let size : length (synonym_needs ps) ≡ length ps = size_each_top_needs (declared_types 0 ps) ps in
      subst (λ z. get_or before a 0 < z) size (ranked_before.below a (subst (λ z. a < z) (sym size) lt))

  falls_before : (a b : ℕ) → a < length ps → synonyms_of all a ≡ true → UsesOf (Has (meaning_of (declaration_at all a))) b → get_or before b 0 < get_or before a 0
  falls_before a b lt is u = number_falls (synonym_needs ps) before ranked_before a b (needs_before a b lt is u) (apart_before a lt (sound_before a lt is))

  falls_text : (i j b : ℕ) → length ps + j ≡ b → synonyms_of all (length ps + i) ≡ true → UsesOf (Has (meaning_of (declaration_at all (length ps + i)))) b → get_or text j 0 < get_or text i 0
  falls_text i j b at is u = number_falls (synonym_needs ts) text ranked i j (needs_text i b j at is u) (apart i (sound_text i is))

  falls_by : (a b : ℕ) (s : (a < length ps) ⊎ (length ps ≤ a)) (t : (b < length ps) ⊎ (length ps ≤ b)) → synonyms_of all a ≡ true → UsesOf (Has (meaning_of (declaration_at all a))) b → rank_by b t < rank_by a s
  falls_by a b (inl lt) (inl less) is u = falls_before a b lt is u
  falls_by a b (inl lt) (inr ge) is u = let less = stays_before a b lt is u in absurd (omega (arith, less, ge))
  falls_by a b (inr ge) (inl less) is u = let below = below_number b less in omega (arith, below)
  falls_by a b (inr ge) (inr more) is u =
      let ea : length ps + (a - length ps) ≡ a = omega (arith, ge) in
      let eb : length ps + (b - length ps) ≡ b = omega (arith, more) in
      let f = falls_text (a - length ps) (b - length ps) b eb (subst (λ z. synonyms_of all z ≡ true) (sym ea) is) (subst (λ z. UsesOf (Has (meaning_of (declaration_at all z))) b) (sym ea) u) in
      omega (arith, f)

  pub rank_falls : (a b : ℕ) → synonyms_of all a ≡ true → UsesOf (Has (meaning_of (declaration_at all a))) b → synonyms_of all b ≡ true → rank b < rank a
  rank_falls a b is u so = falls_by a b (cases_lt a (length ps)) (cases_lt b (length ps)) is u

  -- ---- ranks are below the number of declarations

  pub size_all : length all ≡ length ps + length ts
  size_all =
      length-append (each_declaration (names_before ps sounds) sounds 0 ps) (each_declaration (names_of ps ts sounds) sounds (length ps) ts)
      ∙ ap (λ z. z + length (each_declaration (names_of ps ts sounds) sounds (length ps) ts)) (size_each_declaration (names_before ps sounds) sounds 0 ps)
      ∙ ap (λ z. length ps + z) (size_each_declaration (names_of ps ts sounds) sounds (length ps) ts)

  pub in_text : (i : ℕ) → synonyms_of all (length ps + i) ≡ true → i < length ts
  in_text i is = by (cases_lt i (length ts))
    where
      none : length ts ≤ i → ⊥
      none ge =
          let h = synonym_top (names_of ps ts sounds) (get_or sounds (length ps + i) false) (get_or ts i top.Empty) (subst (λ z. is_synonym z ≡ true) (at_text i) is) in
          let e : top.Empty ≡ top.Synonym h.synonym_of = sym (get_or_past ts i top.Empty ge) ∙ h.is_top in cc

      by : (i < length ts) ⊎ (length ts ≤ i) → i < length ts
      by (inl lt) = lt
      by (inr ge) = absurd (none ge)

  bounded_by : (n : ℕ) (s : (n < length ps) ⊎ (length ps ≤ n)) → synonyms_of all n ≡ true → rank_by n s < length ps + length ts
  bounded_by n (inl lt) is = let below = below_number n lt in omega (arith, below)
  bounded_by n (inr ge) is =
      let e : length ps + (n - length ps) ≡ n = omega (arith, ge) in
      let lt = in_text (n - length ps) (subst (λ z. synonyms_of all z ≡ true) (sym e) is) in
      let size : length (synonym_needs ts) ≡ length ts = size_each_top_needs (declared_types 0 ts) ts in
      let below : get_or text (n - length ps) 0 < length ts = subst (λ z. get_or text (n - length ps) 0 < z) size (ranked.below (n - length ps) (subst (λ z. n - length ps < z) (sym size) lt)) in
      omega (arith, below)

  pub rank_bounded : (n : ℕ) → synonyms_of all n ≡ true → rank n < length all
  rank_bounded n is = subst (λ z. rank n < z) (sym size_all) (bounded_by n (cases_lt n (length ps)) is)
