-- What is found is what breaks the rule.
use Rattle.std.proofs.Common.{◌≡◌, ℕ, suc, ◌+◌, ◌-◌, ◌<◌, ◌≤◌, Bool, true, false, IsTrue, List, [], ◌∷◌, Option, length, get_or, drop, refl, sym, ap, subst, ◌∙◌, arith}
use Rattle.std.proofs.lemmas.List.{get_or_append_left, get_or-append-add}
use Rattle.hdc_tree.specs.declared.program.Top.{Top}
use Rattle.hdc_graph.specs.Needs.{Nodes, Reaches, IsClosed, IsNumbering, AreCyclic}
use Rattle.hdc_written.specs.declared.breach.Breach.{Breach}
use Rattle.hdc_written.specs.Breaches.{IsOneOf}
use Rattle.hdc_rules.specs.Known.{Counted, prelude_known, program_known}
use Rattle.hdc_synonyms.specs.Synonyms.{synonym_needs}
use Rattle.hdc_regular.specs.Laws.{AreRanked}
use Rattle.hdc_regular.specs.declared.outline.Outline.{Outline}
use Rattle.hdc_regular.specs.Resolved.{Has, Declaration, declaration_at, meaning_of}
use Rattle.hdc_regular.specs.Expansion.{synonyms_of, full_meaning, IsIrregularUse}
use Rattle.hdc_regular.specs.Named.{body_of, named_needs}
use Rattle.hdc_regular.specs.Standings.{each_sound}
use Rattle.hdc_regular.specs.Irregular.{sounds_of, declarations_by, IsIrregular}
use Rattle.hdc_regular.specs.Walk.{Tables, one_of, each_wrong, is_nothing, is_in_group}
use Rattle.hdc_regular.specs.Building.{outline_at}
use Rattle.hdc_regular.specs.Built.{built_by}
use Rattle.hdc_regular.specs.Model.{all_wrong}
use Rattle.hdc_regular.proofs.BuiltTypes.{IsOutline}
use Rattle.hdc_regular.proofs.Fitting.{AreFitting, all_fitting}
use Rattle.hdc_regular.proofs.Groups.{UsesOf}
use Rattle.hdc_regular.proofs.Ranks.{rank, rank_falls, rank_bounded, sound_apart, never_reaches}
use Rattle.hdc_regular.proofs.Reduced.{AreReduced, are_solved, found_irregular, all_found}
use Rattle.hdc_regular.proofs.Whole.{all_reduced}

-- ---- which nodes reach themselves is known in one way

same_flag : (a b : Bool) → (IsTrue a → IsTrue b) → (IsTrue b → IsTrue a) → a ≡ b
same_flag true true h k = refl
same_flag true false h k = sym (h refl)
same_flag false true h k = k refl
same_flag false false h k = refl

same_flags : (xs ys : List Bool) → length xs ≡ length ys → ((i : ℕ) → i < length xs → get_or xs i false ≡ get_or ys i false) → xs ≡ ys
same_flags [] [] e h = refl
same_flags [] (y ∷ ys) e h = absurd (omega (arith, e))
same_flags (x ∷ xs) [] e h = absurd (omega (arith, e))
same_flags (x ∷ xs) (y ∷ ys) e h =
    let size : length xs ≡ length ys = omega (arith, e) in
    ap (λ z. z ∷ xs) (h 0 (omega arith)) ∙ ap (λ z. y ∷ z) (same_flags xs ys size (λ i lt. h (suc i) (omega (arith, lt))))

one_cyclic : (g : Nodes) (xs ys : List Bool) → AreCyclic g xs → AreCyclic g ys → xs ≡ ys
one_cyclic g xs ys h k =
    same_flags xs ys (h.each ∙ sym k.each)
    (λ i lt. let there : i < length g = subst (λ z. i < z) h.each lt in
    same_flag (get_or xs i false) (get_or ys i false) (λ t. (k.reaches i there).1 ((h.reaches i there).0 t)) (λ t. (h.reaches i there).1 ((k.reaches i there).0 t)))

size_each_sound : (types : Counted) (cyclic : List Bool) (n : ℕ) (ts : List Top) → length (each_sound types cyclic n ts) ≡ length ts
size_each_sound types cyclic n [] = refl
size_each_sound types cyclic n (t ∷ ts) = ap (λ z. suc z) (size_each_sound types cyclic (suc n) ts)

-- ---- both texts

module _ (ps ts : List Top) (cyclic_before cyclic : List Bool) (are_before : AreCyclic (synonym_needs ps) cyclic_before) (are_cyclic : AreCyclic (synonym_needs ts) cyclic)
    (before text : List ℕ) (ranked_before : AreRanked (synonym_needs ps) before) (ranked : AreRanked (synonym_needs ts) text) where
  abbrev pub sounds : List Bool
  sounds = sounds_of ps ts cyclic_before cyclic

  pub apart_before : (i : ℕ) → i < length ps → get_or (sounds_of ps ts cyclic_before cyclic) i false ≡ true → Reaches (synonym_needs ps) i i → ⊥
  apart_before i lt e r =
      let less : i < length (each_sound (prelude_known ps).types cyclic_before 0 ps) = subst (λ z. i < z) (sym (size_each_sound (prelude_known ps).types cyclic_before 0 ps)) lt in
      let here : get_or (each_sound (prelude_known ps).types cyclic_before 0 ps) i false ≡ true
      = sym (get_or_append_left (each_sound (prelude_known ps).types cyclic_before 0 ps) (each_sound (program_known ps ts).types cyclic 0 ts) false i less) ∙ e in
      let same : 0 + i ≡ i = omega arith in
      never_reaches (synonym_needs ps) cyclic_before are_before i (subst (λ z. get_or cyclic_before z false ≡ false) same (sound_apart (prelude_known ps).types cyclic_before 0 ps i here)) r

  pub apart : (i : ℕ) → get_or (sounds_of ps ts cyclic_before cyclic) (length ps + i) false ≡ true → Reaches (synonym_needs ts) i i → ⊥
  apart i e r =
      let there : get_or (sounds_of ps ts cyclic_before cyclic) (length ps + i) false ≡ get_or (each_sound (program_known ps ts).types cyclic 0 ts) i false
      = ap (λ z. get_or (sounds_of ps ts cyclic_before cyclic) (z + i) false) (sym (size_each_sound (prelude_known ps).types cyclic_before 0 ps))
      ∙ get_or-append-add (each_sound (prelude_known ps).types cyclic_before 0 ps) (each_sound (program_known ps ts).types cyclic 0 ts) i false in
      let same : 0 + i ≡ i = omega arith in
      never_reaches (synonym_needs ts) cyclic are_cyclic i (subst (λ z. get_or cyclic z false ≡ false) same (sound_apart (program_known ps ts).types cyclic 0 ts i (sym there ∙ e))) r

  abbrev pub whole : List Declaration
  whole = declarations_by ps ts (sounds_of ps ts cyclic_before cyclic)

  module _ (outlines : List Outline) (outlined : (n : ℕ) → synonyms_of whole n ≡ true → IsOutline (outline_at outlines n) (full_meaning whole n)) where
    abbrev pub es : List Declaration
    es = built_by outlines ps ts (sounds_of ps ts cyclic_before cyclic)

    reduced : AreReduced whole es (full_meaning whole)
    reduced = all_reduced ps ts (sounds_of ps ts cyclic_before cyclic) before text ranked_before ranked apart_before apart outlines outlined

    module _ (closed : IsClosed (named_needs es)) (numbers : List ℕ) (numbering : IsNumbering (named_needs es) numbers) (fits : ℕ → ℕ → List (Option ℕ) → Bool) where
      -- what is known of the built declarations
      abbrev pub known_es : Tables
      known_es = record { synonyms = synonyms_of es; fits = fits }

      module _ (judged : (n : ℕ) → synonyms_of es n ≡ true → (k : ℕ) (vs : List (Option ℕ)) → fits n k vs ≡ is_nothing (each_wrong known_es (is_in_group numbers (get_or numbers n 0)) k (one_of vs) (body_of (declaration_at es n)))) where
        abbrev ranks : ℕ → ℕ
        ranks = rank ps ts (sounds_of ps ts cyclic_before cyclic) before text ranked_before ranked apart_before apart

        falls : (a b : ℕ) → synonyms_of whole a ≡ true → UsesOf (Has (meaning_of (declaration_at whole a))) b → synonyms_of whole b ≡ true → ranks b < ranks a
        falls = rank_falls ps ts (sounds_of ps ts cyclic_before cyclic) before text ranked_before ranked apart_before apart

        bounded : (n : ℕ) → synonyms_of whole n ≡ true → ranks n < length whole
        bounded = rank_bounded ps ts (sounds_of ps ts cyclic_before cyclic) before text ranked_before ranked apart_before apart

        fitting : (e : ℕ) → AreFitting known_es (full_meaning whole) (is_in_group numbers (get_or numbers e 0)) (body_of (declaration_at es e))
        fitting = all_fitting es (full_meaning whole) ranks (are_solved whole es ranks reduced falls bounded) closed numbers numbering fits judged

        -- each breach that is found is one of the rule
        pub found_is : (b : Breach) → IsOneOf b (all_wrong known_es numbers (length ps) (drop (length ps) es)) → IsIrregular ps ts b
        found_is b h = by (found_irregular whole es ranks reduced falls bounded closed numbers numbering fits fitting (length ps) b h)
          where
            by : (n : ℕ) × (length ps ≤ n) × IsIrregularUse whole n b.at × (b.rule ≡ 10) → IsIrregular ps ts b
            by (n, le, u, r) = record {
              rule = r;
              cyclic_before = cyclic_before;
              are_before = are_before;
              cyclic = cyclic;
              are_cyclic = are_cyclic;
              number = n;
              of_text = le;
              irregular = u;
            }

        -- and each breach of the rule is found
        pub is_found : (b : Breach) → IsIrregular ps ts b → IsOneOf b (all_wrong known_es numbers (length ps) (drop (length ps) es))
        is_found b h =
            let same : sounds_of ps ts h.cyclic_before h.cyclic ≡ sounds_of ps ts cyclic_before cyclic
            = ap (λ z. sounds_of ps ts z h.cyclic) (one_cyclic (synonym_needs ps) h.cyclic_before cyclic_before h.are_before are_before)
            ∙ ap (λ z. sounds_of ps ts cyclic_before z) (one_cyclic (synonym_needs ts) h.cyclic cyclic h.are_cyclic are_cyclic) in
            let u : IsIrregularUse whole h.number b.at = subst (λ z. IsIrregularUse (declarations_by ps ts z) h.number b.at) same h.irregular in
            let le = h.of_text in
            let e : length ps + (h.number - length ps) ≡ h.number = omega (arith, le) in
            subst (λ z. IsOneOf (record { rule = z; at = b.at }) (all_wrong known_es numbers (length ps) (drop (length ps) es))) (sym h.rule)
            (all_found whole es ranks reduced falls bounded closed numbers numbering fits fitting (length ps) h.number (h.number - length ps) b.at e u)
