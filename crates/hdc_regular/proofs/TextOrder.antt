-- The groups of a prelude, and behind them those of a text, are an order of the synonyms of both.
use Rattle.std.proofs.Common.{◌≡◌, ◌⊎◌, inl, inr, ℕ, ◌+◌, ◌-◌, ◌<◌, ◌≤◌, Bool, true, false, List, ◌++◌, length, get_or, Contains, sym, subst, arith}
use Rattle.std.proofs.lemmas.Bool.{cases_lt}
use Rattle.hdc_tree.specs.declared.program.Top.{Top}
use Rattle.hdc_graph.specs.Lists.{Has as In}
use Rattle.hdc_graph.specs.Needs.{Needs, Reaches}
use Rattle.hdc_graph.specs.Groups.{AreGroups}
use Rattle.hdc_synonyms.specs.Synonyms.{declared_types, synonym_needs}
use Rattle.hdc_synonyms.proofs.Adding.{size_each_top_needs}
use Rattle.hdc_regular.specs.Laws.{AreRanked}
use Rattle.hdc_regular.specs.Resolved.{Has, Declaration, declaration_at, meaning_of}
use Rattle.hdc_regular.specs.Expansion.{synonyms_of}
use Rattle.hdc_regular.specs.Named.{body_of, named_needs, NamesSynonym}
use Rattle.hdc_regular.specs.Irregular.{declarations_by}
use Rattle.hdc_synonyms.specs.Adding.{AllBelow}
use Rattle.hdc_regular.specs.Order.{IsOrder, group_order}
use Rattle.hdc_regular.proofs.Groups.{UsesOf, of_each_types_in, needs_named}
use Rattle.hdc_regular.proofs.Ranks.{needs_before, needs_text, sound_before, sound_text, in_text}
use Rattle.hdc_regular.proofs.Reduced.{of_meaning}
use Rattle.hdc_regular.proofs.GroupOrder.{both_orders, order_behind_more, groups_order, groups_complete, groups_within, all_below, has_two, has_left, has_right}

module _ (ps ts : List Top) (sounds : List Bool) (before text : List ℕ)
    (ranked_before : AreRanked (synonym_needs ps) before) (ranked : AreRanked (synonym_needs ts) text)
    (apart_before : (i : ℕ) → i < length ps → get_or sounds i false ≡ true → Reaches (synonym_needs ps) i i → ⊥)
    (apart : (i : ℕ) → get_or sounds (length ps + i) false ≡ true → Reaches (synonym_needs ts) i i → ⊥)
    (groups_before groups : List (List ℕ)) (are_before : AreGroups (synonym_needs ps) groups_before) (are : AreGroups (synonym_needs ts) groups) where
  abbrev ds : List Declaration
  ds = declarations_by ps ts sounds

  abbrev first : List ℕ
  first = group_order 0 groups_before

  abbrev second : List ℕ
  second = group_order (length ps) groups

  -- the groups of both
  abbrev pub both : List ℕ
  both = group_order 0 groups_before ++ group_order (length ps) groups

  size_before : length (synonym_needs ps) ≡ length ps
  size_before = size_each_top_needs (declared_types 0 ps) ps

  size_text : length (synonym_needs ts) ≡ length ts
  size_text = size_each_top_needs (declared_types 0 ts) ts

  used : (n b : ℕ) → synonyms_of ds n ≡ true → Needs (named_needs ds) n b → UsesOf (Has (meaning_of (declaration_at ds n))) b
  used n b is need = of_meaning (declaration_at ds n) b is (of_each_types_in (body_of (declaration_at ds n)) b (subst (λ z. Contains z b) (needs_named ds n) need))

  needs_first : (i b : ℕ) → i < length (synonym_needs ps) → NamesSynonym ds (0 + i) b → ⊥ ⊎ ((j : ℕ) × (0 + j ≡ b) × Needs (synonym_needs ps) i j)
  needs_first i b lt name =
      let e : 0 + i ≡ i = omega arith in
      let is : synonyms_of ds i ≡ true = subst (λ z. synonyms_of ds z ≡ true) e name.0 in
      let need : Needs (named_needs ds) i b = subst (λ z. Needs (named_needs ds) z b) e name.1 in
      inr (b, omega arith, needs_before ps ts sounds before text ranked_before ranked apart_before apart i b (subst (λ z. i < z) size_before lt) is (used i b is need))

  never_first : (i b : ℕ) → i < length (synonym_needs ps) → NamesSynonym ds (0 + i) b → Reaches (synonym_needs ps) i i → ⊥
  never_first i b lt name =
      let e : 0 + i ≡ i = omega arith in
      let less : i < length ps = subst (λ z. i < z) size_before lt in
      apart_before i less (sound_before ps ts sounds before text ranked_before ranked apart_before apart i less (subst (λ z. synonyms_of ds z ≡ true) e name.0))

  needs_second : (i b : ℕ) → i < length (synonym_needs ts) → NamesSynonym ds (length ps + i) b → In first b ⊎ ((j : ℕ) × (length ps + j ≡ b) × Needs (synonym_needs ts) i j)
  needs_second i b lt name = by (cases_lt b (length ps))
    where
      by : (b < length ps) ⊎ (length ps ≤ b) → In first b ⊎ ((j : ℕ) × (length ps + j ≡ b) × Needs (synonym_needs ts) i j)
      by (inl less) =
          let e : 0 + b ≡ b = omega arith in
          inl (subst (In first) e (groups_complete (synonym_needs ps) groups_before are_before (NamesSynonym ds) (λ x. ⊥) 0 needs_first never_first b (subst (λ z. b < z) (sym size_before) less)))
      by (inr ge) =
          let at : length ps + (b - length ps) ≡ b = omega (arith, ge) in
          inr (b - length ps, at, needs_text ps ts sounds before text ranked_before ranked apart_before apart i b (b - length ps) at name.0 (used (length ps + i) b name.0 name.1))

  never_second : (i b : ℕ) → i < length (synonym_needs ts) → NamesSynonym ds (length ps + i) b → Reaches (synonym_needs ts) i i → ⊥
  never_second i b lt name = apart i (sound_text ps ts sounds before text ranked_before ranked apart_before apart i name.0)

  -- each synonym comes behind those that it names
  pub text_ordered : IsOrder (NamesSynonym ds) (λ x. ⊥) both
  text_ordered =
      both_orders (NamesSynonym ds) (λ x. ⊥) first second
      (groups_order (synonym_needs ps) groups_before are_before (NamesSynonym ds) (λ x. ⊥) 0 needs_first never_first)
      (order_behind_more (NamesSynonym ds) (In first) (λ x. ⊥ ⊎ In first x) second (λ x h. inr h)
      (groups_order (synonym_needs ts) groups are (NamesSynonym ds) (In first) (length ps) needs_second never_second))

  -- all are numbers of declarations
  pub text_within : AllBelow (length ps + length ts) both
  text_within = all_below (length ps + length ts) both (λ x h. by x (has_two first second x h))
    where
      by : (x : ℕ) → In first x ⊎ In second x → x < length ps + length ts
      by x (inl h) =
          let r = groups_within (synonym_needs ps) groups_before are_before (NamesSynonym ds) (λ y. ⊥) 0 needs_first never_first x h in
          let lt : r.0 < length ps = subst (λ z. r.0 < z) size_before r.2 in
          let e = r.1 in omega (arith, e, lt)
      by x (inr h) =
          let r = groups_within (synonym_needs ts) groups are (NamesSynonym ds) (In first) (length ps) needs_second never_second x h in
          let lt : r.0 < length ts = subst (λ z. r.0 < z) size_text r.2 in
          let e = r.1 in omega (arith, e, lt)

  -- and all synonyms are among them
  pub text_complete : (n : ℕ) → synonyms_of ds n ≡ true → In both n
  text_complete n is = by (cases_lt n (length ps))
    where
      by : (n < length ps) ⊎ (length ps ≤ n) → In both n
      by (inl lt) =
          let e : 0 + n ≡ n = omega arith in
          has_left first second n (subst (In first) e (groups_complete (synonym_needs ps) groups_before are_before (NamesSynonym ds) (λ x. ⊥) 0 needs_first never_first n (subst (λ z. n < z) (sym size_before) lt)))
      by (inr ge) =
          let at : length ps + (n - length ps) ≡ n = omega (arith, ge) in
          let lt : n - length ps < length ts = in_text ps ts sounds before text ranked_before ranked apart_before apart (n - length ps) (subst (λ z. synonyms_of ds z ≡ true) (sym at) is) in
          has_right first second n (subst (In second) at (groups_complete (synonym_needs ts) groups are (NamesSynonym ds) (In first) (length ps) needs_second never_second (n - length ps) (subst (λ z. n - length ps < z) (sym size_text) lt)))
