-- What is found in the declarations of a text is where it breaks the rule.
use Rattle.std.proofs.Common.{◌≡◌, inl, inr, ℕ, zero, suc, ◌+◌, ◌<◌, Bool, true, false, List, [], ◌∷◌, ◌++◌, Option, length, get_or, Contains, refl, sym, ap, subst, ◌∙◌, append-nil, length-append}
use Rattle.hdc_tree.specs.declared.program.Top.{Top}
use Rattle.hdc_graph.specs.Lists.{Has as In}
use Rattle.hdc_graph.specs.Needs.{Needs, Reaches, IsClosed, IsNumbering, AreCyclic}
use Rattle.hdc_written.specs.declared.breach.Breach.{Breach}
use Rattle.hdc_written.specs.Breaches.{IsOneOf}
use Rattle.hdc_synonyms.specs.Synonyms.{synonym_needs}
use Rattle.hdc_regular.specs.Laws.{AreRanked}
use Rattle.hdc_regular.specs.declared.contents.Usage.{Usage}
use Rattle.hdc_regular.specs.declared.demand.Demand.{Demand}
use Rattle.hdc_regular.specs.declared.outline.Outline.{Outline}
use Rattle.hdc_regular.specs.Resolved.{Resolved, parameter, use_of, other, Parts, no_part, next_part, Has, EachHas, Declaration, data_type, synonym, neither, declaration_at, is_synonym}
use Rattle.hdc_regular.specs.Expansion.{synonyms_of, full_meaning}
use Rattle.hdc_regular.specs.Named.{body_of, named_needs, NamesSynonym}
use Rattle.hdc_regular.specs.Irregular.{names_before, names_of, sounds_of, declarations_by, IsIrregular}
use Rattle.hdc_regular.specs.Walk.{one_of, each_wrong, is_nothing, is_in_group}
use Rattle.hdc_regular.specs.Contents.{uses_in, each_uses_in}
use Rattle.hdc_regular.specs.Building.{outline_at, no_outline}
use Rattle.hdc_regular.specs.Built.{each_built_declaration}
use Rattle.hdc_regular.specs.Outlines.{outlines_by}
use Rattle.hdc_regular.specs.Demands.{no_demand, demand_at, met, demanded}
use Rattle.hdc_synonyms.specs.Adding.{AllBelow}
use Rattle.hdc_regular.specs.Order.{IsOrder}
use Rattle.hdc_regular.specs.Judged.{repeat_of, built_in_order, uses_of_synonym, demands_of, tables_of, breaches_from}
use Rattle.hdc_regular.proofs.Groups.{UsesOf, each_types_in_have, needs_named}
use Rattle.hdc_regular.proofs.BuiltTypes.{IsOutline}
use Rattle.hdc_regular.proofs.Demanded.{demand_judged}
use Rattle.hdc_regular.proofs.Ordering.{AreNamed, all_done}
use Rattle.hdc_regular.proofs.OutlinesInOrder.{all_right}
use Rattle.hdc_regular.proofs.Reduced.{AreReduced, SameKind}
use Rattle.hdc_regular.proofs.Whole.{size_built, all_reduced}
use Rattle.hdc_regular.proofs.Theorem.{apart_before, apart, found_is, is_found}

size_repeat : {A : Type 0} (x : A) (n : ℕ) → length (repeat_of x n) ≡ n
size_repeat x zero = refl
size_repeat x (suc n) = ap (λ z. suc z) (size_repeat x n)

uses_same : (d : Declaration) → is_synonym d ≡ true → uses_of_synonym d ≡ each_uses_in (body_of d)
uses_same (data_type k ts) e = cc
uses_same (synonym t) e = sym (append-nil (uses_in t))
uses_same neither e = cc

-- ---- the synonyms among uses

module _ (synonyms : ℕ → Bool) (Is : ℕ → Type 0) where
  named_both : (xs ys : List Usage) → AreNamed synonyms Is xs → AreNamed synonyms Is ys → AreNamed synonyms Is (xs ++ ys)
  named_both [] ys h k = k
  named_both (x ∷ xs) ys h k = (h.0, named_both xs ys h.1 k)

  mutual
    named_in : (t : Resolved) → ((b : ℕ) → UsesOf (Has t) b → synonyms b ≡ true → Is b) → AreNamed synonyms Is (uses_in t)
    named_in (parameter i) h = tt
    named_in (use_of n at ts) h = (λ is. h n (at, ts, inl refl) is, named_in_each ts (λ b u is. h b (u.0, u.1, inr u.2) is))
    named_in (other ts) h = named_in_each ts (λ b u is. h b (u.0, u.1, inr u.2) is)

    named_in_each : (ts : Parts) → ((b : ℕ) → UsesOf (EachHas ts) b → synonyms b ≡ true → Is b) → AreNamed synonyms Is (each_uses_in ts)
    named_in_each no_part h = tt
    named_in_each (next_part t ts) h = named_both (uses_in t) (each_uses_in ts) (named_in t (λ b u is. h b (u.0, u.1, inl u.2) is)) (named_in_each ts (λ b u is. h b (u.0, u.1, inr u.2) is))

  named_uses : (d : Declaration) → ((b : ℕ) → is_synonym d ≡ true → UsesOf (EachHas (body_of d)) b → synonyms b ≡ true → Is b) → AreNamed synonyms Is (uses_of_synonym d)
  named_uses (data_type k ts) h = tt
  named_uses (synonym t) h = named_in t (λ b u is. h b refl (u.0, u.1, inl u.2) is)
  named_uses neither h = tt

same_kind_synonym : (d e : Declaration) → SameKind d e → is_synonym e ≡ true → is_synonym d ≡ true
same_kind_synonym (data_type k ts) (data_type l us) h e = e
same_kind_synonym (data_type k ts) (synonym u) h e = absurd h
same_kind_synonym (data_type k ts) neither h e = absurd h
same_kind_synonym (synonym t) e h is = refl
same_kind_synonym neither (data_type l us) h e = absurd h
same_kind_synonym neither (synonym u) h e = absurd h
same_kind_synonym neither neither h e = e

-- ---- both texts

module _ (ps ts : List Top) (cyclic_before cyclic : List Bool) (are_before : AreCyclic (synonym_needs ps) cyclic_before) (are_cyclic : AreCyclic (synonym_needs ts) cyclic)
    (before text : List ℕ) (ranked_before : AreRanked (synonym_needs ps) before) (ranked : AreRanked (synonym_needs ts) text)
    (order : List ℕ) (ordered : IsOrder (NamesSynonym (declarations_by ps ts (sounds_of ps ts cyclic_before cyclic))) (λ n. ⊥) order)
    (within : AllBelow (length ps + length ts) order)
    (complete : (n : ℕ) → synonyms_of (declarations_by ps ts (sounds_of ps ts cyclic_before cyclic)) n ≡ true → In order n) where
  abbrev sounds : List Bool
  sounds = sounds_of ps ts cyclic_before cyclic

  abbrev ds : List Declaration
  ds = declarations_by ps ts sounds

  abbrev size : ℕ
  size = length ps + length ts

  abbrev outlines : List Outline
  outlines = outlines_by ps ts sounds order (repeat_of no_outline size)

  abbrev es : List Declaration
  es = built_in_order ps ts sounds order size

  never_before : (i : ℕ) → i < length ps → get_or (sounds_of ps ts cyclic_before cyclic) i false ≡ true → Reaches (synonym_needs ps) i i → ⊥
  never_before = apart_before ps ts cyclic_before cyclic are_before are_cyclic before text ranked_before ranked

  never_there : (i : ℕ) → get_or (sounds_of ps ts cyclic_before cyclic) (length ps + i) false ≡ true → Reaches (synonym_needs ts) i i → ⊥
  never_there = apart ps ts cyclic_before cyclic are_before are_cyclic before text ranked_before ranked

  outlined : (n : ℕ) → synonyms_of ds n ≡ true → IsOutline (outline_at outlines n) (full_meaning ds n)
  outlined n is =
      all_right ps ts sounds before text ranked_before ranked never_before never_there order (λ x. ⊥) (repeat_of no_outline size) (λ x d so. absurd d) ordered
      (subst (λ z. AllBelow z order) (sym (size_repeat no_outline size)) within) n (inr (complete n is)) is

  reduced : AreReduced ds es (full_meaning ds)
  reduced = all_reduced ps ts sounds before text ranked_before ranked never_before never_there outlines outlined

  size_es : length es ≡ length ps + length ts
  size_es =
      length-append (each_built_declaration outlines (names_before ps sounds) sounds 0 ps) (each_built_declaration outlines (names_of ps ts sounds) sounds (length ps) ts)
      ∙ ap (λ z. z + length (each_built_declaration outlines (names_of ps ts sounds) sounds (length ps) ts)) (size_built outlines (names_before ps sounds) sounds 0 ps)
      ∙ ap (λ z. length ps + z) (size_built outlines (names_of ps ts sounds) sounds (length ps) ts)

  module _ (closed : IsClosed (named_needs es)) (numbers : List ℕ) (numbering : IsNumbering (named_needs es) numbers) where
    abbrev demands : List Demand
    demands = demands_of es numbers order

    abbrev own : ℕ → ℕ → Bool
    own = λ n. is_in_group numbers (get_or numbers n 0)

    also : (n : ℕ) → synonyms_of es n ≡ true → synonyms_of ds n ≡ true
    also n is = same_kind_synonym (declaration_at ds n) (declaration_at es n) (reduced.kinds n) is

    used_named : (n b : ℕ) → UsesOf (EachHas (body_of (declaration_at ds n))) b → Needs (named_needs ds) n b
    used_named n b (a, us, h) = subst (λ z. Contains z b) (sym (needs_named ds n)) (each_types_in_have (body_of (declaration_at ds n)) b a us h)

    are_named : (n : ℕ) → AreNamed (synonyms_of es) (NamesSynonym ds n) (uses_of_synonym (declaration_at es n))
    are_named n = named_uses (synonyms_of es) (NamesSynonym ds n) (declaration_at es n) (λ b is u so. (also n is, used_named n b (reduced.within n b u), also b so))

    demand_is : (n : ℕ) → synonyms_of es n ≡ true → demand_at demands n ≡ demanded (own n) (synonyms_of es) demands (uses_of_synonym (declaration_at es n)) no_demand
    demand_is n is =
        all_done own (synonyms_of es) (λ m. uses_of_synonym (declaration_at es m)) (NamesSynonym ds) are_named order (λ x. ⊥) (repeat_of no_demand (length es))
        (record { demand = λ x d. absurd d; closed = λ x b d i. absurd d }) ordered
        (subst (λ z. AllBelow z order) (sym (size_repeat no_demand (length es) ∙ size_es)) within) n (inr (complete n (also n is)))

    judged : (n : ℕ) → synonyms_of es n ≡ true → (k : ℕ) (vs : List (Option ℕ)) → met (demand_at demands n) k vs ≡ is_nothing (each_wrong (tables_of es demands) (own n) k (one_of vs) (body_of (declaration_at es n)))
    judged n is k vs =
        ap (λ z. met z k vs) (demand_is n is ∙ ap (λ z. demanded (own n) (synonyms_of es) demands z no_demand) (uses_same (declaration_at es n) is))
        ∙ demand_judged (synonyms_of es) demands (own n) (body_of (declaration_at es n)) k vs

    -- each breach that is found is one of the rule
    pub found_breaks : (b : Breach) → IsOneOf b (breaches_from (length ps) es numbers order) → IsIrregular ps ts b
    found_breaks b h = found_is ps ts cyclic_before cyclic are_before are_cyclic before text ranked_before ranked outlines outlined closed numbers numbering (λ n. met (demand_at demands n)) judged b h

    -- and each breach of the rule is found
    pub broken_found : (b : Breach) → IsIrregular ps ts b → IsOneOf b (breaches_from (length ps) es numbers order)
    broken_found b h = is_found ps ts cyclic_before cyclic are_before are_cyclic before text ranked_before ranked outlines outlined closed numbers numbering (λ n. met (demand_at demands n)) judged b h
