-- What is found out of the meanings of synonyms, in order, is so.
use Rattle.std.proofs.Common.{◌≡◌, ◌≢◌, ◌⊎◌, inl, inr, ℕ, ◌+◌, ◌<◌, Bool, true, false, List, [], ◌∷◌, length, get_or, Contains, sym, subst, get_or-set_same, get_or-set_other, length-set}
use Rattle.std.proofs.Math.ListN.{set}
use Rattle.hdc_tree.specs.declared.program.Top.{Top}
use Rattle.hdc_graph.specs.Needs.{Needs, Reaches}
use Rattle.hdc_synonyms.specs.Synonyms.{synonym_needs}
use Rattle.hdc_regular.specs.Laws.{AreRanked}
use Rattle.hdc_regular.specs.declared.outline.Outline.{Outline}
use Rattle.hdc_regular.specs.Resolved.{EachHas, Declaration, declaration_at}
use Rattle.hdc_regular.specs.Expansion.{synonyms_of, full_meaning}
use Rattle.hdc_regular.specs.Named.{body_of, named_needs, NamesSynonym}
use Rattle.hdc_regular.specs.Irregular.{declarations_by}
use Rattle.hdc_regular.specs.Building.{outline_at, no_outline}
use Rattle.hdc_regular.specs.Built.{built_by}
use Rattle.hdc_regular.specs.Outlines.{outline_of, outlines_by}
use Rattle.hdc_synonyms.specs.Adding.{AllBelow}
use Rattle.hdc_regular.specs.Order.{IsOrder}
use Rattle.hdc_regular.proofs.Groups.{UsesOf, each_types_in_have, needs_named}
use Rattle.hdc_regular.proofs.BuiltTypes.{IsOutline}
use Rattle.hdc_regular.proofs.Whole.{outline_right}
use Rattle.hdc_regular.proofs.Ordering.{same_or_not, BeforeOrIn, shifted}

module _ (ps ts : List Top) (sounds : List Bool) (before text : List ℕ)
    (ranked_before : AreRanked (synonym_needs ps) before) (ranked : AreRanked (synonym_needs ts) text)
    (apart_before : (i : ℕ) → i < length ps → get_or sounds i false ≡ true → Reaches (synonym_needs ps) i i → ⊥)
    (apart : (i : ℕ) → get_or sounds (length ps + i) false ≡ true → Reaches (synonym_needs ts) i i → ⊥) where
  abbrev pub ds : List Declaration
  ds = declarations_by ps ts sounds

  -- what is known of those that are done is so
  abbrev pub AreRight : (ℕ → Type 0) → List Outline → Type 0
  AreRight Done os = (n : ℕ) → Done n → synonyms_of ds n ≡ true → IsOutline (outline_at os n) (full_meaning ds n)

  used_named : (n b : ℕ) → UsesOf (EachHas (body_of (declaration_at ds n))) b → Needs (named_needs ds) n b
  used_named n b (a, us, h) = subst (λ z. Contains z b) (sym (needs_named ds n)) (each_types_in_have (body_of (declaration_at ds n)) b a us h)

  next_right : (Done : ℕ → Type 0) (os : List Outline) (n : ℕ) → AreRight Done os → ((b : ℕ) → NamesSynonym ds n b → Done b) → n < length os
      → AreRight (λ x. Done x ⊎ (n ≡ x)) (set os n (outline_of (body_of (declaration_at (built_by os ps ts sounds) n))))
  next_right Done os n right below lt x d is = by (same_or_not x n) d
    where
      here : x ≡ n → IsOutline (outline_at (set os n (outline_of (body_of (declaration_at (built_by os ps ts sounds) n)))) x) (full_meaning ds x)
      here e =
          let is_n : synonyms_of ds n ≡ true = subst (λ z. synonyms_of ds z ≡ true) e is in
          subst (λ z. IsOutline (outline_at (set os n (outline_of (body_of (declaration_at (built_by os ps ts sounds) n)))) z) (full_meaning ds z)) (sym e)
          (subst (λ z. IsOutline z (full_meaning ds n)) (sym (get_or-set_same os n (outline_of (body_of (declaration_at (built_by os ps ts sounds) n))) no_outline lt))
          (outline_right ps ts sounds before text ranked_before ranked apart_before apart os n is_n (λ b u so. right b (below b (is_n, used_named n b u, so)) so)))

      by : (x ≡ n) ⊎ (x ≡ n → ⊥) → Done x ⊎ (n ≡ x) → IsOutline (outline_at (set os n (outline_of (body_of (declaration_at (built_by os ps ts sounds) n)))) x) (full_meaning ds x)
      by (inl e) k = here e
      by (inr ne) (inr e) = absurd (ne (sym e))
      by (inr ne) (inl k) =
          let other : x ≢ n = ne in
          subst (λ z. IsOutline z (full_meaning ds x)) (sym (get_or-set_other os n x (outline_of (body_of (declaration_at (built_by os ps ts sounds) n))) no_outline other)) (right x k is)

  below_still : (os : List Outline) (n : ℕ) (o : Outline) (ns : List ℕ) → AllBelow (length os) ns → AllBelow (length (set os n o)) ns
  below_still os n o ns h = subst (λ z. AllBelow z ns) (sym (length-set os n o)) h

  -- once all are looked at in order, what is known of each is so
  pub all_right : (ns : List ℕ) (Done : ℕ → Type 0) (os : List Outline) → AreRight Done os → IsOrder (NamesSynonym ds) Done ns → AllBelow (length os) ns
      → (n : ℕ) → BeforeOrIn Done ns n → synonyms_of ds n ≡ true → IsOutline (outline_at (outlines_by ps ts sounds ns os) n) (full_meaning ds n)
  all_right [] Done os right o below n (inl d) is = right n d is
  all_right [] Done os right o below n (inr i) is = absurd i
  all_right (m ∷ ns) Done os right o below n b is =
      all_right ns (λ x. Done x ⊎ (m ≡ x)) (set os m (outline_of (body_of (declaration_at (built_by os ps ts sounds) m)))) (next_right Done os m right o.0 below.0) o.1
      (below_still os m (outline_of (body_of (declaration_at (built_by os ps ts sounds) m))) ns below.1) n (shifted Done m ns n b) is
