-- The first breach that is found is the first of the rule.
use Rattle.std.proofs.Common.{◌≡◌, ℕ, ◌<◌, Bool, List, [], length, refl, sym, ap, subst, ◌∙◌, arith}
use Rattle.std.specs.Prelude.{Result, Ok, Err, IfOk}
use Rattle.hdc_tree.specs.declared.program.Top.{Top}
use Rattle.hdc_tree.specs.declared.program.Tree.{Tree}
use Rattle.hdc_graph.specs.Groups.{AreGroups}
use Rattle.hdc_graph.specs.Needs.{AreCyclic}
use Rattle.hdc_written.specs.declared.breach.Found.{Found}
use Rattle.hdc_written.specs.Breaches.{IsFirst, IsOneOf, all_noted, nothing_found}
use Rattle.hdc_written.specs.Mirror.{tops_of}
use Rattle.hdc_written.proofs.FirstBreach.{first_of_list, first_of_same}
use Rattle.hdc_synonyms.specs.Synonyms.{declared_types, synonym_needs}
use Rattle.hdc_synonyms.proofs.Adding.{size_each_top_needs, size_tops_behind}
use Rattle.hdc_regular.specs.declared.node_order.Synonyms.{Synonyms}
use Rattle.hdc_regular.specs.declared.texts.Texts.{Texts}
use Rattle.hdc_regular.specs.Irregular.{sounds_of, IsIrregular}
use Rattle.hdc_regular.specs.Order.{group_order}
use Rattle.hdc_regular.specs.Laws.{AreRanked, order_of, built_declarations}
use Rattle.hdc_regular.specs.Judged.{breaches_from}
use Rattle.hdc_regular.specs.Known.{AreKnown}
use Rattle.hdc_regular.specs.Passes.{before_of, text_of, IsFoundIn}
use Rattle.hdc_regular.proofs.AllFound.{all_is_found}

-- for each declaration it is known whether it reaches itself
pub cyclic_enough : (t : Tree) (s : Synonyms) (xs : List Bool) → AreKnown (tops_of t) s → xs ≡ s.components.cyclic → length t.rest < length xs
cyclic_enough t s xs known e =
    let looked = ap length e in
    let each = known.cyclic.each in
    let size = size_each_top_needs (declared_types 0 (tops_of t)) (tops_of t) in
    let behind = size_tops_behind t.rest in
    omega (arith, looked, each, size, behind)

module _ (ps ts : List Top) (before cyclic : List Bool) (are_before : AreCyclic (synonym_needs ps) before) (are_cyclic : AreCyclic (synonym_needs ts) cyclic)
    (components_before components : List ℕ) (ranked_before : AreRanked (synonym_needs ps) components_before) (ranked : AreRanked (synonym_needs ts) components)
    (groups_before groups : List (List ℕ)) (are_groups_before : AreGroups (synonym_needs ps) groups_before) (are_groups : AreGroups (synonym_needs ts) groups) where
  first_by : (found : Found) → IsFoundIn ps ts (sounds_of ps ts before cyclic) (order_of ps groups_before groups) found → IsFirst (IsIrregular ps ts) found.breach
  first_by found f =
      let order = order_of ps groups_before groups in
      let bs = breaches_from (length ps) (built_declarations ps ts before cyclic order) f.numbers order in
      let all = all_is_found ps ts before cyclic are_before are_cyclic components_before components ranked_before ranked groups_before groups are_groups_before are_groups f.closed f.numbers f.numbering in
      subst (λ (z : Found). IsFirst (IsIrregular ps ts) z.breach) (sym f.noted)
      (first_of_same (λ b. IsOneOf b bs) (IsIrregular ps ts) (all_noted nothing_found bs).breach (λ b h. (all b).0 h) (λ b h. (all b).1 h) (first_of_list bs))

  first_whole : (as' bs : List Top) (sounds : List Bool) (order : List ℕ) (found : Found) → as' ≡ ps → bs ≡ ts → sounds ≡ sounds_of ps ts before cyclic → order ≡ order_of ps groups_before groups
      → IsFoundIn as' bs sounds order found → IsFirst (IsIrregular ps ts) found.breach
  first_whole as' bs sounds order found a b e f h =
      first_by found
      (subst (λ z. IsFoundIn ps ts (sounds_of ps ts before cyclic) z found) f
      (subst (λ z. IsFoundIn ps ts z order found) e
      (subst (λ z. IsFoundIn ps z sounds order found) b
      (subst (λ z. IsFoundIn z bs sounds order found) a h))))

if_ok : {A E : Type 0} (P Q : A → Type 0) (r : Result A E) → ((x : A) → P x → Q x) → IfOk r P → IfOk r Q
if_ok P Q (Ok x) to h = to x h
if_ok P Q (Err e) to h = h

-- ---- a program behind a prelude

pub first_in_program : {E : Type 0} (ps ts : List Top) (before text : Synonyms) → AreKnown ps before → AreKnown ts text → (t : Texts) (cyclic_before cyclic : List Bool) (order : List ℕ) (r : Result Found E) → before_of t ≡ ps → text_of t ≡ ts
    → cyclic_before ≡ before.components.cyclic → cyclic ≡ text.components.cyclic → t.sounds ≡ sounds_of ps ts cyclic_before cyclic → order ≡ order_of ps before.groups text.groups
    → IfOk r (λ found. IsFoundIn (before_of t) (text_of t) t.sounds order found) → IfOk r (λ found. IsFirst (IsIrregular ps ts) found.breach)
first_in_program ps ts before text known_before known t cyclic_before cyclic order r a b cb c e f h =
    let same : t.sounds ≡ sounds_of ps ts before.components.cyclic text.components.cyclic = e ∙ ap (λ z. sounds_of ps ts z cyclic) cb ∙ ap (sounds_of ps ts before.components.cyclic) c in
    if_ok (λ found. IsFoundIn (before_of t) (text_of t) t.sounds order found) (λ found. IsFirst (IsIrregular ps ts) found.breach) r
    (λ found g.
    first_whole ps ts before.components.cyclic text.components.cyclic known_before.cyclic known.cyclic before.components.numbers text.components.numbers known_before.ranked known.ranked before.groups text.groups known_before.groups known.groups (before_of t) (text_of t) t.sounds order found a b same f g)
    h

-- ---- a prelude alone

none_cyclic : AreCyclic [] []
none_cyclic = record { each = refl; reaches = λ node lt. absurd (omega (arith, lt)) }

none_ranked : AreRanked [] []
none_ranked = record {
  numbering = record { each = refl; agree = λ a b lt less. absurd (omega (arith, lt)) };
  first = λ a b need. absurd (nothing need);
  below = λ a lt. absurd (omega (arith, lt));
  closed = λ a b need. absurd (nothing need);
}
  where
    nothing : {P : Type 0} (need : (k : ℕ) × (k < 0) × P) → ⊥
    nothing (k, lt, e) = omega (arith, lt)

none_grouped : AreGroups [] []
none_grouped = record {
  each = λ i lt. absurd (omega (arith, lt));
  all = λ a lt. absurd (omega (arith, lt));
  once = λ i j a (h : (k : ℕ) × (k < 0) × _) g. absurd (let lt = h.1 in omega (arith, lt));
  needs = λ i lt. absurd (omega (arith, lt));
  least = λ i j lt less. absurd (omega (arith, less));
}

pub first_in_prelude : {E : Type 0} (ts : List Top) (text : Synonyms) → AreKnown ts text → (t : Texts) (cyclic : List Bool) (order : List ℕ) (r : Result Found E) → before_of t ≡ [] → text_of t ≡ ts
    → cyclic ≡ text.components.cyclic → t.sounds ≡ sounds_of [] ts [] cyclic → order ≡ group_order 0 text.groups
    → IfOk r (λ found. IsFoundIn (before_of t) (text_of t) t.sounds order found) → IfOk r (λ found. IsFirst (IsIrregular [] ts) found.breach)
first_in_prelude ts text known t cyclic order r a b c e f h =
    let same : t.sounds ≡ sounds_of [] ts [] text.components.cyclic = e ∙ ap (sounds_of [] ts []) c in
    if_ok (λ found. IsFoundIn (before_of t) (text_of t) t.sounds order found) (λ found. IsFirst (IsIrregular [] ts) found.breach) r
    (λ found g.
    first_whole [] ts [] text.components.cyclic none_cyclic known.cyclic [] text.components.numbers none_ranked known.ranked [] text.groups none_grouped known.groups (before_of t) (text_of t) t.sounds order found a b same f g)
    h
