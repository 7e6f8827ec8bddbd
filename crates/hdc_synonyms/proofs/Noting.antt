-- The breaches that are noted are those of the synonyms that reach themselves.
use Rattle.std.proofs.Common.{◌≡◌, ◌⊎◌, ℕ, zero, suc, ◌+◌, ◌<◌, Bool, true, false, IsTrue, List, [], ◌∷◌, Some, length, get_or, refl, sym, ap, subst, ◌∙◌, inl, inr, arith, add-zero, zero-add}
use Rattle.std.specs.Prelude.{slice_get}
use Rattle.hdc_base.specs.declared.place.At.{At}
use Rattle.hdc_tree.specs.declared.program.Synonym.{Synonym}
use Rattle.hdc_tree.specs.declared.program.Top.{Top}
use Rattle.hdc_tree.specs.declared.program.Top.TheVariants as top
use Rattle.hdc_graph.specs.Needs.{Nodes, AreCyclic}
use Rattle.hdc_written.specs.declared.breach.Breach.{Breach}
use Rattle.hdc_written.specs.declared.breach.Found.{Found}
use Rattle.hdc_written.specs.Breaches.{breach, IsFirst, IsOneOf, nothing_found, all_noted}
use Rattle.hdc_written.proofs.FirstBreach.{first_of_same, first_of_list, one_of_left, one_of_right, one_of_either}
use Rattle.hdc_synonyms.specs.Synonyms.{declared_types, synonym_needs, IsCyclicSynonym}
use Rattle.hdc_synonyms.specs.Noted.{where_cyclic, cyclic_breaches}
use Rattle.hdc_synonyms.proofs.Adding.{size_each_top_needs}

-- a synonym of the list, at this place behind the n-th declaration, that is known to reach itself
record Marked (cyclic : List Bool) (n : ℕ) (ts : List Top) (b : Breach) : Type 0 where
  behind : ℕ
  synonym : Synonym
  is_synonym : slice_get ts behind ≡ Some (top.Synonym synonym)
  is_breach : b ≡ breach 9 synonym.name.at
  is_cyclic : IsTrue (get_or cyclic (n + behind) false)

-- a declaration is a synonym that reaches itself, and this is its breach
record Synonymous (c : Bool) (t : Top) (b : Breach) : Type 0 where
  of_cyclic : IsTrue c
  of_synonym : Synonym
  of_is : t ≡ top.Synonym of_synonym
  of_breach : b ≡ breach 9 of_synonym.name.at

-- what is noted of a declaration is so
of_top : (c : Bool) (t : Top) (b : Breach) → IsOneOf b (where_cyclic c t) → Synonymous c t b
of_top true (top.Synonym s) b (inl e) = record { of_cyclic = refl; of_synonym = s; of_is = refl; of_breach = e }
of_top true (top.Synonym s) b (inr h) = absurd h
of_top true top.Empty b h = absurd h
of_top true (top.Data d) b h = absurd h
of_top true (top.Fixity f) b h = absurd h
of_top true (top.Signature x xs a t) b h = absurd h
of_top true (top.Equation e r) b h = absurd h
of_top false t b h = absurd h

-- a breach of the first declaration
here : (cyclic : List Bool) (n : ℕ) (t : Top) (ts : List Top) (b : Breach) → Synonymous (get_or cyclic n false) t b → Marked cyclic n (t ∷ ts) b
here cyclic n t ts b h = record {
  behind = 0;
  synonym = h.of_synonym;
  is_synonym = ap (λ (x : Top). Some x) h.of_is;
  is_breach = h.of_breach;
  is_cyclic = subst (λ k. IsTrue (get_or cyclic k false)) (sym (add-zero n)) h.of_cyclic;
}

-- a breach of a later one
further : (cyclic : List Bool) (n : ℕ) (t : Top) (ts : List Top) (b : Breach) → Marked cyclic (suc n) ts b → Marked cyclic n (t ∷ ts) b
further cyclic n t ts b h =
    let same : suc n + h.behind ≡ n + suc h.behind = omega arith in
    record {
      behind = suc h.behind;
      synonym = h.synonym;
      is_synonym = h.is_synonym;
      is_breach = h.is_breach;
      is_cyclic = subst (λ k. IsTrue (get_or cyclic k false)) same h.is_cyclic;
    }

-- each breach that is noted is that of a synonym which is known to reach itself
marked_of : (cyclic : List Bool) (n : ℕ) (ts : List Top) (b : Breach) → IsOneOf b (cyclic_breaches cyclic n ts) → Marked cyclic n ts b
marked_of cyclic n [] b h = absurd h
marked_of cyclic n (t ∷ ts) b h = by (one_of_either b (where_cyclic (get_or cyclic n false) t) (cyclic_breaches cyclic (suc n) ts) h) (marked_of cyclic (suc n) ts b)
  where
    by : IsOneOf b (where_cyclic (get_or cyclic n false) t) ⊎ IsOneOf b (cyclic_breaches cyclic (suc n) ts) → (IsOneOf b (cyclic_breaches cyclic (suc n) ts) → Marked cyclic (suc n) ts b) → Marked cyclic n (t ∷ ts) b
    by (inl k) rest = here cyclic n t ts b (of_top (get_or cyclic n false) t b k)
    by (inr k) rest = further cyclic n t ts b (rest k)

-- a synonym that reaches itself is noted
noted_here : (c : Bool) (t : Top) (s : Synonym) → t ≡ top.Synonym s → IsTrue c → IsOneOf (breach 9 s.name.at) (where_cyclic c t)
noted_here c t s is holds =
    let Noted : Bool → Top → Type 0 = λ d x. IsOneOf (breach 9 s.name.at) (where_cyclic d x) in
    subst (λ d. Noted d t) (sym holds) (subst (Noted true) (sym is) (inl refl))

-- the same in a list
of_marked : (cyclic : List Bool) (n : ℕ) (ts : List Top) (k : ℕ) (s : Synonym) → slice_get ts k ≡ Some (top.Synonym s) → IsTrue (get_or cyclic (n + k) false) → IsOneOf (breach 9 s.name.at) (cyclic_breaches cyclic n ts)
of_marked cyclic n [] k s is holds = absurd cc
of_marked cyclic n (t ∷ ts) zero s is holds =
    let same : t ≡ top.Synonym s = cc in
    one_of_left (breach 9 s.name.at) (where_cyclic (get_or cyclic n false) t) (cyclic_breaches cyclic (suc n) ts)
    (noted_here (get_or cyclic n false) t s same (subst (λ m. IsTrue (get_or cyclic m false)) (add-zero n) holds))
of_marked cyclic n (t ∷ ts) (suc k) s is holds =
    let same : n + suc k ≡ suc n + k = omega arith in
    one_of_right (breach 9 s.name.at) (where_cyclic (get_or cyclic n false) t) (cyclic_breaches cyclic (suc n) ts)
    (of_marked cyclic (suc n) ts k s is (subst (λ m. IsTrue (get_or cyclic m false)) same holds))

-- what stands at a place stands in the list
get_within : (ts : List Top) (k : ℕ) (t : Top) → slice_get ts k ≡ Some t → k < length ts
get_within [] k t is = absurd cc
get_within (x ∷ xs) zero t is = omega arith
get_within (x ∷ xs) (suc k) t is = let rest = get_within xs k t is in omega (arith, rest)

-- each declaration of a text is a node
node_within : (ts : List Top) (k : ℕ) (t : Top) → slice_get ts k ≡ Some t → k < length (synonym_needs ts)
node_within ts k t is =
    let lt = get_within ts k t is in
    let size = size_each_top_needs (declared_types 0 ts) ts in
    omega (arith, lt, size)

-- a breach by its rule and its place
same_breach : (b : Breach) (at : At) → b.rule ≡ 9 → b.at ≡ at → b ≡ breach 9 at
same_breach b at e f = ap (λ n. record { rule = n; at = b.at }) e ∙ ap (λ (a : At). breach 9 a) f

-- what is noted reaches itself
noted_cyclic : (ts : List Top) (cyclic : List Bool) → AreCyclic (synonym_needs ts) cyclic → (b : Breach) → IsOneOf b (cyclic_breaches cyclic 0 ts) → IsCyclicSynonym ts b
noted_cyclic ts cyclic known b h = by (marked_of cyclic 0 ts b h)
  where
    by : Marked cyclic 0 ts b → IsCyclicSynonym ts b
    by m = record {
      rule = ap (λ (x : Breach). x.rule) m.is_breach;
      number = m.behind;
      synonym = m.synonym;
      is_synonym = m.is_synonym;
      at = ap (λ (x : Breach). x.at) m.is_breach;
      reaches = (known.reaches m.behind (node_within ts m.behind (top.Synonym m.synonym) m.is_synonym)).0 (subst (λ k. IsTrue (get_or cyclic k false)) (zero-add m.behind) m.is_cyclic);
    }

-- what reaches itself is noted
cyclic_noted : (ts : List Top) (cyclic : List Bool) → AreCyclic (synonym_needs ts) cyclic → (b : Breach) → IsCyclicSynonym ts b → IsOneOf b (cyclic_breaches cyclic 0 ts)
cyclic_noted ts cyclic known b h =
    let lt = node_within ts h.number (top.Synonym h.synonym) h.is_synonym in
    let holds = (known.reaches h.number lt).1 h.reaches in
    subst (λ x. IsOneOf x (cyclic_breaches cyclic 0 ts)) (sym (same_breach b h.synonym.name.at h.rule h.at))
    (of_marked cyclic 0 ts h.number h.synonym h.is_synonym (subst (λ k. IsTrue (get_or cyclic k false)) (sym (zero-add h.number)) holds))

-- the first of what is noted
first_cyclic : (ts : List Top) (cyclic : List Bool) → AreCyclic (synonym_needs ts) cyclic → IsFirst (IsCyclicSynonym ts) (all_noted nothing_found (cyclic_breaches cyclic 0 ts)).breach
first_cyclic ts cyclic known =
    let bs = cyclic_breaches cyclic 0 ts in
    first_of_same (λ b. IsOneOf b bs) (IsCyclicSynonym ts) (all_noted nothing_found bs).breach (noted_cyclic ts cyclic known) (cyclic_noted ts cyclic known) (first_of_list bs)

-- what is noted is the first synonym that reaches itself
pub first_found : (ts : List Top) (g : Nodes) (cyclic looked : List Bool) (start found : Found) → g ≡ synonym_needs ts → AreCyclic g cyclic → looked ≡ cyclic → start ≡ nothing_found → found ≡ all_noted start (cyclic_breaches looked 0 ts) → IsFirst (IsCyclicSynonym ts) found.breach
first_found ts g cyclic looked start found is known same none e =
    let all = e ∙ ap (λ (f : Found). all_noted f (cyclic_breaches looked 0 ts)) none ∙ ap (λ z. all_noted nothing_found (cyclic_breaches z 0 ts)) same in
    let known_all = subst (λ z. AreCyclic z cyclic) is known in
    subst (λ (f : Found). IsFirst (IsCyclicSynonym ts) f.breach) (sym all) (first_cyclic ts cyclic known_all)
