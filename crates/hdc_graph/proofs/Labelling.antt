-- The least node of each component is found.
use Rattle.std.proofs.Common.{◌≡◌, ℕ, ◌+◌, ◌<◌, inl, inr, List, [], ◌∷◌, ◌++◌, length, get_or, set, sym, ap, ◌∙◌, subst, arith, length-append, length-set, Option, Some, None, le_antisymm}
use Rattle.std.proofs.lemmas.List.{get_or_append_left, get_or_push, get_or-set_same, get_or-set_other, get_or_past}
use Rattle.std.proofs.lemmas.Bool.{cases_eq, cases_lt}
use Rattle.hdc_graph.specs.Needs.{Nodes, AreMutual}
use Rattle.hdc_graph.specs.Numbers.{IsNumbered}
use Rattle.hdc_graph.specs.Lists.{place_in, AreNone, AreEmpty}
use Rattle.hdc_graph.specs.Labels.{IsLabel, AreLabels, AreLabelled}
use Rattle.hdc_graph.proofs.Reaching.{mutual_back, trans_mutual}

-- one more, whose component has a label
pub labelled_known : (numbers : List ℕ) (firsts : List (Option ℕ)) (labels : List ℕ) (n x : ℕ) → AreLabelled numbers firsts labels n → place_in firsts (get_or numbers n 0) ≡ Some x → AreLabelled numbers firsts (labels ++ x ∷ []) (n + 1)
labelled_known numbers firsts labels n x h e = record {
  each = length-append labels (x ∷ []) ∙ ap (λ (k : ℕ). k + 1) h.each;
  firsts_each = h.firsts_each;
  known = λ u l. elim (cases_lt u n) [
    | inl lt ↦ h.known u lt ∙ ap Some (sym (get_or_append_left labels (x ∷ []) 0 u (omega (arith, h.each, lt))))
    | inr ge ↦ (let same : n ≡ u = omega (arith, l, ge) in
        subst (λ (z : ℕ). place_in firsts (get_or numbers z 0) ≡ Some (get_or (labels ++ x ∷ []) z 0)) same (e ∙ ap Some (sym (get_or_push labels x 0 n h.each))))
  ];
  first = λ c y f. (let r = h.first c y f in (omega (arith, r.0), r.1));
  least = λ u y l f. elim (cases_lt u n) [
    | inl lt ↦ h.least u y lt f
    | inr ge ↦ (let r = (h.first (get_or numbers u 0) y f).0 in omega (arith, r, ge))
  ];
}

-- one more, which is the first of its component
pub labelled_new : (numbers : List ℕ) (firsts : List (Option ℕ)) (labels : List ℕ) (n : ℕ) → AreLabelled numbers firsts labels n → get_or numbers n 0 < length firsts → place_in firsts (get_or numbers n 0) ≡ None → AreLabelled numbers (set firsts (get_or numbers n 0) (Some n)) (labels ++ n ∷ []) (n + 1)
labelled_new numbers firsts labels n h lies e =
    let c = get_or numbers n 0 in
    let here : place_in (set firsts c (Some n)) c ≡ Some n = get_or-set_same firsts c (Some n) None lies in
    let other = λ (d : ℕ) (apart : d ≡ c → ⊥). get_or-set_other firsts c d (Some n) None apart in
    let differ = λ (u : ℕ) (l : u < n) (same : get_or numbers u 0 ≡ c). (let k : place_in firsts (get_or numbers u 0) ≡ Some (get_or labels u 0) = h.known u l in let f : place_in firsts c ≡ Some (get_or labels u 0) = ap (place_in firsts) (sym same) ∙ k in let z : None ≡ Some (get_or labels u 0) = sym e ∙ f in let bad : ⊥ = cc in bad) in record {
      each = length-append labels (n ∷ []) ∙ ap (λ (k : ℕ). k + 1) h.each;
      firsts_each = length-set firsts c (Some n) ∙ h.firsts_each;
      known = λ u l. elim (cases_lt u n) [
        | inl lt ↦ other (get_or numbers u 0) (differ u lt) ∙ h.known u lt ∙ ap Some (sym (get_or_append_left labels (n ∷ []) 0 u (omega (arith, h.each, lt))))
        | inr ge ↦ (let same : n ≡ u = omega (arith, l, ge) in
            subst (λ (z : ℕ). place_in (set firsts c (Some n)) (get_or numbers z 0) ≡ Some (get_or (labels ++ n ∷ []) z 0)) same (here ∙ ap Some (sym (get_or_push labels n 0 n h.each))))
      ];
      first = λ d y f. elim (cases_eq d c) [
        | inl same ↦ (let g : Some n ≡ Some y = sym (ap (place_in (set firsts c (Some n))) same ∙ here) ∙ f in let is : n ≡ y = cc in (omega (arith, is), ap (λ (z : ℕ). get_or numbers z 0) (sym is) ∙ sym same))
        | inr apart ↦ (let r = h.first d y (sym (other d apart) ∙ f) in (omega (arith, r.0), r.1))
      ];
      least = λ u y l f. elim (cases_lt u n) [
        | inl lt ↦ h.least u y lt (sym (other (get_or numbers u 0) (differ u lt)) ∙ f)
        | inr ge ↦ (let same : n ≡ u = omega (arith, l, ge) in let g : Some n ≡ Some y = sym here ∙ ap (λ (z : ℕ). place_in (set firsts c (Some n)) (get_or numbers z 0)) same ∙ f in let is : n ≡ y = cc in omega (arith, is, ge))
      ];
    }

-- at the end all have their labels
pub labels_of : (g : Nodes) (numbers : List ℕ) (firsts : List (Option ℕ)) (labels : List ℕ) (n : ℕ) → IsNumbered g numbers → n ≡ length g → AreLabelled numbers firsts labels n → AreLabels g labels
labels_of g numbers firsts labels n h size k =
    let first = λ (a : ℕ) (l : a < length g). k.first (get_or numbers a 0) (get_or labels a 0) (k.known a (omega (arith, l, size))) in record {
      each = k.each ∙ size;
      mutual_to = λ a l. (let f = first a l in (h.numbering.agree a (get_or labels a 0) l (omega (arith, f.0, size))).0 (sym f.1));
      lies = λ a l. (let f = first a l in omega (arith, f.0, size));
      least = λ a b la lb m. (let e : get_or numbers a 0 ≡ get_or numbers b 0 = (h.numbering.agree a b la lb).1 m in
          k.least b (get_or labels a 0) (omega (arith, lb, size)) (ap (place_in firsts) (sym e) ∙ k.known a (omega (arith, la, size))));
    }

pub labelled_none : (g : Nodes) (numbers : List ℕ) (firsts : List (Option ℕ)) (labels : List ℕ) → IsNumbered g numbers → AreNone (length g) firsts → labels ≡ [] → AreLabelled numbers firsts labels 0
labelled_none g numbers firsts labels h none e = record {
  each = ap length e;
  firsts_each = none.0 ∙ sym h.numbering.each;
  known = λ u l. absurd (omega (arith, l));
  first = λ c x f. absurd (let n = none.1 c in let z : None ≡ Some x = sym n ∙ f in cc);
  least = λ u x l f. absurd (omega (arith, l));
}

-- nodes that are mutual have one label, and a label is its own
module _ (g : Nodes) (labels : List ℕ) (h : AreLabels g labels) where
  pub one_label : (a b : ℕ) → a < length g → b < length g → AreMutual g a b → get_or labels a 0 ≡ get_or labels b 0
  one_label a b la lb m =
      let to_b = h.least a (get_or labels b 0) la (h.lies b lb) (trans_mutual a b (get_or labels b 0) m (h.mutual_to b lb)) in
      let to_a = h.least b (get_or labels a 0) lb (h.lies a la) (trans_mutual b a (get_or labels a 0) (mutual_back m) (h.mutual_to a la)) in
      le_antisymm to_b to_a

  pub own_label : (a : ℕ) → a < length g → IsLabel labels (get_or labels a 0)
  own_label a l = (omega (arith, h.lies a l, h.each), sym (one_label a (get_or labels a 0) l (h.lies a l) (h.mutual_to a l)))

  pub label_mutual : (a b : ℕ) → a < length g → b < length g → get_or labels a 0 ≡ get_or labels b 0 → AreMutual g a b
  label_mutual a b la lb e = trans_mutual a (get_or labels a 0) b (h.mutual_to a la) (subst (λ (x : ℕ). AreMutual g x b) (sym e) (mutual_back (h.mutual_to b lb)))

-- one more of nothing
pub none_push : (n : ℕ) (xs : List (Option ℕ)) → AreNone n xs → AreNone (n + 1) (xs ++ None ∷ [])
none_push n xs h = (
  length-append xs (None ∷ []) ∙ ap (λ (k : ℕ). k + 1) h.0,
  λ k. elim (cases_lt k (length xs)) [
    | inl lt ↦ get_or_append_left xs (None ∷ []) None k lt ∙ h.1 k
    | inr ge ↦ elim (cases_eq k (length xs)) [
      | inl is ↦ get_or_push xs None None k (sym is)
      | inr apart ↦ (let size : length (xs ++ None ∷ []) ≡ length xs + 1 = length-append xs (None ∷ []) in get_or_past (xs ++ None ∷ []) k None (omega (arith, size, ge, apart)))
    ]
  ],
)

pub empty_push : (n : ℕ) (xs : List (List ℕ)) → AreEmpty n xs → AreEmpty (n + 1) (xs ++ [] ∷ [])
empty_push n xs h = (
  length-append xs ([] ∷ []) ∙ ap (λ (k : ℕ). k + 1) h.0,
  λ k. elim (cases_lt k (length xs)) [
    | inl lt ↦ get_or_append_left xs ([] ∷ []) [] k lt ∙ h.1 k
    | inr ge ↦ elim (cases_eq k (length xs)) [
      | inl is ↦ get_or_push xs [] [] k (sym is)
      | inr apart ↦ (let size : length (xs ++ [] ∷ []) ≡ length xs + 1 = length-append xs ([] ∷ []) in get_or_past (xs ++ [] ∷ []) k [] (omega (arith, size, ge, apart)))
    ]
  ],
)

-- the same, as the code has it
pub labelled_known_now : (numbers : List ℕ) (firsts firsts' : List (Option ℕ)) (labels labels' more : List ℕ) (n x : ℕ) → AreLabelled numbers firsts labels n → Some x ≡ place_in firsts (get_or numbers n 0) → firsts' ≡ firsts → labels' ≡ more → more ≡ labels ++ x ∷ [] → AreLabelled numbers firsts' labels' (n + 1)
labelled_known_now numbers firsts firsts' labels labels' more n x h e a b c = rw (a, b, c) (labelled_known numbers firsts labels n x h (sym e))

pub labelled_new_now : (numbers : List ℕ) (firsts firsts' set' : List (Option ℕ)) (labels labels' more : List ℕ) (n : ℕ) → AreLabelled numbers firsts labels n → get_or numbers n 0 < length firsts → None ≡ place_in firsts (get_or numbers n 0) → firsts' ≡ set' → set' ≡ set firsts (get_or numbers n 0) (Some n) → labels' ≡ more → more ≡ labels ++ n ∷ [] → AreLabelled numbers firsts' labels' (n + 1)
labelled_new_now numbers firsts firsts' set' labels labels' more n h l e a b c d = rw (a, b, c, d) (labelled_new numbers firsts labels n h l (sym e))
