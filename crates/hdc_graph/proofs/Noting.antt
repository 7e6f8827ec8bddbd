-- What nodes need is noted at their components.
use Rattle.std.proofs.Common.{◌≡◌, ℕ, zero, suc, ◌+◌, ◌<◌, inl, inr, List, [], ◌∷◌, ◌++◌, length, get_or, set, take, map, refl, sym, ap, ◌∙◌, subst, arith, append_assoc, length-append, length-set, Contains}
use Rattle.std.proofs.lemmas.List.{get_or-set_same, get_or-set_other, set-set, map_more, get_or_append_left, get_or_push, get_or_past, get_or_default}
use Rattle.std.proofs.lemmas.Bool.{cases_eq, cases_lt}
use Rattle.hdc_graph.specs.Needs.{Nodes, Needs, needs_of, IsClosed}
use Rattle.hdc_graph.specs.Lists.{Has, list_at, AreEmpty, AreZero}
use Rattle.hdc_graph.specs.Labels.{IsLabel, with_needs, AreLabels, AreNeeds, AreNoted, AreWithin, AreOwn}
use Rattle.hdc_graph.proofs.Scheduling.{has_left, has_right, has_cases, has_push, has_last}
use Rattle.hdc_graph.proofs.Numbering.{needing_lies}
use Rattle.hdc_graph.proofs.Labelling.{own_label}

-- one way and the other to say that a number is in a list
pub has_contained : (xs : List ℕ) (x : ℕ) → Contains xs x → Has xs x
has_contained [] x (k, l, e) = absurd (omega (arith, l))
has_contained (y ∷ xs) x (zero, l, e) = inl e
has_contained (y ∷ xs) x (suc k, l, e) = inr (has_contained xs x (k, omega (arith, l), e))

pub contains_had : (xs : List ℕ) (x : ℕ) → Has xs x → Contains xs x
contains_had [] x h = absurd h
contains_had (y ∷ xs) x (inl e) = (0, omega arith, e)
contains_had (y ∷ xs) x (inr h) = let r = contains_had xs x h in (suc r.0, omega (arith, r.1), r.2)

pub has_map : (f : ℕ → ℕ) (xs : List ℕ) (k : ℕ) → Has (map f xs) k → (t : ℕ) × Has xs t × (f t ≡ k)
has_map f [] k h = absurd h
has_map f (x ∷ xs) k (inl e) = (x, inl refl, e)
has_map f (x ∷ xs) k (inr h) = let r = has_map f xs k h in (r.0, inr r.1, r.2)

pub map_has : (f : ℕ → ℕ) (xs : List ℕ) (t : ℕ) → Has xs t → Has (map f xs) (f t)
map_has f [] t h = absurd h
map_has f (x ∷ xs) t (inl e) = inl (ap f e)
map_has f (x ∷ xs) t (inr h) = inr (map_has f xs t h)

-- one need more is noted
pub noted_one : (labels : List ℕ) (first needs new : List (List ℕ)) (label i x : ℕ) (needed : List ℕ) → label < length first → needs ≡ with_needs labels first label (take i needed) → i < length needed → x ≡ get_or labels (get_or needed i 0) 0 → new ≡ set needs label (list_at needs label ++ x ∷ []) → new ≡ with_needs labels first label (take (i + 1) needed)
noted_one labels first needs new label i x needed lies e l is f =
    let g = λ (t : ℕ). get_or labels t 0 in
    let old = list_at first label ++ map g (take i needed) in
    let at_label : list_at needs label ≡ old = ap (λ (ns : List (List ℕ)). list_at ns label) e ∙ get_or-set_same first label old [] lies in
    let more : map g (take (i + 1) needed) ≡ map g (take i needed) ++ x ∷ [] = map_more g needed i 0 l ∙ ap (λ (y : ℕ). map g (take i needed) ++ y ∷ []) (sym is) in
    f ∙ ap (λ (xs : List ℕ). set needs label (xs ++ x ∷ [])) at_label
    ∙ ap (λ (ns : List (List ℕ)). set ns label (old ++ x ∷ [])) e
    ∙ set-set first label old (old ++ x ∷ [])
    ∙ ap (set first label) (append_assoc (list_at first label) (map g (take i needed)) (x ∷ []) ∙ ap (λ (xs : List ℕ). list_at first label ++ xs) (sym more))

-- the needs of one node more are noted
module _ (g : Nodes) (labels : List ℕ) (needs new : List (List ℕ)) (v : ℕ) (h : AreNoted g labels needs v) (lies : get_or labels v 0 < length needs)
    (e : new ≡ with_needs labels needs (get_or labels v 0) (needs_of g v)) where
  here : list_at new (get_or labels v 0) ≡ list_at needs (get_or labels v 0) ++ map (λ t. get_or labels t 0) (needs_of g v)
  here = ap (λ (ns : List (List ℕ)). list_at ns (get_or labels v 0)) e ∙ get_or-set_same needs (get_or labels v 0) _ [] lies

  other : (c : ℕ) → (c ≡ get_or labels v 0 → ⊥) → list_at new c ≡ list_at needs c
  other c apart = ap (λ (ns : List (List ℕ)). list_at ns c) e ∙ get_or-set_other needs (get_or labels v 0) c _ [] apart

  n_sound : (c k : ℕ) → Has (list_at new c) k → (w : ℕ) × (t : ℕ) × Needs g w t × (get_or labels w 0 ≡ c) × (get_or labels t 0 ≡ k)
  n_sound c k r = elim (cases_eq c (get_or labels v 0)) [
    | inl same ↦ elim (has_cases (list_at needs (get_or labels v 0)) (map (λ t. get_or labels t 0) (needs_of g v)) k (subst (λ (xs : List ℕ). Has xs k) (ap (list_at new) same ∙ here) r)) [
      | inl old ↦ h.sound c k (subst (λ (x : ℕ). Has (list_at needs x) k) (sym same) old)
      | inr new' ↦ (let m = has_map (λ (t : ℕ). get_or labels t 0) (needs_of g v) k new' in (v, m.0, contains_had (needs_of g v) m.0 m.1, sym same, m.2))
    ]
    | inr apart ↦ h.sound c k (subst (λ (xs : List ℕ). Has xs k) (other c apart) r)
  ]

  kept : (c k : ℕ) → Has (list_at needs c) k → Has (list_at new c) k
  kept c k r = elim (cases_eq c (get_or labels v 0)) [
    | inl same ↦ subst (λ (xs : List ℕ). Has xs k) (sym (ap (list_at new) same ∙ here)) (has_left (list_at needs (get_or labels v 0)) (map (λ t. get_or labels t 0) (needs_of g v)) k (subst (λ (x : ℕ). Has (list_at needs x) k) same r))
    | inr apart ↦ subst (λ (xs : List ℕ). Has xs k) (sym (other c apart)) r
  ]

  n_whole : (w t : ℕ) → w < v + 1 → Needs g w t → Has (list_at new (get_or labels w 0)) (get_or labels t 0)
  n_whole w t l n = elim (cases_lt w v) [
    | inl lt ↦ kept (get_or labels w 0) (get_or labels t 0) (h.whole w t lt n)
    | inr ge ↦ (let same : w ≡ v = omega (arith, l, ge) in
        let n' : Needs g v t = subst (λ (x : ℕ). Needs g x t) same n in
        subst (λ (x : ℕ). Has (list_at new (get_or labels x 0)) (get_or labels t 0)) (sym same)
        (subst (λ (xs : List ℕ). Has xs (get_or labels t 0)) (sym here) (has_right (list_at needs (get_or labels v 0)) (map (λ t. get_or labels t 0) (needs_of g v)) (get_or labels t 0) (map_has (λ (x : ℕ). get_or labels x 0) (needs_of g v) t (has_contained (needs_of g v) t n')))))
  ]

  pub noted_more : AreNoted g labels new (v + 1)
  noted_more = record { each = ap length e ∙ length-set needs (get_or labels v 0) _ ∙ h.each; sound = n_sound; whole = n_whole }

pub noted_none : (g : Nodes) (labels : List ℕ) (needs : List (List ℕ)) → AreLabels g labels → AreEmpty (length g) needs → AreNoted g labels needs 0
noted_none g labels needs a h = record {
  each = h.0 ∙ sym a.each;
  sound = λ c k r. absurd (subst (λ (xs : List ℕ). Has xs k) (h.1 c) r);
  whole = λ v t l n. absurd (omega (arith, l));
}

pub noted_all : (g : Nodes) (labels : List ℕ) (needs : List (List ℕ)) (n : ℕ) → n ≡ length g → AreNoted g labels needs n → AreNeeds g labels needs
noted_all g labels needs n e h = record { each = h.each; sound = h.sound; whole = λ v t m. (let l = needing_lies g v t m in h.whole v t (omega (arith, l, e)) m) }

-- components need components
pub within_labels : (g : Nodes) (labels : List ℕ) (needs : List (List ℕ)) → IsClosed g → AreLabels g labels → AreNeeds g labels needs → AreWithin labels needs
within_labels g labels needs closed a h = record {
  each = h.each;
  within = λ c k r. (let (v, t, n, e, f) = h.sound c k r in
      (subst (IsLabel labels) e (own_label g labels a v (needing_lies g v t n)), subst (IsLabel labels) f (own_label g labels a t (closed v t n))));
}

-- one more 0, and one more label
pub zero_push : (n : ℕ) (xs : List ℕ) → AreZero n xs → AreZero (n + 1) (xs ++ 0 ∷ [])
zero_push n xs h = (
  length-append xs (0 ∷ []) ∙ ap (λ (k : ℕ). k + 1) h.0,
  λ k. elim (cases_lt k (length xs)) [
    | inl lt ↦ get_or_append_left xs (0 ∷ []) 0 k lt ∙ h.1 k
    | inr ge ↦ elim (cases_eq k (length xs)) [
      | inl is ↦ get_or_push xs 0 0 k (sym is)
      | inr apart ↦ (let size : length (xs ++ 0 ∷ []) ≡ length xs + 1 = length-append xs (0 ∷ []) in get_or_past (xs ++ 0 ∷ []) k 0 (omega (arith, size, ge, apart)))
    ]
  ],
)

pub own_more : (labels own : List ℕ) (n : ℕ) → AreOwn labels n own → get_or labels n 0 ≡ n → AreOwn labels (n + 1) (own ++ n ∷ [])
own_more labels own n h e c = (
  λ r. elim (has_push own n c r) [
    | inl old ↦ (let w = (h c).0 old in (omega (arith, w.0), w.1))
    | inr same ↦ (omega (arith, same), subst (λ (x : ℕ). get_or labels x 0 ≡ x) same e)
  ],
  λ w. elim (cases_lt c n) [
    | inl lt ↦ has_left own (n ∷ []) c ((h c).1 (lt, w.1))
    | inr ge ↦ subst (λ (x : ℕ). Has (own ++ n ∷ []) x) (let l = w.0 in omega (arith, l, ge)) (has_last own n)
  ],
)

pub own_same : (labels own : List ℕ) (n : ℕ) → AreOwn labels n own → (get_or labels n 0 ≡ n → ⊥) → AreOwn labels (n + 1) own
own_same labels own n h differ c = (
  λ r. (let w = (h c).0 r in (omega (arith, w.0), w.1)),
  λ w. elim (cases_lt c n) [
    | inl lt ↦ (h c).1 (lt, w.1)
    | inr ge ↦ absurd (let same : c ≡ n = (let l = w.0 in omega (arith, l, ge)) in differ (subst (λ (x : ℕ). get_or labels x 0 ≡ x) same w.1))
  ],
)

-- what a node needs has a label
pub needed_labelled : (g : Nodes) (labels : List ℕ) → IsClosed g → AreLabels g labels → (v i : ℕ) → i < length (needs_of g v) → get_or (needs_of g v) i 0 < length labels
needed_labelled g labels closed h v i l =
    let t = get_or (needs_of g v) i 0 in
    let n = closed v t (i, l, get_or_default (needs_of g v) i t 0 l) in
    omega (arith, n, h.each)
