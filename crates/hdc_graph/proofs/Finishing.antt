-- Where nothing is left to take, the groups stand in the order of dependency.
use Rattle.std.proofs.Common.{◌≡◌, ℕ, zero, suc, ◌+◌, ◌^◌, ◌<◌, ◌≤◌, ◌≢◌, ◌⊎◌, inl, inr, List, [], length, get_or, refl, sym, ap, ◌∙◌, subst, arith, Contains, Option, Some, None, le_refl}
use Rattle.std.proofs.lemmas.List.Elements.{Contains-get_or}
use Rattle.std.proofs.lemmas.List.{get_or_default}
use Rattle.std.proofs.lemmas.Bool.{cases_lt}
use Rattle.std.specs.List.Sorted.{IsStrictlyIncreasing}
use Rattle.hdc_graph.specs.declared.schedule.Schedule.{Schedule}
use Rattle.hdc_graph.specs.Needs.{Nodes, AreMutual}
use Rattle.hdc_graph.specs.Numbers.{IsNumbered}
use Rattle.hdc_graph.specs.Groups.{IsGroup, AreGroups, NeedsOnlyBefore, group_at}
use Rattle.hdc_graph.specs.Lists.{Has, list_at, place_in}
use Rattle.hdc_graph.specs.Labels.{IsLabel, AreLabels, AreNeeds}
use Rattle.hdc_graph.specs.Schedule.{IsScheduling, IsLater}
use Rattle.hdc_graph.specs.Filling.{AreFilled, CanFill}
use Rattle.hdc_graph.proofs.Numbering.{needing_lies}
use Rattle.hdc_graph.proofs.Labelling.{one_label, own_label, label_mutual}

-- the first of an increasing list is its least
first_at : (xs : List ℕ) → IsStrictlyIncreasing xs → (k : ℕ) → k < length xs → get_or xs 0 0 ≤ get_or xs k 0
first_at xs h zero l = le_refl (get_or xs 0 0)
first_at xs h (suc k) l =
    let r = first_at xs h k (omega (arith, l)) in
    let next : get_or xs k 0 < get_or xs (k + 1) 0 = h k (omega (arith, l)) in
    let same : get_or xs (k + 1) 0 ≡ get_or xs (suc k) 0 = ap (λ (j : ℕ). get_or xs j 0) (omega arith) in
    omega (arith, r, next, same)

pub first_least : (xs : List ℕ) (x : ℕ) → IsStrictlyIncreasing xs → Contains xs x → get_or xs 0 0 ≤ x
first_least xs x h (k, l, e) =
    let r = first_at xs h k l in
    let same : get_or xs k 0 ≡ x = get_or_default xs k 0 x l ∙ e in
    omega (arith, r, same)

module _ (g : Nodes) (numbers : List ℕ) (s : Schedule) (hn : IsNumbered g numbers) (hl : AreLabels g s.labels) (hs : AreNeeds g s.labels s.needs)
    (k : IsScheduling s) (calm : s.restless ≡ []) (none : s.ready ≡ []) where
  label : ℕ → ℕ
  label a = get_or s.labels a 0

  -- a label has the number of the nodes that it stands for
  number_of_label : (v c : ℕ) → v < length g → get_or s.labels v 0 ≡ c → (c < length g) × (get_or numbers v 0 ≡ get_or numbers c 0)
  number_of_label v c l e =
      let lc : c < length g = (let m = hl.lies v l in omega (arith, m, e)) in
      (lc, (hn.numbering.agree v c l lc).1 (subst (λ (x : ℕ). AreMutual g v x) e (hl.mutual_to v l)))

  -- a component needs others of lower numbers
  earlier : (c j : ℕ) → Has (list_at s.needs c) j → j ≢ c → get_or numbers j 0 < get_or numbers c 0
  earlier c j r differ =
      let (v, t, n, e, f) = hs.sound c j r in
      let lv = needing_lies g v t n in
      let lt = hn.closed v t n in
      let low = hn.first v t n in
      let a = number_of_label v c lv e in
      let b = number_of_label t j lt f in
      let own = k.within c j r in
      let apart : get_or numbers j 0 ≢ get_or numbers c 0 = λ same. differ (sym own.1.1 ∙ one_label g s.labels hl j c b.0 a.0 ((hn.numbering.agree j c b.0 a.0).0 same) ∙ own.0.1) in
      omega (arith, low, a.1, b.1, apart)

  -- so each is taken in the end
  none_left : (bound c : ℕ) → get_or numbers c 0 < bound → IsLabel s.labels c → place_in s.places c ≡ None → ⊥
  none_left zero c l u e = omega (arith, l)
  none_left (suc bound) c l u e = elim (k.kept.located c u e) [
    | inl r ↦ subst (λ (xs : List ℕ). Has xs c) calm r
    | inr (inl r) ↦ subst (λ (xs : List ℕ). Has xs c) none r
    | inr (inr (j, open', w)) ↦ (let m = k.kept.waits j c w in let less = earlier c j m.0 m.1 in none_left bound j (omega (arith, less, l)) (k.within c j m.0).1 open')
  ]

  placed_by : (c : ℕ) → IsLabel s.labels c → (x : Option ℕ) → place_in s.places c ≡ x → (i : ℕ) × (place_in s.places c ≡ Some i)
  placed_by c u None e = absurd (none_left (get_or numbers c 0 + 1) c (omega arith) u e)
  placed_by c u (Some i) e = (i, e)

  module _ (groups : List (List ℕ)) (f : AreFilled s.labels s.places (length s.taken) groups) where
    in_labels : (a : ℕ) → a < length g → a < length s.labels
    in_labels a l = omega (arith, l, hl.each)

    in_graph : (a : ℕ) → a < length s.labels → a < length g
    in_graph a l = omega (arith, l, hl.each)

    -- the label of a group is in it
    label_in : (i : ℕ) → i < length groups → (c : ℕ) × IsLabel s.labels c × (place_in s.places c ≡ Some i) × Contains (group_at groups i) c
    label_in i l =
        let w = k.placed.filled i (omega (arith, l, f.each)) in
        let u = (k.placed.below w.0 i w.1).1 in
        (w.0, u, w.1, (f.members i w.0).1 (u.0, ap (place_in s.places) u.1 ∙ w.1))

    same_label : (i a b : ℕ) → Contains (group_at groups i) a → Contains (group_at groups i) b → get_or s.labels a 0 ≡ get_or s.labels b 0
    same_label i a b m n = k.placed.single (get_or s.labels a 0) (get_or s.labels b 0) i ((f.members i a).0 m).1 ((f.members i b).0 n).1

    g_each : (i : ℕ) → i < length groups → IsGroup g (group_at groups i)
    g_each i l = record {
      increasing = f.increasing i;
      some = (let w = label_in i l in let m = w.3.1 in omega (arith, m));
      whole = λ a b m. (let wa = (f.members i a).0 m in (
        λ n. (let wb = (f.members i b).0 n in (in_graph b wb.0, label_mutual g s.labels hl a b (in_graph a wa.0) (in_graph b wb.0) (same_label i a b m n))),
        λ w. (f.members i b).1 (in_labels b w.0, ap (place_in s.places) (sym (one_label g s.labels hl a b (in_graph a wa.0) w.0 w.1)) ∙ wa.1),
      ));
    }

    g_all : (a : ℕ) → a < length g → (i : ℕ) × (i < length groups) × Contains (group_at groups i) a
    g_all a l =
        let p = placed_by (get_or s.labels a 0) (own_label g s.labels hl a l) (place_in s.places (get_or s.labels a 0)) refl in
        let b = (k.placed.below (get_or s.labels a 0) p.0 p.1).0 in
        (p.0, omega (arith, b, f.each), (f.members p.0 a).1 (in_labels a l, p.1))

    g_once : (i j a : ℕ) → Contains (group_at groups i) a → Contains (group_at groups j) a → i ≡ j
    g_once i j a m n = let e : Some i ≡ Some j = sym ((f.members i a).0 m).1 ∙ ((f.members j a).0 n).1 in cc

    g_needs : (i : ℕ) → i < length groups → NeedsOnlyBefore g groups i (group_at groups i)
    g_needs i l a b m n =
        let wa = (f.members i a).0 m in
        let r = k.placed.needs (get_or s.labels a 0) (get_or s.labels b 0) i wa.1 (hs.whole a b n) in
        let lb = in_labels b (hn.closed a b n) in
        elim (cases_lt r.0 i) [
          | inl lt ↦ inr (r.0, lt, (f.members r.0 b).1 (lb, r.1))
          | inr ge ↦ (let le = r.2 in let same : r.0 ≡ i = omega (arith, le, ge) in inl ((f.members i b).1 (lb, r.1 ∙ ap Some same)))
        ]

    g_least : (i j : ℕ) → i < j → j < length groups → NeedsOnlyBefore g groups i (group_at groups j) → get_or (group_at groups i) 0 0 < get_or (group_at groups j) 0 0
    g_least i j l lj before =
        let (c, uc, ec, mc) = label_in i (omega (arith, l, lj)) in
        let (d, ud, ed, md) = label_in j lj in
        let differ : c ≢ d = λ same. (let e : Some i ≡ Some j = sym ec ∙ ap (place_in s.places) same ∙ ed in let z : i ≡ j = cc in omega (arith, z, l)) in
        let later = λ (b : ℕ) (e : place_in s.places d ≡ Some b). (let z : Some j ≡ Some b = sym ed ∙ e in let y : j ≡ b = cc in let r : i < b = omega (arith, y, l) in r) in
        let met : (h : ℕ) → Has (list_at s.needs d) h → ((b : ℕ) × (place_in s.places h ≡ Some b) × (b < i)) ⊎ (h ≡ d) = λ h r.
        (let (v, t, n, e, e') = hs.sound d h r in
        let mv : Contains (group_at groups j) v = (f.members j v).1 (in_labels v (needing_lies g v t n), ap (place_in s.places) e ∙ ed) in
        elim (before v t mv n) [
          | inl own ↦ inr (k.placed.single h d j (ap (place_in s.places) (sym e') ∙ ((f.members j t).0 own).1) ed)
          | inr (b, lb, mb) ↦ inl (b, ap (place_in s.places) (sym e') ∙ ((f.members b t).0 mb).1, lb)
        ]) in
        let less = k.placed.least c d i ec ud differ later met in
        let first_i = first_least (group_at groups i) c (f.increasing i) mc in
        let some : 0 < length (group_at groups j) = (let m = md.1 in omega (arith, m)) in
        let head = Contains-get_or (group_at groups j) 0 0 some in
        let lies = in_graph (get_or (group_at groups j) 0 0) ((f.members j (get_or (group_at groups j) 0 0)).0 head).0 in
        let is : get_or s.labels (get_or (group_at groups j) 0 0) 0 ≡ d = same_label j (get_or (group_at groups j) 0 0) d head md ∙ ud.1 in
        let first_j = hl.least (get_or (group_at groups j) 0 0) (get_or (group_at groups j) 0 0) lies lies (inl refl) in
        omega (arith, less, first_i, first_j, is)

    pub are_groups : AreGroups g groups
    are_groups = record { each = g_each; all = g_all; once = g_once; needs = g_needs; least = g_least }

-- the labels have places
pub can_fill : (g : Nodes) (s : Schedule) (labels : List ℕ) (places : List (Option ℕ)) (count : ℕ) → length g ≤ 2 ^ 32 → AreLabels g s.labels → IsScheduling s → labels ≡ s.labels → places ≡ s.places → count ≡ length s.taken → CanFill labels places count
can_fill g s labels places count small hl k a b e = rw (a, b, e) (record {
  small = omega (arith, small, hl.each);
  within = λ v l. (let m = hl.lies v (omega (arith, l, hl.each)) in omega (arith, m, k.places_each, hl.each));
  below = λ c i p. (k.placed.below c i p).0;
})

-- the groups, as the code has it
pub are_groups_now : (g : Nodes) (numbers labels slice : List ℕ) (needs : List (List ℕ)) (old s : Schedule) (places : List (Option ℕ)) (count : ℕ) (groups : List (List ℕ)) → IsNumbered g numbers → AreLabels g labels → AreNeeds g slice needs → slice ≡ labels → old.labels ≡ labels → old.needs ≡ needs → IsLater old s → IsScheduling s → s.restless ≡ [] → s.ready ≡ [] → (few : List ℕ) → few ≡ s.labels → places ≡ s.places → count ≡ length s.taken → AreFilled few places count groups → AreGroups g groups
are_groups_now g numbers labels slice needs old s places count groups hn hl hs a b d later k calm none few e e' e'' f =
    let is : s.labels ≡ labels = later.labels ∙ b in
    let hl' : AreLabels g s.labels = subst (AreLabels g) (sym is) hl in
    let hs' : AreNeeds g s.labels s.needs = rw (later.needs, d, is, ← a) hs in
    are_groups g numbers s hn hl' hs' k calm none groups (rw (e, e', e'') at f)
