-- What holds of a graph with other numbers holds of the graph.
use Rattle.std.proofs.Common.{◌≡◌, ℕ, ◌<◌, ◌≤◌, inl, inr, Bool, true, false, List, [], ◌∷◌, ◌++◌, length, get_or, map, sym, ap, ◌∙◌, subst, arith}
use Rattle.std.proofs.lemmas.List.{get_or-map, map_push, length-map, get_or_past}
use Rattle.std.proofs.lemmas.List.Elements.{Contains-get_or}
use Rattle.std.proofs.lemmas.Bool.{cases_eq, cases_lt}
use Rattle.hdc_graph.specs.Needs.{Nodes, needs_of, Needs, IsClosed, Reaches, one, further}
use Rattle.hdc_graph.specs.Groups.{AreGroups, group_at}
use Rattle.hdc_graph.specs.Lists.{Has}
use Rattle.hdc_graph.proofs.Noting.{has_contained, contains_had, has_map, map_has}
use Rattle.hdc_graph.proofs.Numbering.{needing_lies}
use Rattle.hdc_graph.proofs.Scheduling.{has_push}
use Rattle.hdc_order.specs.Order.{is_value, LeadsTo, directly, by_function, NoValueReachesItself, IsReady, GoesOn, order_of}
use Rattle.hdc_order.specs.Kept.{kept_of, is_value_at, AreWithin}
use Rattle.hdc_order.specs.Places.{functions_first, ArePlaces, renumbered}
use Rattle.hdc_order.proofs.Members.{not_both}
use Rattle.hdc_order.proofs.Arranging.{arranged, arranged_each, comes, is_at}
use Rattle.hdc_order.proofs.Grouping.{in_order}
use Rattle.hdc_order.proofs.Taking.{one_order}

module _ (g : Nodes) (closed : IsClosed g) (values : List Bool) (each : length values ≡ length g) (places : List ℕ) (p : ArePlaces (functions_first values) places) where
  abbrev nodes : List ℕ
  nodes = functions_first values

  abbrev old : ℕ → ℕ
  old m = get_or nodes m 0

  abbrev new : ℕ → ℕ
  new a = get_or places a 0

  abbrev h : Nodes
  h = renumbered g nodes places

  abbrev value : ℕ → Bool
  value = is_value values

  abbrev value' : ℕ → Bool
  value' m = value (old m)

  size : length h ≡ length g
  size = length-map nodes (λ (node : ℕ). map new (needs_of g node)) ∙ arranged_each values ∙ each

  new_lies : (a : ℕ) → a < length g → new a < length h
  new_lies a l = let r = (is_at values places p a (omega (arith, l, each))).lies in let s = size in omega (arith, r, s, each)

  old_new : (a : ℕ) → a < length g → old (new a) ≡ a
  old_new a l = (is_at values places p a (omega (arith, l, each))).is

  new_needs : (m : ℕ) → m < length h → needs_of h m ≡ map new (needs_of g (old m))
  new_needs m l = get_or-map (λ (node : ℕ). map new (needs_of g node)) nodes m 0 [] (let e = size in let f = arranged_each values in omega (arith, l, e, f, each))

  record IsNeed (m k : ℕ) : Type 0 where
    other : ℕ
    need : Needs g (old m) other
    is : new other ≡ k
    back : old k ≡ other

  is_need : (m k : ℕ) → Needs h m k → IsNeed m k
  is_need m k n =
      let l = needing_lies h m k n in
      let (b, hb, e) = has_map new (needs_of g (old m)) k (subst (λ (xs : List ℕ). Has xs k) (new_needs m l) (has_contained (needs_of h m) k n)) in
      let need : Needs g (old m) b = contains_had (needs_of g (old m)) b hb in record {
        other = b;
        need = need;
        is = e;
        back = ap old (sym e) ∙ old_new b (closed (old m) b need);
      }

  pub old_need : (m k : ℕ) → Needs h m k → Needs g (old m) (old k)
  old_need m k n = let r = is_need m k n in subst (Needs g (old m)) (sym r.back) r.need

  new_need : (a b : ℕ) → Needs g a b → Needs h (new a) (new b)
  new_need a b n =
      let l = needing_lies g a b n in
      contains_had (needs_of h (new a)) (new b) (subst (λ (xs : List ℕ). Has xs (new b)) (sym (new_needs (new a) (new_lies a l) ∙ ap (λ (z : ℕ). map new (needs_of g z)) (old_new a l))) (map_has new (needs_of g a) b (has_contained (needs_of g a) b n)))

  pub new_closed : IsClosed h
  new_closed m k n = let r = is_need m k n in subst (λ (z : ℕ). z < length h) r.is (new_lies r.other (closed (old m) r.other r.need))

  old_reaches : (m k : ℕ) → Reaches h m k → Reaches g (old m) (old k)
  old_reaches m k (one m' k' n) = one (old m) (old k) (old_need m k n)
  old_reaches m k (further m' j k' n r) = further (old m) (old j) (old k) (old_need m j n) (old_reaches j k r)

  old_leads : (m k : ℕ) → LeadsTo h value' m k → LeadsTo g value (old m) (old k)
  old_leads m k (directly m' k' n) = directly (old m) (old k) (old_need m k n)
  old_leads m k (by_function m' f k' n e r) = by_function (old m) (old f) (old k) (old_need m f n) e (old_leads f k r)

  new_leads : (a b : ℕ) → LeadsTo g value a b → LeadsTo h value' (new a) (new b)
  new_leads a b (directly a' b' n) = directly (new a) (new b) (new_need a b n)
  new_leads a b (by_function a' f b' n e r) = by_function (new a) (new f) (new b) (new_need a f n) (ap value (old_new f (closed a f n)) ∙ e) (new_leads f b r)

  lies : (a b : ℕ) → LeadsTo g value a b → b < length g
  lies a b (directly a' b' n) = closed a b n
  lies a b (by_function a' f b' n e r) = lies f b r

  new_old : (m : ℕ) → m < length h → new (old m) ≡ m
  new_old m l = p.place_of m (let e = size in let f = arranged_each values in omega (arith, l, e, f, each))

  same_new : (k m : ℕ) → k < length h → m < length h → old k ≡ old m → k ≡ m
  same_new k m lk lm e = sym (new_old k lk) ∙ ap new e ∙ new_old m lm

  old_lies : (m : ℕ) → m < length h → old m < length g
  old_lies m l =
      let e = size in
      let f = arranged_each values in
      let r = (arranged values).within m (omega (arith, l, e, f, each)) in
      omega (arith, r, f, each)

  new_lead_lies : (m k : ℕ) → LeadsTo h value' m k → k < length h
  new_lead_lies m k (directly m' k' n) = new_closed m k n
  new_lead_lies m k (by_function m' f k' n e r) = new_lead_lies f k r

  abbrev AreNodes : List ℕ → Type 0
  AreNodes taken = (k : ℕ) → Has taken k → k < length h

  -- what is ready by new numbers is ready
  ready_old : (taken : List ℕ) (m : ℕ) → AreNodes taken → IsReady h value' taken m → IsReady g value (map old taken) (old m)
  ready_old taken m within r = record {
    within = old_lies m r.within;
    valued = r.valued;
    left = λ mem. (let (k, hk, e) = has_map old taken (old m) mem in r.left (subst (Has taken) (same_new k m (within k hk) r.within e) hk));
    met = λ b n. (let there : LeadsTo h value' m (new b) = subst (λ (z : ℕ). LeadsTo h value' z (new b)) (new_old m r.within) (new_leads (old m) b n.1) in
        let lb = lies (old m) b n.1 in
        subst (Has (map old taken)) (old_new b lb) (map_has old taken (new b) (r.met (new b) (ap value (old_new b lb) ∙ n.0, there))));
  }

  ready_new : (taken : List ℕ) (a : ℕ) → AreNodes taken → IsReady g value (map old taken) a → IsReady h value' taken (new a)
  ready_new taken a within r = record {
    within = new_lies a r.within;
    valued = ap value (old_new a r.within) ∙ r.valued;
    left = λ mem. r.left (subst (Has (map old taken)) (old_new a r.within) (map_has old taken (new a) mem));
    met = λ k n. (
        let there : LeadsTo g value a (old k) = subst (λ (z : ℕ). LeadsTo g value z (old k)) (old_new a r.within) (old_leads (new a) k n.1) in
        let (j, hj, e) = has_map old taken (old k) (r.met (old k) (n.0, there)) in
        subst (Has taken) (same_new j k (within j hj) (new_lead_lies (new a) k n.1) e) hj);
  }

  -- values keep their order
  in_turn : (m k : ℕ) → m < length h → k < length h → value' m ≡ true → value' k ≡ true → m ≤ k → old m ≤ old k
  in_turn m k lm lk tm tk le = elim (cases_eq m k) [
    | inl is ↦ (let e : old m ≡ old k = ap old is in omega (arith, e))
    | inr apart ↦ elim (comes values m k (omega (arith, le, apart)) (let e = size in let f = arranged_each values in omega (arith, lk, e, f, each))) [
      | inl s ↦ (let l = s.1 in omega (arith, l))
      | inr s ↦ absurd (not_both (value' m) tm s.0)
    ]
  ]

  -- and functions come first
  functions_low : (m k : ℕ) → m < length h → k < length h → value' m ≡ false → value' k ≡ true → m < k
  functions_low m k lm lk fm tk = elim (cases_lt m k) [
    | inl lt ↦ lt
    | inr ge ↦ absurd (elim (cases_eq k m) [
      | inl is ↦ not_both (value' m) (subst (λ (z : ℕ). value' z ≡ true) is tk) fm
      | inr apart ↦ elim (comes values k m (omega (arith, ge, apart)) (let e = size in let f = arranged_each values in omega (arith, lm, e, f, each))) [
        | inl s ↦ not_both (value' k) tk (s.0 ∙ fm)
        | inr s ↦ not_both (value' k) tk s.0
      ]
    ])
  ]

  goes_old : (xs taken : List ℕ) → AreNodes taken → GoesOn h value' taken xs → GoesOn g value (map old taken) (map old xs)
  goes_old [] taken within none = λ a r. none (new a) (ready_new taken a within r)
  goes_old (x ∷ xs) taken within (ready, least, rest) = (
    ready_old taken x within ready,
    λ a r. (let s = ready_new taken a within r in
        let le = in_turn x (new a) ready.within s.within ready.valued s.valued (least (new a) s) in
        let e : old (new a) ≡ a = old_new a r.within in
        omega (arith, le, e)),
    subst (λ (ys : List ℕ). GoesOn g value ys (map old xs)) (map_push old taken x) (goes_old xs (taken ++ x ∷ [])
        (λ k m. elim (has_push taken x k m) [ inl in_taken ↦ within k in_taken | inr is ↦ subst (λ (z : ℕ). z < length h) is ready.within ]) rest),
  )

  -- the values among the groups are the values in order
  pub values_in_order : (groups : List (List ℕ)) → AreGroups h groups → NoValueReachesItself g values → map old (kept_of value' groups) ≡ order_of g values
  values_in_order groups are none = (one_order g values (map old (kept_of value' groups)) closed).0
      (goes_old (kept_of value' groups) [] (λ k m. absurd m)
      (in_order h value' groups are new_closed functions_low (λ m t r. none (old m) t (old_reaches m m r))))

-- the same, as the code has it
pub in_order_now : (g h : Nodes) (values : List Bool) (ns places : List ℕ) (groups : List (List ℕ)) (kept : List ℕ) → IsClosed g → length values ≡ length g → ns ≡ functions_first values → ArePlaces ns places → h ≡ renumbered g ns places → AreGroups h groups → kept ≡ map (λ (m : ℕ). get_or ns m 0) (kept_of (is_value_at ns values) groups) → NoValueReachesItself g values → kept ≡ order_of g values
in_order_now g h values ns places groups kept closed each e p is are k none =
    let ns' = functions_first values in
    let p' : ArePlaces ns' places = subst (λ (xs : List ℕ). ArePlaces xs places) e p in
    let is' : h ≡ renumbered g ns' places = subst (λ (xs : List ℕ). h ≡ renumbered g xs places) e is in
    let k' : kept ≡ map (λ (m : ℕ). get_or ns' m 0) (kept_of (is_value_at ns' values) groups) = subst (λ (xs : List ℕ). kept ≡ map (λ (m : ℕ). get_or xs m 0) (kept_of (is_value_at xs values) groups)) e k in
    k' ∙ values_in_order g closed values each places p' groups (subst (λ (x : Nodes). AreGroups x groups) is' are) none

pub closed_now : (g : Nodes) (values : List Bool) (ns places : List ℕ) → IsClosed g → length values ≡ length g → ns ≡ functions_first values → ArePlaces ns places → IsClosed (renumbered g ns places)
closed_now g values ns places closed each e p =
    subst (λ (xs : List ℕ). IsClosed (renumbered g xs places)) (sym e) (new_closed g closed values each places (subst (λ (xs : List ℕ). ArePlaces xs places) e p))

-- groups are of nodes
pub within_groups : (h : Nodes) (groups : List (List ℕ)) → AreGroups h groups → AreWithin (length h) groups
within_groups h groups are i k l = elim (cases_lt i (length groups)) [
  | inl lt ↦ (let m = Contains-get_or (group_at groups i) k 0 l in (((are.each i lt).whole (get_or (group_at groups i) k 0) (get_or (group_at groups i) k 0) m).0 m).0)
  | inr ge ↦ absurd (let e : length (group_at groups i) ≡ 0 = ap length (get_or_past groups i [] ge) in omega (arith, e, l))
]

pub nodes_within : (values : List Bool) (ns : List ℕ) → ns ≡ functions_first values → (length ns ≡ length values) × ((m : ℕ) → m < length ns → get_or ns m 0 < length values)
nodes_within values ns e = subst (λ (xs : List ℕ). (length xs ≡ length values) × ((m : ℕ) → m < length xs → get_or xs m 0 < length values)) (sym e) (
  arranged_each values,
  λ m l. (let r = (arranged values).within m l in let s = arranged_each values in omega (arith, r, s)),
)
