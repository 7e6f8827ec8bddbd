-- How a block's graph comes about.
use Rattle.std.proofs.Common.{◌≡◌, ℕ, ◌<◌, ◌≤◌, ◌⊎◌, inl, inr, List, [], ◌∷◌, ◌++◌, length, Option, Some, None, refl, sym, ap, ◌∙◌, subst, arith, length-append}
use Rattle.hdc_graph.specs.Needs.{Nodes, Needs}
use Rattle.hdc_needs.specs.Agrees.{LeadsTo, IsGraph}
use Rattle.hdc_needs.specs.Frames.{linked}
use Rattle.hdc_needs.specs.Uses.{Mentions}
use Rattle.hdc_needs.specs.Walk.{Mention}
use Rattle.hdc_needs.proofs.Linking.{grown_needs, needs_grown, linked_needs, needs_before, need_linked, linked_size}

-- ---- mentions

pub mentions_front : (ms ns : List Mention) (a : ℕ) (t : List ℕ) → Mentions ms a t → Mentions (ms ++ ns) a t
mentions_front [] ns a t h = absurd h
mentions_front (m ∷ ms) ns a t (inl h) = inl h
mentions_front (m ∷ ms) ns a t (inr h) = inr (mentions_front ms ns a t h)

pub mentions_back : (ms ns : List Mention) (a : ℕ) (t : List ℕ) → Mentions ns a t → Mentions (ms ++ ns) a t
mentions_back [] ns a t h = h
mentions_back (m ∷ ms) ns a t h = inr (mentions_back ms ns a t h)

pub mentions_either : (ms ns : List Mention) (a : ℕ) (t : List ℕ) → Mentions (ms ++ ns) a t → Mentions ms a t ⊎ Mentions ns a t
mentions_either [] ns a t h = inr h
mentions_either (m ∷ ms) ns a t (inl h) = inl (inl h)
mentions_either (m ∷ ms) ns a t (inr h) = elim (mentions_either ms ns a t h) [ inl k ↦ inl (inr k) | inr k ↦ inr k ]

-- ---- a declaration uses a name

module _ (n : ℕ) (binds uses : List Mention) (node : List ℕ → Option ℕ) (g : Nodes) (h : IsGraph n binds uses node g) (y : Mention) (m : ℕ) (lies : y.number < n) (stands : node y.name.text ≡ Some m) where
  u_lies : y.number < length g
  u_lies = let e = h.enough in omega (arith, e, lies)

  u_using : (a k : ℕ) → a < n → Needs (linked g y.number m) a k → LeadsTo (y ∷ uses) node a k
  u_using a k lt need = elim (linked_needs g y.number m u_lies a k need) [
    | inl old ↦ (let l : LeadsTo uses node a k = (h.using a k lt).0 old in record { text = l.text; mentioned = inr l.mentioned; stands = l.stands })
    | inr new ↦ record { text = y.name.text; mentioned = inl (sym new.0, refl); stands = stands ∙ ap Some (sym new.1) }
  ]

  u_used : (a k : ℕ) → a < n → LeadsTo (y ∷ uses) node a k → Needs (linked g y.number m) a k
  u_used a k lt l = elim l.mentioned [
    | inl new ↦
        let same : m ≡ k = (let e : Some m ≡ Some k = sym stands ∙ ap node new.1 ∙ l.stands in cc) in
        subst (λ (x : ℕ). Needs (linked g y.number m) x k) new.0 (subst (λ (x : ℕ). Needs (linked g y.number m) y.number x) same (need_linked g y.number m u_lies))
    | inr old ↦ needs_before g y.number m u_lies a k ((h.using a k lt).1 (record { text = l.text; mentioned = old; stands = l.stands }))
  ]

  u_binding : (k a : ℕ) → n ≤ k → Needs (linked g y.number m) k a → LeadsTo binds node a k
  u_binding k a ge need = elim (linked_needs g y.number m u_lies k a need) [
    | inl old ↦ (h.binding k a ge).0 old
    | inr new ↦ (let same = new.0 in absurd (omega (arith, same, ge, lies)))
  ]

  pub used_more : IsGraph n binds (y ∷ uses) node (linked g y.number m)
  used_more = record {
    enough = (let e = h.enough in let s = linked_size g y.number m u_lies in omega (arith, e, s));
    inside = λ t k e. (let i = h.inside t k e in let s = linked_size g y.number m u_lies in (i.0, omega (arith, i.1, s)));
    apart = h.apart;
    known = h.known;
    only = h.only;
    below = h.below;
    using = λ a k lt. (u_using a k lt, u_used a k lt);
    binding = λ k a ge. (u_binding k a ge, λ l. needs_before g y.number m u_lies k a ((h.binding k a ge).1 l));
  }

-- ---- a node more

pub node_more : (n : ℕ) (binds uses : List Mention) (node : List ℕ → Option ℕ) (g : Nodes) → IsGraph n binds uses node g → IsGraph n binds uses node (g ++ [] ∷ [])
node_more n binds uses node g h = record {
  enough = (let e = h.enough in let s = length-append g ([] ∷ []) in omega (arith, e, s));
  inside = λ t k e. (let i = h.inside t k e in let s = length-append g ([] ∷ []) in (i.0, omega (arith, i.1, s)));
  apart = h.apart;
  known = h.known;
  only = h.only;
  below = h.below;
  using = λ a k lt. (λ need. (h.using a k lt).0 (grown_needs g a k need), λ l. needs_grown g a k ((h.using a k lt).1 l));
  binding = λ k a ge. (λ need. (h.binding k a ge).0 (grown_needs g k a need), λ l. needs_grown g k a ((h.binding k a ge).1 l));
}

-- ---- a declaration binds a name

-- a node is that of the name, or of none so far
abbrev pub IsNodeOf : (List ℕ → Option ℕ) → List ℕ → ℕ → Type 0
IsNodeOf node t k = (node t ≡ Some k) ⊎ ((node t ≡ None) × ((u : List ℕ) → node u ≡ Some k → ⊥))

module _ (n : ℕ) (binds : List Mention) (node next : List ℕ → Option ℕ) (g : Nodes) (h : IsGraph n binds [] node g) (x : Mention) (k : ℕ) (number_lies : x.number < n) (ge_k : n ≤ k) (lies : k < length g) (is_node : IsNodeOf node x.name.text k)
    (same : (u : List ℕ) → u ≡ x.name.text → next u ≡ Some k) (other : (u : List ℕ) → (u ≡ x.name.text → ⊥) → next u ≡ node u) (decide : (u : List ℕ) → (u ≡ x.name.text) ⊎ (u ≡ x.name.text → ⊥)) where
  -- the name's own node, where it has one
  own : (m : ℕ) → node x.name.text ≡ Some m → m ≡ k
  own m e = elim is_node [ inl f ↦ (let p : Some m ≡ Some k = sym e ∙ f in cc) | inr f ↦ (let p : Some m ≡ None = sym e ∙ f.0 in absurd cc) ]

  -- another name has another node
  others : (u : List ℕ) → (u ≡ x.name.text → ⊥) → node u ≡ Some k → ⊥
  others u differs e = elim is_node [ inl f ↦ differs (h.apart u x.name.text k e f) | inr f ↦ f.1 u e ]

  old_next : (u : List ℕ) (m : ℕ) → node u ≡ Some m → next u ≡ Some m
  old_next u m e = elim (decide u) [
    | inl is ↦ same u is ∙ ap Some (sym (own m (ap node (sym is) ∙ e)))
    | inr differs ↦ other u differs ∙ e
  ]

  b_inside : (u : List ℕ) (m : ℕ) → next u ≡ Some m → (n ≤ m) × (m < length (linked g k x.number))
  b_inside u m e =
      let s = linked_size g k x.number lies in
      elim (decide u) [
        | inl is ↦ (let f : Some k ≡ Some m = sym (same u is) ∙ e in let is_k : k ≡ m = cc in (omega (arith, is_k, ge_k), omega (arith, is_k, lies, s)))
        | inr differs ↦ (let i = h.inside u m (sym (other u differs) ∙ e) in (i.0, omega (arith, i.1, s)))
      ]

  b_apart : (u v : List ℕ) (m : ℕ) → next u ≡ Some m → next v ≡ Some m → u ≡ v
  b_apart u v m e f = elim (decide u) [
    | inl is ↦ elim (decide v) [
      | inl is' ↦ is ∙ sym is'
      | inr differs ↦ (let p : Some k ≡ Some m = sym (same u is) ∙ e in let is_k : m ≡ k = cc in absurd (others v differs (sym (other v differs) ∙ f ∙ ap Some is_k)))
    ]
    | inr differs ↦ elim (decide v) [
      | inl is ↦ (let p : Some k ≡ Some m = sym (same v is) ∙ f in let is_k : m ≡ k = cc in absurd (others u differs (sym (other u differs) ∙ e ∙ ap Some is_k)))
      | inr differs' ↦ h.apart u v m (sym (other u differs) ∙ e) (sym (other v differs') ∙ f)
    ]
  ]

  b_known : (a : ℕ) (u : List ℕ) → Mentions (binds ++ x ∷ []) a u → (m : ℕ) × (next u ≡ Some m)
  b_known a u mentioned = elim (mentions_either binds (x ∷ []) a u mentioned) [
    | inl old ↦ (let r = h.known a u old in (r.0, old_next u r.0 r.1))
    | inr new ↦ elim new [ inl is ↦ (k, same u (sym is.1)) | inr none ↦ absurd none ]
  ]

  b_only : (u : List ℕ) (m : ℕ) → next u ≡ Some m → (a : ℕ) × Mentions (binds ++ x ∷ []) a u
  b_only u m e = elim (decide u) [
    | inl is ↦ (x.number, mentions_back binds (x ∷ []) x.number u (inl (refl, sym is)))
    | inr differs ↦ (let r = h.only u m (sym (other u differs) ∙ e) in (r.0, mentions_front binds (x ∷ []) r.0 u r.1))
  ]

  b_below : (a : ℕ) (u : List ℕ) → Mentions (binds ++ x ∷ []) a u → a < n
  b_below a u mentioned = elim (mentions_either binds (x ∷ []) a u mentioned) [
    | inl old ↦ h.below a u old
    | inr new ↦ elim new [ inl is ↦ (let e = is.0 in omega (arith, e, number_lies)) | inr none ↦ absurd none ]
  ]

  b_using : (a m : ℕ) → a < n → Needs (linked g k x.number) a m → LeadsTo [] next a m
  b_using a m lt need = elim (linked_needs g k x.number lies a m need) [
    | inl old ↦ (let l : LeadsTo [] node a m = (h.using a m lt).0 old in absurd l.mentioned)
    | inr new ↦ (let e = new.0 in absurd (omega (arith, e, lt, ge_k)))
  ]

  b_binding : (m a : ℕ) → n ≤ m → Needs (linked g k x.number) m a → LeadsTo (binds ++ x ∷ []) next a m
  b_binding m a ge need = elim (linked_needs g k x.number lies m a need) [
    | inl old ↦ (let l : LeadsTo binds node a m = (h.binding m a ge).0 old in record { text = l.text; mentioned = mentions_front binds (x ∷ []) a l.text l.mentioned; stands = old_next l.text m l.stands })
    | inr new ↦ record { text = x.name.text; mentioned = mentions_back binds (x ∷ []) a x.name.text (inl (sym new.1, refl)); stands = same x.name.text refl ∙ ap Some (sym new.0) }
  ]

  b_old : (m a : ℕ) → n ≤ m → (u : List ℕ) → Mentions binds a u → next u ≡ Some m → Needs (linked g k x.number) m a
  b_old m a ge u mentioned e =
      let r = h.known a u mentioned in
      let f : Some r.0 ≡ Some m = sym (old_next u r.0 r.1) ∙ e in
      let is : r.0 ≡ m = cc in
      needs_before g k x.number lies m a ((h.binding m a ge).1 (record { text = u; mentioned = mentioned; stands = r.1 ∙ ap Some is }))

  b_new : (m a : ℕ) (u : List ℕ) → x.number ≡ a → x.name.text ≡ u → next u ≡ Some m → Needs (linked g k x.number) m a
  b_new m a u number text e =
      let f : Some k ≡ Some m = sym (same u (sym text)) ∙ e in
      let is : k ≡ m = cc in
      subst (λ (z : ℕ). Needs (linked g k x.number) m z) number (subst (λ (z : ℕ). Needs (linked g k x.number) z x.number) is (need_linked g k x.number lies))

  b_bound : (m a : ℕ) → n ≤ m → LeadsTo (binds ++ x ∷ []) next a m → Needs (linked g k x.number) m a
  b_bound m a ge l = elim (mentions_either binds (x ∷ []) a l.text l.mentioned) [
    | inl old ↦ b_old m a ge l.text old l.stands
    | inr new ↦ elim new [ inl is ↦ b_new m a l.text is.0 is.1 l.stands | inr none ↦ absurd none ]
  ]

  pub bound_more : IsGraph n (binds ++ x ∷ []) [] next (linked g k x.number)
  bound_more = record {
    enough = (let e = h.enough in let s = linked_size g k x.number lies in omega (arith, e, s));
    inside = b_inside;
    apart = b_apart;
    known = b_known;
    only = b_only;
    below = b_below;
    using = λ a m lt. (b_using a m lt, λ l. absurd l.mentioned);
    binding = λ m a ge. (b_binding m a ge, b_bound m a ge);
  }
