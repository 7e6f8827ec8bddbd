-- The numbers of finished components number the nodes.
use Rattle.std.proofs.Common.{◌≡◌, ℕ, ◌+◌, ◌<◌, ◌↔◌, inl, inr, Bool, false, IsTrue, List, [], ◌∷◌, ◌++◌, length, get_or, map, refl, sym, ap, ◌∙◌, subst, arith}
use Rattle.std.proofs.lemmas.List.{get_or_append_left, get_or_push, get_or_past, get_or_default, get_or-map, length-map}
use Rattle.std.proofs.lemmas.Bool.{cases_lt}
use Rattle.hdc_graph.specs.declared.search.State.TheVariants.{Unseen, Finished}
use Rattle.hdc_graph.specs.declared.search.Search.{Search}
use Rattle.hdc_graph.specs.Needs.{Nodes, Needs, needs_of, Reaches, one, further, AreMutual, IsClosed, NeedsComeFirst}
use Rattle.hdc_graph.specs.Search.{IsUnderWay, IsOver, state_in}
use Rattle.hdc_graph.specs.Numbers.{number_of, IsNumbered, NeedsNumber}

-- a node that needs something is in the graph
pub needing_lies : (g : Nodes) (a b : ℕ) → Needs g a b → a < length g
needing_lies g a b n = elim (cases_lt a (length g)) [
  | inl lt ↦ lt
  | inr ge ↦ absurd (let e : get_or g a [] ≡ [] = get_or_past g a [] ge in let z : length (get_or g a []) ≡ 0 = ap length e in omega (arith, z, n.1))
]

module _ (g : Nodes) (s : Search) (numbers : List ℕ) (h : IsUnderWay g s) (over : IsOver g s)
    (each : length numbers ≡ length g) (is : (v : ℕ) → v < length g → get_or numbers v 0 ≡ number_of (state_in s.states v)) where
  finished : (v : ℕ) → v < length g → state_in s.states v ≡ Finished (get_or numbers v 0)
  finished v l = let f = over v l in f.1 ∙ ap Finished (sym (is v l ∙ ap number_of f.1))

  same_number : (a b : ℕ) → a < length g → b < length g → get_or numbers a 0 ≡ get_or numbers b 0 → AreMutual g a b
  same_number a b la lb e = h.search.together a b (get_or numbers a 0) (finished a la) (finished b lb ∙ ap Finished (sym e))

  mutual_number : (a b : ℕ) → a < length g → b < length g → AreMutual g a b → get_or numbers a 0 ≡ get_or numbers b 0
  mutual_number a b la lb m = let f = h.search.whole a b (get_or numbers a 0) (finished a la) m in sym (is b lb ∙ ap number_of f)

  first : NeedsComeFirst g numbers
  first a b n =
      let la = needing_lies g a b n in
      let r = h.search.closed a b (get_or numbers a 0) (finished a la) n in
      let e : get_or numbers b 0 ≡ r.0 = is b (h.within a b n) ∙ ap number_of r.1 in
      omega (arith, e, r.2)

  below : (a : ℕ) → a < length g → get_or numbers a 0 < length g
  below a l = let c = h.search.counted a (get_or numbers a 0) (finished a l) in let b = h.bounded in omega (arith, c, b)

  pub numbered : IsNumbered g numbers
  numbered = record { numbering = record { each = each; agree = λ a b la lb. (same_number a b la lb, mutual_number a b la lb) }; first = first; closed = h.within; below = below }

-- a node reaches itself where it needs one of its component
module _ (g : Nodes) (numbers : List ℕ) (closed : IsClosed g) (h : IsNumbered g numbers) where
  pub needs_own : (v : ℕ) → v < length g → NeedsNumber (needs_of g v) numbers (get_or numbers v 0) → Reaches g v v
  needs_own v l (k, lies, e) =
      let t = get_or (needs_of g v) k 0 in
      let n : Needs g v t = (k, lies, get_or_default (needs_of g v) k t 0 lies) in
      elim ((h.numbering.agree t v (closed v t n) l).0 e) [
        | inl same ↦ one v v (subst (λ (x : ℕ). Needs g v x) same n)
        | inr m ↦ further v t v n m.0
      ]

  need_number : (v t : ℕ) → Needs g v t → get_or numbers t 0 ≡ get_or numbers v 0 → NeedsNumber (needs_of g v) numbers (get_or numbers v 0)
  need_number v t (k, lies, e) same = (k, lies, ap (λ (x : ℕ). get_or numbers x 0) (get_or_default (needs_of g v) k 0 t lies ∙ e) ∙ same)

  reach_own : (v x : ℕ) → Reaches g v x → x ≡ v → NeedsNumber (needs_of g v) numbers (get_or numbers v 0)
  reach_own v x (one a b n) e = need_number a b n (ap (λ (y : ℕ). get_or numbers y 0) e)
  reach_own v x (further a b c n r) e =
      let r' : Reaches g b a = subst (λ (y : ℕ). Reaches g b y) e r in
      need_number a b n ((h.numbering.agree b a (closed a b n) (needing_lies g a b n)).1 (inr (r', one a b n)))

  pub own_needed : (v : ℕ) → Reaches g v v → NeedsNumber (needs_of g v) numbers (get_or numbers v 0)
  own_needed v r = reach_own v v r refl

  -- what is known up to a node is known of one more
  pub looped_more : (cyclic : List Bool) (v : ℕ) (b : Bool) → length cyclic ≡ v → v < length g → ((u : ℕ) → u < v → IsTrue (get_or cyclic u false) ↔ Reaches g u u) → (IsTrue b ↔ NeedsNumber (needs_of g v) numbers (get_or numbers v 0)) → (u : ℕ) → u < v + 1 → IsTrue (get_or (cyclic ++ b ∷ []) u false) ↔ Reaches g u u
  looped_more cyclic v b size l before here u lt = elim (cases_lt u v) [
    | inl lower ↦ (let e = get_or_append_left cyclic (b ∷ []) false u (omega (arith, lower, size)) in
        (λ t. (before u lower).0 (subst (λ (x : Bool). IsTrue x) e t), λ r. subst (λ (x : Bool). IsTrue x) (sym e) ((before u lower).1 r)))
    | inr ge ↦ (let same : v ≡ u = omega (arith, lt, ge) in
        let e : get_or (cyclic ++ b ∷ []) v false ≡ b = get_or_push cyclic b false v size in
        subst (λ (x : ℕ). IsTrue (get_or (cyclic ++ b ∷ []) x false) ↔ Reaches g x x) same
        (λ t. needs_own v l (here.0 (subst (λ (x : Bool). IsTrue x) e t)), λ r. subst (λ (x : Bool). IsTrue x) (sym e) (here.1 (own_needed v r))))
  ]

-- what a node needs has a number
pub needed_lies : (g : Nodes) (numbers : List ℕ) → IsClosed g → IsNumbered g numbers → (v i : ℕ) → i < length (needs_of g v) → get_or (needs_of g v) i 0 < length numbers
needed_lies g numbers closed h v i l =
    let t = get_or (needs_of g v) i 0 in
    let n = closed v t (i, l, get_or_default (needs_of g v) i t 0 l) in
    omega (arith, n, h.numbering.each)

-- the states of a search that is over, read one by one
pub numbered_all : (g : Nodes) (s : Search) (numbers : List ℕ) → IsUnderWay g s → IsOver g s → numbers ≡ map number_of s.states → IsNumbered g numbers
numbered_all g s numbers h over e =
    let each : length numbers ≡ length g = ap length e ∙ length-map s.states number_of ∙ h.each in
    numbered g s numbers h over each (λ v l. (let lies : v < length s.states = omega (arith, l, h.each) in ap (λ (xs : List ℕ). get_or xs v 0) e ∙ get_or-map number_of s.states v Unseen 0 lies))
