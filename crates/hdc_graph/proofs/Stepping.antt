-- Each step keeps what holds of the search, and leaves less work.
use Rattle.std.proofs.Common.{◌≡◌, ℕ, zero, suc, ◌+◌, ◌^◌, ◌<◌, ◌≤◌, inl, inr, Bool, true, false, cond, nat_lt, List, [], ◌∷◌, ◌++◌, length, get_or, set, refl, sym, ap, ◌∙◌, subst, arith, length-append, length-set, le_refl}
use Rattle.std.proofs.lemmas.List.{get_or-set_same, get_or-set_other, get_or_push}
use Rattle.std.proofs.lemmas.Bool.Decides.{nat_tests}
use Rattle.hdc_graph.specs.declared.search.State.{State}
use Rattle.hdc_graph.specs.declared.search.State.TheVariants.{Unseen, OnPath, Finished}
use Rattle.hdc_graph.specs.declared.stack.Segment.{Segment}
use Rattle.hdc_graph.specs.declared.search.Search.{Search}
use Rattle.hdc_graph.specs.Needs.{Nodes, needs_of}
use Rattle.hdc_graph.specs.Search.{IsIn, Falls, floor, IsFinished, IsFrom, IsSearch, IsClosing, IsPath, IsUnderWay, IsOver, state_in, with_pending, with_segment, entered, met_under, work, cost, is_open, opened}
use Rattle.hdc_graph.proofs.Segmented.{within}
use Rattle.hdc_graph.proofs.Entering as entering
use Rattle.hdc_graph.proofs.Passing.{passed}
use Rattle.hdc_graph.proofs.Joining.{joined_search}
use Rattle.hdc_graph.proofs.Closing.{closed_search}
use Rattle.hdc_graph.proofs.Working.{costs_set, opened_set}

-- a pending node is a node of the graph
pub pending_lies : (g : Nodes) (s : Search) (t : ℕ) → IsUnderWay g (with_pending t s) → t < length g
pending_lies g s t h =
    let size : length (s.pending ++ t ∷ []) ≡ length s.pending + 1 = length-append s.pending (t ∷ []) in
    let lies = h.search.inside (length s.pending) (omega (arith, size)) in
    subst (λ (x : ℕ). x < length g) (get_or_push s.pending t 0 (length s.pending) refl) lies

-- a node that is not seen comes onto the path
pub keeps_entered : (g : Nodes) (s : Search) (t : ℕ) → IsUnderWay g (with_pending t s) → floor s.segments ≤ length s.pending → state_in s.states t ≡ Unseen → IsUnderWay g (entered g t s)
keeps_entered g s t h low unseen =
    let lies = pending_lies g s t h in
    let here : t < length s.states = omega (arith, lies, h.each) in
    let fewer = opened_set s.states t (OnPath (length s.path)) here in
    let was : is_open (get_or s.states t Unseen) ≡ 1 = ap is_open unseen in record {
      search = entering.entered g (state_in s.states) (state_in (set s.states t (OnPath (length s.path)))) s.path s.pending t s.segments s.count h.search unseen low (get_or-set_same s.states t (OnPath (length s.path)) Unseen here) (λ v apart. get_or-set_other s.states t v (OnPath (length s.path)) Unseen apart) h.within;
      each = length-set s.states t (OnPath (length s.path)) ∙ h.each;
      bounded = (let b = h.bounded in omega (arith, b, fewer, was));
      small = h.small;
      within = h.within;
    }

pub less_entered : (g : Nodes) (s : Search) (t : ℕ) → IsUnderWay g (with_pending t s) → state_in s.states t ≡ Unseen → work g (entered g t s) < work g (with_pending t s)
less_entered g s t h unseen =
    let lies = pending_lies g s t h in
    let here : t < length s.states = omega (arith, lies, h.each) in
    let less = costs_set g s.states t (OnPath (length s.path)) here lies in
    let was : cost (get_or s.states t Unseen) (get_or g t []) ≡ length (get_or g t []) + 2 = ap (λ (x : State). cost x (get_or g t [])) unseen in
    let one : length (s.pending ++ t ∷ []) ≡ length s.pending + 1 = length-append s.pending (t ∷ []) in
    let more : length (s.pending ++ needs_of g t) ≡ length s.pending + length (needs_of g t) = length-append s.pending (needs_of g t) in
    omega (arith, less, was, one, more)

-- a node of the path is met again
module _ (g : Nodes) (s : Search) (t place : ℕ) (h : IsUnderWay g (with_pending t s)) (low : floor s.segments ≤ length s.pending) (here : state_in s.states t ≡ OnPath place) where
  -- each segment begins no later than the top one
  lies : (top : Segment) (rest : List Segment) (x : Segment) → IsSearch g (state_in s.states) s.path (s.pending ++ t ∷ []) (top ∷ rest) s.count → IsIn x (top ∷ rest) → x.path_from ≤ top.path_from
  lies top rest x h' (inl e) = subst (λ (z : Segment). z.path_from ≤ top.path_from) e (le_refl top.path_from)
  lies top rest x h' (inr i) = let w = within top.path_from top.pending_from rest x h'.falls.2 i in omega (arith, w.0)

  met_by : (b : Bool) (top : Segment) (rest : List Segment) → nat_lt place top.path_from ≡ b → s.segments ≡ top ∷ rest → IsUnderWay g (cond b (record s { segments = rest; pending = s.pending ++ t ∷ [] }) s)
  met_by true top rest test is =
      let below : place < top.path_from = grind (arith, nat_tests, test) in
      let h' = subst (λ (ss : List Segment). IsSearch g (state_in s.states) s.path (s.pending ++ t ∷ []) ss s.count) is h.search in
      let low' = subst (λ (ss : List Segment). floor ss ≤ length s.pending) is low in
      record { search = joined_search g (state_in s.states) s.path s.pending t place top rest s.count h' low' here below; each = h.each; bounded = h.bounded; small = h.small; within = h.within }
  met_by false top rest test is =
      let above : top.path_from ≤ place = grind (arith, nat_tests, test) in
      let h' = subst (λ (ss : List Segment). IsSearch g (state_in s.states) s.path (s.pending ++ t ∷ []) ss s.count) is h.search in
      let found = λ (x : Segment) (i : IsIn x s.segments). (let under : x.path_from ≤ top.path_from = lies top rest x h' (subst (λ (ss : List Segment). IsIn x ss) is i) in let from : IsFrom (state_in s.states) x.path_from t = (place, here, omega (arith, under, above)) in inr from) in
      record { search = passed g (state_in s.states) s.path s.pending t s.segments s.count h.search low (λ e. cc) found; each = h.each; bounded = h.bounded; small = h.small; within = h.within }

  met_in : (ss : List Segment) → s.segments ≡ ss → IsUnderWay g (met_under t place ss s)
  met_in [] is = absurd (let f = (h.search.found t place here).0 in let none : length s.path ≡ 0 = subst (λ (ss : List Segment). Falls (length s.path) (length (s.pending ++ t ∷ [])) ss) is h.search.falls in omega (arith, f, none))
  met_in (top ∷ rest) is = met_by (nat_lt place top.path_from) top rest refl is

  pub keeps_met : IsUnderWay g (met_under t place s.segments s)
  keeps_met = met_in s.segments refl

-- a finished node is passed over
pub keeps_passed : (g : Nodes) (s : Search) (t c : ℕ) → IsUnderWay g (with_pending t s) → floor s.segments ≤ length s.pending → state_in s.states t ≡ Finished c → IsUnderWay g s
keeps_passed g s t c h low here = record {
  search = passed g (state_in s.states) s.path s.pending t s.segments s.count h.search low (λ e. cc) (λ x i. inl (c, here));
  each = h.each;
  bounded = h.bounded;
  small = h.small;
  within = h.within;
}

-- the states say what the path is
pub path_of : (g : Nodes) (s : Search) → IsUnderWay g s → IsPath s.states s.path
path_of g s h = record { placed = h.search.placed; found = h.search.found }

-- a node of the path is in no component
pub on_path_open : (xs : List State) (v p : ℕ) → state_in xs v ≡ OnPath p → (v < length xs) × (1 ≤ opened xs)
on_path_open [] v p e = absurd cc
on_path_open (x ∷ xs) zero p e = let one : is_open x ≡ 1 = ap is_open e in (omega arith, omega (arith, one))
on_path_open (x ∷ xs) (suc v) p e = let r = on_path_open xs v p e in (omega (arith, r.0), omega (arith, r.1))

pub room : (g : Nodes) (s : Search) (top : Segment) → IsUnderWay g (with_segment top s) → s.count + 1 ≤ 2 ^ 32
room g s top h =
    let f = h.search.falls.0 in
    let r = on_path_open s.states (get_or s.path top.path_from 0) top.path_from (h.search.placed top.path_from f) in
    omega (arith, r.1, h.bounded, h.small)

-- the top segment is a component
pub keeps_closed : (g : Nodes) (s new : Search) (top : Segment) → IsUnderWay g (with_segment top s) → length s.pending ≤ top.pending_from → IsClosing top.path_from s new → new.count ≡ s.count + 1 → IsUnderWay g new
keeps_closed g s new top h none k count_is =
    let f = h.search.falls in
    record {
      search = rw (k.path, k.pending, k.segments, count_is) (closed_search g (state_in s.states) (state_in new.states) s.path s.pending top s.segments s.count h.search (omega (arith, none, f.1)) k.changed);
      each = k.each ∙ h.each;
      bounded = (let o = k.opened in let b = h.bounded in omega (arith, o, b, count_is, f.0));
      small = h.small;
      within = h.within;
    }

pub less_closed : (g : Nodes) (s new : Search) (top : Segment) → IsUnderWay g (with_segment top s) → IsClosing top.path_from s new → work g new < work g (with_segment top s)
less_closed g s new top h k =
    let a = k.costs g h.each in
    let b : length new.pending ≡ length s.pending = ap length k.pending in
    let c : length new.segments ≡ length s.segments = ap length k.segments in
    omega (arith, a, b, c)

-- where nothing is left, each node is in a component
over_at : (g : Nodes) (s : Search) → IsUnderWay g s → length s.path ≡ 0 → length s.pending ≤ 0 → (v : ℕ) → v < length g → (x : State) → state_in s.states v ≡ x → IsFinished (state_in s.states) v
over_at g s h none empty v l Unseen e = absurd (let w = h.search.left v l e in omega (arith, w.2, empty))
over_at g s h none empty v l (OnPath p) e = absurd (let w = (h.search.found v p e).0 in omega (arith, w, none))
over_at g s h none empty v l (Finished c) e = (c, e)

pub over : (g : Nodes) (s : Search) → IsUnderWay g s → s.segments ≡ [] → length s.pending ≤ 0 → IsOver g s
over g s h none empty v l =
    let no_path : length s.path ≡ 0 = subst (λ (ss : List Segment). Falls (length s.path) (length s.pending) ss) none h.search.falls in
    over_at g s h no_path empty v l (state_in s.states v) refl

-- the top segment of a search under way
pub under_top : (g : Nodes) (old now : Search) (top : Segment) (rest : List Segment) → now ≡ old → now.segments ≡ top ∷ rest → IsUnderWay g old → IsUnderWay g (with_segment top (record now { segments = rest }))
under_top g old now top rest same is h =
    let h' = subst (IsUnderWay g) (sym same) h in record {
      search = subst (λ (ss : List Segment). IsSearch g (state_in now.states) now.path now.pending ss now.count) is h'.search;
      each = h'.each;
      bounded = h'.bounded;
      small = h'.small;
      within = h'.within;
    }

pub none_in_top : (old now : Search) (top : Segment) (rest : List Segment) → now ≡ old → now.segments ≡ top ∷ rest → length old.pending ≤ floor old.segments → length now.pending ≤ top.pending_from
none_in_top old now top rest same is l =
    let l' = subst (λ (s : Search). length s.pending ≤ floor s.segments) (sym same) l in
    subst (λ (ss : List Segment). length now.pending ≤ floor ss) is l'

pub over_taken : (g : Nodes) (old now : Search) → now ≡ old → now.segments ≡ [] → length old.pending ≤ floor old.segments → IsUnderWay g old → IsOver g now
over_taken g old now same none l h =
    let l' = subst (λ (s : Search). length s.pending ≤ floor s.segments) (sym same) l in
    over g now (subst (IsUnderWay g) (sym same) h) none (subst (λ (ss : List Segment). length now.pending ≤ floor ss) none l')
