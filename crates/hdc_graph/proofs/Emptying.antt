-- The nodes of the top segment come into a component one by one.
use Rattle.std.proofs.Common.{◌≡◌, ℕ, ◌+◌, ◌<◌, ◌≤◌, inl, inr, List, [], ◌∷◌, ◌++◌, length, get_or, set, take, refl, sym, ap, ◌∙◌, arith, length-append, length-set, le_refl}
use Rattle.std.proofs.lemmas.List.{get_or-set_same, get_or-set_other, get_or_push, get_or-take, take-take, take_all}
use Rattle.std.proofs.Math.Seq.{take-append_seam}
use Rattle.std.proofs.lemmas.Bool.{cases_eq}
use Rattle.hdc_graph.specs.declared.search.State.{State}
use Rattle.hdc_graph.specs.declared.search.State.TheVariants.{Unseen, OnPath, Finished}
use Rattle.hdc_graph.specs.declared.search.Search.{Search}
use Rattle.hdc_graph.specs.Search.{IsClosedFrom, IsClosing, IsPath, state_in, cost, costs, is_open, opened}
use Rattle.hdc_graph.proofs.Stepping.{on_path_open}
use Rattle.hdc_graph.proofs.Working.{costs_set, opened_set}

-- at first none has
pub closing_none : (old : Search) → IsPath old.states old.path → IsClosing (length old.path) old old
closing_none old p = record {
  path = sym (take_all (length old.path) old.path (le_refl (length old.path)));
  pending = refl;
  segments = refl;
  changed = λ v. inl (refl, λ q e. (p.found v q e).0);
  each = refl;
  costs = λ g e. refl;
  opened = refl;
}

module _ (old now new : Search) (node : ℕ) (p : IsPath old.states old.path) (k : IsClosing (length now.path) old now)
    (path_is : now.path ≡ new.path ++ node ∷ []) (shorter : length now.path ≤ length old.path) where
  size : length now.path ≡ length new.path + 1
  size = ap length path_is ∙ length-append new.path (node ∷ [])

  at_end : get_or old.path (length new.path) 0 ≡ node
  at_end =
      let lt : length new.path < length now.path = omega (arith, size) in
      sym (get_or-take (length now.path) old.path (length new.path) 0 lt) ∙ ap (λ (xs : List ℕ). get_or xs (length new.path) 0) (sym k.path ∙ path_is) ∙ get_or_push new.path node 0 (length new.path) refl

  was_on_path : state_in old.states node ≡ OnPath (length new.path)
  was_on_path = ap (state_in old.states) (sym at_end) ∙ p.placed (length new.path) (omega (arith, size, shorter))

  is_on_path : state_in now.states node ≡ OnPath (length new.path)
  is_on_path = elim (k.changed node) [
    | inl (same, lies) ↦ same ∙ was_on_path
    | inr (is, (q, e, l)) ↦ absurd (let f : OnPath q ≡ OnPath (length new.path) = sym e ∙ was_on_path in let z : q ≡ length new.path = cc in omega (arith, z, l, size))
  ]

  pub lies_in_states : node < length now.states
  lies_in_states = (on_path_open now.states node (length new.path) is_on_path).0

  -- one node more of the path comes into the component
  module _ (states_is : new.states ≡ set now.states node (Finished old.count)) (pending_is : new.pending ≡ now.pending) (segments_is : new.segments ≡ now.segments) where
    state_here : state_in new.states node ≡ Finished old.count
    state_here = ap (λ (xs : List State). state_in xs node) states_is ∙ get_or-set_same now.states node (Finished old.count) Unseen lies_in_states

    e_changed : (v : ℕ) → IsClosedFrom (state_in old.states) (state_in new.states) (length new.path) old.count v
    e_changed v = elim (cases_eq v node) [
      | inl is ↦ inr (ap (state_in new.states) is ∙ state_here, (length new.path, ap (state_in old.states) is ∙ was_on_path, le_refl (length new.path)))
      | inr apart ↦ (let same : state_in new.states v ≡ state_in now.states v = ap (λ (xs : List State). state_in xs v) states_is ∙ get_or-set_other now.states node v (Finished old.count) Unseen apart in
          elim (k.changed v) [
            | inl (as_old, lies) ↦ inl (
              same ∙ as_old,
              λ q e. (let l = lies q e in elim (cases_eq q (length new.path)) [
                | inl is ↦ absurd (apart (sym (p.found v q e).1 ∙ ap (λ (j : ℕ). get_or old.path j 0) is ∙ at_end))
                | inr other ↦ omega (arith, l, size, other)
              ]),
            )
            | inr (is, (q, e, l)) ↦ inr (same ∙ is, (q, e, omega (arith, l, size)))
          ])
    ]

    pub closing_one : IsClosing (length new.path) old new
    closing_one = record {
      path = sym (take-append_seam new.path (node ∷ [])) ∙ ap (take (length new.path)) (sym path_is ∙ k.path) ∙ take-take (length new.path) (length now.path) old.path (omega (arith, size));
      pending = pending_is ∙ k.pending;
      segments = segments_is ∙ k.segments;
      changed = e_changed;
      each = ap length states_is ∙ length-set now.states node (Finished old.count) ∙ k.each;
      costs = λ g e. (let c = costs_set g now.states node (Finished old.count) lies_in_states (omega (arith, lies_in_states, k.each, e)) in
          let none : cost (get_or now.states node Unseen) (get_or g node []) ≡ 0 = ap (λ (x : State). cost x (get_or g node [])) is_on_path in
          let same : costs g new.states ≡ costs g (set now.states node (Finished old.count)) = ap (costs g) states_is in
          let before = k.costs g e in omega (arith, c, none, same, before));
      opened = (let o = opened_set now.states node (Finished old.count) lies_in_states in
          let one : is_open (get_or now.states node Unseen) ≡ 1 = ap is_open is_on_path in
          let same : opened new.states ≡ opened (set now.states node (Finished old.count)) = ap opened states_is in
          let before = k.opened in omega (arith, o, one, same, before, size));
    }
