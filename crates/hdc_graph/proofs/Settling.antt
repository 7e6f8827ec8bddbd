-- Each step of the schedule keeps what holds of it.
use Rattle.std.proofs.Common.{◌≡◌, ℕ, zero, suc, ◌+◌, ◌<◌, ◌≤◌, ◌≢◌, ◌⊎◌, inl, List, [], ◌∷◌, ◌++◌, length, get_or, set, drop, refl, sym, ap, ◌∙◌, subst, arith, Option, Some, None, length-set, length-append, length-drop}
use Rattle.std.proofs.lemmas.List.{get_or-set_same, get_or-set_other, drop_all}
use Rattle.hdc_graph.specs.declared.schedule.Schedule.{Schedule}
use Rattle.hdc_graph.specs.Lists.{Has, list_at, IsInserted, AllAbove, place_in}
use Rattle.hdc_graph.specs.Labels.{IsLabel}
use Rattle.hdc_graph.specs.Schedule.{IsPlaced, ArePlaced, AreKept, owed_at, IsScheduling, with_restless, with_taken, remaining, left, is_untaken, untaken}
use Rattle.hdc_graph.proofs.Scheduling.{has_last, keeps_taken, keeps_ready, keeps_paid, keeps_waiting, places_taken, keeps_placed}

-- what is to be looked at is a component
pub looked_lies : (s : Schedule) (c : ℕ) → IsScheduling (with_restless c s) → c < length s.labels
looked_lies s c h = (h.kept.inside c (has_last s.restless c)).0

-- what it needs at its cursor is a component
pub need_lies : (s : Schedule) (c k : ℕ) (rest : List ℕ) → IsScheduling (with_restless c s) → owed_at s.needs s.cursors c ≡ k ∷ rest → k < length s.labels
need_lies s c k rest h owed = (h.within c k (h.kept.owed c k (subst (λ (xs : List ℕ). Has xs k) (sym owed) (inl refl)))).1.0

pub taken_kept : (s : Schedule) (c : ℕ) → IsScheduling (with_restless c s) → IsPlaced (place_in s.places) c → IsScheduling s
taken_kept s c h (i, e) = record {
  kept = keeps_taken _ _ (place_in s.places) (owed_at s.needs s.cursors) (list_at s.waiting) s.restless s.ready c h.kept i e;
  placed = h.placed;
  within = h.within;
  needs_each = h.needs_each;
  cursors_each = h.cursors_each;
  waiting_each = h.waiting_each;
  places_each = h.places_each;
}

pub ready_kept : (s : Schedule) (c : ℕ) (more : List ℕ) → IsScheduling (with_restless c s) → owed_at s.needs s.cursors c ≡ [] → place_in s.places c ≡ None → IsInserted c s.ready more → IsScheduling (record s { ready = more })
ready_kept s c more h none e i = record {
  kept = keeps_ready _ _ (place_in s.places) (owed_at s.needs s.cursors) (list_at s.waiting) s.restless s.ready c h.kept more none e i.0 i.1 i.2;
  placed = h.placed;
  within = h.within;
  needs_each = h.needs_each;
  cursors_each = h.cursors_each;
  waiting_each = h.waiting_each;
  places_each = h.places_each;
}

pub paid_kept : (s : Schedule) (c k cursor : ℕ) → IsScheduling (with_restless c s) → owed_at s.needs s.cursors c ≡ k ∷ drop (cursor + 1) (list_at s.needs c) → IsPlaced (place_in s.places) k ⊎ (k ≡ c) → IsScheduling (record s { cursors = set s.cursors c (cursor + 1); restless = s.restless ++ c ∷ [] })
paid_kept s c k cursor h owed fine =
    let lies : c < length s.cursors = omega (arith, looked_lies s c h, h.cursors_each) in record {
      kept = keeps_paid _ _ (place_in s.places) (owed_at s.needs s.cursors) (list_at s.waiting) s.restless s.ready c h.kept k (drop (cursor + 1) (list_at s.needs c)) (owed_at s.needs (set s.cursors c (cursor + 1))) owed fine
          (ap (λ (n : ℕ). drop n (list_at s.needs c)) (get_or-set_same s.cursors c (cursor + 1) 0 lies))
          (λ d apart. ap (λ (n : ℕ). drop n (list_at s.needs d)) (get_or-set_other s.cursors c d (cursor + 1) 0 apart));
      placed = h.placed;
      within = h.within;
      needs_each = h.needs_each;
      cursors_each = length-set s.cursors c (cursor + 1) ∙ h.cursors_each;
      waiting_each = h.waiting_each;
      places_each = h.places_each;
    }

pub waiting_kept : (s : Schedule) (c k : ℕ) (rest : List ℕ) → IsScheduling (with_restless c s) → owed_at s.needs s.cursors c ≡ k ∷ rest → place_in s.places k ≡ None → k ≢ c → IsScheduling (record s { waiting = set s.waiting k (list_at s.waiting k ++ c ∷ []) })
waiting_kept s c k rest h owed e differ =
    let lies : k < length s.waiting = omega (arith, need_lies s c k rest h owed, h.waiting_each) in record {
      kept = keeps_waiting _ _ (place_in s.places) (owed_at s.needs s.cursors) (list_at s.waiting) s.restless s.ready c h.kept k rest (list_at (set s.waiting k (list_at s.waiting k ++ c ∷ []))) owed e differ
          (get_or-set_same s.waiting k (list_at s.waiting k ++ c ∷ []) [] lies)
          (λ d apart. get_or-set_other s.waiting k d (list_at s.waiting k ++ c ∷ []) [] apart);
      placed = h.placed;
      within = h.within;
      needs_each = h.needs_each;
      cursors_each = h.cursors_each;
      waiting_each = length-set s.waiting k (list_at s.waiting k ++ c ∷ []) ∙ h.waiting_each;
      places_each = h.places_each;
    }

-- a cursor that moves on leaves less
remaining_set : (needs : List (List ℕ)) (cursors : List ℕ) (c : ℕ) → c < length cursors → c < length needs → get_or cursors c 0 < length (get_or needs c []) → remaining needs (set cursors c (get_or cursors c 0 + 1)) + 1 ≡ remaining needs cursors
remaining_set [] cursors c l m n = absurd (omega arith)
remaining_set (x ∷ needs) [] c l m n = absurd (omega arith)
remaining_set (x ∷ needs) (k ∷ cursors) zero l m n = omega (arith, n)
remaining_set (x ∷ needs) (k ∷ cursors) (suc c) l m n = let r = remaining_set needs cursors c (omega (arith, l)) (omega (arith, m)) n in omega (arith, r)

pub paid_less : (s : Schedule) (c k : ℕ) (rest : List ℕ) → IsScheduling (with_restless c s) → owed_at s.needs s.cursors c ≡ k ∷ rest → left (record s { cursors = set s.cursors c (get_or s.cursors c 0 + 1); restless = s.restless ++ c ∷ [] }) < left (with_restless c s)
paid_less s c k rest h owed =
    let lies = looked_lies s c h in
    let some : length (drop (get_or s.cursors c 0) (list_at s.needs c)) ≡ suc (length rest) = ap length owed in
    let size = length-drop (get_or s.cursors c 0) (list_at s.needs c) in
    let r = remaining_set s.needs s.cursors c (omega (arith, lies, h.cursors_each)) (omega (arith, lies, h.needs_each)) (omega (arith, some, size)) in
    omega (arith, r)

-- one that is taken leaves fewer
untaken_set : (places : List (Option ℕ)) (c i : ℕ) → c < length places → get_or places c None ≡ None → untaken (set places c (Some i)) + 1 ≡ untaken places
untaken_set [] c i l e = absurd (omega arith)
untaken_set (p ∷ places) zero i l e = let one : is_untaken p ≡ 1 = ap is_untaken e in omega (arith, one)
untaken_set (p ∷ places) (suc c) i l e = let r = untaken_set places c i (omega (arith, l)) e in omega (arith, r)

module _ (s : Schedule) (c : ℕ) (ready : List ℕ) (h : IsScheduling s) (settled : s.restless ≡ []) (popped : s.ready ≡ c ∷ ready) where
  kept : AreKept (IsLabel s.labels) (λ c k. Has (list_at s.needs c) k) (place_in s.places) (owed_at s.needs s.cursors) (list_at s.waiting) [] (c ∷ ready)
  kept = subst (λ (xs : List ℕ). AreKept (IsLabel s.labels) (λ c k. Has (list_at s.needs c) k) (place_in s.places) (owed_at s.needs s.cursors) (list_at s.waiting) xs (c ∷ ready)) settled
      (subst (λ (xs : List ℕ). AreKept (IsLabel s.labels) (λ c k. Has (list_at s.needs c) k) (place_in s.places) (owed_at s.needs s.cursors) (list_at s.waiting) s.restless xs) popped h.kept)

  pub chosen_lies : c < length s.labels
  chosen_lies = (kept.can c (inl refl)).0.0

  open_here : place_in s.places c ≡ None
  open_here = (kept.can c (inl refl)).1

  pub taken_less : untaken (set s.places c (Some (length s.taken))) < untaken s.places
  taken_less = let r = untaken_set s.places c (length s.taken) (omega (arith, chosen_lies, h.places_each)) open_here in omega (arith, r)

  pub taken_next : AllAbove c ready → IsScheduling (with_taken c (record s { ready = ready }))
  taken_next above =
      let lies : c < length s.places = omega (arith, chosen_lies, h.places_each) in
      let here = get_or-set_same s.places c (Some (length s.taken)) None lies in
      let other = λ (d : ℕ) (apart : d ≢ c). get_or-set_other s.places c d (Some (length s.taken)) None apart in
      let uses = λ (d k : ℕ) (n : Has (list_at s.needs d) k). (h.within d k n).0 in record {
        kept = subst (λ (xs : List ℕ). AreKept (IsLabel s.labels) (λ c k. Has (list_at s.needs c) k) (place_in (set s.places c (Some (length s.taken)))) (owed_at s.needs s.cursors) (list_at s.waiting) xs ready) (sym (ap (λ (xs : List ℕ). xs ++ list_at s.waiting c) settled))
            (keeps_placed _ _ (place_in s.places) (place_in (set s.places c (Some (length s.taken)))) (owed_at s.needs s.cursors) (list_at s.waiting) c ready (length s.taken) kept h.placed above here other uses);
        placed = subst (λ (n : ℕ). ArePlaced (IsLabel s.labels) (λ c k. Has (list_at s.needs c) k) (place_in (set s.places c (Some (length s.taken)))) n) (sym (length-append s.taken (c ∷ [])))
            (places_taken _ _ (place_in s.places) (place_in (set s.places c (Some (length s.taken)))) (owed_at s.needs s.cursors) (list_at s.waiting) c ready (length s.taken) kept h.placed above here other uses);
        within = h.within;
        needs_each = h.needs_each;
        cursors_each = h.cursors_each;
        waiting_each = h.waiting_each;
        places_each = length-set s.places c (Some (length s.taken)) ∙ h.places_each;
      }

-- the same, as the code has it
pub paid_now : (s : Schedule) (c k cursor : ℕ) (cursors restless : List ℕ) → IsScheduling (with_restless c s) → owed_at s.needs s.cursors c ≡ k ∷ drop (cursor + 1) (list_at s.needs c) → IsPlaced (place_in s.places) k ⊎ (k ≡ c) → cursors ≡ set s.cursors c (cursor + 1) → restless ≡ s.restless ++ c ∷ [] → IsScheduling (record s { cursors = cursors; restless = restless })
paid_now s c k cursor cursors restless h owed fine e f = rw (e, f) (paid_kept s c k cursor h owed fine)

pub paid_now_less : (s : Schedule) (c k cursor : ℕ) (rest cursors restless : List ℕ) → IsScheduling (with_restless c s) → owed_at s.needs s.cursors c ≡ k ∷ rest → cursor ≡ get_or s.cursors c 0 → cursors ≡ set s.cursors c (cursor + 1) → restless ≡ s.restless ++ c ∷ [] → left (record s { cursors = cursors; restless = restless }) < left (with_restless c s)
paid_now_less s c k cursor rest cursors restless h owed is e f = rw (e, f, is) (paid_less s c k rest h owed)

pub waiting_now : (s : Schedule) (c k : ℕ) (rest : List ℕ) (waiting : List (List ℕ)) → IsScheduling (with_restless c s) → owed_at s.needs s.cursors c ≡ k ∷ rest → (place_in s.places k ≡ None) × (k ≢ c) → waiting ≡ set s.waiting k (list_at s.waiting k ++ c ∷ []) → IsScheduling (record s { waiting = waiting })
waiting_now s c k rest waiting h owed w e = rw e (waiting_kept s c k rest h owed w.0 w.1)

-- a component whose cursor is at the end owes nothing
pub owes_nothing : (s : Schedule) (c cursor : ℕ) (needs : List ℕ) → cursor ≡ get_or s.cursors c 0 → needs ≡ list_at s.needs c → length needs ≤ cursor → owed_at s.needs s.cursors c ≡ []
owes_nothing s c cursor needs is e past = drop_all (get_or s.cursors c 0) (list_at s.needs c) (let f : length needs ≡ length (list_at s.needs c) = ap length e in omega (arith, f, is, past))
