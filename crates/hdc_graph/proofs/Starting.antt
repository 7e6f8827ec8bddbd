-- At first every node is pending.
use Rattle.std.proofs.Common.{◌≡◌, ℕ, ◌+◌, ◌^◌, ◌<◌, ◌≤◌, inl, inr, List, [], ◌∷◌, ◌++◌, length, get_or, refl, sym, ◌∙◌, arith, length-append}
use Rattle.std.proofs.lemmas.List.{get_or_append_left, get_or_push, get_or_past}
use Rattle.std.proofs.lemmas.Bool.{cases_lt, cases_eq}
use Rattle.hdc_graph.specs.declared.search.State.{State}
use Rattle.hdc_graph.specs.declared.search.State.TheVariants.{Unseen, OnPath, Finished}
use Rattle.hdc_graph.specs.Needs.{Nodes, IsClosed}
use Rattle.hdc_graph.specs.Search.{IsSearch, IsUnderWay, state_in, is_open, opened}
use Rattle.hdc_graph.specs.declared.search.Search.{Search}

module _ (g : Nodes) (at : ℕ → State) (pending : List ℕ) (unseen : (v : ℕ) → at v ≡ Unseen)
    (each : length pending ≡ length g) (all : (k : ℕ) → k < length pending → get_or pending k 0 ≡ k) where
  not_on_path : (v p : ℕ) → at v ≡ OnPath p → ⊥
  not_on_path v p e = let u = unseen v in cc

  not_finished : (v c : ℕ) → at v ≡ Finished c → ⊥
  not_finished v c e = let u = unseen v in cc

  pub started : IsSearch g at [] pending [] 0
  started = record {
    falls = refl;
    placed = λ p l. absurd (omega (arith, l));
    found = λ v p e. absurd (not_on_path v p e);
    forward = λ u v p q e f l. absurd (not_on_path u p e);
    back = λ u v p q e f l. absurd (not_on_path u p e);
    waits = λ u p k e l. absurd (not_on_path u p e);
    covered = λ s i v p t e l n. absurd i;
    closed = λ v t c e n. absurd (not_finished v c e);
    together = λ u v c e f. absurd (not_finished u c e);
    whole = λ u v c e m. absurd (not_finished u c e);
    counted = λ v c e. absurd (not_finished v c e);
    left = λ v l e. (v, omega arith, omega (arith, each, l), all v (omega (arith, each, l)));
    inside = λ k l. (let is = all k l in omega (arith, is, l, each));
  }

-- one more node that is not seen
pub unseen_push : (xs : List State) → ((v : ℕ) → state_in xs v ≡ Unseen) → (v : ℕ) → state_in (xs ++ Unseen ∷ []) v ≡ Unseen
unseen_push xs h v = elim (cases_lt v (length xs)) [
  | inl lt ↦ get_or_append_left xs (Unseen ∷ []) Unseen v lt ∙ h v
  | inr ge ↦ elim (cases_eq v (length xs)) [
    | inl is ↦ get_or_push xs Unseen Unseen v (sym is)
    | inr apart ↦ (let size : length (xs ++ Unseen ∷ []) ≡ length xs + 1 = length-append xs (Unseen ∷ []) in get_or_past (xs ++ Unseen ∷ []) v Unseen (omega (arith, size, ge, apart)))
  ]
]

pub opened_push : (xs : List State) (x : State) → opened (xs ++ x ∷ []) ≡ opened xs + is_open x
opened_push [] x = omega arith
opened_push (y ∷ xs) x = let r = opened_push xs x in omega (arith, r)

-- one number more in a list that counts
pub counts_push : (xs : List ℕ) (n : ℕ) → length xs ≡ n → ((k : ℕ) → k < n → get_or xs k 0 ≡ k) → (k : ℕ) → k < n + 1 → get_or (xs ++ n ∷ []) k 0 ≡ k
counts_push xs n size h k l = elim (cases_lt k n) [
  | inl lt ↦ get_or_append_left xs (n ∷ []) 0 k (omega (arith, size, lt)) ∙ h k lt
  | inr ge ↦ (let is : k ≡ n = omega (arith, l, ge) in get_or_push xs n 0 k (size ∙ sym is) ∙ sym is)
]

-- the search is under way once every node is pending
pub under_way : (g : Nodes) (s : Search) → IsClosed g → length g ≤ 2 ^ 32 → length s.states ≡ length g → ((v : ℕ) → state_in s.states v ≡ Unseen) → opened s.states ≡ length g → length s.pending ≡ length g → ((k : ℕ) → k < length g → get_or s.pending k 0 ≡ k) → s.path ≡ [] → s.segments ≡ [] → s.count ≡ 0 → IsUnderWay g s
under_way g s closed small each unseen count size all no_path no_segments none = record {
  search = rw (no_path, no_segments, none) (started g (state_in s.states) s.pending unseen size (λ k l. all k (omega (arith, l, size))));
  each = each;
  bounded = omega (arith, count, none);
  small = small;
  within = closed;
}
