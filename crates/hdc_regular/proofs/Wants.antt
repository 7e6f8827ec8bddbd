-- What is wanted of arguments, one after another.
use Rattle.std.proofs.Common.{true, false, Bool, ◌-◌, ◌≢◌, ◌&&◌, ◌≡◌, ℕ, zero, suc, ◌+◌, ◌<◌, ◌≤◌, List, [], ◌∷◌, ◌++◌, Option, Some, None, length, get_or, drop, refl, sym, ap, ◌∙◌, arith, drop-cons, add-one}
use Rattle.std.proofs.Math.ListN.{set, drop_of_length-le}
use Rattle.hdc_regular.specs.declared.demand.Demand.{Demand}
use Rattle.hdc_regular.specs.Walk.{one_of, is_variable, in_order}
use Rattle.hdc_regular.specs.Demands.{behind, is_wanted, all_wanted, want_kept, want_set, with_alias, with_order, with_optional, with_wants}

pub want_behind : (ws : List (Option ℕ)) (j i : ℕ) → length ws ≤ j → want_set (ws ++ None ∷ []) j i ≡ want_set ws j i
want_behind [] zero i h = refl
want_behind [] (suc j) i h = refl
want_behind (w ∷ ws) zero i h = absurd (omega (arith, h))
want_behind (w ∷ ws) (suc j) i h = let less : length ws ≤ j = omega arith in ap (λ z. w ∷ z) (want_behind ws j i less)

pub want_within : (ws : List (Option ℕ)) (j i : ℕ) → j < length ws → want_set ws j i ≡ set ws j (want_kept (get_or ws j None) i)
want_within [] j i h = absurd (omega (arith, h))
want_within (w ∷ ws) zero i h = refl
want_within (w ∷ ws) (suc j) i h = let less : j < length ws = omega arith in ap (λ z. w ∷ z) (want_within ws j i less)

pub ruleset wants_one_by_one = (want_behind, want_within)

-- ---- one wish after another

pub next_order : (vs : List (Option ℕ)) (i : ℕ) (a : Option ℕ) (d : Demand) → i < length vs → a ≡ get_or vs i a → with_order i (drop i vs) d ≡ with_order (i + 1) (drop (i + 1) vs) (with_alias a i d)
next_order vs i a d lt e =
    ap (λ z. with_order i z d) (drop-cons vs i a lt ∙ ap (λ z. z ∷ drop (suc i) vs) (sym e))
    ∙ ap (λ z. with_order z (drop z vs) (with_alias a i d)) (sym (add-one i))

one_dropped : (vs : List (Option ℕ)) (i : ℕ) → one_of (drop i vs) 0 ≡ one_of vs i
one_dropped [] zero = refl
one_dropped [] (suc i) = refl
one_dropped (v ∷ vs) zero = refl
one_dropped (v ∷ vs) (suc i) = one_dropped vs i

behind_dropped : (vs : List (Option ℕ)) (i : ℕ) → behind (drop i vs) ≡ drop (suc i) vs
behind_dropped [] zero = refl
behind_dropped [] (suc i) = refl
behind_dropped (v ∷ vs) zero = refl
behind_dropped (v ∷ vs) (suc i) = behind_dropped vs i

first_want : (w : Option ℕ) (ws vs : List (Option ℕ)) (d : Demand) → with_wants (w ∷ ws) vs d ≡ with_wants ws (behind vs) (with_optional w (one_of vs 0) d)
first_want None ws vs d = refl
first_want (Some i) ws vs d = refl

pub next_want : (ws vs : List (Option ℕ)) (i : ℕ) (w : Option ℕ) (d : Demand) → i < length ws → w ≡ get_or ws i w
    → with_wants (drop i ws) (drop i vs) d ≡ with_wants (drop (i + 1) ws) (drop (i + 1) vs) (with_optional w (one_of vs i) d)
next_want ws vs i w d lt e =
    ap (λ z. with_wants z (drop i vs) d) (drop-cons ws i w lt ∙ ap (λ z. z ∷ drop (suc i) ws) (sym e))
    ∙ first_want w (drop (suc i) ws) (drop i vs) d
    ∙ ap (λ z. with_wants (drop (suc i) ws) z (with_optional w (one_of (drop i vs) 0) d)) (behind_dropped vs i)
    ∙ ap (λ z. with_wants (drop (suc i) ws) (drop (suc i) vs) (with_optional w z d)) (one_dropped vs i)
    ∙ ap (λ z. with_wants (drop z ws) (drop z vs) (with_optional w (one_of vs i) d)) (sym (add-one i))

pub ruleset wishes_one_by_one = (next_order, next_want)

first_wanted : (w : Option ℕ) (ws vs : List (Option ℕ)) → all_wanted (w ∷ ws) vs ≡ (is_wanted w (one_of vs 0) && all_wanted ws (behind vs))
first_wanted None ws vs = refl
first_wanted (Some i) ws vs = refl

pub next_wanted : (ws vs : List (Option ℕ)) (i : ℕ) (w : Option ℕ) → i < length ws → w ≡ get_or ws i w
    → all_wanted (drop i ws) (drop i vs) ≡ (is_wanted w (one_of vs i) && all_wanted (drop (i + 1) ws) (drop (i + 1) vs))
next_wanted ws vs i w lt e =
    ap (λ z. all_wanted z (drop i vs)) (drop-cons ws i w lt ∙ ap (λ z. z ∷ drop (suc i) ws) (sym e))
    ∙ first_wanted w (drop (suc i) ws) (drop i vs)
    ∙ ap (λ z. is_wanted w (one_of (drop i vs) 0) && all_wanted (drop (suc i) ws) z) (behind_dropped vs i)
    ∙ ap (λ z. is_wanted w z && all_wanted (drop (suc i) ws) (drop (suc i) vs)) (one_dropped vs i)
    ∙ ap (λ z. is_wanted w (one_of vs i) && all_wanted (drop z ws) (drop z vs)) (sym (add-one i))

pub ruleset wanted_one_by_one = (next_wanted)

-- ---- variables in order, one after another

pub next_in_order : (vs : List (Option ℕ)) (i : ℕ) → i < length vs → in_order i (length vs - i) (drop i vs) ≡ (is_variable i (one_of vs i) && in_order (i + 1) (length vs - (i + 1)) (drop (i + 1) vs))
next_in_order vs i lt =
    let e : length vs - i ≡ suc (length vs - (i + 1)) = omega arith in
    let f : suc i ≡ i + 1 = omega arith in
    ap (λ z. in_order i z (drop i vs)) e
    ∙ ap (in_order i (suc (length vs - (i + 1)))) (drop-cons vs i None lt)
    ∙ ap (λ z. is_variable i (one_of vs i) && in_order z (length vs - (i + 1)) (drop z vs)) f

other_count : (i k : ℕ) (vs : List (Option ℕ)) → (length vs ≡ k → ⊥) → in_order i k vs ≡ false
other_count i zero [] h = absurd (h refl)
other_count i zero (v ∷ vs) h = refl
other_count i (suc k) [] h = refl
other_count i (suc k) (v ∷ vs) h = ap (λ z. is_variable i v && z) (other_count (suc i) k vs (λ e. h (ap (λ z. suc z) e))) ∙ none (is_variable i v)
  where
    none : (b : Bool) → (b && false) ≡ false
    none true = refl
    none false = refl

pub not_so_many : (k : ℕ) (vs : List (Option ℕ)) → length vs ≢ k → in_order 0 k vs ≡ false
not_so_many k vs h = other_count 0 k vs h

pub none_in_order : (vs : List (Option ℕ)) (i : ℕ) → length vs ≤ i → in_order i (length vs - i) (drop i vs) ≡ true
none_in_order vs i ge = let e : length vs - i ≡ 0 = omega arith in ap (λ z. in_order i z (drop i vs)) e ∙ ap (in_order i 0) (drop_of_length-le vs ge)

pub ruleset order_one_by_one = (next_in_order, not_so_many, none_in_order)
