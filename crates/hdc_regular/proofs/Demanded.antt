-- What synonyms ask of their arguments is that nothing is found in their meanings.
use Rattle.std.proofs.Common.{rules, ◌≡◌, ℕ, zero, suc, ◌==◌, Bool, true, false, ◌&&◌, List, [], ◌∷◌, ◌++◌, Option, Some, None, length, refl, sym, ap, subst, ◌∙◌, arith}
use Rattle.hdc_base.specs.declared.place.At.{At}
use Rattle.hdc_written.specs.declared.breach.Breach.{Breach}
use Rattle.hdc_regular.specs.declared.contents.Usage.{Usage}
use Rattle.hdc_regular.specs.declared.demand.Demand.{Demand}
use Rattle.hdc_regular.specs.Resolved.{Resolved, parameter, use_of, other, Parts, no_part, next_part}
use Rattle.hdc_regular.specs.Walk.{each_alias_of, Tables, followed, each_followed, one_of, is_variable, in_order, use_fits, wrong_use, wrong, each_wrong, is_nothing}
use Rattle.hdc_regular.specs.Contents.{uses_in, each_uses_in}
use Rattle.hdc_regular.specs.Demands.{no_demand, demand_at, is_count, behind, all_wanted, met, possible_where, with_count, count_where, want_set, fits_want, with_want, with_alias, with_order, with_wants, by_use, by_own, demanded}
use Rattle.hdc_regular.proofs.Walking.{one_followed}

-- ---- tests

same_and : (a b c : Bool) → (a && (b && c)) ≡ ((a && b) && c)
same_and true b c = refl
same_and false b c = refl

and_true : (a : Bool) → (a && true) ≡ a
and_true true = refl
and_true false = refl

swap_and : (a b c : Bool) → (a && (b && c)) ≡ (b && (a && c))
swap_and true b c = refl
swap_and false true c = refl
swap_and false false c = refl

and_swapped : (a b c : Bool) → (a && (b && c)) ≡ ((b && a) && c)
and_swapped true true c = refl
and_swapped true false c = refl
and_swapped false true c = refl
and_swapped false false c = refl

number_true : (a b : ℕ) → (a == b) ≡ true → a ≡ b
number_true a b e = search rules

not_zero : (n : ℕ) → (suc n == 0) ≡ false
not_zero n = by (suc n == 0) refl
  where
    by : (b : Bool) → (suc n == 0) ≡ b → (suc n == 0) ≡ false
    by false e = e
    by true e = let same = number_true (suc n) 0 e in absurd (omega (arith, same))

zero_not : (n : ℕ) → (0 == suc n) ≡ false
zero_not n = by (0 == suc n) refl
  where
    by : (b : Bool) → (0 == suc n) ≡ b → (0 == suc n) ≡ false
    by false e = e
    by true e = let same = number_true 0 (suc n) e in absurd (omega (arith, same))

number_itself : (n : ℕ) → (n == n) ≡ true
number_itself n = search rules

number_same : (a b : ℕ) → a ≡ b → (a == b) ≡ true
number_same a b e = subst (λ z. (a == z) ≡ true) e (number_itself a)

not_both : (b : Bool) → b ≡ true → b ≡ false → ⊥
not_both true d e = cc
not_both false d e = cc

suc_same : (a b : ℕ) → (suc a == suc b) ≡ (a == b)
suc_same a b = by (a == b) (suc a == suc b) refl refl
  where
    by : (c d : Bool) → (a == b) ≡ c → (suc a == suc b) ≡ d → d ≡ c
    by true true e f = refl
    by false false e f = refl
    by true false e f = let same = number_true a b e in absurd (not_both (suc a == suc b) (number_same (suc a) (suc b) (ap (λ z. suc z) same)) f)
    by false true e f = let same : a ≡ b = (let s = number_true (suc a) (suc b) f in omega (arith, s)) in absurd (not_both (a == b) (number_same a b same) e)

-- ---- more is asked

met_possible : (b : Bool) (d : Demand) (k : ℕ) (vs : List (Option ℕ)) → met (possible_where b d) k vs ≡ (b && met d k vs)
met_possible b d k vs = sym (same_and b d.possible (is_count d.count k && all_wanted d.wanted vs))

count_twice : (p : Bool) (c e k : ℕ) (rest : Bool) → (((c == e) && p) && ((e == k) && rest)) ≡ ((c == k) && (p && ((e == k) && rest)))
count_twice p c e k rest = by (c == e) (e == k) (c == k) refl refl refl
  where
    by : (x y z : Bool) → (c == e) ≡ x → (e == k) ≡ y → (c == k) ≡ z → ((x && p) && (y && rest)) ≡ (z && (p && (y && rest)))
    by true true true f g h = refl
    by true true false f g h = absurd (not_both (c == k) (number_same c k (number_true c e f ∙ number_true e k g)) h)
    by true false true f g h = absurd (not_both (e == k) (number_same e k (sym (number_true c e f) ∙ number_true c k h)) g)
    by true false false f g h = none p
      where
        none : (p : Bool) → (p && false) ≡ false
        none true = refl
        none false = refl
    by false true true f g h = absurd (not_both (c == e) (number_same c e (number_true c k h ∙ sym (number_true e k g))) f)
    by false true false f g h = refl
    by false false true f g h = none p
      where
        none : (p : Bool) → false ≡ (p && false)
        none true = refl
        none false = refl
    by false false false f g h = refl

met_count : (c : ℕ) (d : Demand) (k : ℕ) (vs : List (Option ℕ)) → met (with_count c d) k vs ≡ ((c == k) && met d k vs)
met_count c d k vs = by d.possible d.count d.wanted
  where
    by : (p : Bool) (o : Option ℕ) (ws : List (Option ℕ)) → met (with_count c (record { possible = p; count = o; wanted = ws })) k vs ≡ ((c == k) && met (record { possible = p; count = o; wanted = ws }) k vs)
    by p None ws = swap_and p (c == k) (all_wanted ws vs)
    by p (Some e) ws = count_twice p c e k (all_wanted ws vs)

met_count_where : (o : Option ℕ) (d : Demand) (k : ℕ) (vs : List (Option ℕ)) → met (count_where o d) k vs ≡ (is_count o k && met d k vs)
met_count_where None d k vs = refl
met_count_where (Some c) d k vs = met_count c d k vs

-- two wishes for one argument
two_wants : (h i : ℕ) (v : Option ℕ) (rest : Bool) → ((h == i) && (is_variable h v && rest)) ≡ (is_variable i v && (is_variable h v && rest))
two_wants h i None rest = none (h == i)
  where
    none : (b : Bool) → (b && false) ≡ false
    none true = refl
    none false = refl
two_wants h i (Some j) rest = by (h == i) (j == h) (j == i) refl refl refl
  where
    by : (x y z : Bool) → (h == i) ≡ x → (j == h) ≡ y → (j == i) ≡ z → (x && (y && rest)) ≡ (z && (y && rest))
    by true y true f g e = refl
    by false y false f g e = refl
    by true true false f g e = absurd (not_both (j == i) (number_same j i (number_true j h g ∙ number_true h i f)) e)
    by true false false f g e = refl
    by false true true f g e = absurd (not_both (h == i) (number_same h i (sym (number_true j h g) ∙ number_true j i e)) f)
    by false false true f g e = refl

one_behind : (vs : List (Option ℕ)) (j : ℕ) → one_of (behind vs) j ≡ one_of vs (suc j)
one_behind [] j = refl
one_behind (v ∷ vs) j = refl

wanted_set : (ws : List (Option ℕ)) (j i : ℕ) (vs : List (Option ℕ)) → (fits_want (one_of ws j) i && all_wanted (want_set ws j i) vs) ≡ (is_variable i (one_of vs j) && all_wanted ws vs)
wanted_set [] zero i vs = refl
wanted_set [] (suc j) i vs = wanted_set [] j i (behind vs) ∙ ap (λ z. is_variable i z && true) (one_behind vs j)
wanted_set (None ∷ ws) zero i vs = refl
wanted_set (Some h ∷ ws) zero i vs = two_wants h i (one_of vs 0) (all_wanted ws (behind vs))
wanted_set (None ∷ ws) (suc j) i vs = wanted_set ws j i (behind vs) ∙ ap (λ z. is_variable i z && all_wanted ws (behind vs)) (one_behind vs j)
wanted_set (Some h ∷ ws) (suc j) i vs =
    swap_and (fits_want (one_of ws j) i) (is_variable h (one_of vs 0)) (all_wanted (want_set ws j i) (behind vs))
    ∙ ap (λ z. is_variable h (one_of vs 0) && z) (wanted_set ws j i (behind vs) ∙ ap (λ z. is_variable i z && all_wanted ws (behind vs)) (one_behind vs j))
    ∙ swap_and (is_variable h (one_of vs 0)) (is_variable i (one_of vs (suc j))) (all_wanted ws (behind vs))

met_want : (j i : ℕ) (d : Demand) (k : ℕ) (vs : List (Option ℕ)) → met (with_want j i d) k vs ≡ (is_variable i (one_of vs j) && met d k vs)
met_want j i d k vs = around (fits_want (one_of d.wanted j) i) d.possible (is_count d.count k) (all_wanted (want_set d.wanted j i) vs) (is_variable i (one_of vs j)) (all_wanted d.wanted vs) (wanted_set d.wanted j i vs)
  where
    around : (f p c w x a : Bool) → (f && w) ≡ (x && a) → ((f && p) && (c && w)) ≡ (x && (p && (c && a)))
    around f p c w x a e = first f p c w ∙ ap (λ z. p && (c && z)) e ∙ sym (second x p c a)
      where
        first : (f p c w : Bool) → ((f && p) && (c && w)) ≡ (p && (c && (f && w)))
        first true true c w = refl
        first true false c w = refl
        first false true true w = refl
        first false true false w = refl
        first false false c w = refl

        second : (x p c a : Bool) → (x && (p && (c && a))) ≡ (p && (c && (x && a)))
        second true p c a = refl
        second false true true a = refl
        second false true false a = refl
        second false false c a = refl

met_alias : (a : Option ℕ) (i : ℕ) (d : Demand) (k : ℕ) (vs : List (Option ℕ)) → met (with_alias a i d) k vs ≡ (is_variable i (followed (one_of vs) a) && met d k vs)
met_alias None i d k vs = refl
met_alias (Some j) i d k vs = met_want j i d k vs

-- ---- by uses

-- these are variables in order, from this one on
all_order : ℕ → List (Option ℕ) → Bool
all_order i [] = true
all_order i (a ∷ vs) = is_variable i a && all_order (suc i) vs

order_counted : (i k : ℕ) (vs : List (Option ℕ)) → in_order i k vs ≡ (all_order i vs && (length vs == k))
unfolding all_order
order_counted i zero [] = refl
order_counted i zero (a ∷ vs) = none (is_variable i a && all_order (suc i) vs) ∙ ap (λ z. (is_variable i a && all_order (suc i) vs) && z) (sym (not_zero (length vs)))
  where
    none : (b : Bool) → false ≡ (b && false)
    none true = refl
    none false = refl
order_counted i (suc k) [] = sym (zero_not k)
order_counted i (suc k) (a ∷ vs) =
    ap (λ z. is_variable i a && z) (order_counted (suc i) k vs ∙ ap (λ z. all_order (suc i) vs && z) (sym (suc_same (length vs) k)))
    ∙ same_and (is_variable i a) (all_order (suc i) vs) (suc (length vs) == suc k)

size_followed : (u : ℕ → Option ℕ) (vs : List (Option ℕ)) → length (each_followed u vs) ≡ length vs
size_followed u [] = refl
size_followed u (v ∷ vs) = ap (λ z. suc z) (size_followed u vs)

met_order : (i : ℕ) (fs : List (Option ℕ)) (d : Demand) (k : ℕ) (vs : List (Option ℕ)) → met (with_order i fs d) k vs ≡ (all_order i (each_followed (one_of vs) fs) && met d k vs)
unfolding all_order
met_order i [] d k vs = refl
met_order i (a ∷ fs) d k vs =
    met_order (suc i) fs (with_alias a i d) k vs
    ∙ ap (λ z. all_order (suc i) (each_followed (one_of vs) fs) && z) (met_alias a i d k vs)
    ∙ and_swapped (all_order (suc i) (each_followed (one_of vs) fs)) (is_variable i (followed (one_of vs) a)) (met d k vs)

behind_followed : (u : ℕ → Option ℕ) (vs : List (Option ℕ)) → behind (each_followed u vs) ≡ each_followed u (behind vs)
behind_followed u [] = refl
behind_followed u (v ∷ vs) = refl

met_wants : (ws fs : List (Option ℕ)) (d : Demand) (k : ℕ) (vs : List (Option ℕ)) → met (with_wants ws fs d) k vs ≡ (all_wanted ws (each_followed (one_of vs) fs) && met d k vs)
met_wants [] fs d k vs = refl
met_wants (None ∷ ws) fs d k vs = met_wants ws (behind fs) d k vs ∙ ap (λ z. all_wanted ws z && met d k vs) (sym (behind_followed (one_of vs) fs))
met_wants (Some i ∷ ws) fs d k vs =
    met_wants ws (behind fs) (with_alias (one_of fs 0) i d) k vs
    ∙ ap (λ z. all_wanted ws z && met (with_alias (one_of fs 0) i d) k vs) (sym (behind_followed (one_of vs) fs))
    ∙ ap (λ z. all_wanted ws (behind (each_followed (one_of vs) fs)) && z) (met_alias (one_of fs 0) i d k vs ∙ ap (λ z. is_variable i z && met d k vs) (sym (one_followed (one_of vs) fs 0)))
    ∙ and_swapped (all_wanted ws (behind (each_followed (one_of vs) fs))) (is_variable i (one_of (each_followed (one_of vs) fs) 0)) (met d k vs)

module _ (synonyms : ℕ → Bool) (demands : List Demand) where
  -- what is known by the demands of synonyms
  abbrev pub by_demands : Tables
  by_demands = record { synonyms = synonyms; fits = λ n. met (demand_at demands n) }

  met_use : (b : Bool) (n : ℕ) (fs : List (Option ℕ)) (d : Demand) (k : ℕ) (vs : List (Option ℕ)) → met (by_use b (demand_at demands n) fs d) k vs ≡ (use_fits by_demands b n k (each_followed (one_of vs) fs) && met d k vs)
  met_use true n fs d k vs =
      let e = demand_at demands n in
      let us = each_followed (one_of vs) fs in
      met_wants e.wanted fs (count_where e.count (possible_where e.possible d)) k vs
      ∙ ap (λ z. all_wanted e.wanted us && z) (met_count_where e.count (possible_where e.possible d) k vs ∙ ap (λ z. is_count e.count k && z) (met_possible e.possible d k vs))
      ∙ turn (all_wanted e.wanted us) (is_count e.count k) e.possible (met d k vs)
    where
      turn : (w c p m : Bool) → (w && (c && (p && m))) ≡ ((p && (c && w)) && m)
      turn true true true m = refl
      turn true true false m = refl
      turn true false true m = refl
      turn true false false m = refl
      turn false true true m = refl
      turn false true false m = refl
      turn false false true m = refl
      turn false false false m = refl
  met_use false n fs d k vs =
      let us = each_followed (one_of vs) fs in
      met_order 0 fs (with_count (length fs) d) k vs
      ∙ ap (λ z. all_order 0 us && z) (met_count (length fs) d k vs)
      ∙ same_and (all_order 0 us) (length fs == k) (met d k vs)
      ∙ ap (λ z. (all_order 0 us && (z == k)) && met d k vs) (sym (size_followed (one_of vs) fs))
      ∙ ap (λ z. z && met d k vs) (sym (order_counted 0 k us))

  module _ (own : ℕ → Bool) where
    own_fits : Bool → Bool → Bool
    own_fits true b = b
    own_fits false b = true

    each_fits : ℕ → List (Option ℕ) → List Usage → Bool
    unfolding own_fits
    each_fits k vs [] = true
    each_fits k vs (x ∷ xs) = own_fits (own x.number) (use_fits by_demands (synonyms x.number) x.number k (each_followed (one_of vs) x.arguments)) && each_fits k vs xs

    met_own : (o b : Bool) (n : ℕ) (fs : List (Option ℕ)) (d : Demand) (k : ℕ) (vs : List (Option ℕ)) → met (by_own o b (demand_at demands n) fs d) k vs ≡ (own_fits o (use_fits by_demands b n k (each_followed (one_of vs) fs)) && met d k vs)
    unfolding own_fits
    met_own true b n fs d k vs = met_use b n fs d k vs
    met_own false b n fs d k vs = refl

    met_demanded : (xs : List Usage) (d : Demand) (k : ℕ) (vs : List (Option ℕ)) → met (demanded own synonyms demands xs d) k vs ≡ (each_fits k vs xs && met d k vs)
    unfolding each_fits
    met_demanded [] d k vs = refl
    met_demanded (x ∷ xs) d k vs =
        met_demanded xs (by_own (own x.number) (synonyms x.number) (demand_at demands x.number) x.arguments d) k vs
        ∙ ap (λ z. each_fits k vs xs && z) (met_own (own x.number) (synonyms x.number) x.number x.arguments d k vs)
        ∙ and_swapped (each_fits k vs xs) (own_fits (own x.number) (use_fits by_demands (synonyms x.number) x.number k (each_followed (one_of vs) x.arguments))) (met d k vs)

    nothing_of_two : (bs cs : List Breach) → is_nothing (bs ++ cs) ≡ (is_nothing bs && is_nothing cs)
    nothing_of_two [] cs = refl
    nothing_of_two (b ∷ bs) cs = refl

    nothing_wrong : (o f : Bool) (at : At) → is_nothing (wrong_use o f at) ≡ own_fits o f
    unfolding own_fits
    nothing_wrong true true at = refl
    nothing_wrong true false at = refl
    nothing_wrong false f at = refl

    fits_of_two : (k : ℕ) (vs : List (Option ℕ)) (xs ys : List Usage) → each_fits k vs (xs ++ ys) ≡ (each_fits k vs xs && each_fits k vs ys)
    unfolding each_fits
    fits_of_two k vs [] ys = refl
    fits_of_two k vs (x ∷ xs) ys =
        ap (λ z. own_fits (own x.number) (use_fits by_demands (synonyms x.number) x.number k (each_followed (one_of vs) x.arguments)) && z) (fits_of_two k vs xs ys)
        ∙ same_and (own_fits (own x.number) (use_fits by_demands (synonyms x.number) x.number k (each_followed (one_of vs) x.arguments))) (each_fits k vs xs) (each_fits k vs ys)

    mutual
      unfolding each_fits

      nothing_in : (k : ℕ) (vs : List (Option ℕ)) (t : Resolved) → is_nothing (wrong by_demands own k (one_of vs) t) ≡ each_fits k vs (uses_in t)
      nothing_in k vs (parameter i) = refl
      nothing_in k vs (use_of n at ts) =
          nothing_of_two (wrong_use (own n) (use_fits by_demands (synonyms n) n k (each_followed (one_of vs) (each_alias_of ts))) at) (each_wrong by_demands own k (one_of vs) ts)
          ∙ ap (λ z. z && is_nothing (each_wrong by_demands own k (one_of vs) ts)) (nothing_wrong (own n) (use_fits by_demands (synonyms n) n k (each_followed (one_of vs) (each_alias_of ts))) at)
          ∙ ap (λ z. own_fits (own n) (use_fits by_demands (synonyms n) n k (each_followed (one_of vs) (each_alias_of ts))) && z) (nothing_in_each k vs ts)
      nothing_in k vs (other ts) = nothing_in_each k vs ts

      nothing_in_each : (k : ℕ) (vs : List (Option ℕ)) (ts : Parts) → is_nothing (each_wrong by_demands own k (one_of vs) ts) ≡ each_fits k vs (each_uses_in ts)
      nothing_in_each k vs no_part = refl
      nothing_in_each k vs (next_part t ts) =
          nothing_of_two (wrong by_demands own k (one_of vs) t) (each_wrong by_demands own k (one_of vs) ts)
          ∙ ap (λ z. z && is_nothing (each_wrong by_demands own k (one_of vs) ts)) (nothing_in k vs t)
          ∙ ap (λ z. each_fits k vs (uses_in t) && z) (nothing_in_each k vs ts)
          ∙ sym (fits_of_two k vs (uses_in t) (each_uses_in ts))

    -- what a synonym asks by the uses in its meaning is met exactly where nothing is found in it
    pub demand_judged : (ts : Parts) (k : ℕ) (vs : List (Option ℕ)) → met (demanded own synonyms demands (each_uses_in ts) no_demand) k vs ≡ is_nothing (each_wrong by_demands own k (one_of vs) ts)
    demand_judged ts k vs =
        met_demanded (each_uses_in ts) no_demand k vs
        ∙ and_true (each_fits k vs (each_uses_in ts))
        ∙ sym (nothing_in_each k vs ts)
