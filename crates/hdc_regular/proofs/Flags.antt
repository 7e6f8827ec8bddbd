-- Flags that are set.
use Rattle.std.proofs.Common.{◌≡◌, ◌⊎◌, inl, inr, ℕ, zero, suc, ◌<◌, ◌≤◌, Bool, true, false, List, [], ◌∷◌, ◌++◌, length, refl, sym, ap, subst, arith}
use Rattle.std.proofs.Math.ListN.{set}
use Rattle.hdc_regular.specs.Resolved.{Resolved, parameter, use_of, other, Parts, no_part, next_part, Has, EachHas}
use Rattle.hdc_regular.specs.Building.{is_held}
use Rattle.hdc_regular.specs.Contents.{variables_in, each_variables_in, flag_set, flags_set}

pub flag_behind : (bs : List Bool) (n : ℕ) → length bs ≤ n → flag_set (bs ++ false ∷ []) n ≡ flag_set bs n
flag_behind [] zero h = refl
flag_behind [] (suc n) h = refl
flag_behind (b ∷ bs) zero h = absurd (omega (arith, h))
flag_behind (b ∷ bs) (suc n) h = let less : length bs ≤ n = omega arith in ap (λ z. b ∷ z) (flag_behind bs n less)

pub flag_within : (bs : List Bool) (n : ℕ) → n < length bs → flag_set bs n ≡ set bs n true
flag_within [] n h = absurd (omega (arith, h))
flag_within (b ∷ bs) zero h = refl
flag_within (b ∷ bs) (suc n) h = let less : n < length bs = omega arith in ap (λ z. b ∷ z) (flag_within bs n less)

pub ruleset flags_one_by_one = (flag_behind, flag_within)

-- the flag that is set, and the others
pub set_there : (bs : List Bool) (n : ℕ) → is_held (flag_set bs n) n ≡ true
set_there [] zero = refl
set_there [] (suc n) = set_there [] n
set_there (b ∷ bs) zero = refl
set_there (b ∷ bs) (suc n) = set_there bs n

pub still_set : (bs : List Bool) (n j : ℕ) → is_held bs j ≡ true → is_held (flag_set bs n) j ≡ true
still_set [] n j e = cc
still_set (b ∷ bs) zero zero e = refl
still_set (b ∷ bs) zero (suc j) e = e
still_set (b ∷ bs) (suc n) zero e = e
still_set (b ∷ bs) (suc n) (suc j) e = still_set bs n j e

pub set_or_before : (bs : List Bool) (n j : ℕ) → is_held (flag_set bs n) j ≡ true → (n ≡ j) ⊎ (is_held bs j ≡ true)
set_or_before [] zero zero e = inl refl
set_or_before [] zero (suc j) e = cc
set_or_before [] (suc n) zero e = cc
set_or_before [] (suc n) (suc j) e = by (set_or_before [] n j e)
  where
    by : (n ≡ j) ⊎ (is_held [] j ≡ true) → (suc n ≡ suc j) ⊎ (is_held [] (suc j) ≡ true)
    by (inl s) = inl (ap (λ z. suc z) s)
    by (inr s) = inr s
set_or_before (b ∷ bs) zero zero e = inl refl
set_or_before (b ∷ bs) zero (suc j) e = inr e
set_or_before (b ∷ bs) (suc n) zero e = inr e
set_or_before (b ∷ bs) (suc n) (suc j) e = by (set_or_before bs n j e)
  where
    by : (n ≡ j) ⊎ (is_held bs j ≡ true) → (suc n ≡ suc j) ⊎ (is_held (b ∷ bs) (suc j) ≡ true)
    by (inl s) = inl (ap (λ z. suc z) s)
    by (inr s) = inr s

still_all : (bs : List Bool) (ns : List ℕ) (j : ℕ) → is_held bs j ≡ true → is_held (flags_set bs ns) j ≡ true
still_all bs [] j e = e
still_all bs (n ∷ ns) j e = still_all (flag_set bs n) ns j (still_set bs n j e)

flags_of_either : (bs : List Bool) (ms ns : List ℕ) → flags_set bs (ms ++ ns) ≡ flags_set (flags_set bs ms) ns
flags_of_either bs [] ns = refl
flags_of_either bs (m ∷ ms) ns = flags_of_either (flag_set bs m) ms ns

-- the flags of the variables of a type are those of the variables that it holds
mutual
  pub flag_of_variable : (bs : List Bool) (t : Resolved) (j : ℕ) → Has t (parameter j) → is_held (flags_set bs (variables_in t)) j ≡ true
  flag_of_variable bs (parameter i) j e = let same : i ≡ j = cc in subst (λ z. is_held (flag_set bs i) z ≡ true) same (set_there bs i)
  flag_of_variable bs (use_of n at ts) j (inl e) = cc
  flag_of_variable bs (use_of n at ts) j (inr h) = flag_of_each bs ts j h
  flag_of_variable bs (other ts) j (inl e) = cc
  flag_of_variable bs (other ts) j (inr h) = flag_of_each bs ts j h

  pub flag_of_each : (bs : List Bool) (ts : Parts) (j : ℕ) → EachHas ts (parameter j) → is_held (flags_set bs (each_variables_in ts)) j ≡ true
  flag_of_each bs no_part j h = absurd h
  flag_of_each bs (next_part t ts) j (inl h) = subst (λ z. is_held z j ≡ true) (sym (flags_of_either bs (variables_in t) (each_variables_in ts))) (still_all (flags_set bs (variables_in t)) (each_variables_in ts) j (flag_of_variable bs t j h))
  flag_of_each bs (next_part t ts) j (inr h) = subst (λ z. is_held z j ≡ true) (sym (flags_of_either bs (variables_in t) (each_variables_in ts))) (flag_of_each (flags_set bs (variables_in t)) ts j h)

behind : (bs : List Bool) (t : Resolved) (ts : Parts) (j : ℕ) → (is_held (flags_set bs (variables_in t)) j ≡ true → (is_held bs j ≡ true) ⊎ Has t (parameter j))
    → (is_held (flags_set bs (variables_in t)) j ≡ true) ⊎ EachHas ts (parameter j) → (is_held bs j ≡ true) ⊎ EachHas (next_part t ts) (parameter j)
behind bs t ts j here (inr h) = inr (inr h)
behind bs t ts j here (inl e) = by (here e)
  where
    by : (is_held bs j ≡ true) ⊎ Has t (parameter j) → (is_held bs j ≡ true) ⊎ EachHas (next_part t ts) (parameter j)
    by (inl s) = inl s
    by (inr s) = inr (inl s)

mutual
  pub variable_of_flag : (bs : List Bool) (t : Resolved) (j : ℕ) → is_held (flags_set bs (variables_in t)) j ≡ true → (is_held bs j ≡ true) ⊎ Has t (parameter j)
  variable_of_flag bs (parameter i) j e = by (set_or_before bs i j e)
    where
      by : (i ≡ j) ⊎ (is_held bs j ≡ true) → (is_held bs j ≡ true) ⊎ Has (parameter i) (parameter j)
      by (inl s) = inr (ap (λ z. parameter z) s)
      by (inr s) = inl s
  variable_of_flag bs (use_of n at ts) j e = by (each_of_flag bs ts j e)
    where
      by : (is_held bs j ≡ true) ⊎ EachHas ts (parameter j) → (is_held bs j ≡ true) ⊎ Has (use_of n at ts) (parameter j)
      by (inl s) = inl s
      by (inr s) = inr (inr s)
  variable_of_flag bs (other ts) j e = by (each_of_flag bs ts j e)
    where
      by : (is_held bs j ≡ true) ⊎ EachHas ts (parameter j) → (is_held bs j ≡ true) ⊎ Has (other ts) (parameter j)
      by (inl s) = inl s
      by (inr s) = inr (inr s)

  pub each_of_flag : (bs : List Bool) (ts : Parts) (j : ℕ) → is_held (flags_set bs (each_variables_in ts)) j ≡ true → (is_held bs j ≡ true) ⊎ EachHas ts (parameter j)
  each_of_flag bs no_part j e = inl e
  each_of_flag bs (next_part t ts) j e = behind bs t ts j (variable_of_flag bs t j) (each_of_flag (flags_set bs (variables_in t)) ts j (subst (λ z. is_held z j ≡ true) (flags_of_either bs (variables_in t) (each_variables_in ts)) e))
