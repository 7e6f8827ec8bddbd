-- Numbers that are counted up to a bound.
use Rattle.std.proofs.Common.{◌≡◌, ℕ, ◌+◌, ◌-◌, ◌*◌, ◌<◌, ◌≤◌, ◌^◌, List, [], ◌∷◌, ◌++◌, length, take, get_or, refl, sym, ap, ◌∙◌, arith, Bool, true, false, cond, min, Ok, Err}
use Rattle.std.specs.Prelude.{nat_le}
use Rattle.std.proofs.lemmas.List.{take_more}
use Rattle.std.proofs.lemmas.Bool.Decides.{nat_tests}
use Rattle.hdc_lex.specs.Numbers.{digit_value, number_after, number_of}
use Rattle.hdc_lex.specs.Pieces.{number_within}
use Rattle.hdc_lex.specs.declared.lexeme.Fault.TheVariants as fault

-- digits behind digits
pub joined : (radix n : ℕ) (xs ys : List ℕ) → number_after radix n (xs ++ ys) ≡ number_after radix (number_after radix n xs) ys
joined radix n [] ys = refl
joined radix n (x ∷ xs) ys = joined radix (n * radix + digit_value x) xs ys

-- one more digit
pub one_more : (radix : ℕ) (digits : List ℕ) (i : ℕ) → i < length digits → number_of radix (take (i + 1) digits) ≡ number_of radix (take i digits) * radix + digit_value (get_or digits i 0)
one_more radix digits i h = ap (number_of radix) (take_more digits i 0 h) ∙ joined radix 0 (take i digits) (get_or digits i 0 ∷ [])

pub ruleset value_steps = (one_more)

-- a choice below a bound is the same where numbers stop at a greater one
pub bounded : {A : Type 0} (greatest n : ℕ) (found : ℕ → A) (none : A) → greatest ≤ 2 ^ 63 → cond (nat_le (min n (2 ^ 64 - 1)) greatest) (found (min n (2 ^ 64 - 1))) none ≡ cond (nat_le n greatest) (found n) none
bounded greatest n found none h = by_test (nat_le n (2 ^ 64 - 1)) refl
  where
    by_test : (test : Bool) → nat_le n (2 ^ 64 - 1) ≡ test → cond (nat_le (min n (2 ^ 64 - 1)) greatest) (found (min n (2 ^ 64 - 1))) none ≡ cond (nat_le n greatest) (found n) none
    by_test true e = let m : min n (2 ^ 64 - 1) ≡ n = grind (arith, nat_tests, e) in ap (λ k. cond (nat_le k greatest) (found k) none) m
    by_test false e =
        let past : nat_le n greatest ≡ false = grind (arith, nat_tests, e, h) in
        let past_bound : nat_le (min n (2 ^ 64 - 1)) greatest ≡ false = grind (arith, nat_tests, e, h) in
        ap (λ t. cond t (found (min n (2 ^ 64 - 1))) none) past_bound ∙ sym (ap (λ t. cond t (found n) none) past)

-- a number that stops there is as good where it is compared
pub within_bound : (greatest n size : ℕ) → greatest ≤ 2 ^ 63 → number_within greatest (min n (2 ^ 64 - 1)) size ≡ number_within greatest n size
within_bound greatest n size h = bounded greatest n (λ k. Ok (k, size)) (Err fault.Literal) h

pub ruleset number_steps = (within_bound)
