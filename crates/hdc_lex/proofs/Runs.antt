-- Runs of bytes of a class at the front of a text, and the numbers that runs of digits write.
use Rattle.std.proofs.Common.{◌≡◌, ℕ, suc, ◌+◌, ◌*◌, ◌<◌, ◌≤◌, List, [], ◌∷◌, ◌++◌, length, take, refl, ap, ◌∙◌, arith, Bool, true, false, cond, le-mul_of_pos_right}
use Rattle.std.specs.Prelude.{nat_le, ◌&&◌}
use Rattle.std.specs.List.{list_all, prefix_len}
use Rattle.std.proofs.lemmas.Bool.{and_from, and_parts, leb-true, leb-false}
use Rattle.hdc_lex.specs.Grammar.{begins_with_member}
use Rattle.hdc_lex.specs.Numbers.{digit_value, number_after}

-- bytes of a class at the front of a text, up to the first that is none
pub record Run (is_member : ℕ → Bool) (text : List ℕ) : Type 0 where
  pub bytes : List ℕ
  pub rest : List ℕ
  pub parts : text ≡ bytes ++ rest
  pub all : list_all is_member bytes ≡ true
  pub ends : begins_with_member is_member rest ≡ false

-- each text has a run at its front
pub run_of : (is_member : ℕ → Bool) (text : List ℕ) → Run is_member text
run_of is_member [] = record { bytes = []; rest = []; parts = refl; all = refl; ends = refl }
run_of is_member (b ∷ bs) = by_test (run_of is_member bs) (is_member b) refl
  where
    by_test : Run is_member bs → (test : Bool) → is_member b ≡ test → Run is_member (b ∷ bs)
    by_test r true e = record { bytes = b ∷ r.bytes; rest = r.rest; parts = ap (λ xs. b ∷ xs) r.parts; all = and_from (is_member b) (list_all is_member r.bytes) e r.all; ends = r.ends }
    by_test r false e = record { bytes = []; rest = b ∷ bs; parts = refl; all = refl; ends = e }

-- how long a run is
pub prefix_of_run : (is_member : ℕ → Bool) (bytes rest : List ℕ) → list_all is_member bytes ≡ true → begins_with_member is_member rest ≡ false → prefix_len is_member (bytes ++ rest) ≡ length bytes
prefix_of_run is_member [] [] all ends = refl
prefix_of_run is_member [] (b ∷ bs) all ends = ap (λ t. cond t (1 + prefix_len is_member bs) 0) ends
prefix_of_run is_member (b ∷ bs) rest all ends =
    let here = (and_parts (is_member b) (list_all is_member bs) all).0 in
    let more : 1 + prefix_len is_member (bs ++ rest) ≡ suc (length bs) = omega (arith, prefix_of_run is_member bs rest (and_parts (is_member b) (list_all is_member bs) all).1 ends) in
    ap (λ t. cond t (1 + prefix_len is_member (bs ++ rest)) 0) here ∙ more

-- members in front are all counted
pub run_over : (is_member : ℕ → Bool) (xs ys : List ℕ) → list_all is_member xs ≡ true → prefix_len is_member (xs ++ ys) ≡ length xs + prefix_len is_member ys
run_over is_member [] ys e = omega arith
run_over is_member (x ∷ xs) ys e =
    let parts = and_parts (is_member x) (list_all is_member xs) e in
    let others = run_over is_member xs ys parts.1 in
    let more : 1 + prefix_len is_member (xs ++ ys) ≡ length (x ∷ xs) + prefix_len is_member ys = omega (arith, others) in
    ap (λ t. cond t (1 + prefix_len is_member (xs ++ ys)) 0) parts.0 ∙ more

-- one byte and a front
pub take_one_more : (x : ℕ) (xs : List ℕ) (n : ℕ) → take (1 + n) (x ∷ xs) ≡ x ∷ take n xs
take_one_more x xs n = let e : 1 + n ≡ suc n = omega arith in ap (λ k. take k (x ∷ xs)) e

-- two bytes and a front
pub take_two_more : (x y : ℕ) (xs : List ℕ) (n : ℕ) → take (2 + n) (x ∷ y ∷ xs) ≡ x ∷ y ∷ take n xs
take_two_more x y xs n = let e : 2 + n ≡ suc (suc n) = omega arith in ap (λ k. take k (x ∷ y ∷ xs)) e

-- what is counted are members
pub run_passes : (is_member : ℕ → Bool) (xs : List ℕ) → list_all is_member (take (prefix_len is_member xs) xs) ≡ true
run_passes is_member [] = refl
run_passes is_member (x ∷ xs) = by_test (is_member x) refl (run_passes is_member xs)
  where
    by_test : (t : Bool) → is_member x ≡ t → list_all is_member (take (prefix_len is_member xs) xs) ≡ true → list_all is_member (take (cond t (1 + prefix_len is_member xs) 0) (x ∷ xs)) ≡ true
    by_test true h others = ap (list_all is_member) (take_one_more x xs (prefix_len is_member xs)) ∙ ap (λ t. t && list_all is_member (take (prefix_len is_member xs) xs)) h ∙ others
    by_test false h others = refl

-- no byte of the empty class stands at the front
pub begins_with_none : (text : List ℕ) → begins_with_member (λ digit. false) text ≡ false
begins_with_none [] = refl
begins_with_none (b ∷ bs) = refl

-- what begins a text does not hang on what stands behind its first byte
pub begins_the_same : (is_member : ℕ → Bool) (front bytes others : List ℕ) → 0 < length front → begins_with_member is_member (front ++ bytes) ≡ begins_with_member is_member (front ++ others)
begins_the_same is_member [] bytes others some = absurd (omega (arith, some))
begins_the_same is_member (b ∷ bs) bytes others some = refl

-- the same, where one more byte is shared
pub begins_with_next : (is_member : ℕ → Bool) (front : List ℕ) (b : ℕ) (bytes others : List ℕ) → begins_with_member is_member (front ++ (b ∷ bytes)) ≡ begins_with_member is_member (front ++ (b ∷ others))
begins_with_next is_member [] b bytes others = refl
begins_with_next is_member (a ∷ front) b bytes others = refl

-- a number only grows with more digits
pub number_grows : (radix n : ℕ) (digits : List ℕ) → 0 < radix → n ≤ number_after radix n digits
number_grows radix n [] some = omega arith
number_grows radix n (d ∷ ds) some = omega (arith, number_grows radix (n * radix + digit_value d) ds some, le-mul_of_pos_right n some)

-- the first digit with which a number is too large
pub record Over (radix greatest n : ℕ) (digits : List ℕ) : Type 0 where
  pub front : List ℕ
  pub digit : ℕ
  pub back : List ℕ
  pub parts : digits ≡ front ++ (digit ∷ back)
  pub fits : number_after radix n front ≤ greatest
  pub over : greatest < number_after radix n (front ++ (digit ∷ []))

-- there is one where the whole number is too large
pub first_over : (radix greatest n : ℕ) (digits : List ℕ) → n ≤ greatest → greatest < number_after radix n digits → Over radix greatest n digits
first_over radix greatest n [] fits over = absurd (omega (arith, fits, over))
first_over radix greatest n (d ∷ ds) fits over = by_test (λ h. first_over radix greatest (n * radix + digit_value d) ds h over) (nat_le (n * radix + digit_value d) greatest) refl
  where
    by_test : (n * radix + digit_value d ≤ greatest → Over radix greatest (n * radix + digit_value d) ds) → (test : Bool) → nat_le (n * radix + digit_value d) greatest ≡ test → Over radix greatest n (d ∷ ds)
    by_test later true e = let o = later (leb-true (n * radix + digit_value d) greatest e) in record { front = d ∷ o.front; digit = o.digit; back = o.back; parts = ap (λ xs. d ∷ xs) o.parts; fits = o.fits; over = o.over }
    by_test later false e = record { front = []; digit = d; back = ds; parts = refl; fits = fits; over = leb-false (n * radix + digit_value d) greatest e }
