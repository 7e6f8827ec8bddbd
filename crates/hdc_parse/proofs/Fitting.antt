-- The parser's depth suffices for tokens that nest no deeper than allowed.
use Rattle.std.proofs.Common.{◌≡◌, ℕ, zero, suc, ◌+◌, ◌<◌, ◌≤◌, List, [], ◌∷◌, length, take, refl, ap, subst, arith}
use Rattle.std.specs.List.{fold}
use Rattle.hdc_base.specs.declared.token.Token.{Token}
use Rattle.hdc_nesting.specs.Roles.{role_of}
use Rattle.hdc_nesting.specs.Nesting.{Levels, Inside, nothing, behind, insides, nesting_in, nesting, IsFirstPast}
use Rattle.hdc_nesting.specs.Counts.{counts_of, no_counts}
use Rattle.hdc_nesting.proofs.Counted.{counts_more, nesting_counted}
use Rattle.hdc_nesting.proofs.Bounds.{one_more_at_most, nesting_at_most}
use Rattle.hdc_syntax.proofs.Ample.{Fits}

abbrev past : Levels Inside → Token → Levels Inside
past levels t = behind t (role_of t.word) levels

-- from the counts of what stands in the open brackets on
fits_from : (ts : List Token) (levels : Levels Inside) (most : ℕ) → nesting_in levels ≤ most + 1 → ((k : ℕ) → k < length ts → nesting_in (fold past levels (take k ts)) ≤ most) → Fits (most + 1) (counts_of levels) ts
fits_from [] levels most here h = let e = nesting_counted levels in omega (arith, e)
fits_from (t ∷ ts) levels most here h =
    let e = nesting_counted levels in
    let first = h 0 (omega arith) in
    let next = one_more_at_most t levels in
    (omega (arith, e), subst (λ c. Fits (most + 1) c ts) (counts_more t (role_of t.word) levels refl) (fits_from ts (past levels t) most (omega arith) (λ k lt. h (suc k) (omega (arith, lt)))))

pub fits_all : (ts : List Token) (most : ℕ) → ((k : ℕ) → k < length ts → nesting ts k ≤ most) → Fits (most + 1) no_counts ts
fits_all ts most h = fits_from ts nothing most (omega arith) h

-- of tokens of whatever nesting
pub fits_any : (ts : List Token) → Fits (length ts + 1) no_counts ts
fits_any ts = fits_all ts (length ts) (λ k lt. let h = nesting_at_most ts k in omega (arith, h, lt))

-- a token nests one deeper than the one before it at most
step_from : (ts : List Token) (levels : Levels Inside) (k : ℕ) → k < length ts → nesting_in (fold past levels (take (suc k) ts)) ≤ nesting_in (fold past levels (take k ts)) + 1
step_from [] levels k lt = absurd (omega arith)
step_from (t ∷ ts) levels zero lt = one_more_at_most t levels
step_from (t ∷ ts) levels (suc k) lt = step_from ts (past levels t) k (omega arith)

-- the first token that nests too deep nests one deeper than allowed
pub first_past_nests : (ts : List Token) (most i : ℕ) → IsFirstPast most ts i → nesting ts i ≤ most + 1
first_past_nests ts most zero p = omega (arith, p.passes)
first_past_nests ts most (suc k) p = let h = p.first k (omega arith) in let s = step_from ts nothing k (omega (arith, p.within)) in omega (arith, h, s)

pub nesting_part : (ts : List Token) (k m : ℕ) → k ≤ m → nesting (take m ts) k ≡ nesting ts k
nesting_part ts k m le = ap (λ z. nesting_in (insides z)) (part ts k m le)
  where
    part : (ts : List Token) (k m : ℕ) → k ≤ m → take k (take m ts) ≡ take k ts
    part ts zero m le = refl
    part ts (suc k) zero le = absurd (omega arith)
    part [] (suc k) (suc m) le = refl
    part (t ∷ ts) (suc k) (suc m) le = ap (λ z. t ∷ z) (part ts k m (omega arith))
