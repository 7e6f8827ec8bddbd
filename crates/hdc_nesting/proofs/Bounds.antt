-- The nesting grows by one at most from token to token.
use Rattle.std.proofs.Common.{◌≡◌, ℕ, ◌+◌, ◌≤◌, List, [], ◌∷◌, length, take, sym, ap, ◌∙◌, subst, refl, arith}
use Rattle.std.specs.List.{fold}
use Rattle.std.proofs.lemmas.List.{length-take}
use Rattle.std.proofs.lemmas.List.Sums.{sum_by-cons}
use Rattle.hdc_base.specs.declared.token.Token.{Token}
use Rattle.hdc_nesting.specs.declared.role.Role.{Role}
use Rattle.hdc_nesting.specs.declared.role.Role.TheVariants as role
use Rattle.hdc_nesting.specs.Roles.{role_of}
use Rattle.hdc_nesting.specs.Nesting.{Levels, Inside, nothing, behind, insides, nesting_in, nesting}
use Rattle.hdc_nesting.specs.Counts.{counts_of, counts_closed, counts_behind, nesting_of}
use Rattle.hdc_nesting.proofs.Counted.{counts_more, nesting_counted}

-- of counts, where the innermost closes
closed_at_most : (n : ℕ) (around : List ℕ) → nesting_of (counts_closed n around) ≤ nesting_of (record { innermost = n; around = around }) + 1
closed_at_most n [] = omega arith
closed_at_most n (outer ∷ around) = grind (arith, sum_by-cons (λ (n : ℕ). n) n (outer ∷ around), sum_by-cons (λ (n : ℕ). n) outer around)

-- of counts, behind a token
one_at_most : (r : Role) (c : Levels ℕ) → nesting_of (counts_behind r c) ≤ nesting_of c + 1
one_at_most role.Opens c = grind (arith, sum_by-cons (λ (n : ℕ). n) 0 (c.innermost ∷ c.around), sum_by-cons (λ (n : ℕ). n) c.innermost c.around)
one_at_most role.Closes c = closed_at_most c.innermost c.around
one_at_most role.Counts c = grind (arith, sum_by-cons (λ (n : ℕ). n) (c.innermost + 1) c.around, sum_by-cons (λ (n : ℕ). n) c.innermost c.around)
one_at_most role.Separates c = grind (arith, sum_by-cons (λ (n : ℕ). n) 0 c.around, sum_by-cons (λ (n : ℕ). n) c.innermost c.around)
one_at_most role.Other c = omega arith

-- behind a token
pub one_more_at_most : (t : Token) (levels : Levels Inside) → nesting_in (behind t (role_of t.word) levels) ≤ nesting_in levels + 1
one_more_at_most t levels =
    let e = nesting_counted (behind t (role_of t.word) levels) in
    let f = nesting_counted levels in
    let g = subst (λ c. nesting_of c ≤ nesting_of (counts_of levels) + 1) (sym (counts_more t (role_of t.word) levels refl)) (one_at_most (role_of t.word) (counts_of levels)) in
    subst (λ n. n ≤ nesting_in levels + 1) e (subst (λ n. nesting_of (counts_of (behind t (role_of t.word) levels)) ≤ n + 1) f g)

-- behind tokens
along : (tokens : List Token) (levels : Levels Inside) → nesting_in (fold (λ levels t. behind t (role_of t.word) levels) levels tokens) ≤ nesting_in levels + length tokens
along [] levels = omega arith
along (t ∷ tokens) levels =
    let h = along tokens (behind t (role_of t.word) levels) in
    let g = one_more_at_most t levels in
    omega arith

-- the nesting of a token is at most the number of those before it
pub nesting_at_most : (tokens : List Token) (i : ℕ) → nesting tokens i ≤ i
nesting_at_most tokens i =
    let h = along (take i tokens) nothing in
    let g = length-take i tokens in
    omega arith

-- the nesting by the counts before a token
pub nesting_by : (tokens : List Token) (i : ℕ) (c : Levels ℕ) → c ≡ counts_of (insides (take i tokens)) → nesting_of c ≡ nesting tokens i
nesting_by tokens i c e = ap nesting_of e ∙ nesting_counted (insides (take i tokens))
