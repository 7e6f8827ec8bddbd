-- The counts from token to token are those of what stands in the open brackets.
use Rattle.std.proofs.Common.{◌≡◌, ℕ, ◌+◌, ◌<◌, List, [], ◌∷◌, length, map, take, sum, get_or, Bool, true, false, cond, refl, sym, ap, ◌∙◌, add_comm, zero-add}
use Rattle.std.specs.List.{count_by, take_while}
use Rattle.std.proofs.lemmas.List.{length-map}
use Rattle.std.proofs.lemmas.List.Sums.{fold_more, sum_by-cons, take_while-cons}
use Rattle.hdc_base.specs.declared.token.Token.{Token}
use Rattle.hdc_nesting.specs.declared.role.Role.{Role}
use Rattle.hdc_nesting.specs.declared.role.Role.TheVariants as role
use Rattle.hdc_nesting.specs.Roles.{role_of, counts, joins}
use Rattle.hdc_nesting.specs.Nesting.{Levels, Inside, nothing, closes, behind, insides, count, nesting_in}
use Rattle.hdc_nesting.specs.Counts.{counts_of, counts_closed, counts_behind, nesting_of}

-- the tokens that count among those that stand in a bracket, up to a separator
counted : (b : Bool) (t : Token) (inside : Inside) → count_by (λ t. counts (role_of t.word)) (cond b (t ∷ inside) []) ≡ cond b (cond (counts (role_of t.word)) 1 0 + count_by (λ t. counts (role_of t.word)) inside) 0
counted true t inside = sum_by-cons (λ (t : Token). cond (counts (role_of t.word)) 1 0) t inside
counted false t inside = refl

-- the count of a bracket with one more token in it
count_cons : (t : Token) (r : Role) (inside : Inside) → role_of t.word ≡ r → count (t ∷ inside) ≡ cond (joins r) (cond (counts r) 1 0 + count inside) 0
count_cons t r inside e =
    ap (count_by (λ t. counts (role_of t.word))) (take_while-cons (λ (t : Token). joins (role_of t.word)) t inside)
    ∙ counted (joins (role_of t.word)) t (take_while (λ t. joins (role_of t.word)) inside)
    ∙ ap (λ r. cond (joins r) (cond (counts r) 1 0 + count inside) 0) e

-- these counts
abbrev level : ℕ → List ℕ → Levels ℕ
level n around = record { innermost = n; around = around }

-- the counts where a token closes the innermost
counts_closing : (t : Token) (inside : Inside) (around : List Inside) → role_of t.word ≡ role.Closes → counts_of (closes (t ∷ inside) around) ≡ counts_closed (count inside) (map count around)
counts_closing t inside [] e = ap (λ n. level n []) (count_cons t role.Closes inside e ∙ zero-add (count inside))
counts_closing t inside (outer ∷ around) e = refl

-- the counts behind a token
pub counts_more : (t : Token) (r : Role) (levels : Levels Inside) → role_of t.word ≡ r → counts_of (behind t r levels) ≡ counts_behind r (counts_of levels)
counts_more t role.Opens levels e = ap (λ n. level 0 (n ∷ map count levels.around)) (count_cons t role.Opens levels.innermost e ∙ zero-add (count levels.innermost))
counts_more t role.Closes levels e = counts_closing t levels.innermost levels.around e
counts_more t role.Counts levels e = ap (λ n. level n (map count levels.around)) (count_cons t role.Counts levels.innermost e ∙ add_comm 1 (count levels.innermost))
counts_more t role.Separates levels e = ap (λ n. level n (map count levels.around)) (count_cons t role.Separates levels.innermost e)
counts_more t role.Other levels e = ap (λ n. level n (map count levels.around)) (count_cons t role.Other levels.innermost e ∙ zero-add (count levels.innermost))

-- the counts behind one more token of a list
pub counts_next : (tokens : List Token) (i : ℕ) (t : Token) (c d : Levels ℕ) → i < length tokens → t ≡ get_or tokens i t → c ≡ counts_of (insides (take i tokens)) → d ≡ counts_behind (role_of t.word) c → d ≡ counts_of (insides (take (i + 1) tokens))
counts_next tokens i t c d within is before now =
    now ∙ ap (counts_behind (role_of t.word)) before
    ∙ sym (counts_more t (role_of t.word) (insides (take i tokens)) refl)
    ∙ ap (λ (s : Token). counts_of (behind s (role_of s.word) (insides (take i tokens)))) is
    ∙ ap counts_of (sym (fold_more (λ (levels : Levels Inside) (t : Token). behind t (role_of t.word) levels) nothing tokens i t within))

-- the nesting is that of the counts
pub nesting_counted : (levels : Levels Inside) → nesting_of (counts_of levels) ≡ nesting_in levels
nesting_counted levels = ap (λ n. n + sum (map count (levels.innermost ∷ levels.around))) (length-map levels.around count)
