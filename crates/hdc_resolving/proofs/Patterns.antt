-- Patterns in a list.
use Rattle.std.proofs.Common.{◌≡◌, ℕ, zero, suc, ◌+◌, ◌<◌, List, [], ◌∷◌, ◌++◌, Option, Some, length, map, take, drop, get_or, refl, sym, ap, ◌∙◌, arith}
use Rattle.std.proofs.lemmas.List.{length-map}
use Rattle.hdc_base.specs.declared.place.At.{At}
use Rattle.hdc_written.specs.Firsts.{first_of_pattern}
use Rattle.hdc_resolved.specs.Syntax as resolved
use Rattle.hdc_resolved.specs.Mirror.{patterns, pattern_of}
use Rattle.hdc_resolved.specs.declared.pattern.Pat.{Pat}
use Rattle.hdc_tree.specs.declared.pattern.ConsPat.{ConsPat}
use Rattle.hdc_written.specs.Mirror.{each_pattern, cons_pat_of}
use Rattle.hdc_written.proofs.Loops.{stepped}
use Rattle.hdc_written.proofs.PatternMirror.{colon_of}
use Rattle.hdc_written.specs.Written.{Pattern, Patterns, no_pattern, pattern}
use Rattle.hdc_resolving.specs.declared.known.Known.{Known}
use Rattle.hdc_resolving.specs.Patterns.{resolved_pattern, resolved_patterns, each_resolved, each_first, first_colon, next_colons, consed, consed_with, joined_to, joined_tail, tail_of}
use Rattle.hdc_resolving.specs.Standing.{Names}

pub listed_patterns : (ps : Patterns) (k : Known) (names : Names) → patterns (each_resolved ps k names) ≡ resolved_patterns ps k names
listed_patterns no_pattern k names = refl
listed_patterns (pattern p ps) k names = ap (resolved.pattern (resolved_pattern p k names)) (listed_patterns ps k names)

pub ruleset listed = (listed_patterns)

pub joined_patterns : (ps : Patterns) (colons : List At) (k : Known) (names : Names) (a : At) (q : resolved.Pattern) → joined_to k a q (joined_tail k colons (each_first ps) (each_resolved ps k names)) ≡ consed_with ps colons k names a q
joined_patterns no_pattern colons k names a q = refl
joined_patterns (pattern p ps) colons k names a q = ap (consed k a (first_colon colons) q) (joined_patterns ps (next_colons colons) k names (first_of_pattern p) (resolved_pattern p k names))

pub ruleset joined = (joined_patterns)

-- ---- patterns with : between them, from the last to the first

-- there are as many resolved patterns as written ones
resolved_count : {A : Type 0} (f : A → Pattern) (xs : List A) (k : Known) (names : Names) → length (each_resolved (each_pattern f xs) k names) ≡ length xs
resolved_count f [] k names = refl
resolved_count f (x ∷ xs) k names = ap suc (resolved_count f xs k names)

pub as_many : {A : Type 0} (f : A → Pattern) (parts : List A) (pats : List Pat) (k : Known) (names : Names) → map pattern_of pats ≡ each_resolved (each_pattern f parts) k names → length parts ≡ length pats
as_many f parts pats k names e = sym (resolved_count f parts k names) ∙ ap length (sym e) ∙ length-map pats pattern_of

-- the last of the first items of a list is taken away
pub record IsTaken {A : Type 0} (i : ℕ) (items left : List A) (last : A) : Type 0 where
  pub left_is : left ≡ take i items
  pub behind : drop i items ≡ last ∷ drop (suc i) items

not_empty : {A : Type 0} (ys : List A) (p : A) → [] ≡ ys ++ (p ∷ []) → ⊥
not_empty [] p e = absurd cc
not_empty (y ∷ ys) p e = absurd cc

pub taken : {A : Type 0} (i : ℕ) (items left : List A) (p : A) → i < length items → take (suc i) items ≡ left ++ (p ∷ []) → IsTaken i items left p
taken i [] left p lt e = absurd (omega (arith, lt))
taken zero (x ∷ xs) [] p lt e = record { left_is = refl; behind = cc }
taken zero (x ∷ xs) (y ∷ ys) p lt e = absurd (not_empty ys p cc)
taken (suc i) (x ∷ []) left p lt e = absurd (omega (arith, lt))
taken (suc i) (x ∷ z ∷ zs) [] p lt e = absurd cc
taken (suc i) (x ∷ z ∷ zs) (y ∷ ys) p lt e =
    let h = taken i (z ∷ zs) ys p (omega (arith, lt)) cc in
    let same : x ≡ y = cc in
    record { left_is = ap (λ q. y ∷ q) h.left_is ∙ ap (λ q. q ∷ take i (z ∷ zs)) (sym same); behind = h.behind }

-- one pattern more
pub next_joined : (k : Known) (parts : List ConsPat) (i : ℕ) (x : ConsPat) (pats : List Pat) (p whole : Pat) (tail : Option (At × Pat)) → i < length parts → x ≡ get_or parts i x → drop i pats ≡ p ∷ drop (suc i) pats → tail_of tail ≡ joined_tail k (map colon_of (drop (suc i) parts)) (each_first (each_pattern cons_pat_of (drop (suc i) parts))) (map pattern_of (drop (suc i) pats)) → pattern_of whole ≡ joined_to k (first_of_pattern (cons_pat_of x)) (pattern_of p) (tail_of tail) → Some (colon_of x, pattern_of whole) ≡ joined_tail k (map colon_of (drop i parts)) (each_first (each_pattern cons_pat_of (drop i parts))) (map pattern_of (drop i pats))
next_joined k parts i x pats p whole tail lt is behind so_far done =
    let one : i + 1 ≡ suc i = omega arith in
    let more : drop i parts ≡ x ∷ drop (suc i) parts = stepped parts i x lt is ∙ ap (λ z. x ∷ drop z parts) one in
    ap (λ z. Some (colon_of x, z)) (done ∙ ap (joined_to k (first_of_pattern (cons_pat_of x)) (pattern_of p)) so_far)
    ∙ ap (λ z. joined_tail k (colon_of x ∷ map colon_of (drop (suc i) parts)) (first_of_pattern (cons_pat_of x) ∷ each_first (each_pattern cons_pat_of (drop (suc i) parts))) (map pattern_of z)) (sym behind)
    ∙ ap (λ z. joined_tail k (map colon_of z) (each_first (each_pattern cons_pat_of z)) (map pattern_of (drop i pats))) (sym more)

-- nothing is left to join
pub all_joined : (k : Known) (parts : List ConsPat) (pats : List Pat) (tail : Option (At × Pat)) (n : ℕ) → n ≡ 0 → tail_of tail ≡ joined_tail k (map colon_of (drop n parts)) (each_first (each_pattern cons_pat_of (drop n parts))) (map pattern_of (drop n pats)) → tail_of tail ≡ joined_tail k (map colon_of parts) (each_first (each_pattern cons_pat_of parts)) (map pattern_of pats)
all_joined k parts pats tail n none e = e ∙ ap (λ z. joined_tail k (map colon_of (drop z parts)) (each_first (each_pattern cons_pat_of (drop z parts))) (map pattern_of (drop z pats))) none
