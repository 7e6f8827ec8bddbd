-- Along a comment.
use Rattle.std.proofs.Common.{◌≡◌, ℕ, ◌+◌, ◌-◌, ◌≤◌, List, [], ◌∷◌, length, drop, refl, sym, ap, ◌∙◌, arith, Bool, true, false, cond, ◌==◌, Option, Some, None}
use Rattle.std.proofs.lemmas.List.{drop-drop}
use Rattle.std.proofs.lemmas.Bool.{false≢true}
use Rattle.std.proofs.lemmas.Bool.Decides.{nat_tests}
use Rattle.hdc_lex.specs.Pieces.{more_by, comment_end}
use Rattle.hdc_lex.specs.Grammar.{begins_with_both}

pub more_twice : (n m : ℕ) (size : Option ℕ) → more_by n (more_by m size) ≡ more_by (n + m) size
more_twice n m None = refl
more_twice n m (Some size) = let e : n + (m + size) ≡ n + m + size = omega arith in ap Some e

-- what the rest of a text at an offset leads to is known from what its rest leads to
one_step : (text : List ℕ) (offset size depth next : ℕ) → comment_end depth (drop offset text) ≡ more_by size (comment_end next (drop size (drop offset text))) → comment_end 0 text ≡ more_by offset (comment_end depth (drop offset text)) → comment_end 0 text ≡ more_by (offset + size) (comment_end next (drop (offset + size) text))
one_step text offset size depth next e h = h ∙ ap (more_by offset) e ∙ more_twice offset size (comment_end next (drop size (drop offset text))) ∙ ap (λ rest. more_by (offset + size) (comment_end next rest)) (drop-drop size offset text)

-- the comment's end behind two bytes, and behind one
abbrev behind_two : (opens closes : Bool) (depth a b : ℕ) (rest : List ℕ) → Option ℕ
behind_two opens closes depth a b rest = cond opens (more_by 2 (comment_end (depth + 1) rest)) (cond closes (cond (depth == 1) (Some 2) (more_by 2 (comment_end (depth - 1) rest))) (more_by 1 (comment_end depth (b ∷ rest))))

pub opened : (depth : ℕ) (rest : List ℕ) → begins_with_both 123 45 rest ≡ true → comment_end depth rest ≡ more_by 2 (comment_end (depth + 1) (drop 2 rest))
opened depth [] h = absurd (false≢true h)
opened depth (a ∷ []) h = absurd (false≢true h)
opened depth (a ∷ b ∷ rest) h = ap (λ t. behind_two t (begins_with_both 45 125 (a ∷ b ∷ rest)) depth a b rest) h

pub closed : (depth : ℕ) (rest : List ℕ) → begins_with_both 123 45 rest ≡ false → begins_with_both 45 125 rest ≡ true → comment_end depth rest ≡ cond (depth == 1) (Some 2) (more_by 2 (comment_end (depth - 1) (drop 2 rest)))
closed depth [] g h = absurd (false≢true h)
closed depth (a ∷ []) g h = absurd (false≢true h)
closed depth (a ∷ b ∷ rest) g h = ap (λ t. behind_two t (begins_with_both 45 125 (a ∷ b ∷ rest)) depth a b rest) g ∙ ap (λ t. behind_two false t depth a b rest) h

pub walked : (depth : ℕ) (rest : List ℕ) → begins_with_both 123 45 rest ≡ false → begins_with_both 45 125 rest ≡ false → 2 ≤ length rest → comment_end depth rest ≡ more_by 1 (comment_end depth (drop 1 rest))
walked depth [] g h long = absurd (omega (arith, long))
walked depth (a ∷ []) g h long = absurd (omega (arith, long))
walked depth (a ∷ b ∷ rest) g h long = ap (λ t. behind_two t (begins_with_both 45 125 (a ∷ b ∷ rest)) depth a b rest) g ∙ ap (λ t. behind_two false t depth a b rest) h

-- the steps along the text
pub one_opened : (text : List ℕ) (offset depth : ℕ) → begins_with_both 123 45 (drop offset text) ≡ true → comment_end 0 text ≡ more_by offset (comment_end depth (drop offset text)) → comment_end 0 text ≡ more_by (offset + 2) (comment_end (depth + 1) (drop (offset + 2) text))
one_opened text offset depth h e = one_step text offset 2 depth (depth + 1) (opened depth (drop offset text) h) e

pub one_closed : (text : List ℕ) (offset depth next : ℕ) → begins_with_both 123 45 (drop offset text) ≡ false → begins_with_both 45 125 (drop offset text) ≡ true → (depth ≡ 1 → ⊥) → next ≡ depth - 1 → comment_end 0 text ≡ more_by offset (comment_end depth (drop offset text)) → comment_end 0 text ≡ more_by (offset + 2) (comment_end next (drop (offset + 2) text))
one_closed text offset depth next g h last less e =
    let more : (depth == 1) ≡ false = grind (arith, nat_tests, last) in
    one_step text offset 2 depth next (closed depth (drop offset text) g h ∙ ap (λ t. cond t (Some 2) (more_by 2 (comment_end (depth - 1) (drop 2 (drop offset text))))) more ∙ ap (λ n. more_by 2 (comment_end n (drop 2 (drop offset text)))) (sym less)) e

pub one_walked : (text : List ℕ) (offset depth : ℕ) {size : ℕ} → begins_with_both 123 45 (drop offset text) ≡ false → begins_with_both 45 125 (drop offset text) ≡ false → length (drop offset text) ≡ size → 2 ≤ size → comment_end 0 text ≡ more_by offset (comment_end depth (drop offset text)) → comment_end 0 text ≡ more_by (offset + 1) (comment_end depth (drop (offset + 1) text))
one_walked text offset depth g h same long e = one_step text offset 1 depth depth (walked depth (drop offset text) g h (omega (arith, same, long))) e
