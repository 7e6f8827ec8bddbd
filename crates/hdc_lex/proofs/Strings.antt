-- Along a string.
use Rattle.std.proofs.Common.{◌≡◌, ℕ, suc, zero, ◌+◌, ◌<◌, ◌≤◌, List, [], ◌∷◌, ◌++◌, length, drop, refl, sym, ap, ◌∙◌, arith, true, false, cond, Option, Ok, Err}
use Rattle.std.proofs.lemmas.List.{append-nil, append_assoc, drop-drop, length-drop}
use Rattle.std.proofs.lemmas.Bool.{false≢true}
use Rattle.hdc_lex.specs.Characters.{Character, character_at}
use Rattle.hdc_lex.specs.Pieces.{further, Codes, with_front, code_list, behind_character, begins_with, string_codes}
use Rattle.hdc_lex.specs.declared.lexeme.Fault.{Fault}
use Rattle.hdc_lex.specs.declared.lexeme.Fault.TheVariants as fault

-- the string is what these codes and the rest make, with enough characters left to count
abbrev pub CodesSoFar : List ℕ → List ℕ → ℕ → Type 0
CodesSoFar text codes offset = (most : ℕ) × (length (drop offset text) ≤ most) × (string_codes (length text) text ≡ with_front codes offset (string_codes most (drop offset text)))

further_twice : (n m : ℕ) (f : Fault) → further n (further m f) ≡ further (n + m) f
further_twice n m (fault.Byte offset) = let e : n + (m + offset) ≡ n + m + offset = omega arith in ap fault.Byte e
further_twice n m fault.Literal = refl
further_twice n m fault.Unclosed = refl

with_twice : (xs ys : List ℕ) (n m : ℕ) (r : Codes) → with_front xs n (with_front ys m r) ≡ with_front (xs ++ ys) (n + m) r
with_twice xs ys n m (Ok more) = let e : n + (m + more.1) ≡ n + m + more.1 = omega arith in ap (λ codes. Ok (codes, n + (m + more.1))) (sym (append_assoc xs ys more.0)) ∙ ap (λ size. Ok ((xs ++ ys) ++ more.0, size)) e
with_twice xs ys n m (Err f) = ap Err (further_twice n m f)

-- at a character
pub at_character : (most : ℕ) (rest : List ℕ) → begins_with 34 rest ≡ false → string_codes (suc most) rest ≡ behind_character (character_at 34 rest) (λ size. string_codes most (drop size rest))
at_character most rest g = ap (λ t. cond t (Ok ([], 1)) (behind_character (character_at 34 rest) (λ size. string_codes most (drop size rest)))) g

pub codes_more : (text codes : List ℕ) (offset size : ℕ) (code : Option ℕ) → CodesSoFar text codes offset → begins_with 34 (drop offset text) ≡ false → character_at 34 (drop offset text) ≡ Ok (code, size) → 0 < size → size ≤ length (drop offset text) → CodesSoFar text (codes ++ code_list code) (offset + size)
codes_more text codes offset size code (zero, short, e) g h some within = absurd (omega (arith, short, some, within))
codes_more text codes offset size code (suc most, short, e) g h some within =
    let step = at_character most (drop offset text) g ∙ ap (λ c. behind_character c (λ size. string_codes most (drop size (drop offset text)))) h in
    let behind : drop size (drop offset text) ≡ drop (offset + size) text = drop-drop size offset text in
    let short_behind : length (drop (offset + size) text) ≤ most = omega (arith, short, some, ap length behind, length-drop size (drop offset text)) in
    (most, short_behind, e ∙ ap (with_front codes offset) step ∙ with_twice codes (code_list code) offset size (string_codes most (drop size (drop offset text))) ∙ ap (λ rest. with_front (codes ++ code_list code) (offset + size) (string_codes most rest)) behind)

closed : (most : ℕ) (rest : List ℕ) → length rest ≤ most → begins_with 34 rest ≡ true → string_codes most rest ≡ Ok ([], 1)
closed most [] short g = absurd (false≢true g)
closed zero (b ∷ bs) short g = absurd (omega (arith, short))
closed (suc most) (b ∷ bs) short g = ap (λ t. cond t (Ok ([], 1)) (behind_character (character_at 34 (b ∷ bs)) (λ size. string_codes most (drop size (b ∷ bs))))) g

pub codes_closed : (text codes : List ℕ) (offset : ℕ) → CodesSoFar text codes offset → begins_with 34 (drop offset text) ≡ true → Ok (codes, offset + 1) ≡ string_codes (length text) text
codes_closed text codes offset (most, short, e) g = sym (e ∙ ap (with_front codes offset) (closed most (drop offset text) short g) ∙ ap (λ cs. Ok (cs, offset + 1)) (append-nil codes))

abbrev fault_in : Character → Fault
fault_in (Ok found) = fault.Unclosed
fault_in (Err f) = f

stopped : (most : ℕ) (rest : List ℕ) (f : Fault) → length rest ≤ most → begins_with 34 rest ≡ false → character_at 34 rest ≡ Err f → string_codes most rest ≡ Err f
stopped zero [] f short g h = ap (λ c. Err (fault_in c)) h
stopped zero (b ∷ bs) f short g h = absurd (omega (arith, short))
stopped (suc most) rest f short g h = at_character most rest g ∙ ap (λ c. behind_character c (λ size. string_codes most (drop size rest))) h

pub codes_stopped : (text codes : List ℕ) (offset : ℕ) (f : Fault) → CodesSoFar text codes offset → begins_with 34 (drop offset text) ≡ false → character_at 34 (drop offset text) ≡ Err f → Err (further offset f) ≡ string_codes (length text) text
codes_stopped text codes offset f (most, short, e) g h = sym (e ∙ ap (with_front codes offset) (stopped most (drop offset text) f short g h))
