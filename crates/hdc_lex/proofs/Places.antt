-- Places along a text.
use Rattle.std.proofs.Common.{◌≡◌, ℕ, ◌+◌, List, [], ◌∷◌, ◌++◌, length, refl, arith, Bool, true, false, cond, ◌==◌}
use Rattle.hdc_base.specs.declared.place.At.{At}
use Rattle.hdc_lex.specs.Place.{next_tab, behind, behind_all, ForAtMost}

-- places behind two parts
pub behind_parts : (at : At) (xs ys : List ℕ) → behind_all at (xs ++ ys) ≡ behind_all (behind_all at xs) ys
behind_parts at [] ys = refl
behind_parts at (x ∷ xs) ys = behind_parts (behind at x) xs ys

-- a byte takes at most one line, and eight columns
fits_behind : (at : At) (b count : ℕ) → ForAtMost (count + 1) at → ForAtMost count (behind at b)
fits_behind at b count h = by_tests (b == 10) (b == 9)
  where
    by_tests : (line tab : Bool) → ForAtMost count (cond line (record { line = at.line + 1; col = 1 }) (cond tab (record { line = at.line; col = next_tab at.col }) (record { line = at.line; col = at.col + 1 })))
    by_tests true tab = (omega (arith, h.0), omega (arith, h.1))
    by_tests false true = (omega (arith, h.0), omega (arith, h.1))
    by_tests false false = (omega (arith, h.0), omega (arith, h.1))

pub fits_behind_all : (xs : List ℕ) (at : At) (count : ℕ) → ForAtMost (count + length xs) at → ForAtMost count (behind_all at xs)
fits_behind_all [] at count h = (omega (arith, h.0), omega (arith, h.1))
fits_behind_all (x ∷ xs) at count h = fits_behind_all xs (behind at x) count (fits_behind at x (count + length xs) (omega (arith, h.0), omega (arith, h.1)))
