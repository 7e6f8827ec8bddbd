-- A number is among the numbers where any of them equals it.
use Rattle.std.proofs.Common.{◌≡◌, ◌==◌, ℕ, List, [], ◌∷◌, arith, refl}
use Rattle.std.proofs.lemmas.Grind.{common_steps}
use Rattle.std.specs.List.{list_any}
use Rattle.hdc_base.specs.Counts.{is_among}

-- the test for any equal number is `is_among`
pub is_among_by_any : (numbers : List ℕ) (number : ℕ) → is_among numbers number ≡ list_any (λ n. n == number) numbers
is_among_by_any [] number = refl
is_among_by_any (n ∷ numbers) number = grind (arith, common_steps, is_among_by_any numbers number)
