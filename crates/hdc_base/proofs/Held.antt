-- A name is looked up by its place.
use Rattle.std.proofs.Common.{◌≡◌, ℕ, ◌<◌, ◌≤◌, List, [], ◌∷◌, None, Some, length, arith, refl}
use Rattle.std.proofs.lemmas.Grind.{common_steps}
use Rattle.std.specs.List.{position, position_or_len, slice_get}
use Rattle.std.specs.Str.{bytes_eq}
use Rattle.hdc_base.specs.Held.{text_under}

text_under-within : (names texts : List (List ℕ)) (name : List ℕ) → position_or_len (λ held. bytes_eq held name) names < length names → text_under names texts name ≡ slice_get texts (position_or_len (λ held. bytes_eq held name) names)
text_under-within [] texts name h = grind (arith, common_steps)
text_under-within (n ∷ names) [] name h = grind (arith, common_steps)
text_under-within (n ∷ names) (t ∷ texts) name h = grind (arith, common_steps, text_under-within names texts name)

text_under-absent : (names texts : List (List ℕ)) (name : List ℕ) → length names ≤ position_or_len (λ held. bytes_eq held name) names → text_under names texts name ≡ None
text_under-absent [] texts name h = refl
text_under-absent (n ∷ names) [] name h = refl
text_under-absent (n ∷ names) (t ∷ texts) name h = grind (arith, common_steps, text_under-absent names texts name)

-- the text under a name stands at the place of the first equal name
pub text_under_at : (names texts : List (List ℕ)) (name : List ℕ) (place : ℕ) → Some place ≡ position (λ held. bytes_eq held name) names → text_under names texts name ≡ slice_get texts place
text_under_at names texts name place e = grind (arith, common_steps, text_under-within names texts name)

-- nothing stands under a name that is not among the names
pub text_under_none : (names texts : List (List ℕ)) (name : List ℕ) → None ≡ position (λ held. bytes_eq held name) names → text_under names texts name ≡ None
text_under_none names texts name e = grind (arith, common_steps, text_under-absent names texts name)

pub ruleset by_place = (text_under_at, text_under_none)
