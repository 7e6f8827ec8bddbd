-- What tests say, and lists of regular tokens.
use Rattle.std.proofs.Common.{◌≡◌, Bool, true, false, ◌&&◌, not, cond, List, [], ◌∷◌, ◌++◌, refl}
use Rattle.hdc_base.specs.declared.token.Token.{Token}
use Rattle.hdc_syntax.specs.Regular.{regular, all_regular}

pub both : (a b : Bool) → a ≡ true → b ≡ true → (a && b) ≡ true
both true b e f = f
both false b e f = absurd (cc)

pub first_part : (a b : Bool) → (a && b) ≡ true → a ≡ true
first_part true b e = refl
first_part false b e = absurd (cc)

pub second_part : (a b : Bool) → (a && b) ≡ true → b ≡ true
second_part true b e = e
second_part false b e = absurd (cc)

pub not_true : (b : Bool) → not b ≡ true → b ≡ false
not_true true e = absurd (cc)
not_true false e = refl

pub not_both : (a b : Bool) → b ≡ false → (a && b) ≡ false
not_both true b e = e
not_both false b e = refl

-- of lists whose tokens are regular, the list of both
pub regular_both : (v w : List Token) → all_regular v ≡ true → all_regular w ≡ true → all_regular (v ++ w) ≡ true
regular_both [] w e f = f
regular_both (t ∷ v) w e f = both (regular t) (all_regular (v ++ w)) (first_part (regular t) (all_regular v) e) (regular_both v w (second_part (regular t) (all_regular v) e) f)
