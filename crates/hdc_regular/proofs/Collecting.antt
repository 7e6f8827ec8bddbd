-- Lists that are collected in order.
use Rattle.std.proofs.Common.{◌≡◌, List, [], ◌∷◌, ◌++◌, map, refl, ap, append_assoc, append-nil}

pub ruleset in_order = (append_assoc, append-nil)

-- one more item of a list that is looked at
pub one_more : {A B : Type 0} (f : A → B) (xs : List A) (x : A) → map f (xs ++ x ∷ []) ≡ map f xs ++ f x ∷ []
one_more f [] x = refl
one_more f (y ∷ xs) x = ap (λ z. f y ∷ z) (one_more f xs x)
