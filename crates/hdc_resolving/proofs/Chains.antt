-- Chains of parts to which one is added.
use Rattle.std.proofs.Common.{◌≡◌, List, [], ◌∷◌, ◌++◌, map, refl, ap}
use Rattle.hdc_resolved.specs.Mirror.{chain}

pub chain_last : {A B : Type 0} (f : B → A → A) (xs : List B) (x : B) (end : A) → chain (map f (xs ++ (x ∷ []))) end ≡ chain (map f xs) (f x end)
chain_last f [] x end = refl
chain_last f (y ∷ xs) x end = ap (f y) (chain_last f xs x end)

pub ruleset chained = (chain_last)
