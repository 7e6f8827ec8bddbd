-- Sites that are noted one after the other.
use Rattle.std.proofs.Common.{◌≡◌, List, [], ◌∷◌, ◌++◌, refl}
use Rattle.hdc_names.specs.declared.found.Found.{Found}
use Rattle.hdc_names.specs.Sites.{Site}
use Rattle.hdc_names.specs.Trees.{fault_of, deep_of, all_noted, found_with, all_found}

-- one list behind another
pub found_joined : (f : Found) (xs ys : List Site) → all_found f (xs ++ ys) ≡ all_found (all_found f xs) ys
found_joined f [] ys = refl
found_joined f (x ∷ xs) ys = found_joined (found_with f x) xs ys

pub ruleset in_order = (found_joined)

-- what is found first of either kind
pub fault_found : (f : Found) (ss : List Site) → (all_found f ss).fault ≡ all_noted fault_of f.fault ss
fault_found f [] = refl
fault_found f (s ∷ ss) = fault_found (found_with f s) ss

pub deep_found : (f : Found) (ss : List Site) → (all_found f ss).deep ≡ all_noted deep_of f.deep ss
deep_found f [] = refl
deep_found f (s ∷ ss) = deep_found (found_with f s) ss
