-- The names that declarations bind, one behind the other.
use Rattle.std.proofs.Common.{◌≡◌, ℕ, List, [], ◌∷◌, ◌++◌, map, refl, ap, append_assoc, append-nil}
use Rattle.hdc_tree.specs.declared.name.Name.{Name}
use Rattle.hdc_written.specs.Events.{each_introduced}
use Rattle.hdc_needs.specs.declared.names.BoundName.{BoundName}
use Rattle.hdc_needs.specs.Binders.{mentions, introduced_in}
use Rattle.hdc_needs.specs.Kept.{mention_of}
use Rattle.hdc_needs.specs.Walk.{Mention}

-- one name more
pub one_more : (xs : List BoundName) (x : BoundName) → map mention_of (xs ++ x ∷ []) ≡ map mention_of xs ++ mention_of x ∷ []
one_more [] x = refl
one_more (y ∷ ys) x = ap (λ rest. mention_of y ∷ rest) (one_more ys x)

-- variables that come into scope
pub all_introduced : (k : ℕ) (xs : List Name) → introduced_in k (each_introduced xs) ≡ mentions k xs
all_introduced k [] = refl
all_introduced k (x ∷ xs) = ap (λ (rest : List Mention). record { number = k; name = x } ∷ rest) (all_introduced k xs)

pub ruleset in_order = (append_assoc, append-nil, all_introduced)
