-- Each step of the search leaves less work.
use Rattle.std.proofs.Common.{◌≡◌, ℕ, zero, suc, ◌+◌, ◌<◌, List, [], ◌∷◌, length, get_or, set, arith}
use Rattle.hdc_graph.specs.declared.search.State.{State}
use Rattle.hdc_graph.specs.declared.search.State.TheVariants.{Unseen}
use Rattle.hdc_graph.specs.Needs.{Nodes}
use Rattle.hdc_graph.specs.Search.{cost, costs, is_open, opened}

-- what a change of one node's state does to the work
pub costs_set : (g : Nodes) (xs : List State) (i : ℕ) (x : State) → i < length xs → i < length g → costs g (set xs i x) + cost (get_or xs i Unseen) (get_or g i []) ≡ costs g xs + cost x (get_or g i [])
costs_set [] xs i x l m = absurd (omega arith)
costs_set (n ∷ g) [] i x l m = absurd (omega arith)
costs_set (n ∷ g) (y ∷ xs) zero x l m = omega arith
costs_set (n ∷ g) (y ∷ xs) (suc i) x l m = let r = costs_set g xs i x (omega (arith, l)) (omega (arith, m)) in omega (arith, r)

-- and to the number of nodes in no component
pub opened_set : (xs : List State) (i : ℕ) (x : State) → i < length xs → opened (set xs i x) + is_open (get_or xs i Unseen) ≡ opened xs + is_open x
opened_set [] i x l = absurd (omega arith)
opened_set (y ∷ xs) zero x l = omega arith
opened_set (y ∷ xs) (suc i) x l = let r = opened_set xs i x (omega (arith, l)) in omega (arith, r)
