-- The orders of the blocks of two texts.
use Rattle.std.proofs.Common.{◌≡◌, ℕ, List, [], ◌∷◌, ◌++◌, ap, sym, ◌∙◌, subst}
use Rattle.hdc_written.specs.Written.{Declarations}
use Rattle.hdc_needs.specs.Orders.{AreOrders}
use Rattle.hdc_top.specs.ResolvedTree.{IsAdded}

-- the blocks of one text behind those of another
orders_joined : (xs ys : List Declarations) (os ps : List (List ℕ)) → AreOrders xs os → AreOrders ys ps → AreOrders (xs ++ ys) (os ++ ps)
orders_joined [] ys [] ps h g = g
orders_joined [] ys (o ∷ os) ps h g = absurd h
orders_joined (x ∷ xs) ys [] ps h g = absurd h
orders_joined (x ∷ xs) ys (o ∷ os) ps h g = (h.0, orders_joined xs ys os ps h.1 g)

pub both_added : (xs ys : List Declarations) (none once twice : List (List ℕ)) → none ≡ [] → IsAdded xs none once → IsAdded ys once twice → AreOrders (xs ++ ys) twice
both_added xs ys none once twice empty first second =
    let whole : twice ≡ first.found ++ second.found = second.behind ∙ ap (λ z. z ++ second.found) (first.behind ∙ ap (λ z. z ++ first.found) empty) in
    subst (AreOrders (xs ++ ys)) (sym whole) (orders_joined xs ys first.found second.found first.ordered second.ordered)
