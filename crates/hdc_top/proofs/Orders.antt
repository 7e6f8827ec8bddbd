-- The orders of blocks in which no value needs itself.
use Rattle.std.proofs.Common.{◌≡◌, ℕ, List, [], ◌∷◌, ◌++◌, ◌⊎◌, inl, inr, refl, ap, sym, ◌∙◌}
use Rattle.hdc_base.specs.declared.place.At.{At}
use Rattle.hdc_tree.specs.declared.program.Top.{Top}
use Rattle.hdc_written.specs.Written.{Declarations}
use Rattle.hdc_written.specs.Breaches.{breach}
use Rattle.hdc_needs.specs.Needy.{NeedsItself, IsIn, IsNeedy, text_blocks}
use Rattle.hdc_needs.specs.Orders.{AreOrders}
use Rattle.hdc_top.specs.Names.{BreakNone}
use Rattle.hdc_top.specs.ResolvedTree.{AreBlockOrders}

-- no value of these blocks needs itself
abbrev NoneNeedy : List Declarations → Type 0
NoneNeedy blocks = (d : Declarations) → IsIn d blocks → (at : At) → NeedsItself d at → ⊥

orders_once : (blocks : List Declarations) (xs ys : List (List ℕ)) → NoneNeedy blocks → AreOrders blocks xs → AreOrders blocks ys → xs ≡ ys
orders_once [] [] [] none h g = refl
orders_once [] [] (y ∷ ys) none h g = absurd g
orders_once [] (x ∷ xs) ys none h g = absurd h
orders_once (d ∷ ds) [] ys none h g = absurd h
orders_once (d ∷ ds) (x ∷ xs) [] none h g = absurd g
orders_once (d ∷ ds) (x ∷ xs) (y ∷ ys) none h g =
    let first : x ≡ y = h.0 (λ at. none d (inl refl) at) ∙ sym (g.0 (λ at. none d (inl refl) at)) in
    ap (λ z. z ∷ xs) first ∙ ap (λ zs. y ∷ zs) (orders_once ds xs ys (λ e among. none e (inr among)) h.1 g.1)

is_in_either : (d : Declarations) (a b : List Declarations) → IsIn d (a ++ b) → IsIn d a ⊎ IsIn d b
is_in_either d [] b h = inr h
is_in_either d (x ∷ a) b (inl h) = inl (inl h)
is_in_either d (x ∷ a) b (inr h) = by_rest (is_in_either d a b h)
  where
    by_rest : IsIn d a ⊎ IsIn d b → IsIn d (x ∷ a) ⊎ IsIn d b
    by_rest (inl g) = inl (inr g)
    by_rest (inr g) = inr g

needy : (ts : List Top) (d : Declarations) (at : At) → IsIn d (text_blocks ts) → NeedsItself d at → IsNeedy ts (breach 11 at)
needy ts d at among needs = record { rule = refl; declarations = d; in_text = among; needs = needs }

none_needy : (ps ts : List Top) → BreakNone ps ts → NoneNeedy (text_blocks ps ++ text_blocks ts)
none_needy ps ts none = λ d among at needs. by_text d at needs (is_in_either d (text_blocks ps) (text_blocks ts) among)
  where
    by_text : (d : Declarations) (at : At) → NeedsItself d at → IsIn d (text_blocks ps) ⊎ IsIn d (text_blocks ts) → ⊥
    by_text d at needs (inl among) = none.0 (breach 11 at) (inr (needy ps d at among needs))
    by_text d at needs (inr among) = none.1 (breach 11 at) (inr (needy ts d at among needs))

-- where the rules are kept, the blocks have one order each
pub block_orders_once : (ps ts : List Top) (xs ys : List (List ℕ)) → BreakNone ps ts → AreBlockOrders ps ts xs → AreBlockOrders ps ts ys → xs ≡ ys
block_orders_once ps ts xs ys none h g = orders_once (text_blocks ps ++ text_blocks ts) xs ys (none_needy ps ts none) h g
