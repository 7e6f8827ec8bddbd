-- Names that are bound one after the other, and left again.
use Rattle.std.proofs.Common.{◌≡◌, ℕ, zero, suc, ◌+◌, ◌-◌, List, [], ◌∷◌, ◌++◌, length, drop, refl, ap, ◌∙◌, arith}
use Rattle.hdc_tree.specs.declared.name.Name.{Name}
use Rattle.hdc_written.specs.Scopes.{Binding, bound_to}

module _ {T : Type 0} where
  -- one list behind another
  pub bound_joined : (what : T) (xs ys : List Name) (scope : List (Binding T)) → bound_to what (xs ++ ys) scope ≡ bound_to what ys (bound_to what xs scope)
  bound_joined what [] ys scope = refl
  bound_joined what (x ∷ xs) ys scope = bound_joined what xs ys (record { name = x.text; what = what } ∷ scope)

  size_bound : (what : T) (xs : List Name) (scope : List (Binding T)) → length (bound_to what xs scope) ≡ length scope + length xs
  size_bound what [] scope = omega arith
  size_bound what (x ∷ xs) scope = let h = size_bound what xs (record { name = x.text; what = what } ∷ scope) in omega (arith, h)

  drop_tail : (n : ℕ) (bs : List (Binding T)) (b : Binding T) (rest : List (Binding T)) → drop n bs ≡ b ∷ rest → drop (suc n) bs ≡ rest
  drop_tail zero [] b rest e = absurd cc
  drop_tail (suc n) [] b rest e = absurd cc
  drop_tail zero (c ∷ cs) b rest e = cc
  drop_tail (suc n) (c ∷ cs) b rest e = drop_tail n cs b rest e

  drop_bound : (what : T) (xs : List Name) (scope : List (Binding T)) → drop (length xs) (bound_to what xs scope) ≡ scope
  drop_bound what [] scope = refl
  drop_bound what (x ∷ xs) scope = drop_tail (length xs) (bound_to what xs (record { name = x.text; what = what } ∷ scope)) (record { name = x.text; what = what }) scope (drop_bound what xs (record { name = x.text; what = what } ∷ scope))

  -- what was bound is left again
  pub left_bound : (what : T) (xs : List Name) (scope : List (Binding T)) → drop (length (bound_to what xs scope) - length scope) (bound_to what xs scope) ≡ scope
  left_bound what xs scope =
      let h = size_bound what xs scope in
      let n : length (bound_to what xs scope) - length scope ≡ length xs = omega (arith, h) in
      ap (λ k. drop k (bound_to what xs scope)) n ∙ drop_bound what xs scope

pub ruleset in_order = (bound_joined)
