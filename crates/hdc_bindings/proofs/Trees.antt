-- What the steps of a chain build is what its tree groups.
use Rattle.std.proofs.Common.{◌≡◌, ℕ, suc, Bool, true, false, List, [], ◌∷◌, ◌++◌, length, slice_index_or, Result, Ok, Err, inl, inr, refl, sym, ap, ap₂, ◌∙◌, append_assoc, append-nil, arith}
use Rattle.hdc_base.specs.declared.place.Src.{Src}
use Rattle.hdc_tree.specs.declared.name.Sign.{Sign}
use Rattle.hdc_written.specs.Written.{Expression, Links, no_link, link}
use Rattle.hdc_names.specs.declared.chain.NextOperand.{NextOperand}
use Rattle.hdc_names.specs.declared.chain.Step.{Step}
use Rattle.hdc_names.specs.declared.chain.Step.TheVariants as step
use Rattle.hdc_names.specs.Fixities.{Scope}
use Rattle.hdc_names.specs.OperatorTrees.{operand, operator, minus, elements, leaf, binary, negated}
use Rattle.hdc_names.specs.Chain.{Piece, Tree, signed_operand, pieces_from, pieces, steps_of, IsTreeOf, read}
use Rattle.hdc_names.specs.Sites.{is_minus, sign_of, rest_of}
use Rattle.hdc_names.specs.Trees.{IsGiven, AreTrees}
use Rattle.hdc_names.proofs.Faults.{Told, told, no_tree_of}
use Rattle.hdc_names.proofs.Grouping.{one_tree}
use Rattle.hdc_resolved.specs.declared.name.Use.{Use}
use Rattle.hdc_resolving.specs.declared.known.Known.{Known}
use Rattle.hdc_resolving.specs.declared.walk.Walk.{Walk}
use Rattle.hdc_resolving.specs.Grouped.{Placed, no_operand, grouped, Building, turn, turned, top_of, built_by, steps_or_first, Joining, by_trees, by_steps}
use Rattle.hdc_resolving.specs.Numbering.{moved}
use Rattle.hdc_bindings.specs.Resolving.{behind_operand, placed_before}

-- ---- the operands of a tree

-- their numbers, from left to right
abbrev leaves : Tree → List ℕ
leaves (leaf n) = n ∷ []
leaves (binary l o r) = leaves l ++ leaves r
leaves (negated n t) = leaves t

-- the numbers of the operands among elements
abbrev operands_in : List Piece → List ℕ
operands_in [] = []
operands_in (operand n ∷ xs) = n ∷ operands_in xs
operands_in (operator o ∷ xs) = operands_in xs
operands_in (minus n ∷ xs) = operands_in xs

operands_joined : (xs ys : List Piece) → operands_in (xs ++ ys) ≡ operands_in xs ++ operands_in ys
operands_joined [] ys = refl
operands_joined (operand n ∷ xs) ys = ap (λ z. n ∷ z) (operands_joined xs ys)
operands_joined (operator o ∷ xs) ys = operands_joined xs ys
operands_joined (minus n ∷ xs) ys = operands_joined xs ys

-- a tree has the operands that stand in it
leaves_read : (t : Tree) → operands_in (elements t) ≡ leaves t
leaves_read (leaf n) = refl
leaves_read (binary l o r) = operands_joined (elements l) (operator o ∷ elements r) ∙ ap₂ ◌++◌ (leaves_read l) (leaves_read r)
leaves_read (negated n t) = leaves_read t

-- the numbers of a list's items, where the first has this one
abbrev numbers_from : {A : Type 0} → ℕ → List A → List ℕ
numbers_from k [] = []
numbers_from k (x ∷ xs) = k ∷ numbers_from (suc k) xs

signed_operands : (s : Bool) (k : ℕ) → operands_in (signed_operand s k) ≡ k ∷ []
signed_operands true k = refl
signed_operands false k = refl

operands_from : (k : ℕ) (ns : List NextOperand) → operands_in (pieces_from k ns) ≡ numbers_from k ns
operands_from k [] = refl
operands_from k (n ∷ ns) = operands_joined (signed_operand n.signed k) (pieces_from (suc k) ns) ∙ ap₂ ◌++◌ (signed_operands n.signed k) (operands_from (suc k) ns)

-- in the tree of a chain the operands stand in the order of their numbers, from 0 on
tree_leaves : (s : Bool) (rest : List NextOperand) (t : Tree) → IsTreeOf s rest t → leaves t ≡ 0 ∷ numbers_from 1 rest
tree_leaves s rest t h =
    sym (leaves_read t) ∙ ap operands_in h.reads ∙ operands_joined (signed_operand s 0) (pieces_from 1 rest) ∙ ap₂ ◌++◌ (signed_operands s 0) (operands_from 1 rest)

-- ---- operands by their numbers

module _ (s : Src) where
  -- those with these numbers
  abbrev at_numbers : List Placed → List ℕ → List Placed
  at_numbers xs [] = []
  at_numbers xs (n ∷ ns) = slice_index_or xs n (no_operand s) ∷ at_numbers xs ns

  at_joined : (xs : List Placed) (ms ns : List ℕ) → at_numbers xs (ms ++ ns) ≡ at_numbers xs ms ++ at_numbers xs ns
  at_joined xs [] ns = refl
  at_joined xs (m ∷ ms) ns = ap (λ z. slice_index_or xs m (no_operand s) ∷ z) (at_joined xs ms ns)

  -- one operand more before them shifts the numbers
  shifted : (x : Placed) (xs : List Placed) (k : ℕ) (ns : List NextOperand) → at_numbers (x ∷ xs) (numbers_from (suc k) ns) ≡ at_numbers xs (numbers_from k ns)
  shifted x xs k [] = refl
  shifted x xs k (n ∷ ns) = ap (λ z. slice_index_or xs k (no_operand s) ∷ z) (shifted x xs (suc k) ns)

  -- all of them in turn
  all_numbered : (xs : List Placed) (ns : List NextOperand) → length xs ≡ length ns → at_numbers xs (numbers_from 0 ns) ≡ xs
  all_numbered [] [] same = refl
  all_numbered [] (n ∷ ns) same = absurd (omega (arith, same))
  all_numbered (x ∷ xs) [] same = absurd (omega (arith, same))
  all_numbered (x ∷ xs) (n ∷ ns) same = ap (λ z. x ∷ z) (shifted x xs 0 ns ∙ all_numbered xs ns (omega (arith, same)))

  all_operands : (xs : List Placed) (ns : List NextOperand) → length xs ≡ suc (length ns) → at_numbers xs (0 ∷ numbers_from 1 ns) ≡ xs
  all_operands [] ns same = absurd (omega (arith, same))
  all_operands (x ∷ xs) ns same = ap (λ z. x ∷ z) (shifted x xs 0 ns ∙ all_numbered xs ns (omega (arith, same)))

-- ---- steps

abbrev state : List Placed → List Placed → Building
state rest done = record { rest = rest; done = done }

module _ (s : Src) (e : Expression) (us : List Use) where
  -- one list of steps behind another
  turned_joined : (xs ys : List Step) (b : Building) → turned s e us (xs ++ ys) b ≡ turned s e us ys (turned s e us xs b)
  turned_joined [] ys b = refl
  turned_joined (x ∷ xs) ys b = turned_joined xs ys (turn s e us x b)

  -- the steps of a tree take its operands, and put what it groups on top
  tree_built : (xs : List Placed) (t : Tree) (ys done : List Placed) → turned s e us (steps_of t) (state (at_numbers s xs (leaves t) ++ ys) done) ≡ state ys (grouped s e us xs t ∷ done)
  tree_built xs (leaf n) ys done = refl
  tree_built xs (binary l o r) ys done =
      let right = at_numbers s xs (leaves r) ++ ys in
      let left = grouped s e us xs l in
      ap (λ z. turned s e us (steps_of l ++ (steps_of r ++ (step.Operator o.number ∷ []))) (state z done)) (ap (λ z. z ++ ys) (at_joined s xs (leaves l) (leaves r)) ∙ append_assoc (at_numbers s xs (leaves l)) (at_numbers s xs (leaves r)) ys)
      ∙ turned_joined (steps_of l) (steps_of r ++ (step.Operator o.number ∷ [])) (state (at_numbers s xs (leaves l) ++ right) done)
      ∙ ap (turned s e us (steps_of r ++ (step.Operator o.number ∷ []))) (tree_built xs l right done)
      ∙ turned_joined (steps_of r) (step.Operator o.number ∷ []) (state right (left ∷ done))
      ∙ ap (turned s e us (step.Operator o.number ∷ [])) (tree_built xs r ys (left ∷ done))
  tree_built xs (negated n t) ys done =
      turned_joined (steps_of t) (step.Sign n ∷ []) (state (at_numbers s xs (leaves t) ++ ys) done)
      ∙ ap (turned s e us (step.Sign n ∷ [])) (tree_built xs t ys done)

  -- so the steps of a chain's tree build what it groups
  all_built : (signed : Bool) (rest : List NextOperand) (xs : List Placed) (t : Tree) → IsTreeOf signed rest t → length xs ≡ suc (length rest) → built_by s e us xs (steps_of t) ≡ grouped s e us xs t
  all_built signed rest xs t h size =
      let operands = ap (at_numbers s xs) (tree_leaves signed rest t h) ∙ all_operands s xs rest size in
      ap (λ z. top_of s (turned s e us (steps_of t) (state z [])).done) (sym operands ∙ sym (append-nil (at_numbers s xs (leaves t))))
      ∙ ap (λ (z : Building). top_of s z.done) (tree_built xs t [] [])

  -- a chain that has no tree is its first operand
  first_built : (xs : List Placed) → built_by s e us xs (step.Operand ∷ []) ≡ grouped s e us xs (leaf 0)
  first_built [] = refl
  first_built (x ∷ xs) = refl

  -- whatever reading says of a chain
  built_as : (signed : Bool) (rest : List NextOperand) (xs : List Placed) (t : Tree) (r : Result (List Step) ℕ) → length xs ≡ suc (length rest) → Told signed rest r → IsGiven signed rest t → built_by s e us xs (steps_or_first r) ≡ grouped s e us xs t
  built_as signed rest xs t (Ok steps) size h (inl g) =
      ap (built_by s e us xs) (h.built ∙ ap steps_of (one_tree (λ o. o.fixity) (pieces signed rest) h.tree t h.tree_of g)) ∙ all_built signed rest xs t g size
  built_as signed rest xs t (Ok steps) size h (inr g) = absurd (g.0 h.tree h.tree_of)
  built_as signed rest xs t (Err k) size h (inl g) = absurd (no_tree_of signed rest k h t g)
  built_as signed rest xs t (Err k) size h (inr g) = first_built xs ∙ ap (grouped s e us xs) (sym g.1)

-- where a chain has one operand more than operators, its steps build what its tree groups
pub steps_as_trees : (trees : Bool → List NextOperand → Tree) → AreTrees trees → (s : Src) (e : Expression) (rest : List NextOperand) (us : List Use) (xs : List Placed) → length xs ≡ suc (length rest) → by_steps s e rest us xs ≡ by_trees trees s e rest us xs
steps_as_trees trees right s e rest us xs size =
    let signed = is_minus (sign_of e) in
    built_as s e us signed rest xs (trees signed rest) (read signed rest) size (told signed rest) (right signed rest)

-- ---- the operands of a chain are one more than its operators

pub operand_count : (join : Joining) (k : Known) (ls : Links) (w : Walk) (last : Placed) (scope : Scope) (s : Sign) → length (placed_before join k ls w ++ (last ∷ [])) ≡ suc (length (rest_of scope ls s))
operand_count join k no_link w last scope s = refl
operand_count join k (link t a o ls) w last scope s = ap suc (operand_count join k ls (moved (behind_operand a w.counter) w) last scope s)
