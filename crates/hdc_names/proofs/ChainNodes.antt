-- The steps of a chain's tree, from the last one to the first, meet the nodes of the tree.
use Rattle.std.proofs.Common.{◌≡◌, ℕ, suc, Bool, List, [], ◌∷◌, ◌++◌, Result, Ok, Err, inl, inr, refl, sym, ap, ◌∙◌, append_assoc, append-nil}
use Rattle.hdc_base.specs.declared.place.At.{At}
use Rattle.hdc_names.specs.declared.chain.NextOperand.{NextOperand}
use Rattle.hdc_names.specs.declared.chain.Step.{Step}
use Rattle.hdc_names.specs.declared.chain.Step.TheVariants as step
use Rattle.hdc_names.specs.declared.found.Found.{Found}
use Rattle.hdc_names.specs.declared.joining.Joining.{Joining}
use Rattle.hdc_names.specs.declared.joining.Pending.{Pending}
use Rattle.hdc_names.specs.OperatorTrees.{leaf, binary, negated}
use Rattle.hdc_names.specs.Chain.{Tree, steps_of, read}
use Rattle.hdc_written.specs.Written.{Expression}
use Rattle.hdc_written.specs.Firsts.{first_of_expression, operand_at, start_at, operator_before}
use Rattle.hdc_names.specs.Sites.{node, operand_depths, joining_nodes}
use Rattle.hdc_names.specs.Trees.{found_with, all_found, IsGiven, AreTrees}
use Rattle.hdc_names.specs.Walk.{turn, turned, started, joining}
use Rattle.hdc_names.proofs.Noting.{found_joined}
use Rattle.hdc_names.proofs.Faults.{Told, told, no_tree_of}

-- one list of steps behind another
pub turned_joined : (e : Expression) (xs ys : List Step) (j : Joining) → turned e (xs ++ ys) j ≡ turned e xs (turned e ys j)
turned_joined e [] ys j = refl
turned_joined e (x ∷ xs) ys j = ap (turn e x) (turned_joined e xs ys j)

-- a tree is met, with what waits behind it
abbrev waits : ℕ → At → List Pending → List ℕ → Found → Joining
waits d at ps ds f = record { pending = record { depth = d; at = at } ∷ ps; depths = ds; found = f }

abbrev met : List Pending → List ℕ → Found → Joining
met ps ds f = record { pending = ps; depths = ds; found = f }

pub tree_met : (t : Tree) (e : Expression) (d : ℕ) (at : At) (ps : List Pending) (ds : List ℕ) (f : Found) → turned e (steps_of t) (waits d at ps ds f) ≡ met ps (operand_depths d t ++ ds) (all_found f (joining_nodes e at d t))
tree_met (leaf k) e d at ps ds f = refl
tree_met (binary l o r) e d at ps ds f =
    let found = found_with (found_with f (node d at)) (node (suc d) (operator_before e o.number)) in
    let start = start_at e o.number in
    let left : Pending = record { depth = suc d; at = at } in
    turned_joined e (steps_of l) (steps_of r ++ (step.Operator o.number ∷ [])) (waits d at ps ds f)
    ∙ ap (turned e (steps_of l)) (turned_joined e (steps_of r) (step.Operator o.number ∷ []) (waits d at ps ds f) ∙ tree_met r e (suc d) start (left ∷ ps) ds found)
    ∙ tree_met l e (suc d) at ps (operand_depths (suc d) r ++ ds) (all_found found (joining_nodes e start (suc d) r))
    ∙ ap (λ (z : List ℕ). met ps z (all_found (all_found found (joining_nodes e start (suc d) r)) (joining_nodes e at (suc d) l))) (sym (append_assoc (operand_depths (suc d) l) (operand_depths (suc d) r) ds))
    ∙ ap (met ps ((operand_depths (suc d) l ++ operand_depths (suc d) r) ++ ds)) (sym (found_joined found (joining_nodes e start (suc d) r) (joining_nodes e at (suc d) l)))
tree_met (negated k b) e d at ps ds f =
    turned_joined e (steps_of b) (step.Sign k ∷ []) (waits d at ps ds f) ∙ tree_met b e (suc d) (operand_at e k) ps ds (found_with f (node d at))

-- ---- each chain has its tree

tree_told : (s : Bool) (rest : List NextOperand) (r : Result (List Step) ℕ) → Told s rest r → Tree
tree_told s rest (Ok steps) h = h.tree
tree_told s rest (Err k) h = leaf 0

pub the_tree : Bool → List NextOperand → Tree
the_tree s rest = tree_told s rest (read s rest) (told s rest)

given : (s : Bool) (rest : List NextOperand) (r : Result (List Step) ℕ) (h : Told s rest r) → IsGiven s rest (tree_told s rest r h)
unfolding tree_told
given s rest (Ok steps) h = inl h.tree_of
given s rest (Err k) h = inr (no_tree_of s rest k h, refl)

pub are_trees : AreTrees the_tree
unfolding the_tree
are_trees s rest = given s rest (read s rest) (told s rest)

-- the chain of an expression is gone through as its tree is
joined_by : (s : Bool) (rest : List NextOperand) (r : Result (List Step) ℕ) (h : Told s rest r) (d : ℕ) (e : Expression) (f : Found) → joining r d e f ≡ met [] (operand_depths d (tree_told s rest r h)) (all_found f (joining_nodes e (first_of_expression e) d (tree_told s rest r h)))
unfolding tree_told
joined_by s rest (Ok steps) h d e f =
    ap (λ (z : List Step). turned e z (started d e f)) h.built
    ∙ tree_met h.tree e d (first_of_expression e) [] [] f
    ∙ ap (λ (z : List ℕ). met [] z (all_found f (joining_nodes e (first_of_expression e) d h.tree))) (append-nil (operand_depths d h.tree))
joined_by s rest (Err k) h d e f = refl

pub chain_met : (s : Bool) (rest : List NextOperand) (d : ℕ) (e : Expression) (f : Found) → joining (read s rest) d e f ≡ met [] (operand_depths d (the_tree s rest)) (all_found f (joining_nodes e (first_of_expression e) d (the_tree s rest)))
unfolding the_tree
chain_met s rest d e f = joined_by s rest (read s rest) (told s rest) d e f

-- one step more
pub turned_last : (e : Expression) (xs : List Step) (x : Step) (j : Joining) → turned e (xs ++ (x ∷ [])) j ≡ turned e xs (turn e x j)
turned_last e xs x j = turned_joined e xs (x ∷ []) j
