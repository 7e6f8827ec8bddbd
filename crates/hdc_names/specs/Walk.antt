-- The walk over a program, as the code has it.
use Rattle.std.specs.Prelude.{ℕ, suc, ◌+◌, ◌-◌, List, [], ◌∷◌, length, drop, Result, Ok, Err}
use Rattle.hdc_tree.specs.declared.name.Name.{Name}
use Rattle.hdc_tree.specs.declared.program.Top.{Top}
use Rattle.hdc_tree.specs.declared.program.Top.TheVariants as top
use Rattle.hdc_names.specs.declared.chain.Step.{Step}
use Rattle.hdc_names.specs.declared.chain.Step.TheVariants as step
use Rattle.hdc_names.specs.declared.found.Found.{Found}
use Rattle.hdc_names.specs.declared.joining.Joining.{Joining}
use Rattle.hdc_names.specs.declared.joining.Pending.{Pending}
use Rattle.hdc_names.specs.declared.walk.Walk.{Walk}
use Rattle.hdc_written.specs.Written.{variables, all_variables, Expression, chain, Links, no_link, link, Operand, variable, constructor, literal, unit, nil, cons, in_parentheses, tuple, list, range, comprehension, left_section, right_section, applied, lambda, let_in, if_else, case_of, Operands, no_operand, operand, Expressions, no_expression, expression, Qualifier, generator, condition, let_qualifier, Qualifiers, no_qualifier, qualifier, Alternative, blank, alternative, Alternatives, no_alternative, next_alternative, RightSide, plain, guarded, Guards, no_guard, guard, Declaration, empty, signature, equation, binding, Declarations, no_declaration, declaration, all_bound}
use Rattle.hdc_written.specs.TypeMirror.{type_exp_of}
use Rattle.hdc_written.specs.Mirror.{head_patterns, rhs_of}
use Rattle.hdc_names.specs.Fixities.{Scope, locally}
use Rattle.hdc_names.specs.Chain.{read}
use Rattle.hdc_written.specs.Firsts.{first_of_var, first_of_op, first_of_pattern, first_of_operand, first_of_expression, operand_at, start_at, operator_before}
use Rattle.hdc_names.specs.Sites.{Site, node, chain_site, left_site, right_site, is_minus, sign_of, rest_in, pattern_nodes, each_pattern_nodes, type_nodes, applied_nodes, data_nodes, depth_at}
use Rattle.hdc_written.specs.Written.{count_links, count_operands, count_qualifiers}
use Rattle.hdc_names.specs.Trees.{nothing_found, found_with, all_found}

-- nothing was found yet
abbrev pub at_first : Scope → Walk
at_first scope = record { scope = scope; found = nothing_found }

-- a site is looked at
abbrev pub note : Site → Walk → Walk
note s w = record { scope = w.scope; found = found_with w.found s }

abbrev pub note_all : List Site → Walk → Walk
note_all ss w = record { scope = w.scope; found = all_found w.found ss }

-- names are bound
abbrev pub bind : List Name → Walk → Walk
bind xs w = record { scope = locally xs w.scope; found = w.found }

-- the last bindings go, until there are so many
abbrev pub left_at : ℕ → Walk → Walk
left_at size w = record { scope = drop (length w.scope - size) w.scope; found = w.found }

-- ---- the nodes of a chain: the steps that build its tree are gone through from the last to the first

abbrev pub turn_at : Expression → Step → Pending → Joining → Joining
turn_at e step.Operand p j = record { pending = j.pending; depths = p.depth ∷ j.depths; found = j.found }
turn_at e (step.Sign k) p j = record { pending = record { depth = suc p.depth; at = operand_at e k } ∷ j.pending; depths = j.depths; found = found_with j.found (node p.depth p.at) }
turn_at e (step.Operator k) p j = record { pending = record { depth = suc p.depth; at = start_at e k } ∷ (record { depth = suc p.depth; at = p.at } ∷ j.pending); depths = j.depths; found = found_with (found_with j.found (node p.depth p.at)) (node (suc p.depth) (operator_before e k)) }

abbrev pub turn_on : Expression → Step → List Pending → List ℕ → Found → Joining
turn_on e s [] ds f = record { pending = []; depths = ds; found = f }
turn_on e s (p ∷ ps) ds f = turn_at e s p (record { pending = ps; depths = ds; found = f })

abbrev pub turn : Expression → Step → Joining → Joining
turn e s j = turn_on e s j.pending j.depths j.found

abbrev pub turned : Expression → List Step → Joining → Joining
turned e [] j = j
turned e (s ∷ ss) j = turn e s (turned e ss j)

-- the depths of the operands, and what is found
abbrev pub started : ℕ → Expression → Found → Joining
started d e f = record { pending = record { depth = d; at = first_of_expression e } ∷ []; depths = []; found = f }

abbrev pub joining : Result (List Step) ℕ → ℕ → Expression → Found → Joining
joining (Ok steps) d e f = turned e steps (started d e f)
joining (Err k) d e f = record { pending = []; depths = d ∷ []; found = f }

abbrev pub chain_joined : ℕ → Expression → Walk → Joining
chain_joined d e w = joining (read (is_minus (sign_of e)) (rest_in w.scope e)) d e (found_with w.found (chain_site w.scope e))

abbrev pub joined_in : Walk → Joining → Walk
joined_in w j = record { scope = w.scope; found = j.found }

-- ---- the parts of a program

abbrev mutual
  pub walk_expression : ℕ → Expression → Walk → Walk
  walk_expression d (chain ls s a) w =
      walk_operand (depth_at (chain_joined d (chain ls s a) w).depths (count_links ls)) a (walk_links (chain_joined d (chain ls s a) w).depths 0 ls (joined_in w (chain_joined d (chain ls s a) w)))

  pub walk_links : List ℕ → ℕ → Links → Walk → Walk
  walk_links ds k no_link w = w
  walk_links ds k (link s a o ls) w = walk_links ds (suc k) ls (walk_operand (depth_at ds k) a w)

  pub walk_operand : ℕ → Operand → Walk → Walk
  walk_operand d (variable x) w = note (node d (first_of_var x)) w
  walk_operand d (constructor c) w = note (node d c.at) w
  walk_operand d (literal a l) w = note (node d a) w
  walk_operand d (unit a) w = note (node d a) w
  walk_operand d (nil a) w = note (node d a) w
  walk_operand d (cons a b) w = note (node d a) w
  walk_operand d (in_parentheses a e) w = walk_expression d e w
  walk_operand d (tuple a es) w = walk_expressions (suc d) es (note (node d a) w)
  walk_operand d (list a es) w = walk_expressions (suc d) es (note (node d a) w)
  walk_operand d (range a e f) w = walk_expression (suc d) f (walk_expression (suc d) e (note (node d a) w))
  walk_operand d (comprehension a e qs) w = left_at (length w.scope) (walk_expression (suc (count_qualifiers qs + d)) e (walk_qualifiers (suc d) qs (note (node d a) w)))
  walk_operand d (left_section a e o) w = note (node (suc d) (first_of_op o)) (walk_expression (suc d) e (note (left_site w.scope e o) (note (node d a) w)))
  walk_operand d (right_section a o e) w = walk_expression (suc d) e (note (node (suc d) (first_of_op o)) (note (right_site w.scope o e) (note (node d a) w)))
  walk_operand d (applied f as') w = walk_operands d as' (walk_operand (count_operands as' + d) f (note_all (applied_nodes d (first_of_operand f) as') w))
  walk_operand d (lambda a ps e) w = left_at (length w.scope) (walk_expression (suc d) e (bind (all_variables ps) (note_all (each_pattern_nodes 1 ps) (note (node d a) w))))
  walk_operand d (let_in a ds e) w = left_at (length w.scope) (walk_expression (suc d) e (walk_declarations ds (bind (all_bound ds) (note (node d a) w))))
  walk_operand d (if_else a e f g) w = walk_expression (suc d) g (walk_expression (suc d) f (walk_expression (suc d) e (note (node d a) w)))
  walk_operand d (case_of a e bs) w = walk_alternatives (suc d) bs (walk_expression (suc d) e (note (node d a) w))

  pub walk_operands : ℕ → Operands → Walk → Walk
  walk_operands d no_operand w = w
  walk_operands d (operand a as') w = walk_operands d as' (walk_operand (suc (count_operands as' + d)) a w)

  pub walk_expressions : ℕ → Expressions → Walk → Walk
  walk_expressions d no_expression w = w
  walk_expressions d (expression e es) w = walk_expressions d es (walk_expression d e w)

  pub walk_qualifier : ℕ → Qualifier → Walk → Walk
  walk_qualifier d (generator p e) w = bind (variables p) (walk_expression d e (note_all (pattern_nodes 1 p) (note (node d (first_of_pattern p)) w)))
  walk_qualifier d (condition e) w = walk_expression d e (note (node d (first_of_expression e)) w)
  walk_qualifier d (let_qualifier a ds) w = walk_declarations ds (bind (all_bound ds) (note (node d a) w))

  pub walk_qualifiers : ℕ → Qualifiers → Walk → Walk
  walk_qualifiers d no_qualifier w = w
  walk_qualifiers d (qualifier q qs) w = walk_qualifiers (suc d) qs (walk_qualifier d q w)

  pub walk_alternative : ℕ → Alternative → Walk → Walk
  walk_alternative d blank w = w
  walk_alternative d (alternative p r) w = left_at (length w.scope) (walk_right_side d r (bind (variables p) (note_all (pattern_nodes 1 p) w)))

  pub walk_alternatives : ℕ → Alternatives → Walk → Walk
  walk_alternatives d no_alternative w = w
  walk_alternatives d (next_alternative b bs) w = walk_alternatives d bs (walk_alternative d b w)

  -- what is bound behind where stays in scope
  pub walk_right_side : ℕ → RightSide → Walk → Walk
  walk_right_side d (plain e ds) w = walk_expression d e (walk_declarations ds (bind (all_bound ds) w))
  walk_right_side d (guarded a gs ds) w = walk_guards (suc d) gs (walk_declarations ds (bind (all_bound ds) (note (node d a) w)))

  pub walk_guards : ℕ → Guards → Walk → Walk
  walk_guards d no_guard w = w
  walk_guards d (guard e f gs) w = walk_guards d gs (walk_expression d f (walk_expression d e w))

  pub walk_declaration : Declaration → Walk → Walk
  walk_declaration empty w = w
  walk_declaration (signature xs t) w = note_all (type_nodes 1 t) w
  walk_declaration (equation at x ps r) w = left_at (length w.scope) (walk_right_side 1 r (bind (all_variables ps) (note_all (each_pattern_nodes 1 ps) w)))
  walk_declaration (binding p r) w = left_at (length w.scope) (walk_right_side 1 r (note_all (pattern_nodes 1 p) w))

  pub walk_declarations : Declarations → Walk → Walk
  walk_declarations no_declaration w = w
  walk_declarations (declaration d ds) w = walk_declarations ds (walk_declaration d w)

abbrev pub walk_top : Top → Walk → Walk
walk_top top.Empty w = w
walk_top (top.Data d) w = note_all (data_nodes d) w
walk_top (top.Synonym s) w = note_all (type_nodes 1 (type_exp_of s.meaning)) w
walk_top (top.Fixity f) w = w
walk_top (top.Signature x xs a t) w = note_all (type_nodes 1 (type_exp_of t)) w
walk_top (top.Equation h r) w = left_at (length w.scope) (walk_right_side 1 (rhs_of r) (bind (all_variables (head_patterns h)) (note_all (each_pattern_nodes 1 (head_patterns h)) w)))

abbrev pub walk_tops : List Top → Walk → Walk
walk_tops [] w = w
walk_tops (t ∷ ts) w = walk_tops ts (walk_top t w)
