-- What the trees of a program are made of: its chains and sections, and the nodes of their trees with their depths.
use Rattle.std.specs.Prelude.{ℕ, suc, ◌+◌, Bool, true, false, List, [], ◌∷◌, ◌++◌, length, slice_get, Option, Some, None}
use Rattle.hdc_base.specs.declared.place.At.{At}
use Rattle.hdc_tree.specs.declared.name.Op.{Op}
use Rattle.hdc_tree.specs.declared.name.Op.TheVariants as op
use Rattle.hdc_tree.specs.declared.name.Sign.{Sign}
use Rattle.hdc_tree.specs.declared.name.Sign.TheVariants as sign
use Rattle.hdc_tree.specs.declared.type_tree.Atype.{Atype}
use Rattle.hdc_tree.specs.declared.program.BarConstr.{BarConstr}
use Rattle.hdc_tree.specs.declared.program.Data.{Data}
use Rattle.hdc_tree.specs.declared.program.Top.{Top}
use Rattle.hdc_tree.specs.declared.program.Top.TheVariants as top
use Rattle.hdc_names.specs.declared.chain.NextOperand.{NextOperand}
use Rattle.hdc_names.specs.OperatorTrees.{leaf, binary, negated}
use Rattle.hdc_names.specs.Chain.{Tree}
use Rattle.hdc_written.specs.WrittenTypes.{WrittenType, type_constructor, type_variable, unit_type, type_in_parentheses, tuple_type, list_type, arrow_type, Types, no_type, next_type}
use Rattle.hdc_written.specs.TypeMirror.{atype_of, type_exp_of}
use Rattle.hdc_written.specs.Written.{Pattern, named, named_as, anything, built, literal_pattern, negative_pattern, unit_pattern, nil_pattern, pattern_in_parentheses, tuple_pattern, list_pattern, cons_pattern, Patterns, no_pattern, pattern}
use Rattle.hdc_written.specs.Written.{count_links, count_operands, count_qualifiers}
use Rattle.hdc_written.specs.Written.{variables, all_variables, Expression, chain, Links, no_link, link, Operand, variable, constructor, literal, unit, nil, cons, in_parentheses, tuple, list, range, comprehension, left_section, right_section, applied, lambda, let_in, if_else, case_of, Operands, no_operand, operand, Expressions, no_expression, expression, Qualifier, generator, condition, let_qualifier, Qualifiers, no_qualifier, qualifier, Alternative, blank, alternative, Alternatives, no_alternative, next_alternative, RightSide, plain, guarded, Guards, no_guard, guard, Declaration, empty, signature, equation, binding, Declarations, no_declaration, declaration, all_bound}
use Rattle.hdc_written.specs.Mirror.{op_name, head_patterns, rhs_of}
use Rattle.hdc_written.specs.Firsts.{first_of_pattern, first_of_type, first_of_op, first_of_operand, first_of_expression, first_of_var, operand_at, start_at, operator_before}
use Rattle.hdc_names.specs.Fixities.{Scope, fixity_in, locally, standard, program_scope}

-- a chain, which has to have a tree; one whose tree has to have the operator before the operand of this number at its root,
-- which stands at this place;
-- a node of a tree, with its depth and the place of its first token
pub data Site : Type 0 where
  whole : Bool → List NextOperand → Site
  rooted : Bool → List NextOperand → ℕ → At → Site
  node : ℕ → At → Site

-- ---- the chain of an expression

abbrev pub is_minus : Sign → Bool
is_minus sign.Absent = false
is_minus (sign.Minus a) = true

abbrev pub place_of_op : Op → At
place_of_op (op.Var x) = (op_name x).at
place_of_op (op.Cons a) = a
place_of_op (op.Con a c b) = c.at

-- the place of the last operator up to an operand: its sign, or the operator before it
abbrev pub last_place : Op → Sign → At
last_place o sign.Absent = place_of_op o
last_place o (sign.Minus a) = a

-- an operator, and the sign of the operand behind it
abbrev pub next_of : Scope → Op → Sign → NextOperand
next_of scope o s = record { fixity = fixity_in scope o; signed = is_minus s; at = last_place o s }

-- the sign of the first operand
abbrev pub first_sign : Links → Sign → Sign
first_sign no_link last = last
first_sign (link s a o ls) last = s

-- the operators and the operands behind them
abbrev pub rest_of : Scope → Links → Sign → List NextOperand
rest_of scope no_link last = []
rest_of scope (link s a o ls) last = next_of scope o (first_sign ls last) ∷ rest_of scope ls last

abbrev pub sign_of : Expression → Sign
sign_of (chain ls s a) = first_sign ls s

abbrev pub rest_in : Scope → Expression → List NextOperand
rest_in scope (chain ls s a) = rest_of scope ls s

abbrev pub chain_site : Scope → Expression → Site
chain_site scope e = whole (is_minus (sign_of e)) (rest_in scope e)

-- a section is the chain in it with one operand more, and its operator at the root
abbrev pub left_site : Scope → Expression → Op → Site
left_site scope e o = rooted (is_minus (sign_of e)) (rest_in scope e ++ (next_of scope o sign.Absent ∷ [])) (suc (length (rest_in scope e))) (place_of_op o)

abbrev pub right_site : Scope → Op → Expression → Site
right_site scope o e = rooted false (next_of scope o (sign_of e) ∷ rest_in scope e) 1 (place_of_op o)

-- ---- the nodes of patterns and types, whose roots have this depth

-- whether another one follows
abbrev pub follow : Patterns → Bool
follow no_pattern = false
follow (pattern p ps) = true

abbrev pub types_follow : Types → Bool
types_follow no_type = false
types_follow (next_type t ts) = true

-- what is joined with one that follows stands below a node that begins with it
abbrev pub joined : ℕ → At → Bool → List Site
joined d at true = node d at ∷ []
joined d at false = []

abbrev pub below : ℕ → Bool → ℕ
below d true = suc d
below d false = d

abbrev mutual
  pub pattern_nodes : ℕ → Pattern → List Site
  pattern_nodes d (named x) = node d x.at ∷ []
  pattern_nodes d (named_as x p) = node d x.at ∷ pattern_nodes (suc d) p
  pattern_nodes d (anything a) = node d a ∷ []
  pattern_nodes d (built c ps) = node d c.at ∷ each_pattern_nodes (suc d) ps
  pattern_nodes d (literal_pattern a l) = node d a ∷ []
  pattern_nodes d (negative_pattern a b n) = node d a ∷ []
  pattern_nodes d (unit_pattern a) = node d a ∷ []
  pattern_nodes d (nil_pattern a) = node d a ∷ []
  pattern_nodes d (pattern_in_parentheses a p) = pattern_nodes d p
  pattern_nodes d (tuple_pattern a ps) = node d a ∷ each_pattern_nodes (suc d) ps
  pattern_nodes d (list_pattern a ps) = node d a ∷ each_pattern_nodes (suc d) ps
  pattern_nodes d (cons_pattern p colons ps) = joined d (first_of_pattern p) (follow ps) ++ (pattern_nodes (below d (follow ps)) p ++ cons_nodes (suc d) ps)

  pub each_pattern_nodes : ℕ → Patterns → List Site
  each_pattern_nodes d no_pattern = []
  each_pattern_nodes d (pattern p ps) = pattern_nodes d p ++ each_pattern_nodes d ps

  -- those behind : in turn, the last of which is joined with none
  pub cons_nodes : ℕ → Patterns → List Site
  cons_nodes d no_pattern = []
  cons_nodes d (pattern p ps) = joined d (first_of_pattern p) (follow ps) ++ (pattern_nodes (below d (follow ps)) p ++ cons_nodes (suc d) ps)

abbrev mutual
  pub type_nodes : ℕ → WrittenType → List Site
  type_nodes d (type_constructor c ts) = node d c.at ∷ each_type_nodes (suc d) ts
  type_nodes d (type_variable x) = node d x.at ∷ []
  type_nodes d (unit_type a) = node d a ∷ []
  type_nodes d (type_in_parentheses a t) = type_nodes d t
  type_nodes d (tuple_type a ts) = node d a ∷ each_type_nodes (suc d) ts
  type_nodes d (list_type a t) = node d a ∷ type_nodes (suc d) t
  type_nodes d (arrow_type t ts) = joined d (first_of_type t) (types_follow ts) ++ (type_nodes (below d (types_follow ts)) t ++ arrow_nodes (suc d) ts)

  pub each_type_nodes : ℕ → Types → List Site
  each_type_nodes d no_type = []
  each_type_nodes d (next_type t ts) = type_nodes d t ++ each_type_nodes d ts

  -- those behind arrows in turn
  pub arrow_nodes : ℕ → Types → List Site
  arrow_nodes d no_type = []
  arrow_nodes d (next_type t ts) = joined d (first_of_type t) (types_follow ts) ++ (type_nodes (below d (types_follow ts)) t ++ arrow_nodes (suc d) ts)

-- ---- the nodes that join the operands of a chain with this tree

-- the depths of the operands
abbrev pub operand_depths : ℕ → Tree → List ℕ
operand_depths d (leaf k) = d ∷ []
operand_depths d (binary l o r) = operand_depths (suc d) l ++ operand_depths (suc d) r
operand_depths d (negated k e) = operand_depths (suc d) e

abbrev pub or_zero : Option ℕ → ℕ
or_zero None = 0
or_zero (Some d) = d

abbrev pub depth_at : List ℕ → ℕ → ℕ
depth_at ds k = or_zero (slice_get ds k)

-- what operators join, each operator's own name, and what signs stand before, where the tree begins at this place
abbrev pub joining_nodes : Expression → At → ℕ → Tree → List Site
joining_nodes e at d (leaf k) = []
joining_nodes e at d (binary l o r) = node d at ∷ (node (suc d) (operator_before e o.number) ∷ (joining_nodes e (start_at e o.number) (suc d) r ++ joining_nodes e at (suc d) l))
joining_nodes e at d (negated k b) = node d at ∷ joining_nodes e (operand_at e k) (suc d) b

-- a function with its arguments, and with all but the last ones, down to the first alone
abbrev pub applied_nodes : ℕ → At → Operands → List Site
applied_nodes d at no_operand = []
applied_nodes d at (operand a as') = node d at ∷ applied_nodes (suc d) at as'

-- ---- all that stand in a program

-- what is in scope behind qualifiers
abbrev pub behind : Scope → Qualifier → Scope
behind scope (generator p e) = locally (variables p) scope
behind scope (condition e) = scope
behind scope (let_qualifier a ds) = locally (all_bound ds) scope

abbrev pub all_behind : Scope → Qualifiers → Scope
all_behind scope no_qualifier = scope
all_behind scope (qualifier q qs) = all_behind (behind scope q) qs

-- the fields of a data type
abbrev pub field_nodes : List Atype → List Site
field_nodes [] = []
field_nodes (t ∷ ts) = type_nodes 1 (atype_of t) ++ field_nodes ts

abbrev pub constructor_nodes : List BarConstr → List Site
constructor_nodes [] = []
constructor_nodes (c ∷ cs) = field_nodes c.constr.fields ++ constructor_nodes cs

abbrev pub data_nodes : Data → List Site
data_nodes d = field_nodes d.first.fields ++ constructor_nodes d.rest

-- the chain of an expression is looked up among the trees of chains
module _ (trees : Bool → List NextOperand → Tree) where
  abbrev pub tree_in : Scope → Expression → Tree
  tree_in scope e = trees (is_minus (sign_of e)) (rest_in scope e)

  -- right sides of bindings, patterns and types begin at depth 1; the head of a comprehension is in the scope of its qualifiers,
  -- and below them
  abbrev mutual
    pub in_expression : Scope → ℕ → Expression → List Site
    in_expression scope d (chain ls s a) =
        chain_site scope (chain ls s a)
        ∷ (joining_nodes (chain ls s a) (first_of_expression (chain ls s a)) d (tree_in scope (chain ls s a))
        ++ (in_links scope (operand_depths d (tree_in scope (chain ls s a))) 0 ls ++ in_operand scope (depth_at (operand_depths d (tree_in scope (chain ls s a))) (count_links ls)) a))

    -- the operands from this number on
    pub in_links : Scope → List ℕ → ℕ → Links → List Site
    in_links scope ds k no_link = []
    in_links scope ds k (link s a o ls) = in_operand scope (depth_at ds k) a ++ in_links scope ds (suc k) ls

    pub in_operand : Scope → ℕ → Operand → List Site
    in_operand scope d (variable x) = node d (first_of_var x) ∷ []
    in_operand scope d (constructor c) = node d c.at ∷ []
    in_operand scope d (literal a l) = node d a ∷ []
    in_operand scope d (unit a) = node d a ∷ []
    in_operand scope d (nil a) = node d a ∷ []
    in_operand scope d (cons a b) = node d a ∷ []
    in_operand scope d (in_parentheses a e) = in_expression scope d e
    in_operand scope d (tuple a es) = node d a ∷ in_expressions scope (suc d) es
    in_operand scope d (list a es) = node d a ∷ in_expressions scope (suc d) es
    in_operand scope d (range a e f) = node d a ∷ (in_expression scope (suc d) e ++ in_expression scope (suc d) f)
    in_operand scope d (comprehension a e qs) = node d a ∷ (in_qualifiers scope (suc d) qs ++ in_expression (all_behind scope qs) (suc (count_qualifiers qs + d)) e)
    in_operand scope d (left_section a e o) = node d a ∷ (left_site scope e o ∷ (in_expression scope (suc d) e ++ (node (suc d) (first_of_op o) ∷ [])))
    in_operand scope d (right_section a o e) = node d a ∷ (right_site scope o e ∷ (node (suc d) (first_of_op o) ∷ in_expression scope (suc d) e))
    in_operand scope d (applied f as') = applied_nodes d (first_of_operand f) as' ++ (in_operand scope (count_operands as' + d) f ++ in_operands scope d as')
    in_operand scope d (lambda a ps e) = node d a ∷ (each_pattern_nodes 1 ps ++ in_expression (locally (all_variables ps) scope) (suc d) e)
    in_operand scope d (let_in a ds e) = node d a ∷ (in_declarations (locally (all_bound ds) scope) ds ++ in_expression (locally (all_bound ds) scope) (suc d) e)
    in_operand scope d (if_else a e f g) = node d a ∷ (in_expression scope (suc d) e ++ (in_expression scope (suc d) f ++ in_expression scope (suc d) g))
    in_operand scope d (case_of a e bs) = node d a ∷ (in_expression scope (suc d) e ++ in_alternatives scope (suc d) bs)

    -- arguments of an application at this depth, each below the application to it and those before it
    pub in_operands : Scope → ℕ → Operands → List Site
    in_operands scope d no_operand = []
    in_operands scope d (operand a as') = in_operand scope (suc (count_operands as' + d)) a ++ in_operands scope d as'

    pub in_expressions : Scope → ℕ → Expressions → List Site
    in_expressions scope d no_expression = []
    in_expressions scope d (expression e es) = in_expression scope d e ++ in_expressions scope d es

    -- a qualifier counts as a node, and its expression has its depth
    pub in_qualifier : Scope → ℕ → Qualifier → List Site
    in_qualifier scope d (generator p e) = node d (first_of_pattern p) ∷ (pattern_nodes 1 p ++ in_expression scope d e)
    in_qualifier scope d (condition e) = node d (first_of_expression e) ∷ in_expression scope d e
    in_qualifier scope d (let_qualifier a ds) = node d a ∷ in_declarations (locally (all_bound ds) scope) ds

    -- each one deeper than the one before
    pub in_qualifiers : Scope → ℕ → Qualifiers → List Site
    in_qualifiers scope d no_qualifier = []
    in_qualifiers scope d (qualifier q qs) = in_qualifier scope d q ++ in_qualifiers (behind scope q) (suc d) qs

    pub in_alternative : Scope → ℕ → Alternative → List Site
    in_alternative scope d blank = []
    in_alternative scope d (alternative p r) = pattern_nodes 1 p ++ in_right_side (locally (variables p) scope) d r

    pub in_alternatives : Scope → ℕ → Alternatives → List Site
    in_alternatives scope d no_alternative = []
    in_alternatives scope d (next_alternative b bs) = in_alternative scope d b ++ in_alternatives scope d bs

    pub in_right_side : Scope → ℕ → RightSide → List Site
    in_right_side scope d (plain e ds) = in_declarations (locally (all_bound ds) scope) ds ++ in_expression (locally (all_bound ds) scope) d e
    in_right_side scope d (guarded a gs ds) = node d a ∷ (in_declarations (locally (all_bound ds) scope) ds ++ in_guards (locally (all_bound ds) scope) (suc d) gs)

    pub in_guards : Scope → ℕ → Guards → List Site
    in_guards scope d no_guard = []
    in_guards scope d (guard e f gs) = in_expression scope d e ++ (in_expression scope d f ++ in_guards scope d gs)

    pub in_declaration : Scope → Declaration → List Site
    in_declaration scope empty = []
    in_declaration scope (signature xs t) = type_nodes 1 t
    in_declaration scope (equation at x ps r) = each_pattern_nodes 1 ps ++ in_right_side (locally (all_variables ps) scope) 1 r
    in_declaration scope (binding p r) = pattern_nodes 1 p ++ in_right_side scope 1 r

    pub in_declarations : Scope → Declarations → List Site
    in_declarations scope no_declaration = []
    in_declarations scope (declaration d ds) = in_declaration scope d ++ in_declarations scope ds

  abbrev pub in_top : Scope → Top → List Site
  in_top scope top.Empty = []
  in_top scope (top.Data d) = data_nodes d
  in_top scope (top.Synonym s) = type_nodes 1 (type_exp_of s.meaning)
  in_top scope (top.Fixity f) = []
  in_top scope (top.Signature x xs a t) = type_nodes 1 (type_exp_of t)
  in_top scope (top.Equation h r) = each_pattern_nodes 1 (head_patterns h) ++ in_right_side (locally (all_variables (head_patterns h)) scope) 1 (rhs_of r)

  abbrev pub in_tops : Scope → List Top → List Site
  in_tops scope [] = []
  in_tops scope (t ∷ ts) = in_top scope t ++ in_tops scope ts

  -- those of the prelude, whose operators bind as the table says, and those of a program
  abbrev pub prelude_sites : List Top → List Site
  prelude_sites ts = in_tops standard ts

  abbrev pub program_sites : List Top → List Site
  program_sites ts = in_tops (program_scope ts) ts
