-- The walk over a program looks at its sites, in scope.
use Rattle.std.proofs.Common.{◌≡◌, ℕ, suc, ◌+◌, List, [], ◌∷◌, ◌++◌, length, refl, sym, ap, ◌∙◌}
use Rattle.hdc_tree.specs.declared.name.Name.{Name}
use Rattle.hdc_tree.specs.declared.program.Top.{Top}
use Rattle.hdc_tree.specs.declared.program.Top.TheVariants as top
use Rattle.hdc_names.specs.declared.found.Found.{Found}
use Rattle.hdc_names.specs.declared.joining.Joining.{Joining}
use Rattle.hdc_names.specs.declared.walk.Walk.{Walk}
use Rattle.hdc_written.specs.Written.{variables, all_variables, Expression, chain, Links, no_link, link, Operand, variable, constructor, literal, unit, nil, cons, in_parentheses, tuple, list, range, comprehension, left_section, right_section, applied, lambda, let_in, if_else, case_of, Operands, no_operand, operand, Expressions, no_expression, expression, Qualifier, generator, condition, let_qualifier, Qualifiers, no_qualifier, qualifier, Alternative, blank, alternative, Alternatives, no_alternative, next_alternative, RightSide, plain, guarded, Guards, no_guard, guard, Declaration, empty, signature, equation, binding, Declarations, no_declaration, declaration, all_bound}
use Rattle.hdc_written.specs.Mirror.{head_patterns, rhs_of}
use Rattle.hdc_names.specs.Fixities.{Scope, undeclared, locally}
use Rattle.hdc_written.specs.Firsts.{first_of_op, first_of_pattern, first_of_operand, first_of_expression}
use Rattle.hdc_names.specs.Sites.{Site, node, chain_site, left_site, right_site, is_minus, sign_of, rest_in, pattern_nodes, each_pattern_nodes, applied_nodes, joining_nodes, operand_depths, depth_at, behind, all_behind, tree_in, in_expression, in_links, in_operand, in_operands, in_expressions, in_qualifier, in_qualifiers, in_alternative, in_alternatives, in_right_side, in_guards, in_declaration, in_declarations, in_top, in_tops}
use Rattle.hdc_written.specs.Written.{count_links, count_operands, count_qualifiers}
use Rattle.hdc_names.specs.Trees.{found_with, all_found, nothing_found}
use Rattle.hdc_names.specs.Walk.{at_first, note, note_all, bind, chain_joined, joined_in, left_at, walk_expression, walk_links, walk_operand, walk_operands, walk_expressions, walk_qualifier, walk_qualifiers, walk_alternative, walk_alternatives, walk_right_side, walk_guards, walk_declaration, walk_declarations, walk_top, walk_tops}
use Rattle.hdc_written.proofs.Scoping.{bound_joined, left_bound}
use Rattle.hdc_names.proofs.Noting.{found_joined}
use Rattle.hdc_names.proofs.ChainNodes.{the_tree, chain_met}

-- sites are looked at in a scope
abbrev within : Scope → Walk → List Site → Walk
within scope w ss = record { scope = scope; found = all_found w.found ss }

abbrev walked : Walk → List Site → Walk
walked w ss = within w.scope w ss

-- one list behind another
within_joined : (scope : Scope) (w : Walk) (ss ts : List Site) → record { scope = scope; found = all_found (all_found w.found ss) ts } ≡ within scope w (ss ++ ts)
within_joined scope w ss ts = ap (λ (found : Found). record { scope = scope; found = found }) (sym (found_joined w.found ss ts))

and_then : (w first : Walk) (ss : List Site) (next : Walk → Walk) (ts : Scope → List Site) → first ≡ walked w ss → ((v : Walk) → next v ≡ walked v (ts v.scope)) → next first ≡ walked w (ss ++ ts w.scope)
and_then w first ss next ts e f =
    ap next e ∙ f (walked w ss) ∙ within_joined w.scope w ss (ts w.scope)

left : (w : Walk) (xs : List Name) (inner : Walk) (ss : List Site) → inner ≡ walked (bind xs w) ss → left_at (length w.scope) inner ≡ walked w ss
left w xs inner ss e =
    ap (left_at (length w.scope)) e ∙ ap (λ scope. within scope w ss) (left_bound undeclared xs w.scope)

-- nodes are noted first
left_behind : (w : Walk) (ns : List Site) (xs : List Name) (inner : Walk) (ss : List Site) → inner ≡ walked (bind xs (note_all ns w)) ss → left_at (length w.scope) inner ≡ walked w (ns ++ ss)
left_behind w ns xs inner ss e = left (note_all ns w) xs inner ss e ∙ within_joined w.scope w ns ss

left_twice : (w : Walk) (ns : List Site) (xs ys : List Name) (inner : Walk) (ss : List Site) → inner ≡ walked (bind ys (bind xs (note_all ns w))) ss → left_at (length w.scope) inner ≡ walked w (ns ++ ss)
left_twice w ns xs ys inner ss e =
    left_behind w ns (xs ++ ys) inner ss (e ∙ ap (λ scope. within scope (note_all ns w) ss) (sym (bound_joined undeclared xs ys w.scope)))

-- what qualifiers bind
abbrev named_by : Qualifier → List Name
named_by (generator p e) = variables p
named_by (condition e) = []
named_by (let_qualifier a ds) = all_bound ds

abbrev all_named : Qualifiers → List Name
all_named no_qualifier = []
all_named (qualifier q qs) = named_by q ++ all_named qs

behind_is : (scope : Scope) (q : Qualifier) → behind scope q ≡ locally (named_by q) scope
behind_is scope (generator p e) = refl
behind_is scope (condition e) = refl
behind_is scope (let_qualifier a ds) = refl

all_behind_is : (qs : Qualifiers) (scope : Scope) → all_behind scope qs ≡ locally (all_named qs) scope
all_behind_is no_qualifier scope = refl
all_behind_is (qualifier q qs) scope =
    all_behind_is qs (behind scope q) ∙ ap (locally (all_named qs)) (behind_is scope q) ∙ sym (bound_joined undeclared (named_by q) (all_named qs) scope)

-- what is bound behind where
abbrev local_to : RightSide → List Name
local_to (plain e ds) = all_bound ds
local_to (guarded a gs ds) = all_bound ds

-- the chain of an expression
chain_walked : (d : ℕ) (e : Expression) (w : Walk) → chain_joined d e w ≡ record { pending = []; depths = operand_depths d (tree_in the_tree w.scope e); found = all_found w.found (chain_site w.scope e ∷ joining_nodes e (first_of_expression e) d (tree_in the_tree w.scope e)) }
chain_walked d e w = chain_met (is_minus (sign_of e)) (rest_in w.scope e) d e (found_with w.found (chain_site w.scope e))

mutual
  walked_expression : (e : Expression) (d : ℕ) (w : Walk) → walk_expression d e w ≡ walked w (in_expression the_tree w.scope d e)
  walked_expression (chain ls s a) d w =
      let e = chain ls s a in
      let ds = operand_depths d (tree_in the_tree w.scope e) in
      let ns = chain_site w.scope e ∷ joining_nodes e (first_of_expression e) d (tree_in the_tree w.scope e) in
      let next : Joining → Walk = λ j. walk_operand (depth_at j.depths (count_links ls)) a (walk_links j.depths 0 ls (joined_in w j)) in
      ap next (chain_walked d e w)
      ∙ and_then (note_all ns w) (walk_links ds 0 ls (note_all ns w)) (in_links the_tree w.scope ds 0 ls) (walk_operand (depth_at ds (count_links ls)) a) (λ scope. in_operand the_tree scope (depth_at ds (count_links ls)) a) (walked_links ls ds 0 (note_all ns w)) (walked_operand a (depth_at ds (count_links ls)))
      ∙ within_joined w.scope w ns (in_links the_tree w.scope ds 0 ls ++ in_operand the_tree w.scope (depth_at ds (count_links ls)) a)

  walked_links : (ls : Links) (ds : List ℕ) (k : ℕ) (w : Walk) → walk_links ds k ls w ≡ walked w (in_links the_tree w.scope ds k ls)
  walked_links no_link ds k w = refl
  walked_links (link s a o ls) ds k w = and_then w (walk_operand (depth_at ds k) a w) (in_operand the_tree w.scope (depth_at ds k) a) (walk_links ds (suc k) ls) (λ scope. in_links the_tree scope ds (suc k) ls) (walked_operand a (depth_at ds k) w) (walked_links ls ds (suc k))

  walked_operand : (a : Operand) (d : ℕ) (w : Walk) → walk_operand d a w ≡ walked w (in_operand the_tree w.scope d a)
  walked_operand (variable x) d w = refl
  walked_operand (constructor c) d w = refl
  walked_operand (literal a l) d w = refl
  walked_operand (unit a) d w = refl
  walked_operand (nil a) d w = refl
  walked_operand (cons a b) d w = refl
  walked_operand (in_parentheses a e) d w = walked_expression e d w
  walked_operand (tuple a es) d w = walked_expressions es (suc d) (note (node d a) w)
  walked_operand (list a es) d w = walked_expressions es (suc d) (note (node d a) w)
  walked_operand (range a e f) d w =
      let v = note (node d a) w in
      and_then v (walk_expression (suc d) e v) (in_expression the_tree w.scope (suc d) e) (walk_expression (suc d) f) (λ scope. in_expression the_tree scope (suc d) f) (walked_expression e (suc d) v) (walked_expression f (suc d))
  walked_operand (comprehension a e qs) d w =
      let v = note (node d a) w in
      let deep = suc (count_qualifiers qs + d) in
      let ss = in_qualifiers the_tree w.scope (suc d) qs in
      let ts = in_expression the_tree (all_behind w.scope qs) deep e in
      let inner = ap (walk_expression deep e) (walked_qualifiers qs (suc d) v) ∙ walked_expression e deep (within (all_behind w.scope qs) v ss) ∙ within_joined (all_behind w.scope qs) v ss ts in
      left v (all_named qs) (walk_expression deep e (walk_qualifiers (suc d) qs v)) (ss ++ ts) (inner ∙ ap (λ scope. within scope v (ss ++ ts)) (all_behind_is qs w.scope))
  walked_operand (left_section a e o) d w =
      let v = note (left_site w.scope e o) (note (node d a) w) in
      and_then v (walk_expression (suc d) e v) (in_expression the_tree w.scope (suc d) e) (note (node (suc d) (first_of_op o))) (λ scope. node (suc d) (first_of_op o) ∷ []) (walked_expression e (suc d) v) (λ u. refl)
  walked_operand (right_section a o e) d w = walked_expression e (suc d) (note (node (suc d) (first_of_op o)) (note (right_site w.scope o e) (note (node d a) w)))
  walked_operand (applied f as') d w =
      let ns = applied_nodes d (first_of_operand f) as' in
      let v = note_all ns w in
      let deep = count_operands as' + d in
      and_then v (walk_operand deep f v) (in_operand the_tree w.scope deep f) (walk_operands d as') (λ scope. in_operands the_tree scope d as') (walked_operand f deep v) (walked_operands as' d)
      ∙ within_joined w.scope w ns (in_operand the_tree w.scope deep f ++ in_operands the_tree w.scope d as')
  walked_operand (lambda a ps e) d w =
      let v = note (node d a) w in
      left_behind v (each_pattern_nodes 1 ps) (all_variables ps) (walk_expression (suc d) e (bind (all_variables ps) (note_all (each_pattern_nodes 1 ps) v))) (in_expression the_tree (locally (all_variables ps) w.scope) (suc d) e) (walked_expression e (suc d) (bind (all_variables ps) (note_all (each_pattern_nodes 1 ps) v)))
  walked_operand (let_in a ds e) d w =
      let v = note (node d a) w in
      let b = bind (all_bound ds) v in
      left v (all_bound ds) (walk_expression (suc d) e (walk_declarations ds b)) (in_declarations the_tree b.scope ds ++ in_expression the_tree b.scope (suc d) e)
      (and_then b (walk_declarations ds b) (in_declarations the_tree b.scope ds) (walk_expression (suc d) e) (λ scope. in_expression the_tree scope (suc d) e) (walked_declarations ds b) (walked_expression e (suc d)))
  walked_operand (if_else a e f g) d w =
      let v = note (node d a) w in
      and_then v (walk_expression (suc d) e v) (in_expression the_tree w.scope (suc d) e) (λ u. walk_expression (suc d) g (walk_expression (suc d) f u)) (λ scope. in_expression the_tree scope (suc d) f ++ in_expression the_tree scope (suc d) g) (walked_expression e (suc d) v)
      (λ u. and_then u (walk_expression (suc d) f u) (in_expression the_tree u.scope (suc d) f) (walk_expression (suc d) g) (λ scope. in_expression the_tree scope (suc d) g) (walked_expression f (suc d) u) (walked_expression g (suc d)))
  walked_operand (case_of a e bs) d w =
      let v = note (node d a) w in
      and_then v (walk_expression (suc d) e v) (in_expression the_tree w.scope (suc d) e) (walk_alternatives (suc d) bs) (λ scope. in_alternatives the_tree scope (suc d) bs) (walked_expression e (suc d) v) (walked_alternatives bs (suc d))

  walked_operands : (as' : Operands) (d : ℕ) (w : Walk) → walk_operands d as' w ≡ walked w (in_operands the_tree w.scope d as')
  walked_operands no_operand d w = refl
  walked_operands (operand a as') d w = and_then w (walk_operand (suc (count_operands as' + d)) a w) (in_operand the_tree w.scope (suc (count_operands as' + d)) a) (walk_operands d as') (λ scope. in_operands the_tree scope d as') (walked_operand a (suc (count_operands as' + d)) w) (walked_operands as' d)

  walked_expressions : (es : Expressions) (d : ℕ) (w : Walk) → walk_expressions d es w ≡ walked w (in_expressions the_tree w.scope d es)
  walked_expressions no_expression d w = refl
  walked_expressions (expression e es) d w = and_then w (walk_expression d e w) (in_expression the_tree w.scope d e) (walk_expressions d es) (λ scope. in_expressions the_tree scope d es) (walked_expression e d w) (walked_expressions es d)

  walked_qualifier : (q : Qualifier) (d : ℕ) (w : Walk) → walk_qualifier d q w ≡ within (behind w.scope q) w (in_qualifier the_tree w.scope d q)
  walked_qualifier (generator p e) d w =
      let v = note (node d (first_of_pattern p)) w in
      ap (bind (variables p)) (walked_expression e d (note_all (pattern_nodes 1 p) v) ∙ within_joined w.scope v (pattern_nodes 1 p) (in_expression the_tree w.scope d e))
  walked_qualifier (condition e) d w = walked_expression e d (note (node d (first_of_expression e)) w)
  walked_qualifier (let_qualifier a ds) d w = walked_declarations ds (bind (all_bound ds) (note (node d a) w))

  walked_qualifiers : (qs : Qualifiers) (d : ℕ) (w : Walk) → walk_qualifiers d qs w ≡ within (all_behind w.scope qs) w (in_qualifiers the_tree w.scope d qs)
  walked_qualifiers no_qualifier d w = refl
  walked_qualifiers (qualifier q qs) d w =
      ap (walk_qualifiers (suc d) qs) (walked_qualifier q d w) ∙ walked_qualifiers qs (suc d) (within (behind w.scope q) w (in_qualifier the_tree w.scope d q))
      ∙ within_joined (all_behind (behind w.scope q) qs) w (in_qualifier the_tree w.scope d q) (in_qualifiers the_tree (behind w.scope q) (suc d) qs)

  walked_alternative : (b : Alternative) (d : ℕ) (w : Walk) → walk_alternative d b w ≡ walked w (in_alternative the_tree w.scope d b)
  walked_alternative blank d w = refl
  walked_alternative (alternative p r) d w =
      let b = bind (variables p) (note_all (pattern_nodes 1 p) w) in
      left_twice w (pattern_nodes 1 p) (variables p) (local_to r) (walk_right_side d r b) (in_right_side the_tree b.scope d r) (walked_right_side r d b)

  walked_alternatives : (bs : Alternatives) (d : ℕ) (w : Walk) → walk_alternatives d bs w ≡ walked w (in_alternatives the_tree w.scope d bs)
  walked_alternatives no_alternative d w = refl
  walked_alternatives (next_alternative b bs) d w = and_then w (walk_alternative d b w) (in_alternative the_tree w.scope d b) (walk_alternatives d bs) (λ scope. in_alternatives the_tree scope d bs) (walked_alternative b d w) (walked_alternatives bs d)

  walked_right_side : (r : RightSide) (d : ℕ) (w : Walk) → walk_right_side d r w ≡ walked (bind (local_to r) w) (in_right_side the_tree w.scope d r)
  walked_right_side (plain e ds) d w =
      let b = bind (all_bound ds) w in
      and_then b (walk_declarations ds b) (in_declarations the_tree b.scope ds) (walk_expression d e) (λ scope. in_expression the_tree scope d e) (walked_declarations ds b) (walked_expression e d)
  walked_right_side (guarded a gs ds) d w =
      let b = bind (all_bound ds) (note (node d a) w) in
      and_then b (walk_declarations ds b) (in_declarations the_tree b.scope ds) (walk_guards (suc d) gs) (λ scope. in_guards the_tree scope (suc d) gs) (walked_declarations ds b) (walked_guards gs (suc d))

  walked_guards : (gs : Guards) (d : ℕ) (w : Walk) → walk_guards d gs w ≡ walked w (in_guards the_tree w.scope d gs)
  walked_guards no_guard d w = refl
  walked_guards (guard e f gs) d w =
      and_then w (walk_expression d e w) (in_expression the_tree w.scope d e) (λ v. walk_guards d gs (walk_expression d f v)) (λ scope. in_expression the_tree scope d f ++ in_guards the_tree scope d gs) (walked_expression e d w)
      (λ v. and_then v (walk_expression d f v) (in_expression the_tree v.scope d f) (walk_guards d gs) (λ scope. in_guards the_tree scope d gs) (walked_expression f d v) (walked_guards gs d))

  walked_declaration : (d : Declaration) (w : Walk) → walk_declaration d w ≡ walked w (in_declaration the_tree w.scope d)
  walked_declaration empty w = refl
  walked_declaration (signature xs t) w = refl
  walked_declaration (equation at x ps r) w =
      let b = bind (all_variables ps) (note_all (each_pattern_nodes 1 ps) w) in
      left_twice w (each_pattern_nodes 1 ps) (all_variables ps) (local_to r) (walk_right_side 1 r b) (in_right_side the_tree b.scope 1 r) (walked_right_side r 1 b)
  walked_declaration (binding p r) w =
      left_behind w (pattern_nodes 1 p) (local_to r) (walk_right_side 1 r (note_all (pattern_nodes 1 p) w)) (in_right_side the_tree w.scope 1 r) (walked_right_side r 1 (note_all (pattern_nodes 1 p) w))

  walked_declarations : (ds : Declarations) (w : Walk) → walk_declarations ds w ≡ walked w (in_declarations the_tree w.scope ds)
  walked_declarations no_declaration w = refl
  walked_declarations (declaration d ds) w = and_then w (walk_declaration d w) (in_declaration the_tree w.scope d) (walk_declarations ds) (λ scope. in_declarations the_tree scope ds) (walked_declaration d w) (walked_declarations ds)

walked_top : (t : Top) (w : Walk) → walk_top t w ≡ walked w (in_top the_tree w.scope t)
walked_top top.Empty w = refl
walked_top (top.Data d) w = refl
walked_top (top.Synonym s) w = refl
walked_top (top.Fixity f) w = refl
walked_top (top.Signature x xs a t) w = refl
walked_top (top.Equation h r) w =
    let ps = head_patterns h in
    let b = bind (all_variables ps) (note_all (each_pattern_nodes 1 ps) w) in
    left_twice w (each_pattern_nodes 1 ps) (all_variables ps) (local_to (rhs_of r)) (walk_right_side 1 (rhs_of r) b) (in_right_side the_tree b.scope 1 (rhs_of r)) (walked_right_side (rhs_of r) 1 b)

walked_tops : (ts : List Top) (w : Walk) → walk_tops ts w ≡ walked w (in_tops the_tree w.scope ts)
walked_tops [] w = refl
walked_tops (t ∷ ts) w = and_then w (walk_top t w) (in_top the_tree w.scope t) (walk_tops ts) (λ scope. in_tops the_tree scope ts) (walked_top t w) (walked_tops ts)

-- the walk over a tree in a scope finds what its sites have
pub tree_walked : (scope : Scope) (ts : List Top) → (walk_tops ts (at_first scope)).found ≡ all_found nothing_found (in_tops the_tree scope ts)
tree_walked scope ts = ap (λ (v : Walk). v.found) (walked_tops ts (at_first scope))
