-- Parts of right sides in lists, as they are gone through.
use Rattle.std.specs.Prelude.{Bool, false, List, [], ◌∷◌, ◌++◌, None}
use Rattle.hdc_base.specs.declared.place.Place.{Place}
use Rattle.hdc_resolved.specs.Syntax as resolved
use Rattle.hdc_written.specs.Firsts.{first_of_pattern, first_of_operand}
use Rattle.hdc_written.specs.Written.{variables, all_variables, Expression, chain, Operands, no_operand, operand, Expressions, no_expression, expression, Qualifier, generator, condition, let_qualifier, Qualifiers, no_qualifier, qualifier, Alternative, blank, alternative, Alternatives, no_alternative, next_alternative, Guards, no_guard, guard, Declaration, empty, signature, equation, binding, Declarations, no_declaration, declaration}
use Rattle.hdc_resolving.specs.declared.known.Known.{Known}
use Rattle.hdc_resolving.specs.declared.walk.Walk.{Walk}
use Rattle.hdc_resolving.specs.Grouped.{Placed, Joining}
use Rattle.hdc_resolving.specs.Growths.{Equating, Grown, stayed, with_signature, with_equation, with_pattern}
use Rattle.hdc_resolving.specs.Literals.{place_in}
use Rattle.hdc_resolving.specs.Locals.{resolved_signature}
use Rattle.hdc_resolving.specs.Numbering.{entered, moved, variable_number}
use Rattle.hdc_resolving.specs.Parts.{Bound, Part, from, test, bind}
use Rattle.hdc_resolving.specs.Patterns.{resolved_pattern, resolved_patterns}
use Rattle.hdc_bindings.specs.Resolving.{behind_expression, behind_links, behind_operand, behind_alternative, behind_declaration, behind, inside, homes, resolved_signatures, applied_unless, equation_before, guard_before, resolved_expression, resolved_operand, placed_before, resolved_right_side, resolved_members}

-- a list of conditions and what they guard, to which others can be added
abbrev pub Guarding : Type 0
Guarding = resolved.Guards → resolved.Guards

-- a function, which begins here, and its arguments, of which the first may be a degree
abbrev pub applied_each : Bool → Place → resolved.Expression → List resolved.Expression → resolved.Expression
applied_each skip p e [] = e
applied_each skip p e (x ∷ xs) = applied_each false p (applied_unless skip p e x) xs

-- what is in scope behind qualifiers
abbrev pub past_qualifier : Qualifier → Walk → Walk
past_qualifier (generator p e) w = entered (variables p) (moved (behind_expression e w.counter) w)
past_qualifier (condition e) w = moved (behind_expression e w.counter) w
past_qualifier (let_qualifier a ds) w = behind ds w

abbrev pub past_qualifiers : Qualifiers → Walk → Walk
past_qualifiers no_qualifier w = w
past_qualifiers (qualifier q qs) w = past_qualifiers qs (past_qualifier q w)

module _ (join : Joining) (k : Known) where
  -- the operands of a chain
  abbrev pub placed_in : Expression → Walk → List Placed
  placed_in (chain ls s a) w = placed_before join k ls w ++ (record { at = first_of_operand a; what = resolved_operand join k a (moved (behind_links ls w.counter) w) } ∷ [])

  abbrev pub each_resolved : Expressions → Walk → List resolved.Expression
  each_resolved no_expression w = []
  each_resolved (expression e es) w = resolved_expression join k e w ∷ each_resolved es (moved (behind_expression e w.counter) w)

  abbrev pub operands_in : Operands → Walk → List resolved.Expression
  operands_in no_operand w = []
  operands_in (operand a as') w = resolved_operand join k a w ∷ operands_in as' (moved (behind_operand a w.counter) w)

  -- an alternative, if it is not blank
  abbrev pub alternative_in : Alternative → Walk → List Equating
  alternative_in blank w = []
  alternative_in (alternative p r) w = equation_before k (first_of_pattern p) (resolved.pattern (resolved_pattern p k (entered (variables p) w).names) resolved.no_pattern) (resolved_right_side join k r (entered (variables p) w)) ∷ []

  abbrev pub alternatives_in : Alternatives → Walk → List Equating
  alternatives_in no_alternative w = []
  alternatives_in (next_alternative b bs) w = alternative_in b w ++ alternatives_in bs (moved (behind_alternative b w.counter) w)

  -- a condition and what it guards
  abbrev pub guard_in : Expression → Expression → Walk → Guarding
  guard_in e f w = guard_before (resolved_expression join k e w) (resolved_expression join k f (moved (behind_expression e w.counter) w))

  abbrev pub guards_in : Guards → Walk → List Guarding
  guards_in no_guard w = []
  guards_in (guard e f gs) w = guard_in e f w ∷ guards_in gs (moved (behind_expression f (behind_expression e w.counter)) w)

  -- ---- declarations

  abbrev pub bound_in : Declarations → Walk → Bound
  bound_in ds w = record { members = resolved_members join k ds None w; signatures = resolved_signatures ds k w.names; homes = homes ds None 0 }

  abbrev pub declared_in : Declaration → Walk → Grown → Grown
  declared_in empty w g = stayed g
  declared_in (signature xs t) w g = with_signature (resolved_signature k w.names xs t) g
  declared_in (equation at x ps r) w g = with_equation (place_in k.src x.at) (variable_number w.names x) x.text ps (equation_before k at (resolved_patterns ps k (entered (all_variables ps) w).names) (resolved_right_side join k r (entered (all_variables ps) w))) g
  declared_in (binding p r) w g = with_pattern (place_in k.src (first_of_pattern p)) (resolved_pattern p k w.names) (resolved_right_side join k r w) g

  abbrev pub all_declared_in : Declarations → Walk → Grown → Grown
  all_declared_in no_declaration w g = g
  all_declared_in (declaration d ds) w g = all_declared_in ds (moved (behind_declaration d w.counter) w) (declared_in d w g)

  -- ---- qualifiers

  abbrev pub part_in : Qualifier → Walk → Part
  part_in (generator p e) w = from (resolved_pattern p k (entered (variables p) (moved (behind_expression e w.counter) w)).names) (resolved_expression join k e w)
  part_in (condition e) w = test (resolved_expression join k e w)
  part_in (let_qualifier a ds) w = bind (bound_in ds (inside ds w))

  abbrev pub parts_in : Qualifiers → Walk → List Part
  parts_in no_qualifier w = []
  parts_in (qualifier q qs) w = part_in q w ∷ parts_in qs (past_qualifier q w)
