-- Right sides bind no number that is bound around them.
use Rattle.std.proofs.Common.{ℕ, Bool, true, false, List, [], ◌∷◌, ◌++◌, Option, None, arith}
use Rattle.std.specs.List.{AllByRecursion}
use Rattle.hdc_base.specs.declared.place.Place.{Place}
use Rattle.hdc_base.specs.declared.place.Src.{Src}
use Rattle.hdc_tree.specs.declared.program.Top.{Top}
use Rattle.hdc_tree.specs.declared.program.Top.TheVariants as top
use Rattle.hdc_written.specs.Firsts.{first_of_operand}
use Rattle.hdc_written.specs.Mirror.{head_name, head_patterns, rhs_of}
use Rattle.hdc_written.specs.Written.{variables, all_variables, Pattern, Patterns, Expression, chain, Links, no_link, link, Operand, variable, constructor, literal, unit, nil, cons, in_parentheses, tuple, list, range, comprehension, left_section, right_section, applied, lambda, let_in, if_else, case_of, Operands, no_operand, operand, Expressions, no_expression, expression, generator, condition, let_qualifier, Qualifiers, no_qualifier, qualifier, Alternative, blank, alternative, Alternatives, no_alternative, next_alternative, RightSide, plain, guarded, Guards, no_guard, guard, empty, signature, equation, binding, Declarations, no_declaration, declaration, all_bound}
use Rattle.hdc_names.specs.declared.chain.NextOperand.{NextOperand}
use Rattle.hdc_names.specs.Chain.{Tree}
use Rattle.hdc_names.specs.OperatorTrees.{leaf, binary, negated}
use Rattle.hdc_names.specs.Sites.{is_minus, sign_of, rest_in}
use Rattle.hdc_resolved.specs.declared.name.Use.{Use}
use Rattle.hdc_resolved.specs.Syntax as resolved
use Rattle.hdc_resolving.specs.declared.known.Known.{Known}
use Rattle.hdc_resolving.specs.declared.walk.Counter.{Counter}
use Rattle.hdc_resolving.specs.declared.walk.Walk.{Walk}
use Rattle.hdc_resolving.specs.Grouped as grouping
use Rattle.hdc_resolving.specs.Grouped.{Placed, grouped, Joining, by_trees}
use Rattle.hdc_resolving.specs.Literals.{place_in}
use Rattle.hdc_resolving.specs.Locals.{link_uses}
use Rattle.hdc_resolving.specs.Numbering.{counted, numbered, entered, moved}
use Rattle.hdc_resolving.specs.Patterns.{resolved_pattern, resolved_patterns}
use Rattle.hdc_resolving.specs.Standing.{Names, goes_on, opened}
use Rattle.hdc_bindings.specs.Resolving.{behind_expression, behind_links, behind_operand, behind_alternative, behind_declaration, inside, behind, head_before, skips_degree, applied_unless, resolved_expression, placed_before, resolved_operand, applied_to, resolved_expressions, resolved_qualifiers, resolved_alternatives, alternative_before, resolved_right_side, resolved_guards, resolved_members, further_equations}
use Rattle.hdc_bindings.specs.Tops.{behind_declared, further_tops, top_bindings, all_bindings, prelude_known, program_known, prelude_walk, program_walk}
use Rattle.hdc_numbers.specs.Binders.{pattern_numbers, patterns_numbers, members_numbers, IsNew, AreNew, BindsAnew, EachBindsAnew, QualifiersBindAnew, EquationsBindAnew, RightSideBindsAnew, GuardsBindAnew, MembersBindAnew, AllBindAnew}
use Rattle.hdc_numbers.proofs.Locals.{one_on, names_on, expression_on, links_on, operand_on, alternative_on, declaration_on, declarations_on}
use Rattle.hdc_numbers.proofs.Ranges.{all_joined, all_first, all_second, item_or, if_either, Below, InRange, AreInRange, HasNumber, below_more, one_new, all_new, below_range, all_numbers, pattern_range, patterns_range}

-- ---- chains

abbrev EachAnew : List ℕ → List Placed → Type 0
EachAnew around xs = AllByRecursion (λ (p : Placed). BindsAnew around p.what) xs

grouped_anew : (around : List ℕ) (s : Src) (e : Expression) (us : List Use) (xs : List Placed) (t : Tree) → EachAnew around xs → BindsAnew around (grouped s e us xs t).what
grouped_anew around s e us xs (leaf n) h = item_or (λ (p : Placed). BindsAnew around p.what) xs n (grouping.no_operand s) h tt
grouped_anew around s e us xs (binary l o r) h = (grouped_anew around s e us xs l h, grouped_anew around s e us xs r h)
grouped_anew around s e us xs (negated n t) h = grouped_anew around s e us xs t h

-- ---- functions and their arguments

head_anew : (around : List ℕ) (f : Operand) (e : resolved.Expression) (as' : Operands) (k : Known) (names : Names) → BindsAnew around e → BindsAnew around (head_before f e as' k names)
head_anew around (variable x) e as' k names h = tt
head_anew around (constructor c) e as' k names h = h
head_anew around (literal a l) e as' k names h = h
head_anew around (unit a) e as' k names h = h
head_anew around (nil a) e as' k names h = h
head_anew around (cons a b) e as' k names h = h
head_anew around (in_parentheses a f) e as' k names h = h
head_anew around (tuple a es) e as' k names h = h
head_anew around (list a es) e as' k names h = h
head_anew around (range a f g) e as' k names h = h
head_anew around (comprehension a f qs) e as' k names h = h
head_anew around (left_section a f o) e as' k names h = h
head_anew around (right_section a o f) e as' k names h = h
head_anew around (applied f bs) e as' k names h = h
head_anew around (lambda a ps f) e as' k names h = h
head_anew around (let_in a ds f) e as' k names h = h
head_anew around (if_else a f g i) e as' k names h = h
head_anew around (case_of a f bs) e as' k names h = h

unless_anew : (around : List ℕ) (skip : Bool) (p : Place) (e x : resolved.Expression) → BindsAnew around e → BindsAnew around x → BindsAnew around (applied_unless skip p e x)
unless_anew around true p e x h g = h
unless_anew around false p e x h g = (h, g)

-- ---- names that come into scope

module _ (k : Known) where
  -- the numbers that patterns bind whose variables have come into scope
  entered_range : (ps : Patterns) (w : Walk) → AreInRange w.counter.numbers (numbered (all_variables ps) w.counter).numbers (patterns_numbers (resolved_patterns ps k (entered (all_variables ps) w).names))
  entered_range ps w = patterns_range ps k (entered (all_variables ps) w).names w.counter.numbers (numbered (all_variables ps) w.counter).numbers (all_numbers (all_variables ps) w.counter w.names)

  one_range : (p : Pattern) (w : Walk) → AreInRange w.counter.numbers (numbered (variables p) w.counter).numbers (pattern_numbers (resolved_pattern p k (entered (variables p) w).names))
  one_range p w = pattern_range p k (entered (variables p) w).names w.counter.numbers (numbered (variables p) w.counter).numbers (all_numbers (variables p) w.counter w.names)

  -- they are new, and with what is bound around them below what is counted behind them
  abbrev entered_numbers : Patterns → Walk → List ℕ
  entered_numbers ps w = patterns_numbers (resolved_patterns ps k (entered (all_variables ps) w).names)

  entered_new : (ps : Patterns) (w : Walk) (around : List ℕ) → Below w.counter.numbers around → AreNew around (entered_numbers ps w)
  entered_new ps w around below = all_new w.counter.numbers (entered (all_variables ps) w).counter.numbers (entered_numbers ps w) around (entered_range ps w) below

  entered_below : (ps : Patterns) (w : Walk) (around : List ℕ) → Below w.counter.numbers around → Below (entered (all_variables ps) w).counter.numbers (entered_numbers ps w ++ around)
  entered_below ps w around below = below_range w.counter.numbers (entered (all_variables ps) w).counter.numbers (entered_numbers ps w) around (entered_range ps w) (names_on (all_variables ps) w.counter) below

-- the parameter of a section is new
section_new : (w : Walk) (around : List ℕ) → Below w.counter.numbers around → IsNew around w.counter.numbers
section_new w around below = one_new w.counter.numbers w.counter.numbers around (omega (arith)) below

section_below : (w : Walk) (around : List ℕ) → Below w.counter.numbers around → Below (counted w.counter).numbers (w.counter.numbers ∷ around)
section_below w around below = (omega (arith), below_more w.counter.numbers (counted w.counter).numbers around (one_on w.counter) below)

module _ (trees : Bool → List NextOperand → Tree) (k : Known) where
  abbrev tree_joining : Joining
  tree_joining = by_trees trees

  -- ---- blocks

  -- the bindings of a block bind the numbers of what it declares
  members_range : (ds : Declarations) (b : Option (List ℕ)) (v : Walk) (low high : ℕ) → AllByRecursion (HasNumber low high v.names) (all_bound ds) → AreInRange low high (members_numbers (resolved_members tree_joining k ds b v))
  members_range no_declaration b v low high h = tt
  members_range (declaration empty ds) b v low high h = members_range ds b v low high h
  members_range (declaration (signature xs t) ds) b v low high h = members_range ds None v low high h
  members_range (declaration (equation at x ps r) ds) b v low high h =
      let next = moved (behind_declaration (equation at x ps r) v.counter) v in
      if_either (λ ms. AreInRange low high (members_numbers ms)) (goes_on b x.text ps) _ _ (members_range ds b next low high h.1) (h.0, members_range ds (opened x.text ps) next low high h.1)
  members_range (declaration (binding p r) ds) b v low high h =
      let next = moved (behind_declaration (binding p r) v.counter) v in
      let first = all_first (HasNumber low high v.names) (variables p) (all_bound ds) h in
      let rest = all_second (HasNumber low high v.names) (variables p) (all_bound ds) h in
      all_joined (InRange low high) (pattern_numbers (resolved_pattern p k v.names)) (members_numbers (resolved_members tree_joining k ds None next)) (pattern_range p k v.names low high first) (members_range ds None next low high rest)

  -- the numbers that a block binds
  abbrev bound_in : Declarations → Walk → List ℕ
  bound_in ds w = members_numbers (resolved_members tree_joining k ds None (inside ds w))

  block_range : (ds : Declarations) (w : Walk) → AreInRange w.counter.numbers (inside ds w).counter.numbers (bound_in ds w)
  block_range ds w = members_range ds None (inside ds w) w.counter.numbers (inside ds w).counter.numbers (all_numbers (all_bound ds) w.counter w.names)

  -- with what is bound around it, they are below what is counted in it, and behind it
  below_inside : (ds : Declarations) (w : Walk) (around : List ℕ) → Below w.counter.numbers around → Below (inside ds w).counter.numbers (bound_in ds w ++ around)
  below_inside ds w around below = below_range w.counter.numbers (inside ds w).counter.numbers (bound_in ds w) around (block_range ds w) (names_on (all_bound ds) w.counter) below

  below_behind : (ds : Declarations) (w : Walk) (around : List ℕ) → Below w.counter.numbers around → Below (behind ds w).counter.numbers (bound_in ds w ++ around)
  below_behind ds w around below = below_more (inside ds w).counter.numbers (behind ds w).counter.numbers (bound_in ds w ++ around) (declarations_on ds (inside ds w).counter) (below_inside ds w around below)

  block_new : (ds : Declarations) (w : Walk) (around : List ℕ) → Below w.counter.numbers around → AreNew around (bound_in ds w)
  block_new ds w around below = all_new w.counter.numbers (inside ds w).counter.numbers (bound_in ds w) around (block_range ds w) below

  -- ---- expressions and all that stands in them

  mutual
    expression_anew : (e : Expression) (w : Walk) (around : List ℕ) → Below w.counter.numbers around → BindsAnew around (resolved_expression tree_joining k e w)
    expression_anew (chain ls s a) w around below =
        let last = moved (behind_links ls w.counter) w in
        grouped_anew around k.src (chain ls s a) (link_uses ls k w.names) (placed_before tree_joining k ls w ++ (record { at = first_of_operand a; what = resolved_operand tree_joining k a last } ∷ [])) (trees (is_minus (sign_of (chain ls s a))) (rest_in w.fixities (chain ls s a)))
        (all_joined (λ (p : Placed). BindsAnew around p.what) (placed_before tree_joining k ls w) (record { at = first_of_operand a; what = resolved_operand tree_joining k a last } ∷ [])
        (placed_anew ls w around below) (operand_anew a last around (below_more w.counter.numbers last.counter.numbers around (links_on ls w.counter) below), tt))

    placed_anew : (ls : Links) (w : Walk) (around : List ℕ) → Below w.counter.numbers around → EachAnew around (placed_before tree_joining k ls w)
    placed_anew no_link w around below = tt
    placed_anew (link s a o ls) w around below =
        let next = moved (behind_operand a w.counter) w in
        (operand_anew a w around below, placed_anew ls next around (below_more w.counter.numbers next.counter.numbers around (operand_on a w.counter) below))

    operand_anew : (a : Operand) (w : Walk) (around : List ℕ) → Below w.counter.numbers around → BindsAnew around (resolved_operand tree_joining k a w)
    operand_anew (variable x) w around below = tt
    operand_anew (constructor c) w around below = tt
    operand_anew (literal a l) w around below = tt
    operand_anew (unit a) w around below = tt
    operand_anew (nil a) w around below = tt
    operand_anew (cons a b) w around below = tt
    operand_anew (in_parentheses a e) w around below = expression_anew e w around below
    operand_anew (tuple a es) w around below = expressions_anew es w around below
    operand_anew (list a es) w around below = expressions_anew es w around below
    operand_anew (range a e f) w around below =
        let next = moved (behind_expression e w.counter) w in
        (expression_anew e w around below, expression_anew f next around (below_more w.counter.numbers next.counter.numbers around (expression_on e w.counter) below))
    operand_anew (comprehension a e qs) w around below = qualifiers_anew qs (resolved_expression tree_joining k e) (behind_expression e) (expression_anew e) w around below
    operand_anew (left_section a e o) w around below = (section_new w around below, expression_anew e (moved (counted w.counter) w) (w.counter.numbers ∷ around) (section_below w around below))
    operand_anew (right_section a o e) w around below = (section_new w around below, expression_anew e (moved (counted w.counter) w) (w.counter.numbers ∷ around) (section_below w around below))
    operand_anew (applied f as') w around below =
        let next = moved (behind_operand f w.counter) w in
        applied_anew as' (skips_degree f as' k w.names) (place_in k.src (first_of_operand f)) (head_before f (resolved_operand tree_joining k f w) as' k w.names) next around
        (below_more w.counter.numbers next.counter.numbers around (operand_on f w.counter) below)
        (head_anew around f (resolved_operand tree_joining k f w) as' k w.names (operand_anew f w around below))
    operand_anew (lambda a ps e) w around below = (entered_new k ps w around below, expression_anew e (entered (all_variables ps) w) (entered_numbers k ps w ++ around) (entered_below k ps w around below))
    operand_anew (let_in a ds e) w around below = ((block_new ds w around below, members_anew ds None (inside ds w) (bound_in ds w ++ around) (below_inside ds w around below)), expression_anew e (behind ds w) (bound_in ds w ++ around) (below_behind ds w around below))
    operand_anew (if_else a e f g) w around below =
        let second = moved (behind_expression e w.counter) w in
        let third = moved (behind_expression f second.counter) w in
        let at_second = below_more w.counter.numbers second.counter.numbers around (expression_on e w.counter) below in
        (expression_anew e w around below, (expression_anew f second around at_second, expression_anew g third around (below_more second.counter.numbers third.counter.numbers around (expression_on f second.counter) at_second)))
    operand_anew (case_of a e bs) w around below =
        let next = moved (behind_expression e w.counter) w in
        (expression_anew e w around below, alternatives_anew bs next around (below_more w.counter.numbers next.counter.numbers around (expression_on e w.counter) below))

    applied_anew : (as' : Operands) (skip : Bool) (p : Place) (e : resolved.Expression) (w : Walk) (around : List ℕ) → Below w.counter.numbers around → BindsAnew around e → BindsAnew around (applied_to tree_joining k as' skip p e w)
    applied_anew no_operand skip p e w around below h = h
    applied_anew (operand a as') skip p e w around below h =
        let next = moved (behind_operand a w.counter) w in
        applied_anew as' false p (applied_unless skip p e (resolved_operand tree_joining k a w)) next around
        (below_more w.counter.numbers next.counter.numbers around (operand_on a w.counter) below)
        (unless_anew around skip p e (resolved_operand tree_joining k a w) h (operand_anew a w around below))

    expressions_anew : (es : Expressions) (w : Walk) (around : List ℕ) → Below w.counter.numbers around → EachBindsAnew around (resolved_expressions tree_joining k es w)
    expressions_anew no_expression w around below = tt
    expressions_anew (expression e es) w around below =
        let next = moved (behind_expression e w.counter) w in
        (expression_anew e w around below, expressions_anew es next around (below_more w.counter.numbers next.counter.numbers around (expression_on e w.counter) below))

    qualifiers_anew : (qs : Qualifiers) (head : Walk → resolved.Expression) (counts : Counter → Counter) → ((v : Walk) (around : List ℕ) → Below v.counter.numbers around → BindsAnew around (head v)) → (w : Walk) (around : List ℕ) → Below w.counter.numbers around → QualifiersBindAnew around (resolved_qualifiers tree_joining k qs head counts w)
    qualifiers_anew no_qualifier head counts anew w around below = anew w around below
    qualifiers_anew (qualifier (generator p e) qs) head counts anew w around below =
        let middle = moved (behind_expression e w.counter) w in
        let next = entered (variables p) middle in
        let numbers = pattern_numbers (resolved_pattern p k next.names) in
        let at_middle = below_more w.counter.numbers middle.counter.numbers around (expression_on e w.counter) below in (
          expression_anew e w around below,
          (
            all_new middle.counter.numbers next.counter.numbers numbers around (one_range k p middle) at_middle,
            qualifiers_anew qs head counts anew next (numbers ++ around) (below_range middle.counter.numbers next.counter.numbers numbers around (one_range k p middle) (names_on (variables p) middle.counter) at_middle),
          ),
        )
    qualifiers_anew (qualifier (condition e) qs) head counts anew w around below =
        let next = moved (behind_expression e w.counter) w in
        (expression_anew e w around below, qualifiers_anew qs head counts anew next around (below_more w.counter.numbers next.counter.numbers around (expression_on e w.counter) below))
    qualifiers_anew (qualifier (let_qualifier a ds) qs) head counts anew w around below =
        ((block_new ds w around below, members_anew ds None (inside ds w) (bound_in ds w ++ around) (below_inside ds w around below)), qualifiers_anew qs head counts anew (behind ds w) (bound_in ds w ++ around) (below_behind ds w around below))

    alternatives_anew : (bs : Alternatives) (w : Walk) (around : List ℕ) → Below w.counter.numbers around → EquationsBindAnew around (resolved_alternatives tree_joining k bs w)
    alternatives_anew no_alternative w around below = tt
    alternatives_anew (next_alternative b bs) w around below =
        let next = moved (behind_alternative b w.counter) w in
        alternative_anew b w (resolved_alternatives tree_joining k bs next) around below (alternatives_anew bs next around (below_more w.counter.numbers next.counter.numbers around (alternative_on b w.counter) below))

    alternative_anew : (b : Alternative) (w : Walk) (es : resolved.Equations) (around : List ℕ) → Below w.counter.numbers around → EquationsBindAnew around es → EquationsBindAnew around (alternative_before tree_joining k b w es)
    alternative_anew blank w es around below h = h
    alternative_anew (alternative p r) w es around below h =
        let next = entered (variables p) w in
        let numbers = pattern_numbers (resolved_pattern p k next.names) ++ [] in
        let all = all_joined (InRange w.counter.numbers next.counter.numbers) (pattern_numbers (resolved_pattern p k next.names)) [] (one_range k p w) tt in (
          all_new w.counter.numbers next.counter.numbers numbers around all below,
          (right_side_anew r next (numbers ++ around) (below_range w.counter.numbers next.counter.numbers numbers around all (names_on (variables p) w.counter) below), h),
        )

    right_side_anew : (r : RightSide) (w : Walk) (around : List ℕ) → Below w.counter.numbers around → RightSideBindsAnew around (resolved_right_side tree_joining k r w)
    right_side_anew (plain e ds) w around below = ((block_new ds w around below, members_anew ds None (inside ds w) (bound_in ds w ++ around) (below_inside ds w around below)), expression_anew e (behind ds w) (bound_in ds w ++ around) (below_behind ds w around below))
    right_side_anew (guarded a gs ds) w around below = ((block_new ds w around below, members_anew ds None (inside ds w) (bound_in ds w ++ around) (below_inside ds w around below)), guards_anew gs (behind ds w) (bound_in ds w ++ around) (below_behind ds w around below))

    guards_anew : (gs : Guards) (w : Walk) (around : List ℕ) → Below w.counter.numbers around → GuardsBindAnew around (resolved_guards tree_joining k gs w)
    guards_anew no_guard w around below = tt
    guards_anew (guard e f gs) w around below =
        let second = moved (behind_expression e w.counter) w in
        let third = moved (behind_expression f second.counter) w in
        let at_second = below_more w.counter.numbers second.counter.numbers around (expression_on e w.counter) below in
        (expression_anew e w around below, (expression_anew f second around at_second, guards_anew gs third around (below_more second.counter.numbers third.counter.numbers around (expression_on f second.counter) at_second)))

    members_anew : (ds : Declarations) (b : Option (List ℕ)) (w : Walk) (around : List ℕ) → Below w.counter.numbers around → MembersBindAnew around (resolved_members tree_joining k ds b w)
    members_anew no_declaration b w around below = tt
    members_anew (declaration empty ds) b w around below = members_anew ds b w around below
    members_anew (declaration (signature xs t) ds) b w around below = members_anew ds None w around below
    members_anew (declaration (equation at x ps r) ds) b w around below =
        let next = moved (behind_declaration (equation at x ps r) w.counter) w in
        let at_next = below_more w.counter.numbers next.counter.numbers around (declaration_on (equation at x ps r) w.counter) below in
        let new = opened x.text ps in
        if_either (MembersBindAnew around) (goes_on b x.text ps) _ _ (members_anew ds b next around at_next)
        ((entered_new k ps w around below, (right_side_anew r (entered (all_variables ps) w) (entered_numbers k ps w ++ around) (entered_below k ps w around below), further_anew ds new next around at_next)), members_anew ds new next around at_next)
    members_anew (declaration (binding p r) ds) b w around below =
        let next = moved (behind_declaration (binding p r) w.counter) w in
        (right_side_anew r w around below, members_anew ds None next around (below_more w.counter.numbers next.counter.numbers around (declaration_on (binding p r) w.counter) below))

    further_anew : (ds : Declarations) (b : Option (List ℕ)) (w : Walk) (around : List ℕ) → Below w.counter.numbers around → EquationsBindAnew around (further_equations tree_joining k ds b w)
    further_anew no_declaration b w around below = tt
    further_anew (declaration empty ds) b w around below = further_anew ds b w around below
    further_anew (declaration (signature xs t) ds) b w around below = tt
    further_anew (declaration (equation at x ps r) ds) b w around below =
        let next = moved (behind_declaration (equation at x ps r) w.counter) w in
        let at_next = below_more w.counter.numbers next.counter.numbers around (declaration_on (equation at x ps r) w.counter) below in
        if_either (EquationsBindAnew around) (goes_on b x.text ps) _ _ ((entered_new k ps w around below, (right_side_anew r (entered (all_variables ps) w) (entered_numbers k ps w ++ around) (entered_below k ps w around below), further_anew ds b next around at_next))) tt
    further_anew (declaration (binding p r) ds) b w around below = tt

  -- an equation before others
  equation_anew : (ps : Patterns) (r : RightSide) (w : Walk) (es : resolved.Equations) (around : List ℕ) → Below w.counter.numbers around → EquationsBindAnew around es → AreNew around (entered_numbers k ps w) × (RightSideBindsAnew (entered_numbers k ps w ++ around) (resolved_right_side tree_joining k r (entered (all_variables ps) w)) × EquationsBindAnew around es)
  equation_anew ps r w es around below h = (entered_new k ps w around below, (right_side_anew r (entered (all_variables ps) w) (entered_numbers k ps w ++ around) (entered_below k ps w around below), h))

  -- ---- the declarations of a text, around which no number is bound

  further_tops_anew : (ts : List Top) (b : Option (List ℕ)) (w : Walk) → EquationsBindAnew [] (further_tops tree_joining k ts b w)
  further_tops_anew [] b w = tt
  further_tops_anew (top.Empty ∷ ts) b w = further_tops_anew ts b w
  further_tops_anew (top.Data d ∷ ts) b w = tt
  further_tops_anew (top.Synonym s ∷ ts) b w = tt
  further_tops_anew (top.Fixity f ∷ ts) b w = tt
  further_tops_anew (top.Signature x xs a t ∷ ts) b w = tt
  further_tops_anew (top.Equation h r ∷ ts) b w =
      let next = moved (behind_declared (top.Equation h r) w.counter) w in
      if_either (EquationsBindAnew []) (goes_on b (head_name h).text (head_patterns h)) _ _ (equation_anew (head_patterns h) (rhs_of r) w (further_tops tree_joining k ts b next) [] tt (further_tops_anew ts b next)) tt

  tops_anew : (ts : List Top) (b : Option (List ℕ)) (w : Walk) → AllBindAnew (top_bindings tree_joining k ts b w)
  tops_anew [] b w = tt
  tops_anew (top.Empty ∷ ts) b w = tops_anew ts b w
  tops_anew (top.Data d ∷ ts) b w = tops_anew ts None w
  tops_anew (top.Synonym s ∷ ts) b w = tops_anew ts None w
  tops_anew (top.Fixity f ∷ ts) b w = tops_anew ts None w
  tops_anew (top.Signature x xs a t ∷ ts) b w = tops_anew ts None w
  tops_anew (top.Equation h r ∷ ts) b w =
      let next = moved (behind_declared (top.Equation h r) w.counter) w in
      let new = opened (head_name h).text (head_patterns h) in
      if_either AllBindAnew (goes_on b (head_name h).text (head_patterns h)) _ _ (tops_anew ts b next)
      (equation_anew (head_patterns h) (rhs_of r) w (further_tops tree_joining k ts new next) [] tt (further_tops_anew ts new next), tops_anew ts new next)

-- both texts
pub all_anew : (trees : Bool → List NextOperand → Tree) (ps ts : List Top) (orders : List (List ℕ)) → AllBindAnew (all_bindings (by_trees trees) ps ts orders)
unfolding all_bindings
all_anew trees ps ts orders =
    all_joined (λ (b : resolved.Binding). EquationsBindAnew [] b.equations) (top_bindings (by_trees trees) (prelude_known ps orders) ps None (prelude_walk ps)) (top_bindings (by_trees trees) (program_known ps ts orders) ts None (program_walk ps ts))
    (tops_anew trees (prelude_known ps orders) ps None (prelude_walk ps)) (tops_anew trees (program_known ps ts orders) ts None (program_walk ps ts))
