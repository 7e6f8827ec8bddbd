-- Right sides are the same by the steps of their chains and by the trees of these.
use Rattle.std.proofs.Common.{◌≡◌, ℕ, Bool, false, List, [], ◌∷◌, ◌++◌, Option, None, if◌then◌else◌, refl, ap, ap₂, ◌∙◌}
use Rattle.hdc_base.specs.declared.place.At.{At}
use Rattle.hdc_base.specs.declared.place.Place.{Place}
use Rattle.hdc_tree.specs.declared.name.Sign.{Sign}
use Rattle.hdc_tree.specs.declared.program.Top.{Top}
use Rattle.hdc_tree.specs.declared.program.Top.TheVariants as top
use Rattle.hdc_resolved.specs.declared.name.RowKind.TheVariants as kind
use Rattle.hdc_resolved.specs.declared.name.Side.TheVariants as side
use Rattle.hdc_resolved.specs.declared.name.Use.{Use}
use Rattle.hdc_resolved.specs.Syntax as resolved
use Rattle.hdc_written.specs.Firsts.{first_of_pattern, first_of_operand}
use Rattle.hdc_written.specs.Mirror.{head_name, head_patterns, first_of_head, rhs_of}
use Rattle.hdc_written.specs.Written.{Patterns, variables, all_variables, Expression, chain, Links, no_link, link, Operand, variable, constructor, literal, unit, nil, cons, in_parentheses, tuple, list, range, comprehension, left_section, right_section, applied, lambda, let_in, if_else, case_of, Operands, no_operand, operand, Expressions, no_expression, expression, generator, condition, let_qualifier, Qualifiers, no_qualifier, qualifier, Alternative, blank, alternative, Alternatives, no_alternative, next_alternative, RightSide, plain, guarded, Guards, no_guard, guard, empty, signature, equation, binding, Declarations, no_declaration, declaration}
use Rattle.hdc_names.specs.declared.chain.NextOperand.{NextOperand}
use Rattle.hdc_names.specs.Fixities.{Scope}
use Rattle.hdc_names.specs.Chain.{Tree}
use Rattle.hdc_names.specs.Sites.{rest_of}
use Rattle.hdc_names.specs.Trees.{AreTrees}
use Rattle.hdc_resolving.specs.declared.known.Known.{Known}
use Rattle.hdc_resolving.specs.declared.walk.Counter.{Counter}
use Rattle.hdc_resolving.specs.declared.walk.Walk.{Walk}
use Rattle.hdc_resolving.specs.Grouped.{Placed, Joining, by_steps, by_trees}
use Rattle.hdc_resolving.specs.Literals.{place_in}
use Rattle.hdc_resolving.specs.Numbering.{counted, entered, moved, variable_number}
use Rattle.hdc_resolving.specs.Patterns.{resolved_pattern, resolved_patterns}
use Rattle.hdc_resolving.specs.Standing.{goes_on, opened}
use Rattle.hdc_resolving.specs.Uses.{operator_use}
use Rattle.hdc_resolving.specs.Locals.{link_uses}
use Rattle.hdc_bindings.specs.Resolving.{behind_expression, behind_links, behind_operand, behind_qualifiers, behind_alternative, behind_guards, behind_declaration, inside, behind, block_of, equation_before, guard_before, head_before, skips_degree, applied_unless, resolved_expression, placed_before, resolved_operand, applied_to, resolved_expressions, resolved_qualifiers, resolved_alternatives, alternative_before, resolved_right_side, resolved_guards, resolved_members, further_equations}
use Rattle.hdc_bindings.specs.Tops.{behind_declared, further_tops, top_bindings, all_bindings, prelude_known, prelude_walk, program_known, program_walk}
use Rattle.hdc_bindings.proofs.Trees.{steps_as_trees, operand_count}

module _ (trees : Bool → List NextOperand → Tree) (right : AreTrees trees) (k : Known) where
  abbrev tree_joining : Joining
  tree_joining = by_trees trees

  -- a chain whose operands are the same
  same_chain : (ls : Links) (w : Walk) (e : Expression) (us : List Use) (sc : Scope) (s : Sign) (x y : Placed) → placed_before by_steps k ls w ≡ placed_before tree_joining k ls w → x ≡ y → by_steps k.src e (rest_of sc ls s) us (placed_before by_steps k ls w ++ (x ∷ [])) ≡ tree_joining k.src e (rest_of sc ls s) us (placed_before tree_joining k ls w ++ (y ∷ []))
  same_chain ls w e us sc s x y before last =
      steps_as_trees trees right k.src e (rest_of sc ls s) us (placed_before by_steps k ls w ++ (x ∷ [])) (operand_count by_steps k ls w x sc s)
      ∙ ap₂ (λ b l. tree_joining k.src e (rest_of sc ls s) us (b ++ (l ∷ []))) before last

  -- a block whose bindings are the same, and an equation whose right side is
  same_block : (ds : Declarations) (c : Counter) (w : Walk) → resolved_members by_steps k ds None w ≡ resolved_members tree_joining k ds None w → block_of k ds (resolved_members by_steps k ds None w) w.names c ≡ block_of k ds (resolved_members tree_joining k ds None w) w.names c
  same_block ds c w members = ap (λ z. block_of k ds z w.names c) members

  abbrev equated : RightSide → At → Patterns → Walk → resolved.RightSide → resolved.Equations → resolved.Equations
  equated r at ps w body es = equation_before k at (resolved_patterns ps k (entered (all_variables ps) w).names) body es

  same_equation : (r : RightSide) (at : At) (ps : Patterns) (w : Walk) (es fs : resolved.Equations) → resolved_right_side by_steps k r (entered (all_variables ps) w) ≡ resolved_right_side tree_joining k r (entered (all_variables ps) w) → es ≡ fs → equated r at ps w (resolved_right_side by_steps k r (entered (all_variables ps) w)) es ≡ equated r at ps w (resolved_right_side tree_joining k r (entered (all_variables ps) w)) fs
  same_equation r at ps w es fs body rest = ap₂ (equated r at ps w) body rest

  -- ---- expressions and all that stands in them

  mutual
    same_expression : (e : Expression) (w : Walk) → resolved_expression by_steps k e w ≡ resolved_expression tree_joining k e w
    same_expression (chain ls s a) w =
        let last = moved (behind_links ls w.counter) w in
        ap (λ (z : Placed). z.what)
        (same_chain ls w (chain ls s a) (link_uses ls k w.names) w.fixities s (record { at = first_of_operand a; what = resolved_operand by_steps k a last }) (record { at = first_of_operand a; what = resolved_operand tree_joining k a last })
        (same_placed ls w) (λ i. record { at = first_of_operand a; what = same_operand a last i }))

    same_placed : (ls : Links) (w : Walk) → placed_before by_steps k ls w ≡ placed_before tree_joining k ls w
    same_placed no_link w = refl
    same_placed (link s a o ls) w = λ i. record { at = first_of_operand a; what = same_operand a w i } ∷ same_placed ls (moved (behind_operand a w.counter) w) i

    same_operand : (a : Operand) (w : Walk) → resolved_operand by_steps k a w ≡ resolved_operand tree_joining k a w
    same_operand (variable x) w = refl
    same_operand (constructor c) w = refl
    same_operand (literal a l) w = refl
    same_operand (unit a) w = refl
    same_operand (nil a) w = refl
    same_operand (cons a b) w = refl
    same_operand (in_parentheses a e) w = same_expression e w
    same_operand (tuple a es) w = ap (resolved.row (place_in k.src a) kind.OfTuple) (same_expressions es w)
    same_operand (list a es) w = ap (resolved.row (place_in k.src a) kind.OfList) (same_expressions es w)
    same_operand (range a e f) w = λ i. resolved.range (place_in k.src a) k.range (same_expression e w i) (same_expression f (moved (behind_expression e w.counter) w) i)
    same_operand (comprehension a e qs) w = ap (resolved.comprehension (place_in k.src a)) (same_qualifiers qs (resolved_expression by_steps k e) (resolved_expression tree_joining k e) (behind_expression e) w (same_expression e))
    same_operand (left_section a e o) w = ap (resolved.section (place_in k.src a) side.Left w.counter.numbers (operator_use o k w.names)) (same_expression e (moved (counted w.counter) w))
    same_operand (right_section a o e) w = ap (resolved.section (place_in k.src a) side.Right w.counter.numbers (operator_use o k w.names)) (same_expression e (moved (counted w.counter) w))
    same_operand (applied f as') w =
        let p = place_in k.src (first_of_operand f) in
        let next = moved (behind_operand f w.counter) w in
        let skip = skips_degree f as' k w.names in
        let head = λ (z : resolved.Expression). head_before f z as' k w.names in
        ap (λ z. applied_to by_steps k as' skip p (head z) next) (same_operand f w)
        ∙ same_applied as' skip p (head (resolved_operand tree_joining k f w)) next
    same_operand (lambda a ps e) w = ap (resolved.lambda (place_in k.src a) (resolved_patterns ps k (entered (all_variables ps) w).names)) (same_expression e (entered (all_variables ps) w))
    same_operand (let_in a ds e) w = λ i. resolved.let_in (place_in k.src a) (same_block ds (behind_expression e (behind ds w).counter) (inside ds w) (same_members ds None (inside ds w)) i) (same_expression e (behind ds w) i)
    same_operand (if_else a e f g) w =
        λ i. resolved.if_else (place_in k.src a) (same_expression e w i) (same_expression f (moved (behind_expression e w.counter) w) i) (same_expression g (moved (behind_expression f (behind_expression e w.counter)) w) i)
    same_operand (case_of a e bs) w = λ i. resolved.case_of (place_in k.src a) (same_expression e w i) (same_alternatives bs (moved (behind_expression e w.counter) w) i)

    same_applied : (as' : Operands) (skip : Bool) (p : Place) (e : resolved.Expression) (w : Walk) → applied_to by_steps k as' skip p e w ≡ applied_to tree_joining k as' skip p e w
    same_applied no_operand skip p e w = refl
    same_applied (operand a as') skip p e w =
        let next = moved (behind_operand a w.counter) w in
        ap (λ z. applied_to by_steps k as' false p (applied_unless skip p e z) next) (same_operand a w) ∙ same_applied as' false p (applied_unless skip p e (resolved_operand tree_joining k a w)) next

    same_expressions : (es : Expressions) (w : Walk) → resolved_expressions by_steps k es w ≡ resolved_expressions tree_joining k es w
    same_expressions no_expression w = refl
    same_expressions (expression e es) w = λ i. resolved.expression (same_expression e w i) (same_expressions es (moved (behind_expression e w.counter) w) i)

    same_qualifiers : (qs : Qualifiers) (head other : Walk → resolved.Expression) (counts : Counter → Counter) (w : Walk) → ((v : Walk) → head v ≡ other v) → resolved_qualifiers by_steps k qs head counts w ≡ resolved_qualifiers tree_joining k qs other counts w
    same_qualifiers no_qualifier head other counts w same = ap resolved.head_of (same w)
    same_qualifiers (qualifier (generator p e) qs) head other counts w same =
        let next = entered (variables p) (moved (behind_expression e w.counter) w) in
        λ i. resolved.generator k.generator (resolved_pattern p k next.names) (same_expression e w i) (same_qualifiers qs head other counts next same i)
    same_qualifiers (qualifier (condition e) qs) head other counts w same = λ i. resolved.condition (same_expression e w i) (same_qualifiers qs head other counts (moved (behind_expression e w.counter) w) same i)
    same_qualifiers (qualifier (let_qualifier a ds) qs) head other counts w same =
        λ i. resolved.bindings (same_block ds (behind_qualifiers qs counts (behind ds w).counter) (inside ds w) (same_members ds None (inside ds w)) i) (same_qualifiers qs head other counts (behind ds w) same i)

    same_alternatives : (bs : Alternatives) (w : Walk) → resolved_alternatives by_steps k bs w ≡ resolved_alternatives tree_joining k bs w
    same_alternatives no_alternative w = refl
    same_alternatives (next_alternative b bs) w =
        let next = moved (behind_alternative b w.counter) w in
        ap (alternative_before by_steps k b w) (same_alternatives bs next) ∙ same_alternative b w (resolved_alternatives tree_joining k bs next)

    same_alternative : (b : Alternative) (w : Walk) (es : resolved.Equations) → alternative_before by_steps k b w es ≡ alternative_before tree_joining k b w es
    same_alternative blank w es = refl
    same_alternative (alternative p r) w es = ap (λ z. equation_before k (first_of_pattern p) (resolved.pattern (resolved_pattern p k (entered (variables p) w).names) resolved.no_pattern) z es) (same_right_side r (entered (variables p) w))

    same_right_side : (r : RightSide) (w : Walk) → resolved_right_side by_steps k r w ≡ resolved_right_side tree_joining k r w
    same_right_side (plain e ds) w = λ i. resolved.plain (same_expression e (behind ds w) i) (same_block ds (behind_expression e (behind ds w).counter) (inside ds w) (same_members ds None (inside ds w)) i)
    same_right_side (guarded a gs ds) w = λ i. resolved.guarded (place_in k.src a) (same_guards gs (behind ds w) i) (same_block ds (behind_guards gs (behind ds w).counter) (inside ds w) (same_members ds None (inside ds w)) i)

    same_guards : (gs : Guards) (w : Walk) → resolved_guards by_steps k gs w ≡ resolved_guards tree_joining k gs w
    same_guards no_guard w = refl
    same_guards (guard e f gs) w = λ i. guard_before (same_expression e w i) (same_expression f (moved (behind_expression e w.counter) w) i) (same_guards gs (moved (behind_expression f (behind_expression e w.counter)) w) i)

    same_members : (ds : Declarations) (b : Option (List ℕ)) (w : Walk) → resolved_members by_steps k ds b w ≡ resolved_members tree_joining k ds b w
    same_members no_declaration b w = refl
    same_members (declaration empty ds) b w = same_members ds b w
    same_members (declaration (signature xs t) ds) b w = same_members ds None w
    same_members (declaration (equation at x ps r) ds) b w =
        let next = moved (behind_declaration (equation at x ps r) w.counter) w in
        let further = same_equation r at ps w (further_equations by_steps k ds (opened x.text ps) next) (further_equations tree_joining k ds (opened x.text ps) next) (same_right_side r (entered (all_variables ps) w)) (same_further ds (opened x.text ps) next) in
        λ i. if goes_on b x.text ps then same_members ds b next i else resolved.named (place_in k.src x.at) (variable_number w.names x) (further i) (same_members ds (opened x.text ps) next i)
    same_members (declaration (binding p r) ds) b w = λ i. resolved.matched (place_in k.src (first_of_pattern p)) (resolved_pattern p k w.names) (same_right_side r w i) (same_members ds None (moved (behind_declaration (binding p r) w.counter) w) i)

    same_further : (ds : Declarations) (b : Option (List ℕ)) (w : Walk) → further_equations by_steps k ds b w ≡ further_equations tree_joining k ds b w
    same_further no_declaration b w = refl
    same_further (declaration empty ds) b w = same_further ds b w
    same_further (declaration (signature xs t) ds) b w = refl
    same_further (declaration (equation at x ps r) ds) b w =
        let next = moved (behind_declaration (equation at x ps r) w.counter) w in
        let further = same_equation r at ps w (further_equations by_steps k ds b next) (further_equations tree_joining k ds b next) (same_right_side r (entered (all_variables ps) w)) (same_further ds b next) in
        λ i. if goes_on b x.text ps then further i else resolved.no_equation
    same_further (declaration (binding p r) ds) b w = refl

  -- ---- the declarations of a text

  same_further_tops : (ts : List Top) (b : Option (List ℕ)) (w : Walk) → further_tops by_steps k ts b w ≡ further_tops tree_joining k ts b w
  same_further_tops [] b w = refl
  same_further_tops (top.Empty ∷ ts) b w = same_further_tops ts b w
  same_further_tops (top.Data d ∷ ts) b w = refl
  same_further_tops (top.Synonym s ∷ ts) b w = refl
  same_further_tops (top.Fixity f ∷ ts) b w = refl
  same_further_tops (top.Signature x xs a t ∷ ts) b w = refl
  same_further_tops (top.Equation h r ∷ ts) b w =
      let next = moved (behind_declared (top.Equation h r) w.counter) w in
      let ps = head_patterns h in
      let further = same_equation (rhs_of r) (first_of_head h) ps w (further_tops by_steps k ts b next) (further_tops tree_joining k ts b next) (same_right_side (rhs_of r) (entered (all_variables ps) w)) (same_further_tops ts b next) in
      λ i. if goes_on b (head_name h).text ps then further i else resolved.no_equation

  pub same_bindings : (ts : List Top) (b : Option (List ℕ)) (w : Walk) → top_bindings by_steps k ts b w ≡ top_bindings tree_joining k ts b w
  same_bindings [] b w = refl
  same_bindings (top.Empty ∷ ts) b w = same_bindings ts b w
  same_bindings (top.Data d ∷ ts) b w = same_bindings ts None w
  same_bindings (top.Synonym s ∷ ts) b w = same_bindings ts None w
  same_bindings (top.Fixity f ∷ ts) b w = same_bindings ts None w
  same_bindings (top.Signature x xs a t ∷ ts) b w = same_bindings ts None w
  same_bindings (top.Equation h r ∷ ts) b w =
      let next = moved (behind_declared (top.Equation h r) w.counter) w in
      let ps = head_patterns h in
      let first = opened (head_name h).text ps in
      let further = same_equation (rhs_of r) (first_of_head h) ps w (further_tops by_steps k ts first next) (further_tops tree_joining k ts first next) (same_right_side (rhs_of r) (entered (all_variables ps) w)) (same_further_tops ts first next) in
      λ i. if goes_on b (head_name h).text ps then same_bindings ts b next i else record { text = (head_name h).text; place = place_in k.src (head_name h).at; equations = further i } ∷ same_bindings ts first next i

-- a prelude and a program
pub same_text : (trees : Bool → List NextOperand → Tree) → AreTrees trees → (ps ts : List Top) (orders : List (List ℕ)) → all_bindings by_steps ps ts orders ≡ all_bindings (by_trees trees) ps ts orders
unfolding all_bindings
same_text trees right ps ts orders =
    λ i. same_bindings trees right (prelude_known ps orders) ps None (prelude_walk ps) i ++ same_bindings trees right (program_known ps ts orders) ts None (program_walk ps ts) i
