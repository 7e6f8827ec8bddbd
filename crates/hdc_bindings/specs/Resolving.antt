-- Right sides with operator trees in place of chains, and numbers in place of names.
use Rattle.std.specs.Prelude.{ℕ, suc, ◌-◌, Bool, true, false, List, [], ◌∷◌, ◌++◌, Option, None, if◌then◌else◌}
use Rattle.hdc_base.specs.declared.place.At.{At}
use Rattle.hdc_base.specs.declared.place.Place.{Place}
use Rattle.hdc_resolved.specs.declared.name.RowKind.TheVariants as kind
use Rattle.hdc_resolved.specs.declared.name.Side.TheVariants as side
use Rattle.hdc_resolved.specs.Syntax as resolved
use Rattle.hdc_written.specs.Firsts.{first_of_pattern, first_of_operand}
use Rattle.hdc_written.specs.Written.{variables, all_variables, Expression, chain, Links, no_link, link, Operand, variable, constructor, literal, unit, nil, cons, in_parentheses, tuple, list, range, comprehension, left_section, right_section, applied, lambda, let_in, if_else, case_of, Operands, no_operand, operand, Expressions, no_expression, expression, generator, condition, let_qualifier, Qualifiers, no_qualifier, qualifier, Alternative, blank, alternative, Alternatives, no_alternative, next_alternative, RightSide, plain, guarded, Guards, no_guard, guard, Declaration, empty, signature, equation, binding, Declarations, no_declaration, declaration, all_bound}
use Rattle.hdc_names.specs.Sites.{rest_in}
use Rattle.hdc_resolving.specs.declared.known.Known.{Known}
use Rattle.hdc_resolving.specs.declared.walk.Counter.{Counter}
use Rattle.hdc_resolving.specs.declared.walk.Walk.{Walk}
use Rattle.hdc_resolving.specs.Grouped.{Placed, Joining}
use Rattle.hdc_resolving.specs.Literals.{place_in, literal_of}
use Rattle.hdc_resolving.specs.Locals.{resolved_signature, link_uses}
use Rattle.hdc_resolving.specs.Numbering.{counted, ended, numbered, entered, moved, variable_number}
use Rattle.hdc_resolving.specs.Parts.{block_at}
use Rattle.hdc_resolving.specs.Patterns.{resolved_pattern, resolved_patterns}
use Rattle.hdc_resolving.specs.Standing.{Names, goes_on, opened}
use Rattle.hdc_resolving.specs.Uses.{use_at, cons_use, named_constructor, operator_use, variable_use, takes_degree}

-- ---- what is counted behind a part: the numbers that it takes, and the blocks that end in it

abbrev mutual
  pub behind_expression : Expression → Counter → Counter
  behind_expression (chain ls s a) c = behind_operand a (behind_links ls c)

  pub behind_links : Links → Counter → Counter
  behind_links no_link c = c
  behind_links (link s a o ls) c = behind_links ls (behind_operand a c)

  pub behind_operand : Operand → Counter → Counter
  behind_operand (variable x) c = c
  behind_operand (constructor x) c = c
  behind_operand (literal a l) c = c
  behind_operand (unit a) c = c
  behind_operand (nil a) c = c
  behind_operand (cons a b) c = c
  behind_operand (in_parentheses a e) c = behind_expression e c
  behind_operand (tuple a es) c = behind_expressions es c
  behind_operand (list a es) c = behind_expressions es c
  behind_operand (range a e f) c = behind_expression f (behind_expression e c)
  behind_operand (comprehension a e qs) c = behind_qualifiers qs (behind_expression e) c
  -- the other operand of a section is a parameter with a number
  behind_operand (left_section a e o) c = behind_expression e (counted c)
  behind_operand (right_section a o e) c = behind_expression e (counted c)
  behind_operand (applied f as') c = behind_operands as' (behind_operand f c)
  behind_operand (lambda a ps e) c = behind_expression e (numbered (all_variables ps) c)
  behind_operand (let_in a ds e) c = ended (behind_expression e (behind_declarations ds (numbered (all_bound ds) c)))
  behind_operand (if_else a e f g) c = behind_expression g (behind_expression f (behind_expression e c))
  behind_operand (case_of a e bs) c = behind_alternatives bs (behind_expression e c)

  pub behind_operands : Operands → Counter → Counter
  behind_operands no_operand c = c
  behind_operands (operand a as') c = behind_operands as' (behind_operand a c)

  pub behind_expressions : Expressions → Counter → Counter
  behind_expressions no_expression c = c
  behind_expressions (expression e es) c = behind_expressions es (behind_expression e c)

  -- and their head
  pub behind_qualifiers : Qualifiers → (Counter → Counter) → Counter → Counter
  behind_qualifiers no_qualifier head c = head c
  behind_qualifiers (qualifier (generator p e) qs) head c = behind_qualifiers qs head (numbered (variables p) (behind_expression e c))
  behind_qualifiers (qualifier (condition e) qs) head c = behind_qualifiers qs head (behind_expression e c)
  behind_qualifiers (qualifier (let_qualifier a ds) qs) head c = ended (behind_qualifiers qs head (behind_declarations ds (numbered (all_bound ds) c)))

  pub behind_alternative : Alternative → Counter → Counter
  behind_alternative blank c = c
  behind_alternative (alternative p r) c = behind_right_side r (numbered (variables p) c)

  pub behind_alternatives : Alternatives → Counter → Counter
  behind_alternatives no_alternative c = c
  behind_alternatives (next_alternative b bs) c = behind_alternatives bs (behind_alternative b c)

  pub behind_right_side : RightSide → Counter → Counter
  behind_right_side (plain e ds) c = ended (behind_expression e (behind_declarations ds (numbered (all_bound ds) c)))
  behind_right_side (guarded a gs ds) c = ended (behind_guards gs (behind_declarations ds (numbered (all_bound ds) c)))

  pub behind_guards : Guards → Counter → Counter
  behind_guards no_guard c = c
  behind_guards (guard e f gs) c = behind_guards gs (behind_expression f (behind_expression e c))

  pub behind_declaration : Declaration → Counter → Counter
  behind_declaration empty c = c
  behind_declaration (signature xs t) c = c
  behind_declaration (equation at x ps r) c = behind_right_side r (numbered (all_variables ps) c)
  behind_declaration (binding p r) c = behind_right_side r c

  pub behind_declarations : Declarations → Counter → Counter
  behind_declarations no_declaration c = c
  behind_declarations (declaration d ds) c = behind_declarations ds (behind_declaration d c)

-- ---- blocks

-- for each declaration the place of its binding among those of the block; the next binding has this one
abbrev pub homes : Declarations → Option (List ℕ) → ℕ → List ℕ
homes no_declaration b n = []
homes (declaration empty ds) b n = n ∷ homes ds b n
homes (declaration (signature xs t) ds) b n = n ∷ homes ds None n
homes (declaration (equation at x ps r) ds) b n = if goes_on b x.text ps then (n - 1) ∷ homes ds b n else n ∷ homes ds (opened x.text ps) (suc n)
homes (declaration (binding p r) ds) b n = n ∷ homes ds None (suc n)

abbrev pub resolved_signatures : Declarations → Known → Names → List resolved.Signed
resolved_signatures no_declaration k names = []
resolved_signatures (declaration empty ds) k names = resolved_signatures ds k names
resolved_signatures (declaration (signature xs t) ds) k names = resolved_signature k names xs t ∷ resolved_signatures ds k names
resolved_signatures (declaration (equation at x ps r) ds) k names = resolved_signatures ds k names
resolved_signatures (declaration (binding p r) ds) k names = resolved_signatures ds k names

-- what is in scope behind the declarations of a block, and in them
abbrev pub inside : Declarations → Walk → Walk
inside ds w = entered (all_bound ds) w

abbrev pub behind : Declarations → Walk → Walk
behind ds w = moved (behind_declarations ds (inside ds w).counter) (inside ds w)

-- the block of declarations whose bindings are these; so many blocks have ended before it
abbrev pub block_of : Known → Declarations → resolved.Members → Names → Counter → resolved.Block
block_of k ds ms names c = block_at k c (record { members = ms; signatures = resolved_signatures ds k names; homes = homes ds None 0 })

-- an equation or an alternative that begins here, with these patterns and this right side, before others
abbrev pub equation_before : Known → At → resolved.Patterns → resolved.RightSide → resolved.Equations → resolved.Equations
equation_before k at ps r = resolved.equation (place_in k.src at) ps r

-- a condition and what it guards, before others
abbrev pub guard_before : resolved.Expression → resolved.Expression → resolved.Guards → resolved.Guards
guard_before e f = resolved.guard e f

-- ---- functions and their arguments

-- a function before its arguments: a variable knows them
abbrev pub head_before : Operand → resolved.Expression → Operands → Known → Names → resolved.Expression
head_before (variable x) e as' k names = resolved.name (variable_use x as' k names)
head_before (constructor c) e as' k names = e
head_before (literal a l) e as' k names = e
head_before (unit a) e as' k names = e
head_before (nil a) e as' k names = e
head_before (cons a b) e as' k names = e
head_before (in_parentheses a f) e as' k names = e
head_before (tuple a es) e as' k names = e
head_before (list a es) e as' k names = e
head_before (range a f g) e as' k names = e
head_before (comprehension a f qs) e as' k names = e
head_before (left_section a f o) e as' k names = e
head_before (right_section a o f) e as' k names = e
head_before (applied f bs) e as' k names = e
head_before (lambda a ps f) e as' k names = e
head_before (let_in a ds f) e as' k names = e
head_before (if_else a f g h) e as' k names = e
head_before (case_of a f bs) e as' k names = e

-- whether the first of these arguments is the degree of the function before them
abbrev pub skips_degree : Operand → Operands → Known → Names → Bool
skips_degree (variable x) as' k names = takes_degree (variable_use x as' k names).name
skips_degree (constructor c) as' k names = false
skips_degree (literal a l) as' k names = false
skips_degree (unit a) as' k names = false
skips_degree (nil a) as' k names = false
skips_degree (cons a b) as' k names = false
skips_degree (in_parentheses a f) as' k names = false
skips_degree (tuple a es) as' k names = false
skips_degree (list a es) as' k names = false
skips_degree (range a f g) as' k names = false
skips_degree (comprehension a f qs) as' k names = false
skips_degree (left_section a f o) as' k names = false
skips_degree (right_section a o f) as' k names = false
skips_degree (applied f bs) as' k names = false
skips_degree (lambda a ps f) as' k names = false
skips_degree (let_in a ds f) as' k names = false
skips_degree (if_else a f g h) as' k names = false
skips_degree (case_of a f bs) as' k names = false

-- a function, which begins here, and one argument, unless this is the degree that the function has taken
abbrev pub applied_unless : Bool → Place → resolved.Expression → resolved.Expression → resolved.Expression
applied_unless true p e x = e
applied_unless false p e x = resolved.application p e x

module _ (join : Joining) (k : Known) where
  -- ---- expressions

  abbrev mutual
    pub resolved_expression : Expression → Walk → resolved.Expression
    resolved_expression (chain ls s a) w = (join k.src (chain ls s a) (rest_in w.fixities (chain ls s a)) (link_uses ls k w.names) (placed_before ls w ++ (record { at = first_of_operand a; what = resolved_operand a (moved (behind_links ls w.counter) w) } ∷ []))).what

    -- the operands of a chain before its last
    pub placed_before : Links → Walk → List Placed
    placed_before no_link w = []
    placed_before (link s a o ls) w = record { at = first_of_operand a; what = resolved_operand a w } ∷ placed_before ls (moved (behind_operand a w.counter) w)

    pub resolved_operand : Operand → Walk → resolved.Expression
    resolved_operand (variable x) w = resolved.name (variable_use x no_operand k w.names)
    resolved_operand (constructor c) w = resolved.name (use_at k.src c.at c.at (named_constructor k c))
    resolved_operand (literal a l) w = resolved.literal (place_in k.src a) (literal_of l)
    resolved_operand (unit a) w = resolved.row (place_in k.src a) kind.OfTuple resolved.no_expression
    resolved_operand (nil a) w = resolved.row (place_in k.src a) kind.OfList resolved.no_expression
    resolved_operand (cons a b) w = resolved.name (cons_use k a b)
    resolved_operand (in_parentheses a e) w = resolved_expression e w
    resolved_operand (tuple a es) w = resolved.row (place_in k.src a) kind.OfTuple (resolved_expressions es w)
    resolved_operand (list a es) w = resolved.row (place_in k.src a) kind.OfList (resolved_expressions es w)
    resolved_operand (range a e f) w = resolved.range (place_in k.src a) k.range (resolved_expression e w) (resolved_expression f (moved (behind_expression e w.counter) w))
    resolved_operand (comprehension a e qs) w = resolved.comprehension (place_in k.src a) (resolved_qualifiers qs (resolved_expression e) (behind_expression e) w)
    resolved_operand (left_section a e o) w = resolved.section (place_in k.src a) side.Left w.counter.numbers (operator_use o k w.names) (resolved_expression e (moved (counted w.counter) w))
    resolved_operand (right_section a o e) w = resolved.section (place_in k.src a) side.Right w.counter.numbers (operator_use o k w.names) (resolved_expression e (moved (counted w.counter) w))
    resolved_operand (applied f as') w = applied_to as' (skips_degree f as' k w.names) (place_in k.src (first_of_operand f)) (head_before f (resolved_operand f w) as' k w.names) (moved (behind_operand f w.counter) w)
    resolved_operand (lambda a ps e) w = resolved.lambda (place_in k.src a) (resolved_patterns ps k (entered (all_variables ps) w).names) (resolved_expression e (entered (all_variables ps) w))
    resolved_operand (let_in a ds e) w = resolved.let_in (place_in k.src a) (block_of k ds (resolved_members ds None (inside ds w)) (inside ds w).names (behind_expression e (behind ds w).counter)) (resolved_expression e (behind ds w))
    resolved_operand (if_else a e f g) w = resolved.if_else (place_in k.src a) (resolved_expression e w) (resolved_expression f (moved (behind_expression e w.counter) w)) (resolved_expression g (moved (behind_expression f (behind_expression e w.counter)) w))
    resolved_operand (case_of a e bs) w = resolved.case_of (place_in k.src a) (resolved_expression e w) (resolved_alternatives bs (moved (behind_expression e w.counter) w))

    -- a function, which begins here, and its arguments, of which the first may be a degree
    pub applied_to : Operands → Bool → Place → resolved.Expression → Walk → resolved.Expression
    applied_to no_operand skip p e w = e
    applied_to (operand a as') skip p e w = applied_to as' false p (applied_unless skip p e (resolved_operand a w)) (moved (behind_operand a w.counter) w)

    pub resolved_expressions : Expressions → Walk → resolved.Expressions
    resolved_expressions no_expression w = resolved.no_expression
    resolved_expressions (expression e es) w = resolved.expression (resolved_expression e w) (resolved_expressions es (moved (behind_expression e w.counter) w))

    -- qualifiers, and their head
    pub resolved_qualifiers : Qualifiers → (Walk → resolved.Expression) → (Counter → Counter) → Walk → resolved.Qualifiers
    resolved_qualifiers no_qualifier head counts w = resolved.head_of (head w)
    resolved_qualifiers (qualifier (generator p e) qs) head counts w =
        resolved.generator k.generator (resolved_pattern p k (entered (variables p) (moved (behind_expression e w.counter) w)).names) (resolved_expression e w) (resolved_qualifiers qs head counts (entered (variables p) (moved (behind_expression e w.counter) w)))
    resolved_qualifiers (qualifier (condition e) qs) head counts w = resolved.condition (resolved_expression e w) (resolved_qualifiers qs head counts (moved (behind_expression e w.counter) w))
    resolved_qualifiers (qualifier (let_qualifier a ds) qs) head counts w = resolved.bindings (block_of k ds (resolved_members ds None (inside ds w)) (inside ds w).names (behind_qualifiers qs counts (behind ds w).counter)) (resolved_qualifiers qs head counts (behind ds w))

    pub resolved_alternatives : Alternatives → Walk → resolved.Equations
    resolved_alternatives no_alternative w = resolved.no_equation
    resolved_alternatives (next_alternative b bs) w = alternative_before b w (resolved_alternatives bs (moved (behind_alternative b w.counter) w))

    -- an alternative before others; a blank one is none
    pub alternative_before : Alternative → Walk → resolved.Equations → resolved.Equations
    alternative_before blank w es = es
    alternative_before (alternative p r) w es = equation_before k (first_of_pattern p) (resolved.pattern (resolved_pattern p k (entered (variables p) w).names) resolved.no_pattern) (resolved_right_side r (entered (variables p) w)) es

    pub resolved_right_side : RightSide → Walk → resolved.RightSide
    resolved_right_side (plain e ds) w = resolved.plain (resolved_expression e (behind ds w)) (block_of k ds (resolved_members ds None (inside ds w)) (inside ds w).names (behind_expression e (behind ds w).counter))
    resolved_right_side (guarded a gs ds) w = resolved.guarded (place_in k.src a) (resolved_guards gs (behind ds w)) (block_of k ds (resolved_members ds None (inside ds w)) (inside ds w).names (behind_guards gs (behind ds w).counter))

    pub resolved_guards : Guards → Walk → resolved.Guards
    resolved_guards no_guard w = resolved.no_guard
    resolved_guards (guard e f gs) w = guard_before (resolved_expression e w) (resolved_expression f (moved (behind_expression e w.counter) w)) (resolved_guards gs (moved (behind_expression f (behind_expression e w.counter)) w))

    -- the bindings of a block: adjacent equations of a function are one, and an equation may go on with the one before
    pub resolved_members : Declarations → Option (List ℕ) → Walk → resolved.Members
    resolved_members no_declaration b w = resolved.no_member
    resolved_members (declaration empty ds) b w = resolved_members ds b w
    resolved_members (declaration (signature xs t) ds) b w = resolved_members ds None w
    resolved_members (declaration (equation at x ps r) ds) b w =
        if goes_on b x.text ps
        then resolved_members ds b (moved (behind_declaration (equation at x ps r) w.counter) w)
        else resolved.named (place_in k.src x.at) (variable_number w.names x) (equation_before k at (resolved_patterns ps k (entered (all_variables ps) w).names) (resolved_right_side r (entered (all_variables ps) w)) (further_equations ds (opened x.text ps) (moved (behind_declaration (equation at x ps r) w.counter) w))) (resolved_members ds (opened x.text ps) (moved (behind_declaration (equation at x ps r) w.counter) w))
    resolved_members (declaration (binding p r) ds) b w = resolved.matched (place_in k.src (first_of_pattern p)) (resolved_pattern p k w.names) (resolved_right_side r w) (resolved_members ds None (moved (behind_declaration (binding p r) w.counter) w))

    -- the equations that go on with the one before
    pub further_equations : Declarations → Option (List ℕ) → Walk → resolved.Equations
    further_equations no_declaration b w = resolved.no_equation
    further_equations (declaration empty ds) b w = further_equations ds b w
    further_equations (declaration (signature xs t) ds) b w = resolved.no_equation
    further_equations (declaration (equation at x ps r) ds) b w = if goes_on b x.text ps then equation_before k at (resolved_patterns ps k (entered (all_variables ps) w).names) (resolved_right_side r (entered (all_variables ps) w)) (further_equations ds b (moved (behind_declaration (equation at x ps r) w.counter) w)) else resolved.no_equation
    further_equations (declaration (binding p r) ds) b w = resolved.no_equation
