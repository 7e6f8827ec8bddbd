-- The bindings at the top that a part of a text uses, by their numbers and in the order of the text.
use Rattle.std.specs.Prelude.{ℕ, List, [], ◌∷◌, ◌++◌}
use Rattle.hdc_resolved.specs.declared.name.Name.{Name}
use Rattle.hdc_resolved.specs.declared.name.Name.TheVariants.{Top, Local, Con, Primitive, Skeleton, Unknown}
use Rattle.hdc_resolved.specs.declared.name.Side.{Side}
use Rattle.hdc_resolved.specs.declared.name.Side.TheVariants.{Left, Right}
use Rattle.hdc_resolved.specs.Syntax.{Expression, literal, name, application, infix_application, negation, section, lambda, if_else, case_of, let_in, row, range, comprehension, Expressions, no_expression, expression, Qualifiers, head_of, condition, generator, bindings, Equations, no_equation, equation, RightSide, plain, guarded, Guards, no_guard, guard, Block, block, Members, no_member, named, matched}

-- a name uses the binding at the top for which it stands, if it stands for one
abbrev pub name_uses : Name → List ℕ
name_uses (Top n) = n ∷ []
name_uses (Local x) = []
name_uses (Con c) = []
name_uses (Primitive p) = []
name_uses (Skeleton kind degree) = []
name_uses Unknown = []

-- a section: what its operator uses, and what its operand does, by the side of the operand
abbrev pub section_uses : Side → List ℕ → List ℕ → List ℕ
section_uses Left operator operand = operand ++ operator
section_uses Right operator operand = operator ++ operand

-- a range and a generator call a function of the prelude, and use its binding
abbrev mutual
  pub expression_uses : Expression → List ℕ
  expression_uses (literal at l) = []
  expression_uses (name u) = name_uses u.name
  expression_uses (application at f e) = expression_uses f ++ expression_uses e
  expression_uses (infix_application at e u f) = expression_uses e ++ (name_uses u.name ++ expression_uses f)
  expression_uses (negation at e) = expression_uses e
  expression_uses (section at side x u e) = section_uses side (name_uses u.name) (expression_uses e)
  expression_uses (lambda at ps e) = expression_uses e
  expression_uses (if_else at c e f) = expression_uses c ++ (expression_uses e ++ expression_uses f)
  expression_uses (case_of at e as') = expression_uses e ++ equations_uses as'
  expression_uses (let_in at b e) = block_uses b ++ expression_uses e
  expression_uses (row at kind es) = expressions_uses es
  expression_uses (range at f e to) = name_uses f ++ (expression_uses e ++ expression_uses to)
  expression_uses (comprehension at q) = head_uses q ++ qualifiers_uses q

  pub expressions_uses : Expressions → List ℕ
  expressions_uses no_expression = []
  expressions_uses (expression e es) = expression_uses e ++ expressions_uses es

  -- the head of a comprehension, which stands before its qualifiers in the text
  pub head_uses : Qualifiers → List ℕ
  head_uses (head_of e) = expression_uses e
  head_uses (condition e q) = head_uses q
  head_uses (generator f p e q) = head_uses q
  head_uses (bindings b q) = head_uses q

  -- the qualifiers without the head
  pub qualifiers_uses : Qualifiers → List ℕ
  qualifiers_uses (head_of e) = []
  qualifiers_uses (condition e q) = expression_uses e ++ qualifiers_uses q
  qualifiers_uses (generator f p e q) = name_uses f ++ (expression_uses e ++ qualifiers_uses q)
  qualifiers_uses (bindings b q) = block_uses b ++ qualifiers_uses q

  pub equations_uses : Equations → List ℕ
  equations_uses no_equation = []
  equations_uses (equation at ps r es) = right_uses r ++ equations_uses es

  pub right_uses : RightSide → List ℕ
  right_uses (plain e b) = expression_uses e ++ block_uses b
  right_uses (guarded at gs b) = guards_uses gs ++ block_uses b

  pub guards_uses : Guards → List ℕ
  guards_uses no_guard = []
  guards_uses (guard e f gs) = expression_uses e ++ (expression_uses f ++ guards_uses gs)

  pub block_uses : Block → List ℕ
  block_uses (block ms signatures order) = members_uses ms

  pub members_uses : Members → List ℕ
  members_uses no_member = []
  members_uses (named at x es ms) = equations_uses es ++ members_uses ms
  members_uses (matched at p r ms) = right_uses r ++ members_uses ms
