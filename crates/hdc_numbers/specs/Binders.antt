-- Resolved trees in which no part binds a number that is bound around it.
use Rattle.std.specs.Prelude.{◌≢◌, ℕ, List, [], ◌∷◌, ◌++◌}
use Rattle.std.specs.List.{AllByRecursion}
use Rattle.hdc_resolved.specs.Syntax.{Pattern, anything, variable, named_as, literal_pattern, built, row_pattern, Patterns, no_pattern, pattern, Expression, literal, name, application, infix_application, negation, section, lambda, if_else, case_of, let_in, row, range, comprehension, Expressions, no_expression, expression, Qualifiers, head_of, condition, generator, bindings, Equations, no_equation, equation, RightSide, plain, guarded, Guards, no_guard, guard, Block, block, Members, no_member, named, matched, Binding}

-- ---- the numbers that a part binds

abbrev mutual
  pub pattern_numbers : Pattern → List ℕ
  pattern_numbers (anything a) = []
  pattern_numbers (variable a x) = x ∷ []
  pattern_numbers (named_as a x p) = x ∷ pattern_numbers p
  pattern_numbers (literal_pattern a l) = []
  pattern_numbers (built a b c ps) = patterns_numbers ps
  pattern_numbers (row_pattern a k ps) = patterns_numbers ps

  pub patterns_numbers : Patterns → List ℕ
  patterns_numbers no_pattern = []
  patterns_numbers (pattern p ps) = pattern_numbers p ++ patterns_numbers ps

abbrev pub members_numbers : Members → List ℕ
members_numbers no_member = []
members_numbers (named a x es ms) = x ∷ members_numbers ms
members_numbers (matched a p r ms) = pattern_numbers p ++ members_numbers ms

abbrev pub block_numbers : Block → List ℕ
block_numbers (block ms ss order) = members_numbers ms

-- ---- numbers that are none of others

abbrev pub IsNew : List ℕ → ℕ → Type 0
IsNew around n = AllByRecursion (λ m. n ≢ m) around

abbrev pub AreNew : List ℕ → List ℕ → Type 0
AreNew around ns = AllByRecursion (IsNew around) ns

-- ---- where these numbers are bound around a part, it binds none of them, nor one that it has bound around

abbrev mutual
  pub BindsAnew : List ℕ → Expression → Type 0
  BindsAnew around (literal a l) = Unit {0}
  BindsAnew around (name u) = Unit {0}
  BindsAnew around (application a f x) = BindsAnew around f × BindsAnew around x
  BindsAnew around (infix_application a l u r) = BindsAnew around l × BindsAnew around r
  BindsAnew around (negation a e) = BindsAnew around e
  BindsAnew around (section a s x u e) = IsNew around x × BindsAnew (x ∷ around) e
  BindsAnew around (lambda a ps e) = AreNew around (patterns_numbers ps) × BindsAnew (patterns_numbers ps ++ around) e
  BindsAnew around (if_else a c t e) = BindsAnew around c × (BindsAnew around t × BindsAnew around e)
  BindsAnew around (case_of a e es) = BindsAnew around e × EquationsBindAnew around es
  BindsAnew around (let_in a b e) = BlockBindsAnew around b × BindsAnew (block_numbers b ++ around) e
  BindsAnew around (row a k es) = EachBindsAnew around es
  BindsAnew around (range a n e f) = BindsAnew around e × BindsAnew around f
  BindsAnew around (comprehension a qs) = QualifiersBindAnew around qs

  pub EachBindsAnew : List ℕ → Expressions → Type 0
  EachBindsAnew around no_expression = Unit {0}
  EachBindsAnew around (expression e es) = BindsAnew around e × EachBindsAnew around es

  pub QualifiersBindAnew : List ℕ → Qualifiers → Type 0
  QualifiersBindAnew around (head_of e) = BindsAnew around e
  QualifiersBindAnew around (condition e qs) = BindsAnew around e × QualifiersBindAnew around qs
  QualifiersBindAnew around (generator n p e qs) = BindsAnew around e × (AreNew around (pattern_numbers p) × QualifiersBindAnew (pattern_numbers p ++ around) qs)
  QualifiersBindAnew around (bindings b qs) = BlockBindsAnew around b × QualifiersBindAnew (block_numbers b ++ around) qs

  pub EquationsBindAnew : List ℕ → Equations → Type 0
  EquationsBindAnew around no_equation = Unit {0}
  EquationsBindAnew around (equation a ps r es) = AreNew around (patterns_numbers ps) × (RightSideBindsAnew (patterns_numbers ps ++ around) r × EquationsBindAnew around es)

  pub RightSideBindsAnew : List ℕ → RightSide → Type 0
  RightSideBindsAnew around (plain e b) = BlockBindsAnew around b × BindsAnew (block_numbers b ++ around) e
  RightSideBindsAnew around (guarded a gs b) = BlockBindsAnew around b × GuardsBindAnew (block_numbers b ++ around) gs

  pub GuardsBindAnew : List ℕ → Guards → Type 0
  GuardsBindAnew around no_guard = Unit {0}
  GuardsBindAnew around (guard e f gs) = BindsAnew around e × (BindsAnew around f × GuardsBindAnew around gs)

  pub BlockBindsAnew : List ℕ → Block → Type 0
  BlockBindsAnew around (block ms ss order) = AreNew around (members_numbers ms) × MembersBindAnew (members_numbers ms ++ around) ms

  pub MembersBindAnew : List ℕ → Members → Type 0
  MembersBindAnew around no_member = Unit {0}
  MembersBindAnew around (named a x es ms) = EquationsBindAnew around es × MembersBindAnew around ms
  MembersBindAnew around (matched a p r ms) = RightSideBindsAnew around r × MembersBindAnew around ms

-- around the bindings at the top no number is bound
abbrev pub AllBindAnew : List Binding → Type 0
AllBindAnew bs = AllByRecursion (λ (b : Binding). EquationsBindAnew [] b.equations) bs
