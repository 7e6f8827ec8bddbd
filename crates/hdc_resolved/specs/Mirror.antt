-- The trees in memory as plain data.
use Rattle.std.specs.Prelude.{List, [], ◌∷◌, map}
use Rattle.hdc_resolved.specs.declared.pattern.Pat.{Pat, Pat-F, fold-Pat}
use Rattle.hdc_resolved.specs.declared.type_exp.Type as T
use Rattle.hdc_resolved.specs.declared.type_exp.Type.{Type-F, fold-Type}
use Rattle.hdc_resolved.specs.declared.expression.Exp.{Exp, Exp-F, fold-Exp}
use Rattle.hdc_resolved.specs.declared.expression.Quals.{Quals, Quals-F, fold-Quals}
use Rattle.hdc_resolved.specs.declared.expression.Alt.{Alt, Alt-F, fold-Alt}
use Rattle.hdc_resolved.specs.declared.expression.Rhs.{Rhs, Rhs-F, fold-Rhs}
use Rattle.hdc_resolved.specs.declared.expression.Guard.{Guard, Guard-F, fold-Guard}
use Rattle.hdc_resolved.specs.declared.expression.Block as B
use Rattle.hdc_resolved.specs.declared.expression.Block.{Block-F, fold-Block}
use Rattle.hdc_resolved.specs.declared.expression.Member.{Member, Member-F, fold-Member}
use Rattle.hdc_resolved.specs.declared.expression.Signature.{Signature}
use Rattle.hdc_resolved.specs.declared.program.Decl.{Decl}
use Rattle.hdc_resolved.specs.declared.program.Synonym.{Synonym}
use Rattle.hdc_resolved.specs.Syntax.{Pattern, anything, variable, named_as, literal_pattern, built, row_pattern, Patterns, no_pattern, pattern, TypeTree, int_type, char_type, list_type, tuple_type, function_type, data_type, synonym_type, type_variable, unknown_type, TypeTrees, no_type, next_type, Signed, Expression, literal, name, application, infix_application, negation, section, lambda, if_else, case_of, let_in, row, range, comprehension, Expressions, no_expression, expression, Qualifiers, head_of, condition, generator, bindings, Equations, no_equation, equation, RightSide, plain, guarded, Guards, no_guard, guard, Block, block, Members, no_member, named, matched, Binding, SynonymOf}

-- ---- patterns

abbrev pub patterns : List Pattern → Patterns
patterns [] = no_pattern
patterns (p ∷ ps) = pattern p (patterns ps)

abbrev pub pattern_step : Pat-F Pattern → Pattern
pattern_step (Pat-F.Any at) = anything at
pattern_step (Pat-F.Var at x) = variable at x
pattern_step (Pat-F.As at x p) = named_as at x p
pattern_step (Pat-F.Lit at l) = literal_pattern at l
pattern_step (Pat-F.Con at own c ps) = built at own c (patterns ps)
pattern_step (Pat-F.Row at kind ps) = row_pattern at kind (patterns ps)

unfoldable pub pattern_of : Pat → Pattern
pattern_of = fold-Pat Pattern pattern_step

-- ---- types

abbrev pub types : List TypeTree → TypeTrees
types [] = no_type
types (t ∷ ts) = next_type t (types ts)

abbrev pub type_step : Type-F TypeTree → TypeTree
type_step Type-F.Int = int_type
type_step Type-F.Char = char_type
type_step (Type-F.List t) = list_type t
type_step (Type-F.Tuple ts) = tuple_type (types ts)
type_step (Type-F.Fun a b) = function_type a b
type_step (Type-F.Data n ts) = data_type n (types ts)
type_step (Type-F.Synonym n ts) = synonym_type n (types ts)
type_step (Type-F.Var n) = type_variable n
type_step (Type-F.Unknown ts) = unknown_type (types ts)

unfoldable pub type_tree_of : T.Type → TypeTree
type_tree_of = fold-Type TypeTree type_step

abbrev pub signed_of : Signature → Signed
signed_of s = record { names = s.names; type_of = type_tree_of s.ty }

-- ---- expressions: a list of parts becomes a chain of them

abbrev pub chain : {A : Type 0} → List (A → A) → A → A
chain [] end = end
chain (f ∷ fs) end = f (chain fs end)

abbrev pub expressions : List Expression → Expressions
expressions [] = no_expression
expressions (e ∷ es) = expression e (expressions es)

abbrev pub expression_step : Exp-F Expression (Members → Members) Qualifiers RightSide (Equations → Equations) Block (Guards → Guards) → Expression
expression_step (Exp-F.Lit at l) = literal at l
expression_step (Exp-F.Name u) = name u
expression_step (Exp-F.App at f x) = application at f x
expression_step (Exp-F.Infix at a u b) = infix_application at a u b
expression_step (Exp-F.Neg at e) = negation at e
expression_step (Exp-F.Section at side x u e) = section at side x u e
expression_step (Exp-F.Lambda at ps e) = lambda at (patterns (map pattern_of ps)) e
expression_step (Exp-F.If at c a b) = if_else at c a b
expression_step (Exp-F.Case at e alts) = case_of at e (chain alts no_equation)
expression_step (Exp-F.Let at b e) = let_in at b e
expression_step (Exp-F.Row at kind es) = row at kind (expressions es)
expression_step (Exp-F.Range at x a b) = range at x a b
expression_step (Exp-F.Comp at q) = comprehension at q

abbrev pub member_step : Member-F Expression (Members → Members) Qualifiers RightSide (Equations → Equations) Block (Guards → Guards) → Members → Members
member_step (Member-F.Named at x alts) ms = named at x (chain alts no_equation) ms
member_step (Member-F.Matched at p r) ms = matched at (pattern_of p) r ms

abbrev pub qualifiers_step : Quals-F Expression (Members → Members) Qualifiers RightSide (Equations → Equations) Block (Guards → Guards) → Qualifiers
qualifiers_step (Quals-F.Head e) = head_of e
qualifiers_step (Quals-F.Test c q) = condition c q
qualifiers_step (Quals-F.From x p e q) = generator x (pattern_of p) e q
qualifiers_step (Quals-F.Bind b q) = bindings b q

abbrev pub right_step : Rhs-F Expression (Members → Members) Qualifiers RightSide (Equations → Equations) Block (Guards → Guards) → RightSide
right_step (Rhs-F.Plain e b) = plain e b
right_step (Rhs-F.Guarded at gs b) = guarded at (chain gs no_guard) b

abbrev pub equation_step : Alt-F Expression (Members → Members) Qualifiers RightSide (Equations → Equations) Block (Guards → Guards) → Equations → Equations
equation_step a es = equation a.place (patterns (map pattern_of a.pats)) a.rhs es

abbrev pub block_step : Block-F Expression (Members → Members) Qualifiers RightSide (Equations → Equations) Block (Guards → Guards) → Block
block_step b = block (chain b.members no_member) (map signed_of b.signatures) b.order

abbrev pub guard_step : Guard-F Expression (Members → Members) Qualifiers RightSide (Equations → Equations) Block (Guards → Guards) → Guards → Guards
guard_step g gs = guard g.test g.body gs

unfoldable pub expression_of : Exp → Expression
expression_of = fold-Exp Expression (Members → Members) Qualifiers RightSide (Equations → Equations) Block (Guards → Guards) expression_step member_step qualifiers_step right_step equation_step block_step guard_step

unfoldable pub equation_of : Alt → Equations → Equations
equation_of = fold-Alt Expression (Members → Members) Qualifiers RightSide (Equations → Equations) Block (Guards → Guards) expression_step member_step qualifiers_step right_step equation_step block_step guard_step

unfoldable pub block_of : B.Block → Block
block_of = fold-Block Expression (Members → Members) Qualifiers RightSide (Equations → Equations) Block (Guards → Guards) expression_step member_step qualifiers_step right_step equation_step block_step guard_step

unfoldable pub qualifiers_of : Quals → Qualifiers
qualifiers_of = fold-Quals Expression (Members → Members) Qualifiers RightSide (Equations → Equations) Block (Guards → Guards) expression_step member_step qualifiers_step right_step equation_step block_step guard_step

unfoldable pub right_of : Rhs → RightSide
right_of = fold-Rhs Expression (Members → Members) Qualifiers RightSide (Equations → Equations) Block (Guards → Guards) expression_step member_step qualifiers_step right_step equation_step block_step guard_step

unfoldable pub guard_of : Guard → Guards → Guards
guard_of = fold-Guard Expression (Members → Members) Qualifiers RightSide (Equations → Equations) Block (Guards → Guards) expression_step member_step qualifiers_step right_step equation_step block_step guard_step

unfoldable pub member_of : Member → Members → Members
member_of = fold-Member Expression (Members → Members) Qualifiers RightSide (Equations → Equations) Block (Guards → Guards) expression_step member_step qualifiers_step right_step equation_step block_step guard_step

abbrev pub equations_of : List Alt → Equations
equations_of alts = chain (map equation_of alts) no_equation

abbrev pub guards_of : List Guard → Guards
guards_of gs = chain (map guard_of gs) no_guard

abbrev pub members_of : List Member → Members
members_of ms = chain (map member_of ms) no_member

-- ---- the top

abbrev pub binding_of : Decl → Binding
binding_of d = record { text = d.name; place = d.place; equations = equations_of d.equations }

abbrev pub synonym_of : Synonym → SynonymOf
synonym_of s = record { text = s.name; params = s.params; meaning = type_tree_of s.meaning }
