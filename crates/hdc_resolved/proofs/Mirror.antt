-- The equations of the plain data, one for each variant.
use Rattle.std.proofs.Common.{◌≡◌, ℕ, List, Option, sym, ap, ◌∙◌}
use Rattle.std.specs.Prelude.{map}
use Rattle.hdc_base.specs.declared.place.Place.{Place}
use Rattle.hdc_resolved.specs.declared.name.Literal.{Literal}
use Rattle.hdc_resolved.specs.declared.name.Constructor.{Constructor}
use Rattle.hdc_resolved.specs.declared.name.Name.{Name}
use Rattle.hdc_resolved.specs.declared.name.RowKind.{RowKind}
use Rattle.hdc_resolved.specs.declared.name.Side.{Side}
use Rattle.hdc_resolved.specs.declared.name.Use.{Use}
use Rattle.hdc_resolved.specs.declared.pattern.Pat.{Pat, Pat-F, fold-roll-Pat}
use Rattle.hdc_resolved.specs.declared.pattern.Pat.TheVariants as p
use Rattle.hdc_resolved.specs.declared.type_exp.Type as T
use Rattle.hdc_resolved.specs.declared.type_exp.Type.{Type-F, fold-roll-Type}
use Rattle.hdc_resolved.specs.declared.type_exp.Type.TheVariants as v
use Rattle.hdc_resolved.specs.declared.expression.Exp.{Exp, Exp-F, fold-roll-Exp}
use Rattle.hdc_resolved.specs.declared.expression.Exp.TheVariants as r
use Rattle.hdc_resolved.specs.declared.expression.Quals.{Quals, Quals-F, fold-roll-Quals}
use Rattle.hdc_resolved.specs.declared.expression.Quals.TheVariants as q
use Rattle.hdc_resolved.specs.declared.expression.Rhs.{Rhs, Rhs-F, fold-roll-Rhs}
use Rattle.hdc_resolved.specs.declared.expression.Rhs.TheVariants as h
use Rattle.hdc_resolved.specs.declared.expression.Member.{Member-F, fold-roll-Member}
use Rattle.hdc_resolved.specs.declared.expression.Member.TheVariants as m
use Rattle.hdc_resolved.specs.declared.expression.Alt.{Alt, fold-roll-Alt, out-Alt, roll-out-Alt}
use Rattle.hdc_resolved.specs.declared.expression.Guard.{Guard, fold-roll-Guard, out-Guard, roll-out-Guard}
use Rattle.hdc_resolved.specs.declared.expression.Block as B
use Rattle.hdc_resolved.specs.declared.expression.Block.{fold-roll-Block, out-Block, roll-out-Block}
use Rattle.hdc_resolved.specs.Syntax.{Pattern, anything, variable, named_as, literal_pattern, built, row_pattern, TypeTree, int_type, char_type, list_type, tuple_type, function_type, data_type, synonym_type, type_variable, unknown_type, Expression, literal, name, application, infix_application, negation, section, lambda, if_else, case_of, let_in, row, range, comprehension, Qualifiers, head_of, condition, generator, bindings, Equations, equation, RightSide, plain, guarded, Guards, guard, Block, block, Members, named, matched}
use Rattle.hdc_resolved.specs.Mirror.{patterns, types, expressions, equations_of, guards_of, members_of, signed_of, pattern_of, pattern_step, type_tree_of, type_step, expression_of, member_of, qualifiers_of, right_of, equation_of, block_of, guard_of, expression_step, member_step, qualifiers_step, right_step, equation_step, block_step, guard_step}

pub pat_any : (at : Place) → pattern_of (p.Any at) ≡ anything at
unfolding pattern_of
pat_any at = ap pattern_of (sym (p.rolls-Any at)) ∙ fold-roll-Pat Pattern pattern_step (Pat-F.Any at)

pub pat_var : (at : Place) (x : ℕ) → pattern_of (p.Var at x) ≡ variable at x
unfolding pattern_of
pat_var at x = ap pattern_of (sym (p.rolls-Var at x)) ∙ fold-roll-Pat Pattern pattern_step (Pat-F.Var at x)

pub pat_as : (at : Place) (x : ℕ) (q : Pat) → pattern_of (p.As at x q) ≡ named_as at x (pattern_of q)
unfolding pattern_of
pat_as at x q = ap pattern_of (sym (p.rolls-As at x q)) ∙ fold-roll-Pat Pattern pattern_step (Pat-F.As at x q)

pub pat_lit : (at : Place) (l : Literal) → pattern_of (p.Lit at l) ≡ literal_pattern at l
unfolding pattern_of
pat_lit at l = ap pattern_of (sym (p.rolls-Lit at l)) ∙ fold-roll-Pat Pattern pattern_step (Pat-F.Lit at l)

pub pat_con : (at own : Place) (c : Option Constructor) (ps : List Pat) → pattern_of (p.Con at own c ps) ≡ built at own c (patterns (map pattern_of ps))
unfolding pattern_of
pat_con at own c ps = ap pattern_of (sym (p.rolls-Con at own c ps)) ∙ fold-roll-Pat Pattern pattern_step (Pat-F.Con at own c ps)

pub pat_row : (at : Place) (k : RowKind) (ps : List Pat) → pattern_of (p.Row at k ps) ≡ row_pattern at k (patterns (map pattern_of ps))
unfolding pattern_of
pat_row at k ps = ap pattern_of (sym (p.rolls-Row at k ps)) ∙ fold-roll-Pat Pattern pattern_step (Pat-F.Row at k ps)

pub type_int : type_tree_of v.Int ≡ int_type
unfolding type_tree_of
type_int = ap type_tree_of (sym v.rolls-Int) ∙ fold-roll-Type TypeTree type_step Type-F.Int

pub type_char : type_tree_of v.Char ≡ char_type
unfolding type_tree_of
type_char = ap type_tree_of (sym v.rolls-Char) ∙ fold-roll-Type TypeTree type_step Type-F.Char

pub type_list : (t : T.Type) → type_tree_of (v.List t) ≡ list_type (type_tree_of t)
unfolding type_tree_of
type_list t = ap type_tree_of (sym (v.rolls-List t)) ∙ fold-roll-Type TypeTree type_step (Type-F.List t)

pub type_tuple : (ts : List T.Type) → type_tree_of (v.Tuple ts) ≡ tuple_type (types (map type_tree_of ts))
unfolding type_tree_of
type_tuple ts = ap type_tree_of (sym (v.rolls-Tuple ts)) ∙ fold-roll-Type TypeTree type_step (Type-F.Tuple ts)

pub type_fun : (a b : T.Type) → type_tree_of (v.Fun a b) ≡ function_type (type_tree_of a) (type_tree_of b)
unfolding type_tree_of
type_fun a b = ap type_tree_of (sym (v.rolls-Fun a b)) ∙ fold-roll-Type TypeTree type_step (Type-F.Fun a b)

pub type_data : (n : ℕ) (ts : List T.Type) → type_tree_of (v.Data n ts) ≡ data_type n (types (map type_tree_of ts))
unfolding type_tree_of
type_data n ts = ap type_tree_of (sym (v.rolls-Data n ts)) ∙ fold-roll-Type TypeTree type_step (Type-F.Data n ts)

pub type_synonym : (n : ℕ) (ts : List T.Type) → type_tree_of (v.Synonym n ts) ≡ synonym_type n (types (map type_tree_of ts))
unfolding type_tree_of
type_synonym n ts = ap type_tree_of (sym (v.rolls-Synonym n ts)) ∙ fold-roll-Type TypeTree type_step (Type-F.Synonym n ts)

pub type_var : (n : ℕ) → type_tree_of (v.Var n) ≡ type_variable n
unfolding type_tree_of
type_var n = ap type_tree_of (sym (v.rolls-Var n)) ∙ fold-roll-Type TypeTree type_step (Type-F.Var n)

pub type_unknown : (ts : List T.Type) → type_tree_of (v.Unknown ts) ≡ unknown_type (types (map type_tree_of ts))
unfolding type_tree_of
type_unknown ts = ap type_tree_of (sym (v.rolls-Unknown ts)) ∙ fold-roll-Type TypeTree type_step (Type-F.Unknown ts)

pub exp_lit : (at : Place) (l : Literal) → expression_of (r.Lit at l) ≡ literal at l
unfolding expression_of member_of qualifiers_of right_of equation_of block_of guard_of
exp_lit at l = ap expression_of (sym (r.rolls-Lit at l)) ∙ fold-roll-Exp Expression (Members → Members) Qualifiers RightSide (Equations → Equations) Block (Guards → Guards) expression_step member_step qualifiers_step right_step equation_step block_step guard_step (Exp-F.Lit at l)

pub exp_name : (u : Use) → expression_of (r.Name u) ≡ name u
unfolding expression_of member_of qualifiers_of right_of equation_of block_of guard_of
exp_name u = ap expression_of (sym (r.rolls-Name u)) ∙ fold-roll-Exp Expression (Members → Members) Qualifiers RightSide (Equations → Equations) Block (Guards → Guards) expression_step member_step qualifiers_step right_step equation_step block_step guard_step (Exp-F.Name u)

pub exp_app : (at : Place) (f : Exp) (x : Exp) → expression_of (r.App at f x) ≡ application at (expression_of f) (expression_of x)
unfolding expression_of member_of qualifiers_of right_of equation_of block_of guard_of
exp_app at f x = ap expression_of (sym (r.rolls-App at f x)) ∙ fold-roll-Exp Expression (Members → Members) Qualifiers RightSide (Equations → Equations) Block (Guards → Guards) expression_step member_step qualifiers_step right_step equation_step block_step guard_step (Exp-F.App at f x)

pub exp_infix : (at : Place) (a : Exp) (u : Use) (b : Exp) → expression_of (r.Infix at a u b) ≡ infix_application at (expression_of a) u (expression_of b)
unfolding expression_of member_of qualifiers_of right_of equation_of block_of guard_of
exp_infix at a u b = ap expression_of (sym (r.rolls-Infix at a u b)) ∙ fold-roll-Exp Expression (Members → Members) Qualifiers RightSide (Equations → Equations) Block (Guards → Guards) expression_step member_step qualifiers_step right_step equation_step block_step guard_step (Exp-F.Infix at a u b)

pub exp_neg : (at : Place) (a : Exp) → expression_of (r.Neg at a) ≡ negation at (expression_of a)
unfolding expression_of member_of qualifiers_of right_of equation_of block_of guard_of
exp_neg at a = ap expression_of (sym (r.rolls-Neg at a)) ∙ fold-roll-Exp Expression (Members → Members) Qualifiers RightSide (Equations → Equations) Block (Guards → Guards) expression_step member_step qualifiers_step right_step equation_step block_step guard_step (Exp-F.Neg at a)

pub exp_section : (at : Place) (side : Side) (x : ℕ) (u : Use) (a : Exp) → expression_of (r.Section at side x u a) ≡ section at side x u (expression_of a)
unfolding expression_of member_of qualifiers_of right_of equation_of block_of guard_of
exp_section at side x u a = ap expression_of (sym (r.rolls-Section at side x u a)) ∙ fold-roll-Exp Expression (Members → Members) Qualifiers RightSide (Equations → Equations) Block (Guards → Guards) expression_step member_step qualifiers_step right_step equation_step block_step guard_step (Exp-F.Section at side x u a)

pub exp_lambda : (at : Place) (ps : List Pat) (a : Exp) → expression_of (r.Lambda at ps a) ≡ lambda at (patterns (map pattern_of ps)) (expression_of a)
unfolding expression_of member_of qualifiers_of right_of equation_of block_of guard_of
exp_lambda at ps a = ap expression_of (sym (r.rolls-Lambda at ps a)) ∙ fold-roll-Exp Expression (Members → Members) Qualifiers RightSide (Equations → Equations) Block (Guards → Guards) expression_step member_step qualifiers_step right_step equation_step block_step guard_step (Exp-F.Lambda at ps a)

pub exp_if : (at : Place) (c : Exp) (a : Exp) (b : Exp) → expression_of (r.If at c a b) ≡ if_else at (expression_of c) (expression_of a) (expression_of b)
unfolding expression_of member_of qualifiers_of right_of equation_of block_of guard_of
exp_if at c a b = ap expression_of (sym (r.rolls-If at c a b)) ∙ fold-roll-Exp Expression (Members → Members) Qualifiers RightSide (Equations → Equations) Block (Guards → Guards) expression_step member_step qualifiers_step right_step equation_step block_step guard_step (Exp-F.If at c a b)

pub exp_case : (at : Place) (a : Exp) (alts : List Alt) → expression_of (r.Case at a alts) ≡ case_of at (expression_of a) (equations_of alts)
unfolding expression_of member_of qualifiers_of right_of equation_of block_of guard_of
exp_case at a alts = ap expression_of (sym (r.rolls-Case at a alts)) ∙ fold-roll-Exp Expression (Members → Members) Qualifiers RightSide (Equations → Equations) Block (Guards → Guards) expression_step member_step qualifiers_step right_step equation_step block_step guard_step (Exp-F.Case at a alts)

pub exp_let : (at : Place) (b : B.Block) (a : Exp) → expression_of (r.Let at b a) ≡ let_in at (block_of b) (expression_of a)
unfolding expression_of member_of qualifiers_of right_of equation_of block_of guard_of
exp_let at b a = ap expression_of (sym (r.rolls-Let at b a)) ∙ fold-roll-Exp Expression (Members → Members) Qualifiers RightSide (Equations → Equations) Block (Guards → Guards) expression_step member_step qualifiers_step right_step equation_step block_step guard_step (Exp-F.Let at b a)

pub exp_row : (at : Place) (k : RowKind) (es : List Exp) → expression_of (r.Row at k es) ≡ row at k (expressions (map expression_of es))
unfolding expression_of member_of qualifiers_of right_of equation_of block_of guard_of
exp_row at k es = ap expression_of (sym (r.rolls-Row at k es)) ∙ fold-roll-Exp Expression (Members → Members) Qualifiers RightSide (Equations → Equations) Block (Guards → Guards) expression_step member_step qualifiers_step right_step equation_step block_step guard_step (Exp-F.Row at k es)

pub exp_range : (at : Place) (x : Name) (a : Exp) (b : Exp) → expression_of (r.Range at x a b) ≡ range at x (expression_of a) (expression_of b)
unfolding expression_of member_of qualifiers_of right_of equation_of block_of guard_of
exp_range at x a b = ap expression_of (sym (r.rolls-Range at x a b)) ∙ fold-roll-Exp Expression (Members → Members) Qualifiers RightSide (Equations → Equations) Block (Guards → Guards) expression_step member_step qualifiers_step right_step equation_step block_step guard_step (Exp-F.Range at x a b)

pub exp_comp : (at : Place) (q : Quals) → expression_of (r.Comp at q) ≡ comprehension at (qualifiers_of q)
unfolding expression_of member_of qualifiers_of right_of equation_of block_of guard_of
exp_comp at q = ap expression_of (sym (r.rolls-Comp at q)) ∙ fold-roll-Exp Expression (Members → Members) Qualifiers RightSide (Equations → Equations) Block (Guards → Guards) expression_step member_step qualifiers_step right_step equation_step block_step guard_step (Exp-F.Comp at q)

pub quals_head : (a : Exp) → qualifiers_of (q.Head a) ≡ head_of (expression_of a)
unfolding expression_of member_of qualifiers_of right_of equation_of block_of guard_of
quals_head a = ap qualifiers_of (sym (q.rolls-Head a)) ∙ fold-roll-Quals Expression (Members → Members) Qualifiers RightSide (Equations → Equations) Block (Guards → Guards) expression_step member_step qualifiers_step right_step equation_step block_step guard_step (Quals-F.Head a)

pub quals_test : (c : Exp) (r : Quals) → qualifiers_of (q.Test c r) ≡ condition (expression_of c) (qualifiers_of r)
unfolding expression_of member_of qualifiers_of right_of equation_of block_of guard_of
quals_test c r = ap qualifiers_of (sym (q.rolls-Test c r)) ∙ fold-roll-Quals Expression (Members → Members) Qualifiers RightSide (Equations → Equations) Block (Guards → Guards) expression_step member_step qualifiers_step right_step equation_step block_step guard_step (Quals-F.Test c r)

pub quals_from : (x : Name) (p : Pat) (a : Exp) (r : Quals) → qualifiers_of (q.From x p a r) ≡ generator x (pattern_of p) (expression_of a) (qualifiers_of r)
unfolding expression_of member_of qualifiers_of right_of equation_of block_of guard_of
quals_from x p a r = ap qualifiers_of (sym (q.rolls-From x p a r)) ∙ fold-roll-Quals Expression (Members → Members) Qualifiers RightSide (Equations → Equations) Block (Guards → Guards) expression_step member_step qualifiers_step right_step equation_step block_step guard_step (Quals-F.From x p a r)

pub quals_bind : (b : B.Block) (r : Quals) → qualifiers_of (q.Bind b r) ≡ bindings (block_of b) (qualifiers_of r)
unfolding expression_of member_of qualifiers_of right_of equation_of block_of guard_of
quals_bind b r = ap qualifiers_of (sym (q.rolls-Bind b r)) ∙ fold-roll-Quals Expression (Members → Members) Qualifiers RightSide (Equations → Equations) Block (Guards → Guards) expression_step member_step qualifiers_step right_step equation_step block_step guard_step (Quals-F.Bind b r)

pub rhs_plain : (a : Exp) (b : B.Block) → right_of (h.Plain a b) ≡ plain (expression_of a) (block_of b)
unfolding expression_of member_of qualifiers_of right_of equation_of block_of guard_of
rhs_plain a b = ap right_of (sym (h.rolls-Plain a b)) ∙ fold-roll-Rhs Expression (Members → Members) Qualifiers RightSide (Equations → Equations) Block (Guards → Guards) expression_step member_step qualifiers_step right_step equation_step block_step guard_step (Rhs-F.Plain a b)

pub rhs_guarded : (at : Place) (gs : List Guard) (b : B.Block) → right_of (h.Guarded at gs b) ≡ guarded at (guards_of gs) (block_of b)
unfolding expression_of member_of qualifiers_of right_of equation_of block_of guard_of
rhs_guarded at gs b = ap right_of (sym (h.rolls-Guarded at gs b)) ∙ fold-roll-Rhs Expression (Members → Members) Qualifiers RightSide (Equations → Equations) Block (Guards → Guards) expression_step member_step qualifiers_step right_step equation_step block_step guard_step (Rhs-F.Guarded at gs b)

pub member_named : (at : Place) (x : ℕ) (alts : List Alt) (z : Members) → member_of (m.Named at x alts) z ≡ named at x (equations_of alts) z
unfolding expression_of member_of qualifiers_of right_of equation_of block_of guard_of
member_named at x alts z = ap (λ w. member_of w z) (sym (m.rolls-Named at x alts)) ∙ ap (λ (f : Members → Members). f z) (fold-roll-Member Expression (Members → Members) Qualifiers RightSide (Equations → Equations) Block (Guards → Guards) expression_step member_step qualifiers_step right_step equation_step block_step guard_step (Member-F.Named at x alts))

pub member_matched : (at : Place) (p : Pat) (r : Rhs) (z : Members) → member_of (m.Matched at p r) z ≡ matched at (pattern_of p) (right_of r) z
unfolding expression_of member_of qualifiers_of right_of equation_of block_of guard_of
member_matched at p r z = ap (λ w. member_of w z) (sym (m.rolls-Matched at p r)) ∙ ap (λ (f : Members → Members). f z) (fold-roll-Member Expression (Members → Members) Qualifiers RightSide (Equations → Equations) Block (Guards → Guards) expression_step member_step qualifiers_step right_step equation_step block_step guard_step (Member-F.Matched at p r))

pub alt_is : (a : Alt) (z : Equations) → equation_of a z ≡ equation (out-Alt a).place (patterns (map pattern_of (out-Alt a).pats)) (right_of (out-Alt a).rhs) z
unfolding expression_of member_of qualifiers_of right_of equation_of block_of guard_of
alt_is a z = ap (λ w. equation_of w z) (sym (roll-out-Alt a)) ∙ ap (λ (f : Equations → Equations). f z) (fold-roll-Alt Expression (Members → Members) Qualifiers RightSide (Equations → Equations) Block (Guards → Guards) expression_step member_step qualifiers_step right_step equation_step block_step guard_step (out-Alt a))

pub guard_is : (a : Guard) (z : Guards) → guard_of a z ≡ guard (expression_of (out-Guard a).test) (expression_of (out-Guard a).body) z
unfolding expression_of member_of qualifiers_of right_of equation_of block_of guard_of
guard_is a z = ap (λ w. guard_of w z) (sym (roll-out-Guard a)) ∙ ap (λ (f : Guards → Guards). f z) (fold-roll-Guard Expression (Members → Members) Qualifiers RightSide (Equations → Equations) Block (Guards → Guards) expression_step member_step qualifiers_step right_step equation_step block_step guard_step (out-Guard a))

pub block_is : (a : B.Block) → block_of a ≡ block (members_of (out-Block a).members) (map signed_of (out-Block a).signatures) (out-Block a).order
unfolding expression_of member_of qualifiers_of right_of equation_of block_of guard_of
block_is a = ap block_of (sym (roll-out-Block a)) ∙ fold-roll-Block Expression (Members → Members) Qualifiers RightSide (Equations → Equations) Block (Guards → Guards) expression_step member_step qualifiers_step right_step equation_step block_step guard_step (out-Block a)

pub ruleset mirrored_patterns = (pat_any, pat_var, pat_as, pat_lit, pat_con, pat_row)

pub ruleset mirrored_types = (type_int, type_char, type_list, type_tuple, type_fun, type_data, type_synonym, type_var, type_unknown)

pub ruleset mirrored = (exp_lit, exp_name, exp_app, exp_infix, exp_neg, exp_section, exp_lambda, exp_if, exp_case, exp_let, exp_row, exp_range, exp_comp, quals_head, quals_test, quals_from, quals_bind, rhs_plain, rhs_guarded, member_named, member_matched, alt_is, guard_is, block_is)
