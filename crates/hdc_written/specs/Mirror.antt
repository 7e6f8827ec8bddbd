-- The written program that a tree in memory holds, one clause for each production.
use Rattle.std.specs.Prelude.{List, [], ◌∷◌}
use Rattle.hdc_base.specs.declared.place.At.{At}
use Rattle.hdc_tree.specs.declared.name.CommaVar.{CommaVar}
use Rattle.hdc_tree.specs.declared.name.Name.{Name}
use Rattle.hdc_tree.specs.declared.name.Var.{Var}
use Rattle.hdc_tree.specs.declared.name.Var.TheVariants as var
use Rattle.hdc_tree.specs.declared.name.VarOp.{VarOp}
use Rattle.hdc_tree.specs.declared.name.VarOp.TheVariants as var_op
use Rattle.hdc_tree.specs.declared.head.Head.{Head}
use Rattle.hdc_tree.specs.declared.head.Head.TheVariants as head
use Rattle.hdc_tree.specs.declared.program.NextTop.{NextTop}
use Rattle.hdc_tree.specs.declared.program.Top.{Top}
use Rattle.hdc_tree.specs.declared.program.Tree.{Tree}
use Rattle.hdc_tree.specs.declared.name.Op.{Op}
use Rattle.hdc_tree.specs.declared.name.Sign.{Sign}
use Rattle.hdc_tree.specs.declared.pattern.Apat.{Apat, Apat-F, fold-Apat}
use Rattle.hdc_tree.specs.declared.pattern.LeftPat.{LeftPat, LeftPat-F, fold-LeftPat}
use Rattle.hdc_tree.specs.declared.pattern.CommaPat.{CommaPat, CommaPat-F, fold-CommaPat}
use Rattle.hdc_tree.specs.declared.pattern.ConsPat.{ConsPat, ConsPat-F, fold-ConsPat}
use Rattle.hdc_tree.specs.declared.pattern.Pat.{Pat, Pat-F, fold-Pat}
use Rattle.hdc_tree.specs.declared.expression.Aexp.{Aexp, Aexp-F, fold-Aexp}
use Rattle.hdc_tree.specs.declared.expression.Alt.{Alt, Alt-F, fold-Alt}
use Rattle.hdc_tree.specs.declared.expression.Decl.{Decl, Decl-F, fold-Decl}
use Rattle.hdc_tree.specs.declared.expression.ListExp.{ListExp, ListExp-F, fold-ListExp}
use Rattle.hdc_tree.specs.declared.expression.Operand.{Operand, Operand-F, fold-Operand}
use Rattle.hdc_tree.specs.declared.expression.Qual.{Qual, Qual-F, fold-Qual}
use Rattle.hdc_tree.specs.declared.expression.Rhs.{Rhs, Rhs-F, fold-Rhs}
use Rattle.hdc_tree.specs.declared.expression.Where.{Where, Where-F, fold-Where}
use Rattle.hdc_tree.specs.declared.expression.Alts.{Alts, Alts-F, fold-Alts}
use Rattle.hdc_tree.specs.declared.expression.Apply.{Apply, Apply-F, fold-Apply}
use Rattle.hdc_tree.specs.declared.expression.ArrowGuard.{ArrowGuard, ArrowGuard-F, fold-ArrowGuard}
use Rattle.hdc_tree.specs.declared.expression.Block.{Block, Block-F, fold-Block}
use Rattle.hdc_tree.specs.declared.expression.CommaExp.{CommaExp, CommaExp-F, fold-CommaExp}
use Rattle.hdc_tree.specs.declared.expression.CommaQual.{CommaQual, CommaQual-F, fold-CommaQual}
use Rattle.hdc_tree.specs.declared.expression.EqualGuard.{EqualGuard, EqualGuard-F, fold-EqualGuard}
use Rattle.hdc_tree.specs.declared.expression.Exp.{Exp, Exp-F, fold-Exp}
use Rattle.hdc_tree.specs.declared.expression.Link.{Link, Link-F, fold-Link}
use Rattle.hdc_tree.specs.declared.expression.NextAlt.{NextAlt, NextAlt-F, fold-NextAlt}
use Rattle.hdc_tree.specs.declared.expression.NextDecl.{NextDecl, NextDecl-F, fold-NextDecl}
use Rattle.hdc_written.specs.TypeMirror.{type_exp_of}
use Rattle.hdc_written.specs.Firsts.{first_of_var, first_of_pattern}
use Rattle.hdc_written.specs.Written as written
use Rattle.hdc_written.specs.Written.{Pattern, Patterns, no_pattern, pattern, named, named_as, anything, built, literal_pattern, negative_pattern, unit_pattern, nil_pattern, pattern_in_parentheses, tuple_pattern, list_pattern, cons_pattern}
use Rattle.hdc_written.specs.Written.{Expression, chain, Links, no_link, link, Operands, no_operand, Expressions, no_expression, Qualifier, generator, condition, let_qualifier, Qualifiers, no_qualifier, Alternative, blank, alternative, Alternatives, no_alternative, next_alternative, RightSide, plain, guarded, Guards, no_guard, guard, Declaration, empty, signature, equation, binding, Declarations, no_declaration, declaration}

-- the patterns of a list
abbrev pub each_pattern : {A : Type 0} → (A → Pattern) → List A → Patterns
each_pattern f [] = no_pattern
each_pattern f (x ∷ xs) = pattern (f x) (each_pattern f xs)

abbrev pub all_patterns : List Pattern → Patterns
all_patterns [] = no_pattern
all_patterns (p ∷ ps) = pattern p (all_patterns ps)

-- a pattern behind a :
pub record Consed : Type 0 where
  pub colon : At
  pub pat : Pattern

abbrev pub all_colons : List Consed → List At
all_colons [] = []
all_colons (c ∷ cs) = c.colon ∷ all_colons cs

abbrev pub all_consed : List Consed → Patterns
all_consed [] = no_pattern
all_consed (c ∷ cs) = pattern c.pat (all_consed cs)

abbrev pub apat_step : Apat-F Pattern Pattern Pattern Consed Pattern → Pattern
apat_step (Apat-F.Var x) = named x
apat_step (Apat-F.As x a p) = named_as x p
apat_step (Apat-F.Wildcard a) = anything a
apat_step (Apat-F.Con c) = built c no_pattern
apat_step (Apat-F.Literal a l) = literal_pattern a l
apat_step (Apat-F.Unit a b) = unit_pattern a
apat_step (Apat-F.Nil a b) = nil_pattern a
apat_step (Apat-F.Paren a p b) = pattern_in_parentheses a p
apat_step (Apat-F.Tuple a p ps b) = tuple_pattern a (pattern p (all_patterns ps))
apat_step (Apat-F.List a p ps b) = list_pattern a (pattern p (all_patterns ps))

abbrev pub left_pat_step : LeftPat-F Pattern Pattern Pattern Consed Pattern → Pattern
left_pat_step (LeftPat-F.Plain p) = p
left_pat_step (LeftPat-F.Applied c p ps) = built c (pattern p (all_patterns ps))
left_pat_step (LeftPat-F.Negative a b n) = negative_pattern a b n

abbrev pub comma_pat_step : CommaPat-F Pattern Pattern Pattern Consed Pattern → Pattern
comma_pat_step part = part.pat

abbrev pub cons_pat_step : ConsPat-F Pattern Pattern Pattern Consed Pattern → Consed
cons_pat_step part = record { colon = part.colon; pat = part.pat }

abbrev pub pat_step : Pat-F Pattern Pattern Pattern Consed Pattern → Pattern
pat_step part = cons_pattern part.first (all_colons part.rest) (all_consed part.rest)

abbrev pub apat_of : Apat → Pattern
apat_of = fold-Apat Pattern Pattern Pattern Consed Pattern apat_step left_pat_step comma_pat_step cons_pat_step pat_step

abbrev pub left_pat_of : LeftPat → Pattern
left_pat_of = fold-LeftPat Pattern Pattern Pattern Consed Pattern apat_step left_pat_step comma_pat_step cons_pat_step pat_step

abbrev pub comma_pat_of : CommaPat → Pattern
comma_pat_of = fold-CommaPat Pattern Pattern Pattern Consed Pattern apat_step left_pat_step comma_pat_step cons_pat_step pat_step

abbrev pub consed_of : ConsPat → Consed
consed_of = fold-ConsPat Pattern Pattern Pattern Consed Pattern apat_step left_pat_step comma_pat_step cons_pat_step pat_step

abbrev pub cons_pat_of : ConsPat → Pattern
cons_pat_of part = (consed_of part).pat

abbrev pub pat_of : Pat → Pattern
pat_of = fold-Pat Pattern Pattern Pattern Consed Pattern apat_step left_pat_step comma_pat_step cons_pat_step pat_step

-- a condition and what it guards, behind a bar, and an operand with its sign and the operator behind it
pub record Guarded : Type 0 where
  pub bar : At
  pub condition : Expression
  pub value : Expression

pub record Linked : Type 0 where
  pub sign : Sign
  pub operand : written.Operand
  pub op : Op

-- what a defined name is, and its parameters
abbrev pub var_name : Var → Name
var_name (var.Plain x) = x
var_name (var.Operator a x b) = x

abbrev pub op_name : VarOp → Name
op_name (var_op.Symbol x) = x
op_name (var_op.Quoted a x b) = x

abbrev pub head_name : Head → Name
head_name (head.Prefix x ps) = var_name x
head_name (head.Infix p o q) = op_name o
head_name (head.Paren a p o q b r rs) = op_name o

-- its first token
abbrev pub first_of_head : Head → At
first_of_head (head.Prefix x ps) = first_of_var x
first_of_head (head.Infix p o q) = first_of_pattern (apat_of p)
first_of_head (head.Paren a p o q b r rs) = a

-- the names of a signature
abbrev pub names_behind : List CommaVar → List Name
names_behind [] = []
names_behind (x ∷ xs) = var_name x.var ∷ names_behind xs

abbrev pub signed_names : Var → List CommaVar → List Name
signed_names x xs = var_name x ∷ names_behind xs

abbrev pub head_patterns : Head → Patterns
head_patterns (head.Prefix x ps) = each_pattern apat_of ps
head_patterns (head.Infix p o q) = pattern (apat_of p) (pattern (apat_of q) no_pattern)
head_patterns (head.Paren a p o q b r rs) = pattern (apat_of p) (pattern (apat_of q) (pattern (apat_of r) (each_pattern apat_of rs)))

-- the parts of lists
abbrev pub each_link : {A : Type 0} → (A → Linked) → List A → Links
each_link f [] = no_link
each_link f (x ∷ xs) = link (f x).sign (f x).operand (f x).op (each_link f xs)

abbrev pub all_links : List Linked → Links
all_links [] = no_link
all_links (x ∷ xs) = link x.sign x.operand x.op (all_links xs)

abbrev pub each_operand : {A : Type 0} → (A → written.Operand) → List A → Operands
each_operand f [] = no_operand
each_operand f (x ∷ xs) = written.operand (f x) (each_operand f xs)

abbrev pub all_operands : List written.Operand → Operands
all_operands [] = no_operand
all_operands (x ∷ xs) = written.operand x (all_operands xs)

abbrev pub each_expression : {A : Type 0} → (A → Expression) → List A → Expressions
each_expression f [] = no_expression
each_expression f (x ∷ xs) = written.expression (f x) (each_expression f xs)

abbrev pub all_expressions : List Expression → Expressions
all_expressions [] = no_expression
all_expressions (x ∷ xs) = written.expression x (all_expressions xs)

abbrev pub each_qualifier : {A : Type 0} → (A → Qualifier) → List A → Qualifiers
each_qualifier f [] = no_qualifier
each_qualifier f (x ∷ xs) = written.qualifier (f x) (each_qualifier f xs)

abbrev pub all_qualifiers : List Qualifier → Qualifiers
all_qualifiers [] = no_qualifier
all_qualifiers (x ∷ xs) = written.qualifier x (all_qualifiers xs)

abbrev pub each_alternative : {A : Type 0} → (A → Alternative) → List A → Alternatives
each_alternative f [] = no_alternative
each_alternative f (x ∷ xs) = next_alternative (f x) (each_alternative f xs)

abbrev pub all_alternatives : List Alternative → Alternatives
all_alternatives [] = no_alternative
all_alternatives (x ∷ xs) = next_alternative x (all_alternatives xs)

abbrev pub each_guard : {A : Type 0} → (A → Guarded) → List A → Guards
each_guard f [] = no_guard
each_guard f (x ∷ xs) = guard (f x).condition (f x).value (each_guard f xs)

abbrev pub all_guards : List Guarded → Guards
all_guards [] = no_guard
all_guards (x ∷ xs) = guard x.condition x.value (all_guards xs)

abbrev pub each_declaration : {A : Type 0} → (A → Declaration) → List A → Declarations
each_declaration f [] = no_declaration
each_declaration f (x ∷ xs) = declaration (f x) (each_declaration f xs)

abbrev pub all_declarations : List Declaration → Declarations
all_declarations [] = no_declaration
all_declarations (x ∷ xs) = declaration x (all_declarations xs)

abbrev pub aexp_step : Aexp-F written.Operand Alternative Declaration written.Operand written.Operand Qualifier RightSide Declarations Alternatives written.Operand Guarded Declarations Expression Qualifier Guarded Expression Linked Alternative Declaration → written.Operand
aexp_step (Aexp-F.Var x) = written.variable x
aexp_step (Aexp-F.Con c) = written.constructor c
aexp_step (Aexp-F.Literal a l) = written.literal a l
aexp_step (Aexp-F.Unit a b) = written.unit a
aexp_step (Aexp-F.Nil a b) = written.nil a
aexp_step (Aexp-F.Cons a c b) = written.cons a c
aexp_step (Aexp-F.Paren a e b) = written.in_parentheses a e
aexp_step (Aexp-F.Tuple a e es b) = written.tuple a (written.expression e (all_expressions es))
aexp_step (Aexp-F.List l) = l
aexp_step (Aexp-F.LeftSection a e o b) = written.left_section a e o
aexp_step (Aexp-F.RightSection a o e b) = written.right_section a o e

abbrev pub alt_step : Alt-F written.Operand Alternative Declaration written.Operand written.Operand Qualifier RightSide Declarations Alternatives written.Operand Guarded Declarations Expression Qualifier Guarded Expression Linked Alternative Declaration → Alternative
alt_step Alt-F.Blank = blank
alt_step (Alt-F.Arrow p a e ds) = alternative (pat_of p) (plain e ds)
alt_step (Alt-F.Guarded p g gs ds) = alternative (pat_of p) (guarded g.bar (guard g.condition g.value (all_guards gs)) ds)

abbrev pub decl_step : Decl-F written.Operand Alternative Declaration written.Operand written.Operand Qualifier RightSide Declarations Alternatives written.Operand Guarded Declarations Expression Qualifier Guarded Expression Linked Alternative Declaration → Declaration
decl_step Decl-F.Empty = empty
decl_step (Decl-F.Signature x xs a t) = signature (signed_names x xs) (type_exp_of t)
decl_step (Decl-F.Equation h r) = equation (first_of_head h) (head_name h) (head_patterns h) r
decl_step (Decl-F.Binding p r) = binding (pat_of p) r

abbrev pub list_exp_step : ListExp-F written.Operand Alternative Declaration written.Operand written.Operand Qualifier RightSide Declarations Alternatives written.Operand Guarded Declarations Expression Qualifier Guarded Expression Linked Alternative Declaration → written.Operand
list_exp_step (ListExp-F.Members a e es b) = written.list a (written.expression e (all_expressions es))
list_exp_step (ListExp-F.Range a e b f c) = written.range a e f
list_exp_step (ListExp-F.Comprehension a e b q qs c) = written.comprehension a e (written.qualifier q (all_qualifiers qs))

abbrev pub operand_step : Operand-F written.Operand Alternative Declaration written.Operand written.Operand Qualifier RightSide Declarations Alternatives written.Operand Guarded Declarations Expression Qualifier Guarded Expression Linked Alternative Declaration → written.Operand
operand_step (Operand-F.Applied f) = f
operand_step (Operand-F.Lambda a p ps b e) = written.lambda a (pattern (apat_of p) (each_pattern apat_of ps)) e
operand_step (Operand-F.Let a ds b e) = written.let_in a ds e
operand_step (Operand-F.If a e b f c g) = written.if_else a e f g
operand_step (Operand-F.Case a e b alts) = written.case_of a e alts

abbrev pub qual_step : Qual-F written.Operand Alternative Declaration written.Operand written.Operand Qualifier RightSide Declarations Alternatives written.Operand Guarded Declarations Expression Qualifier Guarded Expression Linked Alternative Declaration → Qualifier
qual_step (Qual-F.Generator p a e) = generator (pat_of p) e
qual_step (Qual-F.Condition e) = condition e
qual_step (Qual-F.Local a ds) = let_qualifier a ds

abbrev pub rhs_step : Rhs-F written.Operand Alternative Declaration written.Operand written.Operand Qualifier RightSide Declarations Alternatives written.Operand Guarded Declarations Expression Qualifier Guarded Expression Linked Alternative Declaration → RightSide
rhs_step (Rhs-F.Equal a e ds) = plain e ds
rhs_step (Rhs-F.Guards g gs ds) = guarded g.bar (guard g.condition g.value (all_guards gs)) ds

abbrev pub where_step : Where-F written.Operand Alternative Declaration written.Operand written.Operand Qualifier RightSide Declarations Alternatives written.Operand Guarded Declarations Expression Qualifier Guarded Expression Linked Alternative Declaration → Declarations
where_step Where-F.Absent = no_declaration
where_step (Where-F.Present a ds) = ds

abbrev pub alts_step : Alts-F written.Operand Alternative Declaration written.Operand written.Operand Qualifier RightSide Declarations Alternatives written.Operand Guarded Declarations Expression Qualifier Guarded Expression Linked Alternative Declaration → Alternatives
alts_step part = next_alternative part.first (all_alternatives part.rest)

abbrev pub apply_step : Apply-F written.Operand Alternative Declaration written.Operand written.Operand Qualifier RightSide Declarations Alternatives written.Operand Guarded Declarations Expression Qualifier Guarded Expression Linked Alternative Declaration → written.Operand
apply_step part = written.applied part.head (all_operands part.args)

abbrev pub arrow_guard_step : ArrowGuard-F written.Operand Alternative Declaration written.Operand written.Operand Qualifier RightSide Declarations Alternatives written.Operand Guarded Declarations Expression Qualifier Guarded Expression Linked Alternative Declaration → Guarded
arrow_guard_step part = record { bar = part.bar; condition = part.condition; value = part.exp }

abbrev pub block_step : Block-F written.Operand Alternative Declaration written.Operand written.Operand Qualifier RightSide Declarations Alternatives written.Operand Guarded Declarations Expression Qualifier Guarded Expression Linked Alternative Declaration → Declarations
block_step part = declaration part.first (all_declarations part.rest)

abbrev pub comma_exp_step : CommaExp-F written.Operand Alternative Declaration written.Operand written.Operand Qualifier RightSide Declarations Alternatives written.Operand Guarded Declarations Expression Qualifier Guarded Expression Linked Alternative Declaration → Expression
comma_exp_step part = part.exp

abbrev pub comma_qual_step : CommaQual-F written.Operand Alternative Declaration written.Operand written.Operand Qualifier RightSide Declarations Alternatives written.Operand Guarded Declarations Expression Qualifier Guarded Expression Linked Alternative Declaration → Qualifier
comma_qual_step part = part.qual

abbrev pub equal_guard_step : EqualGuard-F written.Operand Alternative Declaration written.Operand written.Operand Qualifier RightSide Declarations Alternatives written.Operand Guarded Declarations Expression Qualifier Guarded Expression Linked Alternative Declaration → Guarded
equal_guard_step part = record { bar = part.bar; condition = part.condition; value = part.exp }

abbrev pub exp_step : Exp-F written.Operand Alternative Declaration written.Operand written.Operand Qualifier RightSide Declarations Alternatives written.Operand Guarded Declarations Expression Qualifier Guarded Expression Linked Alternative Declaration → Expression
exp_step part = chain (all_links part.links) part.sign part.last

abbrev pub link_step : Link-F written.Operand Alternative Declaration written.Operand written.Operand Qualifier RightSide Declarations Alternatives written.Operand Guarded Declarations Expression Qualifier Guarded Expression Linked Alternative Declaration → Linked
link_step part = record { sign = part.sign; operand = part.left; op = part.op }

abbrev pub next_alt_step : NextAlt-F written.Operand Alternative Declaration written.Operand written.Operand Qualifier RightSide Declarations Alternatives written.Operand Guarded Declarations Expression Qualifier Guarded Expression Linked Alternative Declaration → Alternative
next_alt_step part = part.alt

abbrev pub next_decl_step : NextDecl-F written.Operand Alternative Declaration written.Operand written.Operand Qualifier RightSide Declarations Alternatives written.Operand Guarded Declarations Expression Qualifier Guarded Expression Linked Alternative Declaration → Declaration
next_decl_step part = part.decl

abbrev pub aexp_of : Aexp → written.Operand
aexp_of = fold-Aexp written.Operand Alternative Declaration written.Operand written.Operand Qualifier RightSide Declarations Alternatives written.Operand Guarded Declarations Expression Qualifier Guarded Expression Linked Alternative Declaration aexp_step alt_step decl_step list_exp_step operand_step qual_step rhs_step where_step alts_step apply_step arrow_guard_step block_step comma_exp_step comma_qual_step equal_guard_step exp_step link_step next_alt_step next_decl_step

abbrev pub alt_of : Alt → Alternative
alt_of = fold-Alt written.Operand Alternative Declaration written.Operand written.Operand Qualifier RightSide Declarations Alternatives written.Operand Guarded Declarations Expression Qualifier Guarded Expression Linked Alternative Declaration aexp_step alt_step decl_step list_exp_step operand_step qual_step rhs_step where_step alts_step apply_step arrow_guard_step block_step comma_exp_step comma_qual_step equal_guard_step exp_step link_step next_alt_step next_decl_step

abbrev pub decl_of : Decl → Declaration
decl_of = fold-Decl written.Operand Alternative Declaration written.Operand written.Operand Qualifier RightSide Declarations Alternatives written.Operand Guarded Declarations Expression Qualifier Guarded Expression Linked Alternative Declaration aexp_step alt_step decl_step list_exp_step operand_step qual_step rhs_step where_step alts_step apply_step arrow_guard_step block_step comma_exp_step comma_qual_step equal_guard_step exp_step link_step next_alt_step next_decl_step

abbrev pub list_exp_of : ListExp → written.Operand
list_exp_of = fold-ListExp written.Operand Alternative Declaration written.Operand written.Operand Qualifier RightSide Declarations Alternatives written.Operand Guarded Declarations Expression Qualifier Guarded Expression Linked Alternative Declaration aexp_step alt_step decl_step list_exp_step operand_step qual_step rhs_step where_step alts_step apply_step arrow_guard_step block_step comma_exp_step comma_qual_step equal_guard_step exp_step link_step next_alt_step next_decl_step

abbrev pub operand_of : Operand → written.Operand
operand_of = fold-Operand written.Operand Alternative Declaration written.Operand written.Operand Qualifier RightSide Declarations Alternatives written.Operand Guarded Declarations Expression Qualifier Guarded Expression Linked Alternative Declaration aexp_step alt_step decl_step list_exp_step operand_step qual_step rhs_step where_step alts_step apply_step arrow_guard_step block_step comma_exp_step comma_qual_step equal_guard_step exp_step link_step next_alt_step next_decl_step

abbrev pub qual_of : Qual → Qualifier
qual_of = fold-Qual written.Operand Alternative Declaration written.Operand written.Operand Qualifier RightSide Declarations Alternatives written.Operand Guarded Declarations Expression Qualifier Guarded Expression Linked Alternative Declaration aexp_step alt_step decl_step list_exp_step operand_step qual_step rhs_step where_step alts_step apply_step arrow_guard_step block_step comma_exp_step comma_qual_step equal_guard_step exp_step link_step next_alt_step next_decl_step

abbrev pub rhs_of : Rhs → RightSide
rhs_of = fold-Rhs written.Operand Alternative Declaration written.Operand written.Operand Qualifier RightSide Declarations Alternatives written.Operand Guarded Declarations Expression Qualifier Guarded Expression Linked Alternative Declaration aexp_step alt_step decl_step list_exp_step operand_step qual_step rhs_step where_step alts_step apply_step arrow_guard_step block_step comma_exp_step comma_qual_step equal_guard_step exp_step link_step next_alt_step next_decl_step

abbrev pub where_of : Where → Declarations
where_of = fold-Where written.Operand Alternative Declaration written.Operand written.Operand Qualifier RightSide Declarations Alternatives written.Operand Guarded Declarations Expression Qualifier Guarded Expression Linked Alternative Declaration aexp_step alt_step decl_step list_exp_step operand_step qual_step rhs_step where_step alts_step apply_step arrow_guard_step block_step comma_exp_step comma_qual_step equal_guard_step exp_step link_step next_alt_step next_decl_step

abbrev pub alts_of : Alts → Alternatives
alts_of = fold-Alts written.Operand Alternative Declaration written.Operand written.Operand Qualifier RightSide Declarations Alternatives written.Operand Guarded Declarations Expression Qualifier Guarded Expression Linked Alternative Declaration aexp_step alt_step decl_step list_exp_step operand_step qual_step rhs_step where_step alts_step apply_step arrow_guard_step block_step comma_exp_step comma_qual_step equal_guard_step exp_step link_step next_alt_step next_decl_step

abbrev pub apply_of : Apply → written.Operand
apply_of = fold-Apply written.Operand Alternative Declaration written.Operand written.Operand Qualifier RightSide Declarations Alternatives written.Operand Guarded Declarations Expression Qualifier Guarded Expression Linked Alternative Declaration aexp_step alt_step decl_step list_exp_step operand_step qual_step rhs_step where_step alts_step apply_step arrow_guard_step block_step comma_exp_step comma_qual_step equal_guard_step exp_step link_step next_alt_step next_decl_step

abbrev pub arrow_guard_of : ArrowGuard → Guarded
arrow_guard_of = fold-ArrowGuard written.Operand Alternative Declaration written.Operand written.Operand Qualifier RightSide Declarations Alternatives written.Operand Guarded Declarations Expression Qualifier Guarded Expression Linked Alternative Declaration aexp_step alt_step decl_step list_exp_step operand_step qual_step rhs_step where_step alts_step apply_step arrow_guard_step block_step comma_exp_step comma_qual_step equal_guard_step exp_step link_step next_alt_step next_decl_step

abbrev pub block_of : Block → Declarations
block_of = fold-Block written.Operand Alternative Declaration written.Operand written.Operand Qualifier RightSide Declarations Alternatives written.Operand Guarded Declarations Expression Qualifier Guarded Expression Linked Alternative Declaration aexp_step alt_step decl_step list_exp_step operand_step qual_step rhs_step where_step alts_step apply_step arrow_guard_step block_step comma_exp_step comma_qual_step equal_guard_step exp_step link_step next_alt_step next_decl_step

abbrev pub comma_exp_of : CommaExp → Expression
comma_exp_of = fold-CommaExp written.Operand Alternative Declaration written.Operand written.Operand Qualifier RightSide Declarations Alternatives written.Operand Guarded Declarations Expression Qualifier Guarded Expression Linked Alternative Declaration aexp_step alt_step decl_step list_exp_step operand_step qual_step rhs_step where_step alts_step apply_step arrow_guard_step block_step comma_exp_step comma_qual_step equal_guard_step exp_step link_step next_alt_step next_decl_step

abbrev pub comma_qual_of : CommaQual → Qualifier
comma_qual_of = fold-CommaQual written.Operand Alternative Declaration written.Operand written.Operand Qualifier RightSide Declarations Alternatives written.Operand Guarded Declarations Expression Qualifier Guarded Expression Linked Alternative Declaration aexp_step alt_step decl_step list_exp_step operand_step qual_step rhs_step where_step alts_step apply_step arrow_guard_step block_step comma_exp_step comma_qual_step equal_guard_step exp_step link_step next_alt_step next_decl_step

abbrev pub equal_guard_of : EqualGuard → Guarded
equal_guard_of = fold-EqualGuard written.Operand Alternative Declaration written.Operand written.Operand Qualifier RightSide Declarations Alternatives written.Operand Guarded Declarations Expression Qualifier Guarded Expression Linked Alternative Declaration aexp_step alt_step decl_step list_exp_step operand_step qual_step rhs_step where_step alts_step apply_step arrow_guard_step block_step comma_exp_step comma_qual_step equal_guard_step exp_step link_step next_alt_step next_decl_step

abbrev pub exp_of : Exp → Expression
exp_of = fold-Exp written.Operand Alternative Declaration written.Operand written.Operand Qualifier RightSide Declarations Alternatives written.Operand Guarded Declarations Expression Qualifier Guarded Expression Linked Alternative Declaration aexp_step alt_step decl_step list_exp_step operand_step qual_step rhs_step where_step alts_step apply_step arrow_guard_step block_step comma_exp_step comma_qual_step equal_guard_step exp_step link_step next_alt_step next_decl_step

abbrev pub link_of : Link → Linked
link_of = fold-Link written.Operand Alternative Declaration written.Operand written.Operand Qualifier RightSide Declarations Alternatives written.Operand Guarded Declarations Expression Qualifier Guarded Expression Linked Alternative Declaration aexp_step alt_step decl_step list_exp_step operand_step qual_step rhs_step where_step alts_step apply_step arrow_guard_step block_step comma_exp_step comma_qual_step equal_guard_step exp_step link_step next_alt_step next_decl_step

abbrev pub next_alt_of : NextAlt → Alternative
next_alt_of = fold-NextAlt written.Operand Alternative Declaration written.Operand written.Operand Qualifier RightSide Declarations Alternatives written.Operand Guarded Declarations Expression Qualifier Guarded Expression Linked Alternative Declaration aexp_step alt_step decl_step list_exp_step operand_step qual_step rhs_step where_step alts_step apply_step arrow_guard_step block_step comma_exp_step comma_qual_step equal_guard_step exp_step link_step next_alt_step next_decl_step

abbrev pub next_decl_of : NextDecl → Declaration
next_decl_of = fold-NextDecl written.Operand Alternative Declaration written.Operand written.Operand Qualifier RightSide Declarations Alternatives written.Operand Guarded Declarations Expression Qualifier Guarded Expression Linked Alternative Declaration aexp_step alt_step decl_step list_exp_step operand_step qual_step rhs_step where_step alts_step apply_step arrow_guard_step block_step comma_exp_step comma_qual_step equal_guard_step exp_step link_step next_alt_step next_decl_step

-- the top declarations of a program
abbrev pub tops_behind : List NextTop → List Top
tops_behind [] = []
tops_behind (n ∷ ns) = n.top ∷ tops_behind ns

abbrev pub tops_of : Tree → List Top
tops_of t = t.first ∷ tops_behind t.rest
