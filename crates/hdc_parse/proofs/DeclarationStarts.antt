-- The first tokens of declarations and of their parts.
use Rattle.std.proofs.Common.{◌≡◌, Bool, true, false, ◌||◌, not, cond, List, [], ◌∷◌, Option, Some, None, ◌⊎◌, inl, inr, refl, sym, ◌∙◌, ap, subst}
use Rattle.hdc_base.specs.declared.place.At.{At}
use Rattle.hdc_base.specs.declared.token.Key.TheVariants as key
use Rattle.hdc_base.specs.declared.token.Word.{Word}
use Rattle.hdc_base.specs.declared.token.Word.TheVariants as word
use Rattle.hdc_base.specs.declared.token.Token.{Token}
use Rattle.hdc_tree.specs.declared.name.Literal.{Literal}
use Rattle.hdc_tree.specs.declared.name.Literal.TheVariants as lit
use Rattle.hdc_tree.specs.declared.name.Name.{Name}
use Rattle.hdc_tree.specs.declared.name.Var.{Var}
use Rattle.hdc_tree.specs.declared.name.Var.TheVariants as var
use Rattle.hdc_tree.specs.declared.name.VarOp.{VarOp}
use Rattle.hdc_tree.specs.declared.name.VarOp.TheVariants as var_op
use Rattle.hdc_tree.specs.declared.pattern.Apat.{Apat, out-Apat}
use Rattle.hdc_tree.specs.declared.pattern.Apat.TheVariants as a
use Rattle.hdc_tree.specs.declared.pattern.LeftPat.TheVariants as l
use Rattle.hdc_tree.specs.declared.pattern.CommaPat.{CommaPat}
use Rattle.hdc_tree.specs.declared.pattern.ConsPat.{ConsPat}
use Rattle.hdc_tree.specs.declared.pattern.Pat.{Pat, roll-Pat}
use Rattle.hdc_tree.specs.declared.head.Head.{Head}
use Rattle.hdc_tree.specs.declared.head.Head.TheVariants as lhs
use Rattle.hdc_tree.specs.declared.expression.ArrowGuard.{ArrowGuard}
use Rattle.hdc_tree.specs.declared.expression.EqualGuard.{EqualGuard, out-EqualGuard}
use Rattle.hdc_tree.specs.declared.expression.NextAlt.{NextAlt}
use Rattle.hdc_tree.specs.declared.expression.NextDecl.{NextDecl}
use Rattle.hdc_tree.specs.declared.expression.Rhs.{Rhs}
use Rattle.hdc_tree.specs.declared.expression.Where.{Where}
use Rattle.hdc_tree.specs.NameSpelling.{literal_onto, var_onto, var_op_onto, each_onto}
use Rattle.hdc_tree.specs.HeadSpelling.{head_onto}
use Rattle.hdc_tree.specs.PatternSpelling.{apat_onto, comma_pat_onto, cons_pat_onto, pat_onto}
use Rattle.hdc_tree.specs.ExpressionSpelling.{arrow_guard_onto, equal_guard_onto, next_alt_onto, next_decl_onto, rhs_onto, where_onto}
use Rattle.hdc_tree.specs.Form.{each_formed}
use Rattle.hdc_tree.specs.PatternForm.{is_variable, is_plain_name}
use Rattle.hdc_tree.proofs.PatternCases.{apat_cases}
use Rattle.hdc_tree.proofs.PatternEquations.{apat_var, apat_as, apat_wildcard, apat_literal, apat_unit, apat_nil, apat_paren, apat_tuple, apat_list, comma_pat_parts, cons_pat_parts}
use Rattle.hdc_tree.proofs.PatternFormed.{is_plain_name_made, is_plain_left_plain, is_variable_var, is_variable_as, is_variable_wildcard, is_variable_con, is_variable_literal, is_variable_unit, is_variable_nil, is_variable_paren, is_variable_tuple, is_variable_list}
use Rattle.hdc_tree.proofs.ExpressionCases.{rhs_cases, where_cases}
use Rattle.hdc_tree.proofs.ExpressionEquations.{arrow_guard_parts, equal_guard_parts, next_alt_parts, next_decl_parts, rhs_equal, rhs_guards, where_absent, where_present}
use Rattle.hdc_syntax.specs.Parser.{head}
use Rattle.hdc_syntax.specs.Words.{is, is_small, is_capital, is_minus, is_symbol}
use Rattle.hdc_syntax.specs.Names.{starts_var_op}
use Rattle.hdc_syntax.proofs.NameRules.{always}
use Rattle.hdc_syntax.proofs.Steps.{token_of}
use Rattle.hdc_syntax.specs.PatternReader.{starts_apat}
use Rattle.hdc_syntax.proofs.PatternAgain.{not_key, apat_starts, starts_pat, pat_starts, ends_left, ends_pat}
use Rattle.hdc_syntax.proofs.TypeAgain.{ends_type}
use Rattle.hdc_expression.proofs.Opened.{ends_exp}
use Rattle.hdc_expression.proofs.ExpressionStarts.{not_symbol, no_symbol_no_minus, either_of}
use Rattle.hdc_expression.specs.DeclarationReader.{ends_member}

-- ---- tests

pub second_of : (x y : Bool) → y ≡ true → (x || y) ≡ true
second_of true y e = refl
second_of false y e = e

pub neither : (x y : Bool) → x ≡ false → y ≡ false → (x || y) ≡ false
neither true y e f = absurd (cc)
neither false y e f = f

none_of : (x y : Bool) → x ≡ false → y ≡ false → cond x true y ≡ false
none_of true y e f = absurd (cc)
none_of false y e f = f

pub each_always : {A : Type 0} (xs : List A) → each_formed always xs ≡ true
each_always [] = refl
each_always (x ∷ xs) = each_always xs

-- ---- the token behind a member of a block

module _ (P : Option Token → Type 0) (on_semicolon : (at : At) → P (Some (token_of at (word.Key key.KSemicolon)))) (on_brace : (at : At) → P (Some (token_of at (word.Key key.KCloseBrace)))) where
  member_word : (at : At) (w : Word) → ends_member (Some (token_of at w)) ≡ true → P (Some (token_of at w))
  member_word at (word.Key key.KSemicolon) e = on_semicolon at
  member_word at (word.Key key.KCloseBrace) e = on_brace at
  member_word at (word.Key _) e = absurd (cc)
  member_word at (word.Sym text) e = absurd (cc)
  member_word at (word.Var x) e = absurd (cc)
  member_word at (word.Con x) e = absurd (cc)
  member_word at (word.Num x) e = absurd (cc)
  member_word at (word.Chr x) e = absurd (cc)
  member_word at (word.Str x) e = absurd (cc)

  -- it is `;` or `}`
  pub member_ends : (c : Option Token) → ends_member c ≡ true → P c
  member_ends None e = absurd (cc)
  member_ends (Some t) e = member_word t.at t.word e

pub member_ends_exp : (c : Option Token) → ends_member c ≡ true → ends_exp c ≡ true
member_ends_exp = member_ends (λ c. ends_exp c ≡ true) (λ at. refl) (λ at. refl)

pub member_ends_type : (c : Option Token) → ends_member c ≡ true → ends_type c ≡ true
member_ends_type = member_ends (λ c. ends_type c ≡ true) (λ at. refl) (λ at. refl)

pub member_no_where : (c : Option Token) → ends_member c ≡ true → is key.KWhere c ≡ false
member_no_where = member_ends (λ c. is key.KWhere c ≡ false) (λ at. refl) (λ at. refl)

member_no_bar : (c : Option Token) → ends_member c ≡ true → is key.KBar c ≡ false
member_no_bar = member_ends (λ c. is key.KBar c ≡ false) (λ at. refl) (λ at. refl)

-- what begins a pattern ends no member
pub pat_no_member : (c : Option Token) → starts_pat c ≡ true → ends_member c ≡ false
pat_no_member c e = none_of (is key.KSemicolon c) (is key.KCloseBrace c) (not_key starts_pat key.KSemicolon (λ at. refl) c e) (not_key starts_pat key.KCloseBrace (λ at. refl) c e)

-- ---- local declarations, guards and members

pub where_ends_exp : (x : Where) (k : List Token) → ends_member (head k) ≡ true → ends_exp (head (where_onto x k)) ≡ true
where_ends_exp x k e = where_cases (λ x. ends_exp (head (where_onto x k)) ≡ true)
    (ap (λ z. ends_exp (head z)) (where_absent k) ∙ member_ends_exp (head k) e)
    (λ at decls. ap (λ z. ends_exp (head z)) (where_present at decls k))
    x

pub where_no_bar : (x : Where) (k : List Token) → ends_member (head k) ≡ true → is key.KBar (head (where_onto x k)) ≡ false
where_no_bar x k e = where_cases (λ x. is key.KBar (head (where_onto x k)) ≡ false)
    (ap (λ z. is key.KBar (head z)) (where_absent k) ∙ member_no_bar (head k) e)
    (λ at decls. ap (λ z. is key.KBar (head z)) (where_present at decls k))
    x

pub arrow_guard_starts : (x : ArrowGuard) (k : List Token) → is key.KBar (head (arrow_guard_onto x k)) ≡ true
arrow_guard_starts x k = ap (λ z. is key.KBar (head z)) (arrow_guard_parts x k)

pub arrow_guard_ends_exp : (x : ArrowGuard) (k : List Token) → ends_exp (head (arrow_guard_onto x k)) ≡ true
arrow_guard_ends_exp x k = ap (λ z. ends_exp (head z)) (arrow_guard_parts x k)

pub arrow_guard_ends_pat : (x : ArrowGuard) (k : List Token) → ends_pat (head (arrow_guard_onto x k)) ≡ true
arrow_guard_ends_pat x k = ap (λ z. ends_pat (head z)) (arrow_guard_parts x k)

pub equal_guard_starts : (x : EqualGuard) (k : List Token) → is key.KBar (head (equal_guard_onto x k)) ≡ true
equal_guard_starts x k = ap (λ z. is key.KBar (head z)) (equal_guard_parts x k)

pub equal_guard_ends_exp : (x : EqualGuard) (k : List Token) → ends_exp (head (equal_guard_onto x k)) ≡ true
equal_guard_ends_exp x k = ap (λ z. ends_exp (head z)) (equal_guard_parts x k)

pub next_alt_starts : (x : NextAlt) (k : List Token) → is key.KSemicolon (head (next_alt_onto x k)) ≡ true
next_alt_starts x k = ap (λ z. is key.KSemicolon (head z)) (next_alt_parts x k)

pub next_alt_ends_member : (x : NextAlt) (k : List Token) → ends_member (head (next_alt_onto x k)) ≡ true
next_alt_ends_member x k = ap (λ z. ends_member (head z)) (next_alt_parts x k)

pub next_decl_starts : (x : NextDecl) (k : List Token) → is key.KSemicolon (head (next_decl_onto x k)) ≡ true
next_decl_starts x k = ap (λ z. is key.KSemicolon (head z)) (next_decl_parts x k)

pub next_decl_ends_member : (x : NextDecl) (k : List Token) → ends_member (head (next_decl_onto x k)) ≡ true
next_decl_ends_member x k = ap (λ z. ends_member (head z)) (next_decl_parts x k)

-- ---- right sides begin with `=` or `|`

pub rhs_begins : (P : Option Token → Type 0) → ((at : At) → P (Some (token_of at (word.Key key.KEqual)))) → ((at : At) → P (Some (token_of at (word.Key key.KBar)))) → (x : Rhs) (k : List Token) → P (head (rhs_onto x k))
rhs_begins P on_equal on_bar x k = rhs_cases (λ x. P (head (rhs_onto x k)))
    (λ equal e local. subst (λ (z : List Token). P (head z)) (sym (rhs_equal equal e local k)) (on_equal equal))
    (λ first rest local. subst (λ (z : List Token). P (head z)) (sym (rhs_guards first rest local k ∙ equal_guard_parts first (each_onto equal_guard_onto rest (where_onto local k)))) (on_bar (out-EqualGuard first).bar))
    x

pub rhs_no_apat : (x : Rhs) (k : List Token) → starts_apat (head (rhs_onto x k)) ≡ false
rhs_no_apat = rhs_begins (λ c. starts_apat c ≡ false) (λ at. refl) (λ at. refl)

pub rhs_no_at : (x : Rhs) (k : List Token) → is key.KAt (head (rhs_onto x k)) ≡ false
rhs_no_at = rhs_begins (λ c. is key.KAt c ≡ false) (λ at. refl) (λ at. refl)

pub rhs_ends_pat : (x : Rhs) (k : List Token) → ends_pat (head (rhs_onto x k)) ≡ true
rhs_ends_pat = rhs_begins (λ c. ends_pat c ≡ true) (λ at. refl) (λ at. refl)

pub rhs_no_var_op : (x : Rhs) (k : List Token) → starts_var_op (head (rhs_onto x k)) ≡ false
rhs_no_var_op = rhs_begins (λ c. starts_var_op c ≡ false) (λ at. refl) (λ at. refl)

-- ---- parameters and what they define

-- the token begins a parameter or a right side
abbrev pub starts_params : Option Token → Bool
starts_params c = cond (starts_apat c) true (cond (is key.KEqual c) true (is key.KBar c))

pub params_start : (xs : List Apat) (x : Rhs) (k : List Token) → starts_params (head (each_onto apat_onto xs (rhs_onto x k))) ≡ true
params_start [] x k = rhs_begins (λ c. starts_params c ≡ true) (λ at. refl) (λ at. refl) x k
params_start (y ∷ ys) x k =
    let c : Option Token = head (each_onto apat_onto (y ∷ ys) (rhs_onto x k)) in either_of (starts_apat c) (cond (is key.KEqual c) true (is key.KBar c)) (apat_starts y (each_onto apat_onto ys (rhs_onto x k)))

-- a parameter and a right side begin with no operator
pub params_no_var_op : (c : Option Token) → starts_params c ≡ true → starts_var_op c ≡ false
params_no_var_op c e = none_of (is_symbol c) (is key.KBackquote c) (not_symbol starts_params (λ at text. refl) c e) (not_key starts_params key.KBackquote (λ at. refl) c e)

pub params_no_signature : (c : Option Token) → starts_params c ≡ true → (is key.KComma c || is key.KDoubleColon c) ≡ false
params_no_signature c e = neither (is key.KComma c) (is key.KDoubleColon c) (not_key starts_params key.KComma (λ at. refl) c e) (not_key starts_params key.KDoubleColon (λ at. refl) c e)

pub var_op_ends_left : (x : VarOp) (k : List Token) → ends_left (head (var_op_onto x k)) ≡ true
var_op_ends_left (var_op.Symbol n) k = refl
var_op_ends_left (var_op.Quoted open_at n close_at) k = refl

pub var_op_no_colon : (x : VarOp) (k : List Token) → is key.KColon (head (var_op_onto x k)) ≡ false
var_op_no_colon (var_op.Symbol n) k = refl
var_op_no_colon (var_op.Quoted open_at n close_at) k = refl

var_starts_pat : (x : Var) (k : List Token) → starts_pat (head (var_onto x k)) ≡ true
var_starts_pat (var.Plain n) k = refl
var_starts_pat (var.Operator open_at n close_at) k = refl

-- a variable, what an equation defines, and a pattern end no member
pub var_no_member : (x : Var) (k : List Token) → ends_member (head (var_onto x k)) ≡ false
var_no_member x k = pat_no_member (head (var_onto x k)) (var_starts_pat x k)

apat_no_member : (x : Apat) (k : List Token) → ends_member (head (apat_onto x k)) ≡ false
apat_no_member x k = let c : Option Token = head (apat_onto x k) in pat_no_member c (either_of (starts_apat c) (is_minus c) (apat_starts x k))

pub head_no_member : (x : Head) (k : List Token) → ends_member (head (head_onto x k)) ≡ false
head_no_member (lhs.Prefix v ps) k = var_no_member v (each_onto apat_onto ps k)
head_no_member (lhs.Infix p o q) k = apat_no_member p (var_op_onto o (apat_onto q k))
head_no_member (lhs.Paren open_at p o q close_at x xs) k = refl

pub pat_ends_no_member : (x : Pat) (k : List Token) → ends_member (head (pat_onto x k)) ≡ false
pat_ends_no_member x k = pat_no_member (head (pat_onto x k)) (pat_starts x k)

-- ---- patterns

pub cons_pat_ends_left : (x : ConsPat) (k : List Token) → ends_left (head (cons_pat_onto x k)) ≡ true
cons_pat_ends_left x k = ap (λ z. ends_left (head z)) (cons_pat_parts x k)

pub cons_no_var_op : (xs : List ConsPat) (k : List Token) → starts_var_op (head k) ≡ false → starts_var_op (head (each_onto cons_pat_onto xs k)) ≡ false
cons_no_var_op [] k e = e
cons_no_var_op (x ∷ xs) k e = ap (λ z. starts_var_op (head z)) (cons_pat_parts x (each_onto cons_pat_onto xs k))

pub comma_no_var_op : (xs : List CommaPat) (k : List Token) → starts_var_op (head k) ≡ false → starts_var_op (head (each_onto comma_pat_onto xs k)) ≡ false
comma_no_var_op [] k e = e
comma_no_var_op (x ∷ xs) k e = ap (λ z. starts_var_op (head z)) (comma_pat_parts x (each_onto comma_pat_onto xs k))

pub apat_no_symbol : (x : Apat) (k : List Token) → is_symbol (head (apat_onto x k)) ≡ false
apat_no_symbol x k = not_symbol starts_apat (λ at text. refl) (head (apat_onto x k)) (apat_starts x k)

pub apat_no_minus : (x : Apat) (k : List Token) → is_minus (head (apat_onto x k)) ≡ false
apat_no_minus x k = no_symbol_no_minus (head (apat_onto x k)) (apat_no_symbol x k)

pub apat_no_close_paren : (x : Apat) (k : List Token) → is key.KCloseParen (head (apat_onto x k)) ≡ false
apat_no_close_paren x k = not_key starts_apat key.KCloseParen (λ at. refl) (head (apat_onto x k)) (apat_starts x k)

pub literal_no_small : (at : At) (x : Literal) (k : List Token) → is_small (head (literal_onto at x k)) ≡ false
literal_no_small at (lit.Num n) k = refl
literal_no_small at (lit.Chr c) k = refl
literal_no_small at (lit.Str cs) k = refl

pub literal_no_paren : (at : At) (x : Literal) (k : List Token) → is key.KOpenParen (head (literal_onto at x k)) ≡ false
literal_no_paren at (lit.Num n) k = refl
literal_no_paren at (lit.Chr c) k = refl
literal_no_paren at (lit.Str cs) k = refl

pub literal_no_capital : (at : At) (x : Literal) (k : List Token) → is_capital (head (literal_onto at x k)) ≡ false
literal_no_capital at (lit.Num n) k = refl
literal_no_capital at (lit.Chr c) k = refl
literal_no_capital at (lit.Str cs) k = refl

-- a pattern that may be an argument is a constructor, or begins with none
pub apat_capital : (x : Apat) → ((n : Name) × (x ≡ a.Con n)) ⊎ ((k : List Token) → is_capital (head (apat_onto x k)) ≡ false)
apat_capital x = apat_cases (λ x. ((n : Name) × (x ≡ a.Con n)) ⊎ ((k : List Token) → is_capital (head (apat_onto x k)) ≡ false))
    (λ n. inr (λ k. ap (λ z. is_capital (head z)) (apat_var n k)))
    (λ n at y. inr (λ k. ap (λ z. is_capital (head z)) (apat_as n at y k)))
    (λ at. inr (λ k. ap (λ z. is_capital (head z)) (apat_wildcard at k)))
    (λ n. inl (n, refl))
    (λ at y. inr (λ k. ap (λ z. is_capital (head z)) (apat_literal at y k) ∙ literal_no_capital at y k))
    (λ open_at close_at. inr (λ k. ap (λ z. is_capital (head z)) (apat_unit open_at close_at k)))
    (λ open_at close_at. inr (λ k. ap (λ z. is_capital (head z)) (apat_nil open_at close_at k)))
    (λ open_at y close_at. inr (λ k. ap (λ z. is_capital (head z)) (apat_paren open_at y close_at k)))
    (λ open_at y ys close_at. inr (λ k. ap (λ z. is_capital (head z)) (apat_tuple open_at y ys close_at k)))
    (λ open_at y ys close_at. inr (λ k. ap (λ z. is_capital (head z)) (apat_list open_at y ys close_at k)))
    x

-- a pattern that may be an argument is a variable, or it is none
pub apat_variable : (x : Apat) → ((n : Name) × (x ≡ a.Var n)) ⊎ (is_variable (out-Apat x) ≡ false)
apat_variable x = apat_cases (λ x. ((n : Name) × (x ≡ a.Var n)) ⊎ (is_variable (out-Apat x) ≡ false))
    (λ n. inl (n, refl))
    (λ n at y. inr (is_variable_as n at y))
    (λ at. inr (is_variable_wildcard at))
    (λ n. inr (is_variable_con n))
    (λ at y. inr (is_variable_literal at y))
    (λ open_at close_at. inr (is_variable_unit open_at close_at))
    (λ open_at close_at. inr (is_variable_nil open_at close_at))
    (λ open_at y close_at. inr (is_variable_paren open_at y close_at))
    (λ open_at y ys close_at. inr (is_variable_tuple open_at y ys close_at))
    (λ open_at y ys close_at. inr (is_variable_list open_at y ys close_at))
    x

-- a variable alone is a plain name
pub plain_alone : (n : Name) → not (is_plain_name (roll-Pat (record { first = l.Plain (a.Var n); rest = [] }))) ≡ true → ⊥
plain_alone n e = let f = ap not (is_plain_name_made (l.Plain (a.Var n)) [] ∙ is_plain_left_plain (a.Var n) ∙ is_variable_var n) in cc
