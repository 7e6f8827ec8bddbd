-- The cases of expressions and declarations.
use Rattle.std.proofs.Common.{List, sym, subst}
use Rattle.hdc_tree.specs.declared.pattern.Apat.{Apat}
use Rattle.hdc_base.specs.declared.place.At.{At}
use Rattle.hdc_tree.specs.declared.name.CommaVar.{CommaVar}
use Rattle.hdc_tree.specs.declared.head.Head.{Head}
use Rattle.hdc_tree.specs.declared.name.Literal.{Literal}
use Rattle.hdc_tree.specs.declared.name.Name.{Name}
use Rattle.hdc_tree.specs.declared.name.Op.{Op}
use Rattle.hdc_tree.specs.declared.pattern.Pat.{Pat}
use Rattle.hdc_tree.specs.declared.name.Sign.{Sign}
use Rattle.hdc_tree.specs.declared.type_tree.TypeExp.{TypeExp}
use Rattle.hdc_tree.specs.declared.name.Var.{Var}
use Rattle.hdc_tree.specs.declared.expression.Aexp.{Aexp, Aexp-F, roll-Aexp, out-Aexp, roll-out-Aexp}
use Rattle.hdc_tree.specs.declared.expression.Alt.{Alt, Alt-F, roll-Alt, out-Alt, roll-out-Alt}
use Rattle.hdc_tree.specs.declared.expression.Decl.{Decl, Decl-F, roll-Decl, out-Decl, roll-out-Decl}
use Rattle.hdc_tree.specs.declared.expression.ListExp.{ListExp, ListExp-F, roll-ListExp, out-ListExp, roll-out-ListExp}
use Rattle.hdc_tree.specs.declared.expression.Operand.{Operand, Operand-F, roll-Operand, out-Operand, roll-out-Operand}
use Rattle.hdc_tree.specs.declared.expression.Qual.{Qual, Qual-F, roll-Qual, out-Qual, roll-out-Qual}
use Rattle.hdc_tree.specs.declared.expression.Rhs.{Rhs, Rhs-F, roll-Rhs, out-Rhs, roll-out-Rhs}
use Rattle.hdc_tree.specs.declared.expression.Where.{Where, Where-F, roll-Where, out-Where, roll-out-Where}
use Rattle.hdc_tree.specs.declared.expression.Alts.{Alts, roll-Alts, out-Alts, roll-out-Alts}
use Rattle.hdc_tree.specs.declared.expression.Apply.{Apply, roll-Apply, out-Apply, roll-out-Apply}
use Rattle.hdc_tree.specs.declared.expression.ArrowGuard.{ArrowGuard, roll-ArrowGuard, out-ArrowGuard, roll-out-ArrowGuard}
use Rattle.hdc_tree.specs.declared.expression.Block.{Block, roll-Block, out-Block, roll-out-Block}
use Rattle.hdc_tree.specs.declared.expression.CommaExp.{CommaExp, roll-CommaExp, out-CommaExp, roll-out-CommaExp}
use Rattle.hdc_tree.specs.declared.expression.CommaQual.{CommaQual, roll-CommaQual, out-CommaQual, roll-out-CommaQual}
use Rattle.hdc_tree.specs.declared.expression.EqualGuard.{EqualGuard, roll-EqualGuard, out-EqualGuard, roll-out-EqualGuard}
use Rattle.hdc_tree.specs.declared.expression.Exp.{Exp, roll-Exp, out-Exp, roll-out-Exp}
use Rattle.hdc_tree.specs.declared.expression.Link.{Link, roll-Link, out-Link, roll-out-Link}
use Rattle.hdc_tree.specs.declared.expression.NextAlt.{NextAlt, roll-NextAlt, out-NextAlt, roll-out-NextAlt}
use Rattle.hdc_tree.specs.declared.expression.NextDecl.{NextDecl, roll-NextDecl, out-NextDecl, roll-out-NextDecl}
use Rattle.hdc_tree.specs.declared.expression.Aexp.TheVariants as v_aexp
use Rattle.hdc_tree.specs.declared.expression.Alt.TheVariants as v_alt
use Rattle.hdc_tree.specs.declared.expression.Decl.TheVariants as v_decl
use Rattle.hdc_tree.specs.declared.expression.ListExp.TheVariants as v_list_exp
use Rattle.hdc_tree.specs.declared.expression.Operand.TheVariants as v_operand
use Rattle.hdc_tree.specs.declared.expression.Qual.TheVariants as v_qual
use Rattle.hdc_tree.specs.declared.expression.Rhs.TheVariants as v_rhs
use Rattle.hdc_tree.specs.declared.expression.Where.TheVariants as v_where

module _ (P : Aexp → Type 0)
    (on_var : (var : Var) → P (v_aexp.Var var))
    (on_con : (name : Name) → P (v_aexp.Con name))
    (on_literal : (at : At) (literal : Literal) → P (v_aexp.Literal at literal))
    (on_unit : (open_at close_at : At) → P (v_aexp.Unit open_at close_at))
    (on_nil : (open_at close_at : At) → P (v_aexp.Nil open_at close_at))
    (on_cons : (open_at at close_at : At) → P (v_aexp.Cons open_at at close_at))
    (on_paren : (open_at : At) (inner : Exp) (close_at : At) → P (v_aexp.Paren open_at inner close_at))
    (on_tuple : (open_at : At) (first : Exp) (rest : List CommaExp) (close_at : At) → P (v_aexp.Tuple open_at first rest close_at))
    (on_list : (list : ListExp) → P (v_aexp.List list))
    (on_left_section : (open_at : At) (left : Exp) (op : Op) (close_at : At) → P (v_aexp.LeftSection open_at left op close_at))
    (on_right_section : (open_at : At) (op : Op) (right : Exp) (close_at : At) → P (v_aexp.RightSection open_at op right close_at)) where
  aexp_layer : (x : Aexp-F Aexp Alt Decl ListExp Operand Qual Rhs Where Alts Apply ArrowGuard Block CommaExp CommaQual EqualGuard Exp Link NextAlt NextDecl) → P (roll-Aexp x)
  aexp_layer (Aexp-F.Var var) = subst P (sym (v_aexp.rolls-Var var)) (on_var var)
  aexp_layer (Aexp-F.Con name) = subst P (sym (v_aexp.rolls-Con name)) (on_con name)
  aexp_layer (Aexp-F.Literal at literal) = subst P (sym (v_aexp.rolls-Literal at literal)) (on_literal at literal)
  aexp_layer (Aexp-F.Unit open_at close_at) = subst P (sym (v_aexp.rolls-Unit open_at close_at)) (on_unit open_at close_at)
  aexp_layer (Aexp-F.Nil open_at close_at) = subst P (sym (v_aexp.rolls-Nil open_at close_at)) (on_nil open_at close_at)
  aexp_layer (Aexp-F.Cons open_at at close_at) = subst P (sym (v_aexp.rolls-Cons open_at at close_at)) (on_cons open_at at close_at)
  aexp_layer (Aexp-F.Paren open_at inner close_at) = subst P (sym (v_aexp.rolls-Paren open_at inner close_at)) (on_paren open_at inner close_at)
  aexp_layer (Aexp-F.Tuple open_at first rest close_at) = subst P (sym (v_aexp.rolls-Tuple open_at first rest close_at)) (on_tuple open_at first rest close_at)
  aexp_layer (Aexp-F.List list) = subst P (sym (v_aexp.rolls-List list)) (on_list list)
  aexp_layer (Aexp-F.LeftSection open_at left op close_at) = subst P (sym (v_aexp.rolls-LeftSection open_at left op close_at)) (on_left_section open_at left op close_at)
  aexp_layer (Aexp-F.RightSection open_at op right close_at) = subst P (sym (v_aexp.rolls-RightSection open_at op right close_at)) (on_right_section open_at op right close_at)

  pub aexp_cases : (x : Aexp) → P x
  aexp_cases x = subst P (roll-out-Aexp x) (aexp_layer (out-Aexp x))

module _ (P : Alt → Type 0)
    (on_blank : P v_alt.Blank)
    (on_arrow : (pat : Pat) (arrow : At) (exp : Exp) (local : Where) → P (v_alt.Arrow pat arrow exp local))
    (on_guarded : (pat : Pat) (first : ArrowGuard) (rest : List ArrowGuard) (local : Where) → P (v_alt.Guarded pat first rest local)) where
  alt_layer : (x : Alt-F Aexp Alt Decl ListExp Operand Qual Rhs Where Alts Apply ArrowGuard Block CommaExp CommaQual EqualGuard Exp Link NextAlt NextDecl) → P (roll-Alt x)
  alt_layer Alt-F.Blank = subst P (sym v_alt.rolls-Blank) on_blank
  alt_layer (Alt-F.Arrow pat arrow exp local) = subst P (sym (v_alt.rolls-Arrow pat arrow exp local)) (on_arrow pat arrow exp local)
  alt_layer (Alt-F.Guarded pat first rest local) = subst P (sym (v_alt.rolls-Guarded pat first rest local)) (on_guarded pat first rest local)

  pub alt_cases : (x : Alt) → P x
  alt_cases x = subst P (roll-out-Alt x) (alt_layer (out-Alt x))

module _ (P : Decl → Type 0)
    (on_empty : P v_decl.Empty)
    (on_signature : (var : Var) (rest : List CommaVar) (at : At) (part : TypeExp) → P (v_decl.Signature var rest at part))
    (on_equation : (head : Head) (rhs : Rhs) → P (v_decl.Equation head rhs))
    (on_binding : (pat : Pat) (rhs : Rhs) → P (v_decl.Binding pat rhs)) where
  decl_layer : (x : Decl-F Aexp Alt Decl ListExp Operand Qual Rhs Where Alts Apply ArrowGuard Block CommaExp CommaQual EqualGuard Exp Link NextAlt NextDecl) → P (roll-Decl x)
  decl_layer Decl-F.Empty = subst P (sym v_decl.rolls-Empty) on_empty
  decl_layer (Decl-F.Signature var rest at part) = subst P (sym (v_decl.rolls-Signature var rest at part)) (on_signature var rest at part)
  decl_layer (Decl-F.Equation head rhs) = subst P (sym (v_decl.rolls-Equation head rhs)) (on_equation head rhs)
  decl_layer (Decl-F.Binding pat rhs) = subst P (sym (v_decl.rolls-Binding pat rhs)) (on_binding pat rhs)

  pub decl_cases : (x : Decl) → P x
  decl_cases x = subst P (roll-out-Decl x) (decl_layer (out-Decl x))

module _ (P : ListExp → Type 0)
    (on_members : (open_at : At) (first : Exp) (rest : List CommaExp) (close_at : At) → P (v_list_exp.Members open_at first rest close_at))
    (on_range : (open_at : At) (low : Exp) (dots : At) (high : Exp) (close_at : At) → P (v_list_exp.Range open_at low dots high close_at))
    (on_comprehension : (open_at : At) (head : Exp) (bar : At) (first : Qual) (rest : List CommaQual) (close_at : At) → P (v_list_exp.Comprehension open_at head bar first rest close_at)) where
  list_exp_layer : (x : ListExp-F Aexp Alt Decl ListExp Operand Qual Rhs Where Alts Apply ArrowGuard Block CommaExp CommaQual EqualGuard Exp Link NextAlt NextDecl) → P (roll-ListExp x)
  list_exp_layer (ListExp-F.Members open_at first rest close_at) = subst P (sym (v_list_exp.rolls-Members open_at first rest close_at)) (on_members open_at first rest close_at)
  list_exp_layer (ListExp-F.Range open_at low dots high close_at) = subst P (sym (v_list_exp.rolls-Range open_at low dots high close_at)) (on_range open_at low dots high close_at)
  list_exp_layer (ListExp-F.Comprehension open_at head bar first rest close_at) = subst P (sym (v_list_exp.rolls-Comprehension open_at head bar first rest close_at)) (on_comprehension open_at head bar first rest close_at)

  pub list_exp_cases : (x : ListExp) → P x
  list_exp_cases x = subst P (roll-out-ListExp x) (list_exp_layer (out-ListExp x))

module _ (P : Operand → Type 0)
    (on_applied : (apply : Apply) → P (v_operand.Applied apply))
    (on_lambda : (at : At) (first : Apat) (rest : List Apat) (arrow : At) (body : Exp) → P (v_operand.Lambda at first rest arrow body))
    (on_let : (at : At) (decls : Block) (in_at : At) (body : Exp) → P (v_operand.Let at decls in_at body))
    (on_if : (at : At) (condition : Exp) (then_at : At) (positive : Exp) (else_at : At) (negative : Exp) → P (v_operand.If at condition then_at positive else_at negative))
    (on_case : (at : At) (subject : Exp) (of_at : At) (alts : Alts) → P (v_operand.Case at subject of_at alts)) where
  operand_layer : (x : Operand-F Aexp Alt Decl ListExp Operand Qual Rhs Where Alts Apply ArrowGuard Block CommaExp CommaQual EqualGuard Exp Link NextAlt NextDecl) → P (roll-Operand x)
  operand_layer (Operand-F.Applied apply) = subst P (sym (v_operand.rolls-Applied apply)) (on_applied apply)
  operand_layer (Operand-F.Lambda at first rest arrow body) = subst P (sym (v_operand.rolls-Lambda at first rest arrow body)) (on_lambda at first rest arrow body)
  operand_layer (Operand-F.Let at decls in_at body) = subst P (sym (v_operand.rolls-Let at decls in_at body)) (on_let at decls in_at body)
  operand_layer (Operand-F.If at condition then_at positive else_at negative) = subst P (sym (v_operand.rolls-If at condition then_at positive else_at negative)) (on_if at condition then_at positive else_at negative)
  operand_layer (Operand-F.Case at subject of_at alts) = subst P (sym (v_operand.rolls-Case at subject of_at alts)) (on_case at subject of_at alts)

  pub operand_cases : (x : Operand) → P x
  operand_cases x = subst P (roll-out-Operand x) (operand_layer (out-Operand x))

module _ (P : Qual → Type 0)
    (on_generator : (pat : Pat) (arrow : At) (exp : Exp) → P (v_qual.Generator pat arrow exp))
    (on_condition : (exp : Exp) → P (v_qual.Condition exp))
    (on_local : (at : At) (decls : Block) → P (v_qual.Local at decls)) where
  qual_layer : (x : Qual-F Aexp Alt Decl ListExp Operand Qual Rhs Where Alts Apply ArrowGuard Block CommaExp CommaQual EqualGuard Exp Link NextAlt NextDecl) → P (roll-Qual x)
  qual_layer (Qual-F.Generator pat arrow exp) = subst P (sym (v_qual.rolls-Generator pat arrow exp)) (on_generator pat arrow exp)
  qual_layer (Qual-F.Condition exp) = subst P (sym (v_qual.rolls-Condition exp)) (on_condition exp)
  qual_layer (Qual-F.Local at decls) = subst P (sym (v_qual.rolls-Local at decls)) (on_local at decls)

  pub qual_cases : (x : Qual) → P x
  qual_cases x = subst P (roll-out-Qual x) (qual_layer (out-Qual x))

module _ (P : Rhs → Type 0)
    (on_equal : (equal : At) (exp : Exp) (local : Where) → P (v_rhs.Equal equal exp local))
    (on_guards : (first : EqualGuard) (rest : List EqualGuard) (local : Where) → P (v_rhs.Guards first rest local)) where
  rhs_layer : (x : Rhs-F Aexp Alt Decl ListExp Operand Qual Rhs Where Alts Apply ArrowGuard Block CommaExp CommaQual EqualGuard Exp Link NextAlt NextDecl) → P (roll-Rhs x)
  rhs_layer (Rhs-F.Equal equal exp local) = subst P (sym (v_rhs.rolls-Equal equal exp local)) (on_equal equal exp local)
  rhs_layer (Rhs-F.Guards first rest local) = subst P (sym (v_rhs.rolls-Guards first rest local)) (on_guards first rest local)

  pub rhs_cases : (x : Rhs) → P x
  rhs_cases x = subst P (roll-out-Rhs x) (rhs_layer (out-Rhs x))

module _ (P : Where → Type 0)
    (on_absent : P v_where.Absent)
    (on_present : (at : At) (decls : Block) → P (v_where.Present at decls)) where
  where_layer : (x : Where-F Aexp Alt Decl ListExp Operand Qual Rhs Where Alts Apply ArrowGuard Block CommaExp CommaQual EqualGuard Exp Link NextAlt NextDecl) → P (roll-Where x)
  where_layer Where-F.Absent = subst P (sym v_where.rolls-Absent) on_absent
  where_layer (Where-F.Present at decls) = subst P (sym (v_where.rolls-Present at decls)) (on_present at decls)

  pub where_cases : (x : Where) → P x
  where_cases x = subst P (roll-out-Where x) (where_layer (out-Where x))

pub alts_cases : (P : Alts → Type 0) → ((open_at : At) (first : Alt) (rest : List NextAlt) (close_at : At) → P (roll-Alts (record { open_at = open_at; first = first; rest = rest; close_at = close_at }))) → (x : Alts) → P x
alts_cases P h x = subst P (roll-out-Alts x) (h (out-Alts x).open_at (out-Alts x).first (out-Alts x).rest (out-Alts x).close_at)

pub apply_cases : (P : Apply → Type 0) → ((head : Aexp) (args : List Aexp) → P (roll-Apply (record { head = head; args = args }))) → (x : Apply) → P x
apply_cases P h x = subst P (roll-out-Apply x) (h (out-Apply x).head (out-Apply x).args)

pub arrow_guard_cases : (P : ArrowGuard → Type 0) → ((bar : At) (condition : Exp) (arrow : At) (exp : Exp) → P (roll-ArrowGuard (record { bar = bar; condition = condition; arrow = arrow; exp = exp }))) → (x : ArrowGuard) → P x
arrow_guard_cases P h x = subst P (roll-out-ArrowGuard x) (h (out-ArrowGuard x).bar (out-ArrowGuard x).condition (out-ArrowGuard x).arrow (out-ArrowGuard x).exp)

pub block_cases : (P : Block → Type 0) → ((open_at : At) (first : Decl) (rest : List NextDecl) (close_at : At) → P (roll-Block (record { open_at = open_at; first = first; rest = rest; close_at = close_at }))) → (x : Block) → P x
block_cases P h x = subst P (roll-out-Block x) (h (out-Block x).open_at (out-Block x).first (out-Block x).rest (out-Block x).close_at)

pub comma_exp_cases : (P : CommaExp → Type 0) → ((comma : At) (exp : Exp) → P (roll-CommaExp (record { comma = comma; exp = exp }))) → (x : CommaExp) → P x
comma_exp_cases P h x = subst P (roll-out-CommaExp x) (h (out-CommaExp x).comma (out-CommaExp x).exp)

pub comma_qual_cases : (P : CommaQual → Type 0) → ((comma : At) (qual : Qual) → P (roll-CommaQual (record { comma = comma; qual = qual }))) → (x : CommaQual) → P x
comma_qual_cases P h x = subst P (roll-out-CommaQual x) (h (out-CommaQual x).comma (out-CommaQual x).qual)

pub equal_guard_cases : (P : EqualGuard → Type 0) → ((bar : At) (condition : Exp) (equal : At) (exp : Exp) → P (roll-EqualGuard (record { bar = bar; condition = condition; equal = equal; exp = exp }))) → (x : EqualGuard) → P x
equal_guard_cases P h x = subst P (roll-out-EqualGuard x) (h (out-EqualGuard x).bar (out-EqualGuard x).condition (out-EqualGuard x).equal (out-EqualGuard x).exp)

pub exp_cases : (P : Exp → Type 0) → ((links : List Link) (sign : Sign) (last : Operand) → P (roll-Exp (record { links = links; sign = sign; last = last }))) → (x : Exp) → P x
exp_cases P h x = subst P (roll-out-Exp x) (h (out-Exp x).links (out-Exp x).sign (out-Exp x).last)

pub link_cases : (P : Link → Type 0) → ((sign : Sign) (left : Apply) (op : Op) → P (roll-Link (record { sign = sign; left = left; op = op }))) → (x : Link) → P x
link_cases P h x = subst P (roll-out-Link x) (h (out-Link x).sign (out-Link x).left (out-Link x).op)

pub next_alt_cases : (P : NextAlt → Type 0) → ((semicolon : At) (alt : Alt) → P (roll-NextAlt (record { semicolon = semicolon; alt = alt }))) → (x : NextAlt) → P x
next_alt_cases P h x = subst P (roll-out-NextAlt x) (h (out-NextAlt x).semicolon (out-NextAlt x).alt)

pub next_decl_cases : (P : NextDecl → Type 0) → ((semicolon : At) (decl : Decl) → P (roll-NextDecl (record { semicolon = semicolon; decl = decl }))) → (x : NextDecl) → P x
next_decl_cases P h x = subst P (roll-out-NextDecl x) (h (out-NextDecl x).semicolon (out-NextDecl x).decl)
