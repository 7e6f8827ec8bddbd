-- When expressions and declarations are well formed, one equation for each production.
use Rattle.std.proofs.Common.{◌≡◌, List, Bool, true, false, not, ◌&&◌, ◌||◌, sym, ◌∙◌, ap, ap₂}
use Rattle.hdc_tree.specs.declared.pattern.Apat.{Apat}
use Rattle.hdc_base.specs.declared.place.At.{At}
use Rattle.hdc_tree.specs.declared.name.CommaVar.{CommaVar}
use Rattle.hdc_tree.specs.declared.head.Head.{Head}
use Rattle.hdc_tree.specs.declared.name.Literal.{Literal}
use Rattle.hdc_tree.specs.declared.name.Name.{Name}
use Rattle.hdc_tree.specs.declared.name.Op.{Op}
use Rattle.hdc_tree.specs.declared.pattern.Pat.{Pat}
use Rattle.hdc_tree.specs.declared.name.Sign.{Sign}
use Rattle.hdc_tree.specs.declared.type_tree.TypeExp.{TypeExp}
use Rattle.hdc_tree.specs.declared.name.Var.{Var}
use Rattle.hdc_tree.specs.declared.expression.Aexp.{Aexp, Aexp-F, fold-roll-Aexp}
use Rattle.hdc_tree.specs.declared.expression.Alt.{Alt, Alt-F, fold-roll-Alt}
use Rattle.hdc_tree.specs.declared.expression.Decl.{Decl, Decl-F, fold-roll-Decl}
use Rattle.hdc_tree.specs.declared.expression.ListExp.{ListExp, ListExp-F, fold-roll-ListExp}
use Rattle.hdc_tree.specs.declared.expression.Operand.{Operand, Operand-F, fold-roll-Operand}
use Rattle.hdc_tree.specs.declared.expression.Qual.{Qual, Qual-F, fold-roll-Qual}
use Rattle.hdc_tree.specs.declared.expression.Rhs.{Rhs, Rhs-F, fold-roll-Rhs}
use Rattle.hdc_tree.specs.declared.expression.Where.{Where, Where-F, fold-roll-Where}
use Rattle.hdc_tree.specs.declared.expression.Alts.{Alts, roll-Alts, fold-roll-Alts}
use Rattle.hdc_tree.specs.declared.expression.Apply.{Apply, roll-Apply, fold-roll-Apply}
use Rattle.hdc_tree.specs.declared.expression.ArrowGuard.{ArrowGuard, roll-ArrowGuard, fold-roll-ArrowGuard}
use Rattle.hdc_tree.specs.declared.expression.Block.{Block, roll-Block, fold-roll-Block}
use Rattle.hdc_tree.specs.declared.expression.CommaExp.{CommaExp, roll-CommaExp, fold-roll-CommaExp}
use Rattle.hdc_tree.specs.declared.expression.CommaQual.{CommaQual, roll-CommaQual, fold-roll-CommaQual}
use Rattle.hdc_tree.specs.declared.expression.EqualGuard.{EqualGuard, roll-EqualGuard, fold-roll-EqualGuard}
use Rattle.hdc_tree.specs.declared.expression.Exp.{Exp, roll-Exp, fold-roll-Exp}
use Rattle.hdc_tree.specs.declared.expression.Link.{Link, roll-Link, fold-roll-Link}
use Rattle.hdc_tree.specs.declared.expression.NextAlt.{NextAlt, roll-NextAlt, fold-NextAlt, fold-roll-NextAlt}
use Rattle.hdc_tree.specs.declared.expression.NextDecl.{NextDecl, roll-NextDecl, fold-roll-NextDecl}
use Rattle.hdc_tree.specs.declared.expression.Aexp.TheVariants as v_aexp
use Rattle.hdc_tree.specs.declared.expression.Alt.TheVariants as v_alt
use Rattle.hdc_tree.specs.declared.expression.Decl.TheVariants as v_decl
use Rattle.hdc_tree.specs.declared.expression.ListExp.TheVariants as v_list_exp
use Rattle.hdc_tree.specs.declared.expression.Operand.TheVariants as v_operand
use Rattle.hdc_tree.specs.declared.expression.Qual.TheVariants as v_qual
use Rattle.hdc_tree.specs.declared.expression.Rhs.TheVariants as v_rhs
use Rattle.hdc_tree.specs.declared.expression.Where.TheVariants as v_where
use Rattle.hdc_tree.specs.Form.{each_formed, few, any_of}
use Rattle.hdc_tree.specs.PatternForm.{formed_apat, formed_pat, is_plain_name}
use Rattle.hdc_tree.specs.TypeForm.{formed_type_exp}
use Rattle.hdc_tree.specs.HeadForm.{formed_head}
use Rattle.hdc_tree.proofs.Lists.{every_is, few_map, each_formed_map, any_of_map}
use Rattle.hdc_tree.specs.ExpressionForm.{formed_aexp_step, formed_alt_step, formed_decl_step, formed_list_exp_step, formed_operand_step, formed_qual_step, formed_rhs_step, formed_where_step, formed_alts_step, formed_apply_step, formed_arrow_guard_step, formed_block_step, formed_comma_exp_step, formed_comma_qual_step, formed_equal_guard_step, formed_exp_step, formed_link_step, formed_next_alt_step, formed_next_decl_step, formed_aexp, formed_alt, formed_decl, formed_list_exp, formed_operand, formed_qual, formed_rhs, formed_where, formed_alts, formed_apply, formed_arrow_guard, formed_block, formed_comma_exp, formed_comma_qual, formed_equal_guard, formed_exp, formed_link, formed_next_alt, formed_next_decl, filled_alt, filled_next_alt, is_minus}

pub formed_aexp_var : (var : Var) → formed_aexp (v_aexp.Var var) ≡ true
formed_aexp_var var = ap formed_aexp (sym (v_aexp.rolls-Var var)) ∙ fold-roll-Aexp Bool (Bool × Bool) Bool Bool Bool Bool Bool Bool Bool Bool Bool Bool Bool Bool Bool Bool Bool (Bool × Bool) Bool formed_aexp_step formed_alt_step formed_decl_step formed_list_exp_step formed_operand_step formed_qual_step formed_rhs_step formed_where_step formed_alts_step formed_apply_step formed_arrow_guard_step formed_block_step formed_comma_exp_step formed_comma_qual_step formed_equal_guard_step formed_exp_step formed_link_step formed_next_alt_step formed_next_decl_step (Aexp-F.Var var)

pub formed_aexp_con : (name : Name) → formed_aexp (v_aexp.Con name) ≡ true
formed_aexp_con name = ap formed_aexp (sym (v_aexp.rolls-Con name)) ∙ fold-roll-Aexp Bool (Bool × Bool) Bool Bool Bool Bool Bool Bool Bool Bool Bool Bool Bool Bool Bool Bool Bool (Bool × Bool) Bool formed_aexp_step formed_alt_step formed_decl_step formed_list_exp_step formed_operand_step formed_qual_step formed_rhs_step formed_where_step formed_alts_step formed_apply_step formed_arrow_guard_step formed_block_step formed_comma_exp_step formed_comma_qual_step formed_equal_guard_step formed_exp_step formed_link_step formed_next_alt_step formed_next_decl_step (Aexp-F.Con name)

pub formed_aexp_literal : (at : At) (literal : Literal) → formed_aexp (v_aexp.Literal at literal) ≡ true
formed_aexp_literal at literal = ap formed_aexp (sym (v_aexp.rolls-Literal at literal)) ∙ fold-roll-Aexp Bool (Bool × Bool) Bool Bool Bool Bool Bool Bool Bool Bool Bool Bool Bool Bool Bool Bool Bool (Bool × Bool) Bool formed_aexp_step formed_alt_step formed_decl_step formed_list_exp_step formed_operand_step formed_qual_step formed_rhs_step formed_where_step formed_alts_step formed_apply_step formed_arrow_guard_step formed_block_step formed_comma_exp_step formed_comma_qual_step formed_equal_guard_step formed_exp_step formed_link_step formed_next_alt_step formed_next_decl_step (Aexp-F.Literal at literal)

pub formed_aexp_unit : (open_at close_at : At) → formed_aexp (v_aexp.Unit open_at close_at) ≡ true
formed_aexp_unit open_at close_at = ap formed_aexp (sym (v_aexp.rolls-Unit open_at close_at)) ∙ fold-roll-Aexp Bool (Bool × Bool) Bool Bool Bool Bool Bool Bool Bool Bool Bool Bool Bool Bool Bool Bool Bool (Bool × Bool) Bool formed_aexp_step formed_alt_step formed_decl_step formed_list_exp_step formed_operand_step formed_qual_step formed_rhs_step formed_where_step formed_alts_step formed_apply_step formed_arrow_guard_step formed_block_step formed_comma_exp_step formed_comma_qual_step formed_equal_guard_step formed_exp_step formed_link_step formed_next_alt_step formed_next_decl_step (Aexp-F.Unit open_at close_at)

pub formed_aexp_nil : (open_at close_at : At) → formed_aexp (v_aexp.Nil open_at close_at) ≡ true
formed_aexp_nil open_at close_at = ap formed_aexp (sym (v_aexp.rolls-Nil open_at close_at)) ∙ fold-roll-Aexp Bool (Bool × Bool) Bool Bool Bool Bool Bool Bool Bool Bool Bool Bool Bool Bool Bool Bool Bool (Bool × Bool) Bool formed_aexp_step formed_alt_step formed_decl_step formed_list_exp_step formed_operand_step formed_qual_step formed_rhs_step formed_where_step formed_alts_step formed_apply_step formed_arrow_guard_step formed_block_step formed_comma_exp_step formed_comma_qual_step formed_equal_guard_step formed_exp_step formed_link_step formed_next_alt_step formed_next_decl_step (Aexp-F.Nil open_at close_at)

pub formed_aexp_cons : (open_at at close_at : At) → formed_aexp (v_aexp.Cons open_at at close_at) ≡ true
formed_aexp_cons open_at at close_at = ap formed_aexp (sym (v_aexp.rolls-Cons open_at at close_at)) ∙ fold-roll-Aexp Bool (Bool × Bool) Bool Bool Bool Bool Bool Bool Bool Bool Bool Bool Bool Bool Bool Bool Bool (Bool × Bool) Bool formed_aexp_step formed_alt_step formed_decl_step formed_list_exp_step formed_operand_step formed_qual_step formed_rhs_step formed_where_step formed_alts_step formed_apply_step formed_arrow_guard_step formed_block_step formed_comma_exp_step formed_comma_qual_step formed_equal_guard_step formed_exp_step formed_link_step formed_next_alt_step formed_next_decl_step (Aexp-F.Cons open_at at close_at)

pub formed_aexp_paren : (open_at : At) (inner : Exp) (close_at : At) → formed_aexp (v_aexp.Paren open_at inner close_at) ≡ formed_exp inner
formed_aexp_paren open_at inner close_at = ap formed_aexp (sym (v_aexp.rolls-Paren open_at inner close_at)) ∙ fold-roll-Aexp Bool (Bool × Bool) Bool Bool Bool Bool Bool Bool Bool Bool Bool Bool Bool Bool Bool Bool Bool (Bool × Bool) Bool formed_aexp_step formed_alt_step formed_decl_step formed_list_exp_step formed_operand_step formed_qual_step formed_rhs_step formed_where_step formed_alts_step formed_apply_step formed_arrow_guard_step formed_block_step formed_comma_exp_step formed_comma_qual_step formed_equal_guard_step formed_exp_step formed_link_step formed_next_alt_step formed_next_decl_step (Aexp-F.Paren open_at inner close_at)

pub formed_aexp_tuple : (open_at : At) (first : Exp) (rest : List CommaExp) (close_at : At) → formed_aexp (v_aexp.Tuple open_at first rest close_at) ≡ (formed_exp first && (each_formed formed_comma_exp rest && few rest))
formed_aexp_tuple open_at first rest close_at = ap formed_aexp (sym (v_aexp.rolls-Tuple open_at first rest close_at)) ∙ fold-roll-Aexp Bool (Bool × Bool) Bool Bool Bool Bool Bool Bool Bool Bool Bool Bool Bool Bool Bool Bool Bool (Bool × Bool) Bool formed_aexp_step formed_alt_step formed_decl_step formed_list_exp_step formed_operand_step formed_qual_step formed_rhs_step formed_where_step formed_alts_step formed_apply_step formed_arrow_guard_step formed_block_step formed_comma_exp_step formed_comma_qual_step formed_equal_guard_step formed_exp_step formed_link_step formed_next_alt_step formed_next_decl_step (Aexp-F.Tuple open_at first rest close_at) ∙ ap₂ (λ y z. formed_exp first && (y && z)) (every_is formed_comma_exp rest) (few_map formed_comma_exp rest)

pub formed_aexp_list : (list : ListExp) → formed_aexp (v_aexp.List list) ≡ formed_list_exp list
formed_aexp_list list = ap formed_aexp (sym (v_aexp.rolls-List list)) ∙ fold-roll-Aexp Bool (Bool × Bool) Bool Bool Bool Bool Bool Bool Bool Bool Bool Bool Bool Bool Bool Bool Bool (Bool × Bool) Bool formed_aexp_step formed_alt_step formed_decl_step formed_list_exp_step formed_operand_step formed_qual_step formed_rhs_step formed_where_step formed_alts_step formed_apply_step formed_arrow_guard_step formed_block_step formed_comma_exp_step formed_comma_qual_step formed_equal_guard_step formed_exp_step formed_link_step formed_next_alt_step formed_next_decl_step (Aexp-F.List list)

pub formed_aexp_left_section : (open_at : At) (left : Exp) (op : Op) (close_at : At) → formed_aexp (v_aexp.LeftSection open_at left op close_at) ≡ formed_exp left
formed_aexp_left_section open_at left op close_at = ap formed_aexp (sym (v_aexp.rolls-LeftSection open_at left op close_at)) ∙ fold-roll-Aexp Bool (Bool × Bool) Bool Bool Bool Bool Bool Bool Bool Bool Bool Bool Bool Bool Bool Bool Bool (Bool × Bool) Bool formed_aexp_step formed_alt_step formed_decl_step formed_list_exp_step formed_operand_step formed_qual_step formed_rhs_step formed_where_step formed_alts_step formed_apply_step formed_arrow_guard_step formed_block_step formed_comma_exp_step formed_comma_qual_step formed_equal_guard_step formed_exp_step formed_link_step formed_next_alt_step formed_next_decl_step (Aexp-F.LeftSection open_at left op close_at)

pub formed_aexp_right_section : (open_at : At) (op : Op) (right : Exp) (close_at : At) → formed_aexp (v_aexp.RightSection open_at op right close_at) ≡ (formed_exp right && not (is_minus op))
formed_aexp_right_section open_at op right close_at = ap formed_aexp (sym (v_aexp.rolls-RightSection open_at op right close_at)) ∙ fold-roll-Aexp Bool (Bool × Bool) Bool Bool Bool Bool Bool Bool Bool Bool Bool Bool Bool Bool Bool Bool Bool (Bool × Bool) Bool formed_aexp_step formed_alt_step formed_decl_step formed_list_exp_step formed_operand_step formed_qual_step formed_rhs_step formed_where_step formed_alts_step formed_apply_step formed_arrow_guard_step formed_block_step formed_comma_exp_step formed_comma_qual_step formed_equal_guard_step formed_exp_step formed_link_step formed_next_alt_step formed_next_decl_step (Aexp-F.RightSection open_at op right close_at)

pub formed_alt_blank : formed_alt v_alt.Blank ≡ true
formed_alt_blank = ap formed_alt (sym v_alt.rolls-Blank) ∙ ap (λ (x : Bool × Bool). x.0) (fold-roll-Alt Bool (Bool × Bool) Bool Bool Bool Bool Bool Bool Bool Bool Bool Bool Bool Bool Bool Bool Bool (Bool × Bool) Bool formed_aexp_step formed_alt_step formed_decl_step formed_list_exp_step formed_operand_step formed_qual_step formed_rhs_step formed_where_step formed_alts_step formed_apply_step formed_arrow_guard_step formed_block_step formed_comma_exp_step formed_comma_qual_step formed_equal_guard_step formed_exp_step formed_link_step formed_next_alt_step formed_next_decl_step Alt-F.Blank)

pub filled_alt_blank : filled_alt v_alt.Blank ≡ false
filled_alt_blank = ap filled_alt (sym v_alt.rolls-Blank) ∙ ap (λ (x : Bool × Bool). x.1) (fold-roll-Alt Bool (Bool × Bool) Bool Bool Bool Bool Bool Bool Bool Bool Bool Bool Bool Bool Bool Bool Bool (Bool × Bool) Bool formed_aexp_step formed_alt_step formed_decl_step formed_list_exp_step formed_operand_step formed_qual_step formed_rhs_step formed_where_step formed_alts_step formed_apply_step formed_arrow_guard_step formed_block_step formed_comma_exp_step formed_comma_qual_step formed_equal_guard_step formed_exp_step formed_link_step formed_next_alt_step formed_next_decl_step Alt-F.Blank)

pub formed_alt_arrow : (pat : Pat) (arrow : At) (exp : Exp) (local : Where) → formed_alt (v_alt.Arrow pat arrow exp local) ≡ (formed_pat pat && (formed_exp exp && formed_where local))
formed_alt_arrow pat arrow exp local = ap formed_alt (sym (v_alt.rolls-Arrow pat arrow exp local)) ∙ ap (λ (x : Bool × Bool). x.0) (fold-roll-Alt Bool (Bool × Bool) Bool Bool Bool Bool Bool Bool Bool Bool Bool Bool Bool Bool Bool Bool Bool (Bool × Bool) Bool formed_aexp_step formed_alt_step formed_decl_step formed_list_exp_step formed_operand_step formed_qual_step formed_rhs_step formed_where_step formed_alts_step formed_apply_step formed_arrow_guard_step formed_block_step formed_comma_exp_step formed_comma_qual_step formed_equal_guard_step formed_exp_step formed_link_step formed_next_alt_step formed_next_decl_step (Alt-F.Arrow pat arrow exp local))

pub filled_alt_arrow : (pat : Pat) (arrow : At) (exp : Exp) (local : Where) → filled_alt (v_alt.Arrow pat arrow exp local) ≡ true
filled_alt_arrow pat arrow exp local = ap filled_alt (sym (v_alt.rolls-Arrow pat arrow exp local)) ∙ ap (λ (x : Bool × Bool). x.1) (fold-roll-Alt Bool (Bool × Bool) Bool Bool Bool Bool Bool Bool Bool Bool Bool Bool Bool Bool Bool Bool Bool (Bool × Bool) Bool formed_aexp_step formed_alt_step formed_decl_step formed_list_exp_step formed_operand_step formed_qual_step formed_rhs_step formed_where_step formed_alts_step formed_apply_step formed_arrow_guard_step formed_block_step formed_comma_exp_step formed_comma_qual_step formed_equal_guard_step formed_exp_step formed_link_step formed_next_alt_step formed_next_decl_step (Alt-F.Arrow pat arrow exp local))

pub formed_alt_guarded : (pat : Pat) (first : ArrowGuard) (rest : List ArrowGuard) (local : Where) → formed_alt (v_alt.Guarded pat first rest local) ≡ (formed_pat pat && (formed_arrow_guard first && (each_formed formed_arrow_guard rest && formed_where local)))
formed_alt_guarded pat first rest local = ap formed_alt (sym (v_alt.rolls-Guarded pat first rest local)) ∙ ap (λ (x : Bool × Bool). x.0) (fold-roll-Alt Bool (Bool × Bool) Bool Bool Bool Bool Bool Bool Bool Bool Bool Bool Bool Bool Bool Bool Bool (Bool × Bool) Bool formed_aexp_step formed_alt_step formed_decl_step formed_list_exp_step formed_operand_step formed_qual_step formed_rhs_step formed_where_step formed_alts_step formed_apply_step formed_arrow_guard_step formed_block_step formed_comma_exp_step formed_comma_qual_step formed_equal_guard_step formed_exp_step formed_link_step formed_next_alt_step formed_next_decl_step (Alt-F.Guarded pat first rest local)) ∙ ap (λ z. formed_pat pat && (formed_arrow_guard first && (z && formed_where local))) (every_is formed_arrow_guard rest)

pub filled_alt_guarded : (pat : Pat) (first : ArrowGuard) (rest : List ArrowGuard) (local : Where) → filled_alt (v_alt.Guarded pat first rest local) ≡ true
filled_alt_guarded pat first rest local = ap filled_alt (sym (v_alt.rolls-Guarded pat first rest local)) ∙ ap (λ (x : Bool × Bool). x.1) (fold-roll-Alt Bool (Bool × Bool) Bool Bool Bool Bool Bool Bool Bool Bool Bool Bool Bool Bool Bool Bool Bool (Bool × Bool) Bool formed_aexp_step formed_alt_step formed_decl_step formed_list_exp_step formed_operand_step formed_qual_step formed_rhs_step formed_where_step formed_alts_step formed_apply_step formed_arrow_guard_step formed_block_step formed_comma_exp_step formed_comma_qual_step formed_equal_guard_step formed_exp_step formed_link_step formed_next_alt_step formed_next_decl_step (Alt-F.Guarded pat first rest local))

pub formed_decl_empty : formed_decl v_decl.Empty ≡ true
formed_decl_empty = ap formed_decl (sym v_decl.rolls-Empty) ∙ fold-roll-Decl Bool (Bool × Bool) Bool Bool Bool Bool Bool Bool Bool Bool Bool Bool Bool Bool Bool Bool Bool (Bool × Bool) Bool formed_aexp_step formed_alt_step formed_decl_step formed_list_exp_step formed_operand_step formed_qual_step formed_rhs_step formed_where_step formed_alts_step formed_apply_step formed_arrow_guard_step formed_block_step formed_comma_exp_step formed_comma_qual_step formed_equal_guard_step formed_exp_step formed_link_step formed_next_alt_step formed_next_decl_step Decl-F.Empty

pub formed_decl_signature : (var : Var) (rest : List CommaVar) (at : At) (part : TypeExp) → formed_decl (v_decl.Signature var rest at part) ≡ formed_type_exp part
formed_decl_signature var rest at part = ap formed_decl (sym (v_decl.rolls-Signature var rest at part)) ∙ fold-roll-Decl Bool (Bool × Bool) Bool Bool Bool Bool Bool Bool Bool Bool Bool Bool Bool Bool Bool Bool Bool (Bool × Bool) Bool formed_aexp_step formed_alt_step formed_decl_step formed_list_exp_step formed_operand_step formed_qual_step formed_rhs_step formed_where_step formed_alts_step formed_apply_step formed_arrow_guard_step formed_block_step formed_comma_exp_step formed_comma_qual_step formed_equal_guard_step formed_exp_step formed_link_step formed_next_alt_step formed_next_decl_step (Decl-F.Signature var rest at part)

pub formed_decl_equation : (head : Head) (rhs : Rhs) → formed_decl (v_decl.Equation head rhs) ≡ (formed_head head && formed_rhs rhs)
formed_decl_equation head rhs = ap formed_decl (sym (v_decl.rolls-Equation head rhs)) ∙ fold-roll-Decl Bool (Bool × Bool) Bool Bool Bool Bool Bool Bool Bool Bool Bool Bool Bool Bool Bool Bool Bool (Bool × Bool) Bool formed_aexp_step formed_alt_step formed_decl_step formed_list_exp_step formed_operand_step formed_qual_step formed_rhs_step formed_where_step formed_alts_step formed_apply_step formed_arrow_guard_step formed_block_step formed_comma_exp_step formed_comma_qual_step formed_equal_guard_step formed_exp_step formed_link_step formed_next_alt_step formed_next_decl_step (Decl-F.Equation head rhs)

pub formed_decl_binding : (pat : Pat) (rhs : Rhs) → formed_decl (v_decl.Binding pat rhs) ≡ (formed_pat pat && (formed_rhs rhs && not (is_plain_name pat)))
formed_decl_binding pat rhs = ap formed_decl (sym (v_decl.rolls-Binding pat rhs)) ∙ fold-roll-Decl Bool (Bool × Bool) Bool Bool Bool Bool Bool Bool Bool Bool Bool Bool Bool Bool Bool Bool Bool (Bool × Bool) Bool formed_aexp_step formed_alt_step formed_decl_step formed_list_exp_step formed_operand_step formed_qual_step formed_rhs_step formed_where_step formed_alts_step formed_apply_step formed_arrow_guard_step formed_block_step formed_comma_exp_step formed_comma_qual_step formed_equal_guard_step formed_exp_step formed_link_step formed_next_alt_step formed_next_decl_step (Decl-F.Binding pat rhs)

pub formed_list_exp_members : (open_at : At) (first : Exp) (rest : List CommaExp) (close_at : At) → formed_list_exp (v_list_exp.Members open_at first rest close_at) ≡ (formed_exp first && each_formed formed_comma_exp rest)
formed_list_exp_members open_at first rest close_at = ap formed_list_exp (sym (v_list_exp.rolls-Members open_at first rest close_at)) ∙ fold-roll-ListExp Bool (Bool × Bool) Bool Bool Bool Bool Bool Bool Bool Bool Bool Bool Bool Bool Bool Bool Bool (Bool × Bool) Bool formed_aexp_step formed_alt_step formed_decl_step formed_list_exp_step formed_operand_step formed_qual_step formed_rhs_step formed_where_step formed_alts_step formed_apply_step formed_arrow_guard_step formed_block_step formed_comma_exp_step formed_comma_qual_step formed_equal_guard_step formed_exp_step formed_link_step formed_next_alt_step formed_next_decl_step (ListExp-F.Members open_at first rest close_at) ∙ ap (λ z. formed_exp first && z) (every_is formed_comma_exp rest)

pub formed_list_exp_range : (open_at : At) (low : Exp) (dots : At) (high : Exp) (close_at : At) → formed_list_exp (v_list_exp.Range open_at low dots high close_at) ≡ (formed_exp low && formed_exp high)
formed_list_exp_range open_at low dots high close_at = ap formed_list_exp (sym (v_list_exp.rolls-Range open_at low dots high close_at)) ∙ fold-roll-ListExp Bool (Bool × Bool) Bool Bool Bool Bool Bool Bool Bool Bool Bool Bool Bool Bool Bool Bool Bool (Bool × Bool) Bool formed_aexp_step formed_alt_step formed_decl_step formed_list_exp_step formed_operand_step formed_qual_step formed_rhs_step formed_where_step formed_alts_step formed_apply_step formed_arrow_guard_step formed_block_step formed_comma_exp_step formed_comma_qual_step formed_equal_guard_step formed_exp_step formed_link_step formed_next_alt_step formed_next_decl_step (ListExp-F.Range open_at low dots high close_at)

pub formed_list_exp_comprehension : (open_at : At) (head : Exp) (bar : At) (first : Qual) (rest : List CommaQual) (close_at : At) → formed_list_exp (v_list_exp.Comprehension open_at head bar first rest close_at) ≡ (formed_exp head && (formed_qual first && each_formed formed_comma_qual rest))
formed_list_exp_comprehension open_at head bar first rest close_at = ap formed_list_exp (sym (v_list_exp.rolls-Comprehension open_at head bar first rest close_at)) ∙ fold-roll-ListExp Bool (Bool × Bool) Bool Bool Bool Bool Bool Bool Bool Bool Bool Bool Bool Bool Bool Bool Bool (Bool × Bool) Bool formed_aexp_step formed_alt_step formed_decl_step formed_list_exp_step formed_operand_step formed_qual_step formed_rhs_step formed_where_step formed_alts_step formed_apply_step formed_arrow_guard_step formed_block_step formed_comma_exp_step formed_comma_qual_step formed_equal_guard_step formed_exp_step formed_link_step formed_next_alt_step formed_next_decl_step (ListExp-F.Comprehension open_at head bar first rest close_at) ∙ ap (λ z. formed_exp head && (formed_qual first && z)) (every_is formed_comma_qual rest)

pub formed_operand_applied : (apply : Apply) → formed_operand (v_operand.Applied apply) ≡ formed_apply apply
formed_operand_applied apply = ap formed_operand (sym (v_operand.rolls-Applied apply)) ∙ fold-roll-Operand Bool (Bool × Bool) Bool Bool Bool Bool Bool Bool Bool Bool Bool Bool Bool Bool Bool Bool Bool (Bool × Bool) Bool formed_aexp_step formed_alt_step formed_decl_step formed_list_exp_step formed_operand_step formed_qual_step formed_rhs_step formed_where_step formed_alts_step formed_apply_step formed_arrow_guard_step formed_block_step formed_comma_exp_step formed_comma_qual_step formed_equal_guard_step formed_exp_step formed_link_step formed_next_alt_step formed_next_decl_step (Operand-F.Applied apply)

pub formed_operand_lambda : (at : At) (first : Apat) (rest : List Apat) (arrow : At) (body : Exp) → formed_operand (v_operand.Lambda at first rest arrow body) ≡ (formed_apat first && (each_formed formed_apat rest && formed_exp body))
formed_operand_lambda at first rest arrow body = ap formed_operand (sym (v_operand.rolls-Lambda at first rest arrow body)) ∙ fold-roll-Operand Bool (Bool × Bool) Bool Bool Bool Bool Bool Bool Bool Bool Bool Bool Bool Bool Bool Bool Bool (Bool × Bool) Bool formed_aexp_step formed_alt_step formed_decl_step formed_list_exp_step formed_operand_step formed_qual_step formed_rhs_step formed_where_step formed_alts_step formed_apply_step formed_arrow_guard_step formed_block_step formed_comma_exp_step formed_comma_qual_step formed_equal_guard_step formed_exp_step formed_link_step formed_next_alt_step formed_next_decl_step (Operand-F.Lambda at first rest arrow body)

pub formed_operand_let : (at : At) (decls : Block) (in_at : At) (body : Exp) → formed_operand (v_operand.Let at decls in_at body) ≡ (formed_block decls && formed_exp body)
formed_operand_let at decls in_at body = ap formed_operand (sym (v_operand.rolls-Let at decls in_at body)) ∙ fold-roll-Operand Bool (Bool × Bool) Bool Bool Bool Bool Bool Bool Bool Bool Bool Bool Bool Bool Bool Bool Bool (Bool × Bool) Bool formed_aexp_step formed_alt_step formed_decl_step formed_list_exp_step formed_operand_step formed_qual_step formed_rhs_step formed_where_step formed_alts_step formed_apply_step formed_arrow_guard_step formed_block_step formed_comma_exp_step formed_comma_qual_step formed_equal_guard_step formed_exp_step formed_link_step formed_next_alt_step formed_next_decl_step (Operand-F.Let at decls in_at body)

pub formed_operand_if : (at : At) (condition : Exp) (then_at : At) (positive : Exp) (else_at : At) (negative : Exp) → formed_operand (v_operand.If at condition then_at positive else_at negative) ≡ (formed_exp condition && (formed_exp positive && formed_exp negative))
formed_operand_if at condition then_at positive else_at negative = ap formed_operand (sym (v_operand.rolls-If at condition then_at positive else_at negative)) ∙ fold-roll-Operand Bool (Bool × Bool) Bool Bool Bool Bool Bool Bool Bool Bool Bool Bool Bool Bool Bool Bool Bool (Bool × Bool) Bool formed_aexp_step formed_alt_step formed_decl_step formed_list_exp_step formed_operand_step formed_qual_step formed_rhs_step formed_where_step formed_alts_step formed_apply_step formed_arrow_guard_step formed_block_step formed_comma_exp_step formed_comma_qual_step formed_equal_guard_step formed_exp_step formed_link_step formed_next_alt_step formed_next_decl_step (Operand-F.If at condition then_at positive else_at negative)

pub formed_operand_case : (at : At) (subject : Exp) (of_at : At) (alts : Alts) → formed_operand (v_operand.Case at subject of_at alts) ≡ (formed_exp subject && formed_alts alts)
formed_operand_case at subject of_at alts = ap formed_operand (sym (v_operand.rolls-Case at subject of_at alts)) ∙ fold-roll-Operand Bool (Bool × Bool) Bool Bool Bool Bool Bool Bool Bool Bool Bool Bool Bool Bool Bool Bool Bool (Bool × Bool) Bool formed_aexp_step formed_alt_step formed_decl_step formed_list_exp_step formed_operand_step formed_qual_step formed_rhs_step formed_where_step formed_alts_step formed_apply_step formed_arrow_guard_step formed_block_step formed_comma_exp_step formed_comma_qual_step formed_equal_guard_step formed_exp_step formed_link_step formed_next_alt_step formed_next_decl_step (Operand-F.Case at subject of_at alts)

pub formed_qual_generator : (pat : Pat) (arrow : At) (exp : Exp) → formed_qual (v_qual.Generator pat arrow exp) ≡ (formed_pat pat && formed_exp exp)
formed_qual_generator pat arrow exp = ap formed_qual (sym (v_qual.rolls-Generator pat arrow exp)) ∙ fold-roll-Qual Bool (Bool × Bool) Bool Bool Bool Bool Bool Bool Bool Bool Bool Bool Bool Bool Bool Bool Bool (Bool × Bool) Bool formed_aexp_step formed_alt_step formed_decl_step formed_list_exp_step formed_operand_step formed_qual_step formed_rhs_step formed_where_step formed_alts_step formed_apply_step formed_arrow_guard_step formed_block_step formed_comma_exp_step formed_comma_qual_step formed_equal_guard_step formed_exp_step formed_link_step formed_next_alt_step formed_next_decl_step (Qual-F.Generator pat arrow exp)

pub formed_qual_condition : (exp : Exp) → formed_qual (v_qual.Condition exp) ≡ formed_exp exp
formed_qual_condition exp = ap formed_qual (sym (v_qual.rolls-Condition exp)) ∙ fold-roll-Qual Bool (Bool × Bool) Bool Bool Bool Bool Bool Bool Bool Bool Bool Bool Bool Bool Bool Bool Bool (Bool × Bool) Bool formed_aexp_step formed_alt_step formed_decl_step formed_list_exp_step formed_operand_step formed_qual_step formed_rhs_step formed_where_step formed_alts_step formed_apply_step formed_arrow_guard_step formed_block_step formed_comma_exp_step formed_comma_qual_step formed_equal_guard_step formed_exp_step formed_link_step formed_next_alt_step formed_next_decl_step (Qual-F.Condition exp)

pub formed_qual_local : (at : At) (decls : Block) → formed_qual (v_qual.Local at decls) ≡ formed_block decls
formed_qual_local at decls = ap formed_qual (sym (v_qual.rolls-Local at decls)) ∙ fold-roll-Qual Bool (Bool × Bool) Bool Bool Bool Bool Bool Bool Bool Bool Bool Bool Bool Bool Bool Bool Bool (Bool × Bool) Bool formed_aexp_step formed_alt_step formed_decl_step formed_list_exp_step formed_operand_step formed_qual_step formed_rhs_step formed_where_step formed_alts_step formed_apply_step formed_arrow_guard_step formed_block_step formed_comma_exp_step formed_comma_qual_step formed_equal_guard_step formed_exp_step formed_link_step formed_next_alt_step formed_next_decl_step (Qual-F.Local at decls)

pub formed_rhs_equal : (equal : At) (exp : Exp) (local : Where) → formed_rhs (v_rhs.Equal equal exp local) ≡ (formed_exp exp && formed_where local)
formed_rhs_equal equal exp local = ap formed_rhs (sym (v_rhs.rolls-Equal equal exp local)) ∙ fold-roll-Rhs Bool (Bool × Bool) Bool Bool Bool Bool Bool Bool Bool Bool Bool Bool Bool Bool Bool Bool Bool (Bool × Bool) Bool formed_aexp_step formed_alt_step formed_decl_step formed_list_exp_step formed_operand_step formed_qual_step formed_rhs_step formed_where_step formed_alts_step formed_apply_step formed_arrow_guard_step formed_block_step formed_comma_exp_step formed_comma_qual_step formed_equal_guard_step formed_exp_step formed_link_step formed_next_alt_step formed_next_decl_step (Rhs-F.Equal equal exp local)

pub formed_rhs_guards : (first : EqualGuard) (rest : List EqualGuard) (local : Where) → formed_rhs (v_rhs.Guards first rest local) ≡ (formed_equal_guard first && (each_formed formed_equal_guard rest && formed_where local))
formed_rhs_guards first rest local = ap formed_rhs (sym (v_rhs.rolls-Guards first rest local)) ∙ fold-roll-Rhs Bool (Bool × Bool) Bool Bool Bool Bool Bool Bool Bool Bool Bool Bool Bool Bool Bool Bool Bool (Bool × Bool) Bool formed_aexp_step formed_alt_step formed_decl_step formed_list_exp_step formed_operand_step formed_qual_step formed_rhs_step formed_where_step formed_alts_step formed_apply_step formed_arrow_guard_step formed_block_step formed_comma_exp_step formed_comma_qual_step formed_equal_guard_step formed_exp_step formed_link_step formed_next_alt_step formed_next_decl_step (Rhs-F.Guards first rest local) ∙ ap (λ z. formed_equal_guard first && (z && formed_where local)) (every_is formed_equal_guard rest)

pub formed_where_absent : formed_where v_where.Absent ≡ true
formed_where_absent = ap formed_where (sym v_where.rolls-Absent) ∙ fold-roll-Where Bool (Bool × Bool) Bool Bool Bool Bool Bool Bool Bool Bool Bool Bool Bool Bool Bool Bool Bool (Bool × Bool) Bool formed_aexp_step formed_alt_step formed_decl_step formed_list_exp_step formed_operand_step formed_qual_step formed_rhs_step formed_where_step formed_alts_step formed_apply_step formed_arrow_guard_step formed_block_step formed_comma_exp_step formed_comma_qual_step formed_equal_guard_step formed_exp_step formed_link_step formed_next_alt_step formed_next_decl_step Where-F.Absent

pub formed_where_present : (at : At) (decls : Block) → formed_where (v_where.Present at decls) ≡ formed_block decls
formed_where_present at decls = ap formed_where (sym (v_where.rolls-Present at decls)) ∙ fold-roll-Where Bool (Bool × Bool) Bool Bool Bool Bool Bool Bool Bool Bool Bool Bool Bool Bool Bool Bool Bool (Bool × Bool) Bool formed_aexp_step formed_alt_step formed_decl_step formed_list_exp_step formed_operand_step formed_qual_step formed_rhs_step formed_where_step formed_alts_step formed_apply_step formed_arrow_guard_step formed_block_step formed_comma_exp_step formed_comma_qual_step formed_equal_guard_step formed_exp_step formed_link_step formed_next_alt_step formed_next_decl_step (Where-F.Present at decls)

pub formed_alts_made : (open_at : At) (first : Alt) (rest : List NextAlt) (close_at : At) → formed_alts (roll-Alts (record { open_at = open_at; first = first; rest = rest; close_at = close_at })) ≡ (formed_alt first && (each_formed formed_next_alt rest && (filled_alt first || any_of filled_next_alt rest)))
formed_alts_made open_at first rest close_at = fold-roll-Alts Bool (Bool × Bool) Bool Bool Bool Bool Bool Bool Bool Bool Bool Bool Bool Bool Bool Bool Bool (Bool × Bool) Bool formed_aexp_step formed_alt_step formed_decl_step formed_list_exp_step formed_operand_step formed_qual_step formed_rhs_step formed_where_step formed_alts_step formed_apply_step formed_arrow_guard_step formed_block_step formed_comma_exp_step formed_comma_qual_step formed_equal_guard_step formed_exp_step formed_link_step formed_next_alt_step formed_next_decl_step (record { open_at = open_at; first = first; rest = rest; close_at = close_at }) ∙ ap₂ (λ y z. formed_alt first && (y && (filled_alt first || z))) (each_formed_map (λ (part : Bool × Bool). part.0) (fold-NextAlt Bool (Bool × Bool) Bool Bool Bool Bool Bool Bool Bool Bool Bool Bool Bool Bool Bool Bool Bool (Bool × Bool) Bool formed_aexp_step formed_alt_step formed_decl_step formed_list_exp_step formed_operand_step formed_qual_step formed_rhs_step formed_where_step formed_alts_step formed_apply_step formed_arrow_guard_step formed_block_step formed_comma_exp_step formed_comma_qual_step formed_equal_guard_step formed_exp_step formed_link_step formed_next_alt_step formed_next_decl_step) rest) (any_of_map (λ (part : Bool × Bool). part.1) (fold-NextAlt Bool (Bool × Bool) Bool Bool Bool Bool Bool Bool Bool Bool Bool Bool Bool Bool Bool Bool Bool (Bool × Bool) Bool formed_aexp_step formed_alt_step formed_decl_step formed_list_exp_step formed_operand_step formed_qual_step formed_rhs_step formed_where_step formed_alts_step formed_apply_step formed_arrow_guard_step formed_block_step formed_comma_exp_step formed_comma_qual_step formed_equal_guard_step formed_exp_step formed_link_step formed_next_alt_step formed_next_decl_step) rest)

pub formed_apply_made : (head : Aexp) (args : List Aexp) → formed_apply (roll-Apply (record { head = head; args = args })) ≡ (formed_aexp head && each_formed formed_aexp args)
formed_apply_made head args = fold-roll-Apply Bool (Bool × Bool) Bool Bool Bool Bool Bool Bool Bool Bool Bool Bool Bool Bool Bool Bool Bool (Bool × Bool) Bool formed_aexp_step formed_alt_step formed_decl_step formed_list_exp_step formed_operand_step formed_qual_step formed_rhs_step formed_where_step formed_alts_step formed_apply_step formed_arrow_guard_step formed_block_step formed_comma_exp_step formed_comma_qual_step formed_equal_guard_step formed_exp_step formed_link_step formed_next_alt_step formed_next_decl_step (record { head = head; args = args }) ∙ ap (λ z. formed_aexp head && z) (every_is formed_aexp args)

pub formed_arrow_guard_made : (bar : At) (condition : Exp) (arrow : At) (exp : Exp) → formed_arrow_guard (roll-ArrowGuard (record { bar = bar; condition = condition; arrow = arrow; exp = exp })) ≡ (formed_exp condition && formed_exp exp)
formed_arrow_guard_made bar condition arrow exp = fold-roll-ArrowGuard Bool (Bool × Bool) Bool Bool Bool Bool Bool Bool Bool Bool Bool Bool Bool Bool Bool Bool Bool (Bool × Bool) Bool formed_aexp_step formed_alt_step formed_decl_step formed_list_exp_step formed_operand_step formed_qual_step formed_rhs_step formed_where_step formed_alts_step formed_apply_step formed_arrow_guard_step formed_block_step formed_comma_exp_step formed_comma_qual_step formed_equal_guard_step formed_exp_step formed_link_step formed_next_alt_step formed_next_decl_step (record { bar = bar; condition = condition; arrow = arrow; exp = exp })

pub formed_block_made : (open_at : At) (first : Decl) (rest : List NextDecl) (close_at : At) → formed_block (roll-Block (record { open_at = open_at; first = first; rest = rest; close_at = close_at })) ≡ (formed_decl first && each_formed formed_next_decl rest)
formed_block_made open_at first rest close_at = fold-roll-Block Bool (Bool × Bool) Bool Bool Bool Bool Bool Bool Bool Bool Bool Bool Bool Bool Bool Bool Bool (Bool × Bool) Bool formed_aexp_step formed_alt_step formed_decl_step formed_list_exp_step formed_operand_step formed_qual_step formed_rhs_step formed_where_step formed_alts_step formed_apply_step formed_arrow_guard_step formed_block_step formed_comma_exp_step formed_comma_qual_step formed_equal_guard_step formed_exp_step formed_link_step formed_next_alt_step formed_next_decl_step (record { open_at = open_at; first = first; rest = rest; close_at = close_at }) ∙ ap (λ z. formed_decl first && z) (every_is formed_next_decl rest)

pub formed_comma_exp_made : (comma : At) (exp : Exp) → formed_comma_exp (roll-CommaExp (record { comma = comma; exp = exp })) ≡ formed_exp exp
formed_comma_exp_made comma exp = fold-roll-CommaExp Bool (Bool × Bool) Bool Bool Bool Bool Bool Bool Bool Bool Bool Bool Bool Bool Bool Bool Bool (Bool × Bool) Bool formed_aexp_step formed_alt_step formed_decl_step formed_list_exp_step formed_operand_step formed_qual_step formed_rhs_step formed_where_step formed_alts_step formed_apply_step formed_arrow_guard_step formed_block_step formed_comma_exp_step formed_comma_qual_step formed_equal_guard_step formed_exp_step formed_link_step formed_next_alt_step formed_next_decl_step (record { comma = comma; exp = exp })

pub formed_comma_qual_made : (comma : At) (qual : Qual) → formed_comma_qual (roll-CommaQual (record { comma = comma; qual = qual })) ≡ formed_qual qual
formed_comma_qual_made comma qual = fold-roll-CommaQual Bool (Bool × Bool) Bool Bool Bool Bool Bool Bool Bool Bool Bool Bool Bool Bool Bool Bool Bool (Bool × Bool) Bool formed_aexp_step formed_alt_step formed_decl_step formed_list_exp_step formed_operand_step formed_qual_step formed_rhs_step formed_where_step formed_alts_step formed_apply_step formed_arrow_guard_step formed_block_step formed_comma_exp_step formed_comma_qual_step formed_equal_guard_step formed_exp_step formed_link_step formed_next_alt_step formed_next_decl_step (record { comma = comma; qual = qual })

pub formed_equal_guard_made : (bar : At) (condition : Exp) (equal : At) (exp : Exp) → formed_equal_guard (roll-EqualGuard (record { bar = bar; condition = condition; equal = equal; exp = exp })) ≡ (formed_exp condition && formed_exp exp)
formed_equal_guard_made bar condition equal exp = fold-roll-EqualGuard Bool (Bool × Bool) Bool Bool Bool Bool Bool Bool Bool Bool Bool Bool Bool Bool Bool Bool Bool (Bool × Bool) Bool formed_aexp_step formed_alt_step formed_decl_step formed_list_exp_step formed_operand_step formed_qual_step formed_rhs_step formed_where_step formed_alts_step formed_apply_step formed_arrow_guard_step formed_block_step formed_comma_exp_step formed_comma_qual_step formed_equal_guard_step formed_exp_step formed_link_step formed_next_alt_step formed_next_decl_step (record { bar = bar; condition = condition; equal = equal; exp = exp })

pub formed_exp_made : (links : List Link) (sign : Sign) (last : Operand) → formed_exp (roll-Exp (record { links = links; sign = sign; last = last })) ≡ (each_formed formed_link links && formed_operand last)
formed_exp_made links sign last = fold-roll-Exp Bool (Bool × Bool) Bool Bool Bool Bool Bool Bool Bool Bool Bool Bool Bool Bool Bool Bool Bool (Bool × Bool) Bool formed_aexp_step formed_alt_step formed_decl_step formed_list_exp_step formed_operand_step formed_qual_step formed_rhs_step formed_where_step formed_alts_step formed_apply_step formed_arrow_guard_step formed_block_step formed_comma_exp_step formed_comma_qual_step formed_equal_guard_step formed_exp_step formed_link_step formed_next_alt_step formed_next_decl_step (record { links = links; sign = sign; last = last }) ∙ ap (λ z. z && formed_operand last) (every_is formed_link links)

pub formed_link_made : (sign : Sign) (left : Apply) (op : Op) → formed_link (roll-Link (record { sign = sign; left = left; op = op })) ≡ formed_apply left
formed_link_made sign left op = fold-roll-Link Bool (Bool × Bool) Bool Bool Bool Bool Bool Bool Bool Bool Bool Bool Bool Bool Bool Bool Bool (Bool × Bool) Bool formed_aexp_step formed_alt_step formed_decl_step formed_list_exp_step formed_operand_step formed_qual_step formed_rhs_step formed_where_step formed_alts_step formed_apply_step formed_arrow_guard_step formed_block_step formed_comma_exp_step formed_comma_qual_step formed_equal_guard_step formed_exp_step formed_link_step formed_next_alt_step formed_next_decl_step (record { sign = sign; left = left; op = op })

pub formed_next_alt_made : (semicolon : At) (alt : Alt) → formed_next_alt (roll-NextAlt (record { semicolon = semicolon; alt = alt })) ≡ formed_alt alt
formed_next_alt_made semicolon alt = ap (λ (x : Bool × Bool). x.0) (fold-roll-NextAlt Bool (Bool × Bool) Bool Bool Bool Bool Bool Bool Bool Bool Bool Bool Bool Bool Bool Bool Bool (Bool × Bool) Bool formed_aexp_step formed_alt_step formed_decl_step formed_list_exp_step formed_operand_step formed_qual_step formed_rhs_step formed_where_step formed_alts_step formed_apply_step formed_arrow_guard_step formed_block_step formed_comma_exp_step formed_comma_qual_step formed_equal_guard_step formed_exp_step formed_link_step formed_next_alt_step formed_next_decl_step (record { semicolon = semicolon; alt = alt }))

pub filled_next_alt_made : (semicolon : At) (alt : Alt) → filled_next_alt (roll-NextAlt (record { semicolon = semicolon; alt = alt })) ≡ filled_alt alt
filled_next_alt_made semicolon alt = ap (λ (x : Bool × Bool). x.1) (fold-roll-NextAlt Bool (Bool × Bool) Bool Bool Bool Bool Bool Bool Bool Bool Bool Bool Bool Bool Bool Bool Bool (Bool × Bool) Bool formed_aexp_step formed_alt_step formed_decl_step formed_list_exp_step formed_operand_step formed_qual_step formed_rhs_step formed_where_step formed_alts_step formed_apply_step formed_arrow_guard_step formed_block_step formed_comma_exp_step formed_comma_qual_step formed_equal_guard_step formed_exp_step formed_link_step formed_next_alt_step formed_next_decl_step (record { semicolon = semicolon; alt = alt }))

pub formed_next_decl_made : (semicolon : At) (decl : Decl) → formed_next_decl (roll-NextDecl (record { semicolon = semicolon; decl = decl })) ≡ formed_decl decl
formed_next_decl_made semicolon decl = fold-roll-NextDecl Bool (Bool × Bool) Bool Bool Bool Bool Bool Bool Bool Bool Bool Bool Bool Bool Bool Bool Bool (Bool × Bool) Bool formed_aexp_step formed_alt_step formed_decl_step formed_list_exp_step formed_operand_step formed_qual_step formed_rhs_step formed_where_step formed_alts_step formed_apply_step formed_arrow_guard_step formed_block_step formed_comma_exp_step formed_comma_qual_step formed_equal_guard_step formed_exp_step formed_link_step formed_next_alt_step formed_next_decl_step (record { semicolon = semicolon; decl = decl })
