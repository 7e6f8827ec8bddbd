-- Which expressions and declarations are well formed: what the grammar asks of them beyond their shape.
use Rattle.std.specs.Prelude.{Bool, true, false, not, ◌&&◌, ◌||◌, codes}
use Rattle.std.specs.Str.{bytes_eq}
use Rattle.hdc_tree.specs.declared.name.VarOp.{VarOp}
use Rattle.hdc_tree.specs.declared.name.VarOp.TheVariants as var_op
use Rattle.hdc_tree.specs.declared.name.Op.{Op}
use Rattle.hdc_tree.specs.declared.name.Op.TheVariants as op
use Rattle.hdc_tree.specs.declared.expression.Aexp.{Aexp, Aexp-F, fold-Aexp}
use Rattle.hdc_tree.specs.declared.expression.Alt.{Alt, Alt-F, fold-Alt}
use Rattle.hdc_tree.specs.declared.expression.Decl.{Decl, Decl-F, fold-Decl}
use Rattle.hdc_tree.specs.declared.expression.ListExp.{ListExp, ListExp-F, fold-ListExp}
use Rattle.hdc_tree.specs.declared.expression.Operand.{Operand, Operand-F, fold-Operand}
use Rattle.hdc_tree.specs.declared.expression.Qual.{Qual, Qual-F, fold-Qual}
use Rattle.hdc_tree.specs.declared.expression.Rhs.{Rhs, Rhs-F, fold-Rhs}
use Rattle.hdc_tree.specs.declared.expression.Where.{Where, Where-F, fold-Where}
use Rattle.hdc_tree.specs.declared.expression.Alts.{Alts, Alts-F, fold-Alts}
use Rattle.hdc_tree.specs.declared.expression.Apply.{Apply, Apply-F, fold-Apply}
use Rattle.hdc_tree.specs.declared.expression.ArrowGuard.{ArrowGuard, ArrowGuard-F, fold-ArrowGuard}
use Rattle.hdc_tree.specs.declared.expression.Block.{Block, Block-F, fold-Block}
use Rattle.hdc_tree.specs.declared.expression.CommaExp.{CommaExp, CommaExp-F, fold-CommaExp}
use Rattle.hdc_tree.specs.declared.expression.CommaQual.{CommaQual, CommaQual-F, fold-CommaQual}
use Rattle.hdc_tree.specs.declared.expression.EqualGuard.{EqualGuard, EqualGuard-F, fold-EqualGuard}
use Rattle.hdc_tree.specs.declared.expression.Exp.{Exp, Exp-F, fold-Exp}
use Rattle.hdc_tree.specs.declared.expression.Link.{Link, Link-F, fold-Link}
use Rattle.hdc_tree.specs.declared.expression.NextAlt.{NextAlt, NextAlt-F, fold-NextAlt}
use Rattle.hdc_tree.specs.declared.expression.NextDecl.{NextDecl, NextDecl-F, fold-NextDecl}
use Rattle.hdc_tree.specs.Form.{every, each_formed, few, any_of}
use Rattle.hdc_tree.specs.PatternForm.{formed_apat, formed_pat, is_plain_name}
use Rattle.hdc_tree.specs.TypeForm.{formed_type_exp}
use Rattle.hdc_tree.specs.HeadForm.{formed_head}

-- whether an operator is the name `-`
abbrev pub is_minus_name : VarOp → Bool
is_minus_name (var_op.Symbol name) = bytes_eq name.text (codes "-")
is_minus_name (var_op.Quoted open_at name close_at) = false

-- whether an operator is `-`
abbrev pub is_minus : Op → Bool
is_minus (op.Var name) = is_minus_name name
is_minus (op.Cons at) = false
is_minus (op.Con open_at name close_at) = false

-- an expression that may be an argument, by its parts; a tuple has two to seven members, and a section on the right no `-`
abbrev pub formed_aexp_step : Aexp-F Bool (Bool × Bool) Bool Bool Bool Bool Bool Bool Bool Bool Bool Bool Bool Bool Bool Bool Bool (Bool × Bool) Bool → Bool
formed_aexp_step (Aexp-F.Var var) = true
formed_aexp_step (Aexp-F.Con name) = true
formed_aexp_step (Aexp-F.Literal at literal) = true
formed_aexp_step (Aexp-F.Unit open_at close_at) = true
formed_aexp_step (Aexp-F.Nil open_at close_at) = true
formed_aexp_step (Aexp-F.Cons open_at at close_at) = true
formed_aexp_step (Aexp-F.Paren open_at inner close_at) = inner
formed_aexp_step (Aexp-F.Tuple open_at first rest close_at) = first && (every rest && few rest)
formed_aexp_step (Aexp-F.List list) = list
formed_aexp_step (Aexp-F.LeftSection open_at left op close_at) = left
formed_aexp_step (Aexp-F.RightSection open_at op right close_at) = right && not (is_minus op)

-- an alternative, by its parts, and whether it is not empty
abbrev pub formed_alt_step : Alt-F Bool (Bool × Bool) Bool Bool Bool Bool Bool Bool Bool Bool Bool Bool Bool Bool Bool Bool Bool (Bool × Bool) Bool → Bool × Bool
formed_alt_step Alt-F.Blank = (true, false)
formed_alt_step (Alt-F.Arrow pat arrow exp local) = (formed_pat pat && (exp && local), true)
formed_alt_step (Alt-F.Guarded pat first rest local) = (formed_pat pat && (first && (every rest && local)), true)

-- a declaration, by its parts; what a binding binds is no plain name
abbrev pub formed_decl_step : Decl-F Bool (Bool × Bool) Bool Bool Bool Bool Bool Bool Bool Bool Bool Bool Bool Bool Bool Bool Bool (Bool × Bool) Bool → Bool
formed_decl_step Decl-F.Empty = true
formed_decl_step (Decl-F.Signature var rest at part) = formed_type_exp part
formed_decl_step (Decl-F.Equation head rhs) = formed_head head && rhs
formed_decl_step (Decl-F.Binding pat rhs) = formed_pat pat && (rhs && not (is_plain_name pat))

-- what stands in brackets, by its parts
abbrev pub formed_list_exp_step : ListExp-F Bool (Bool × Bool) Bool Bool Bool Bool Bool Bool Bool Bool Bool Bool Bool Bool Bool Bool Bool (Bool × Bool) Bool → Bool
formed_list_exp_step (ListExp-F.Members open_at first rest close_at) = first && every rest
formed_list_exp_step (ListExp-F.Range open_at low dots high close_at) = low && high
formed_list_exp_step (ListExp-F.Comprehension open_at head bar first rest close_at) = head && (first && every rest)

-- the last operand of a chain, by its parts
abbrev pub formed_operand_step : Operand-F Bool (Bool × Bool) Bool Bool Bool Bool Bool Bool Bool Bool Bool Bool Bool Bool Bool Bool Bool (Bool × Bool) Bool → Bool
formed_operand_step (Operand-F.Applied apply) = apply
formed_operand_step (Operand-F.Lambda at first rest arrow body) = formed_apat first && (each_formed formed_apat rest && body)
formed_operand_step (Operand-F.Let at decls in_at body) = decls && body
formed_operand_step (Operand-F.If at condition then_at positive else_at negative) = condition && (positive && negative)
formed_operand_step (Operand-F.Case at subject of_at alts) = subject && alts

-- a part of a comprehension, by its parts
abbrev pub formed_qual_step : Qual-F Bool (Bool × Bool) Bool Bool Bool Bool Bool Bool Bool Bool Bool Bool Bool Bool Bool Bool Bool (Bool × Bool) Bool → Bool
formed_qual_step (Qual-F.Generator pat arrow exp) = formed_pat pat && exp
formed_qual_step (Qual-F.Condition exp) = exp
formed_qual_step (Qual-F.Local at decls) = decls

-- the right side of an equation or a binding, by its parts
abbrev pub formed_rhs_step : Rhs-F Bool (Bool × Bool) Bool Bool Bool Bool Bool Bool Bool Bool Bool Bool Bool Bool Bool Bool Bool (Bool × Bool) Bool → Bool
formed_rhs_step (Rhs-F.Equal equal exp local) = exp && local
formed_rhs_step (Rhs-F.Guards first rest local) = first && (every rest && local)

-- `where` and declarations, or nothing
abbrev pub formed_where_step : Where-F Bool (Bool × Bool) Bool Bool Bool Bool Bool Bool Bool Bool Bool Bool Bool Bool Bool Bool Bool (Bool × Bool) Bool → Bool
formed_where_step Where-F.Absent = true
formed_where_step (Where-F.Present at decls) = decls

-- alternatives, of which one at least is not empty
abbrev pub formed_alts_step : Alts-F Bool (Bool × Bool) Bool Bool Bool Bool Bool Bool Bool Bool Bool Bool Bool Bool Bool Bool Bool (Bool × Bool) Bool → Bool
formed_alts_step part = part.first.0 && (each_formed (λ alt. alt.0) part.rest && (part.first.1 || any_of (λ alt. alt.1) part.rest))

-- a function and its arguments
abbrev pub formed_apply_step : Apply-F Bool (Bool × Bool) Bool Bool Bool Bool Bool Bool Bool Bool Bool Bool Bool Bool Bool Bool Bool (Bool × Bool) Bool → Bool
formed_apply_step part = part.head && every part.args

-- a guarded expression with `->`
abbrev pub formed_arrow_guard_step : ArrowGuard-F Bool (Bool × Bool) Bool Bool Bool Bool Bool Bool Bool Bool Bool Bool Bool Bool Bool Bool Bool (Bool × Bool) Bool → Bool
formed_arrow_guard_step part = part.condition && part.exp

-- declarations in braces
abbrev pub formed_block_step : Block-F Bool (Bool × Bool) Bool Bool Bool Bool Bool Bool Bool Bool Bool Bool Bool Bool Bool Bool Bool (Bool × Bool) Bool → Bool
formed_block_step part = part.first && every part.rest

-- `,` and an expression
abbrev pub formed_comma_exp_step : CommaExp-F Bool (Bool × Bool) Bool Bool Bool Bool Bool Bool Bool Bool Bool Bool Bool Bool Bool Bool Bool (Bool × Bool) Bool → Bool
formed_comma_exp_step part = part.exp

-- `,` and a part of a comprehension
abbrev pub formed_comma_qual_step : CommaQual-F Bool (Bool × Bool) Bool Bool Bool Bool Bool Bool Bool Bool Bool Bool Bool Bool Bool Bool Bool (Bool × Bool) Bool → Bool
formed_comma_qual_step part = part.qual

-- a guarded expression with `=`
abbrev pub formed_equal_guard_step : EqualGuard-F Bool (Bool × Bool) Bool Bool Bool Bool Bool Bool Bool Bool Bool Bool Bool Bool Bool Bool Bool (Bool × Bool) Bool → Bool
formed_equal_guard_step part = part.condition && part.exp

-- operands with operators between them
abbrev pub formed_exp_step : Exp-F Bool (Bool × Bool) Bool Bool Bool Bool Bool Bool Bool Bool Bool Bool Bool Bool Bool Bool Bool (Bool × Bool) Bool → Bool
formed_exp_step part = every part.links && part.last

-- an operand and the operator behind it
abbrev pub formed_link_step : Link-F Bool (Bool × Bool) Bool Bool Bool Bool Bool Bool Bool Bool Bool Bool Bool Bool Bool Bool Bool (Bool × Bool) Bool → Bool
formed_link_step part = part.left

-- `;` and an alternative, and whether that is not empty
abbrev pub formed_next_alt_step : NextAlt-F Bool (Bool × Bool) Bool Bool Bool Bool Bool Bool Bool Bool Bool Bool Bool Bool Bool Bool Bool (Bool × Bool) Bool → Bool × Bool
formed_next_alt_step part = part.alt

-- `;` and a declaration
abbrev pub formed_next_decl_step : NextDecl-F Bool (Bool × Bool) Bool Bool Bool Bool Bool Bool Bool Bool Bool Bool Bool Bool Bool Bool Bool (Bool × Bool) Bool → Bool
formed_next_decl_step part = part.decl

-- an expression that may be an argument, with all that is in it
abbrev pub formed_aexp : Aexp → Bool
formed_aexp = fold-Aexp Bool (Bool × Bool) Bool Bool Bool Bool Bool Bool Bool Bool Bool Bool Bool Bool Bool Bool Bool (Bool × Bool) Bool formed_aexp_step formed_alt_step formed_decl_step formed_list_exp_step formed_operand_step formed_qual_step formed_rhs_step formed_where_step formed_alts_step formed_apply_step formed_arrow_guard_step formed_block_step formed_comma_exp_step formed_comma_qual_step formed_equal_guard_step formed_exp_step formed_link_step formed_next_alt_step formed_next_decl_step

-- an alternative: whether it is well formed
abbrev pub formed_alt : Alt → Bool
formed_alt tree = (fold-Alt Bool (Bool × Bool) Bool Bool Bool Bool Bool Bool Bool Bool Bool Bool Bool Bool Bool Bool Bool (Bool × Bool) Bool formed_aexp_step formed_alt_step formed_decl_step formed_list_exp_step formed_operand_step formed_qual_step formed_rhs_step formed_where_step formed_alts_step formed_apply_step formed_arrow_guard_step formed_block_step formed_comma_exp_step formed_comma_qual_step formed_equal_guard_step formed_exp_step formed_link_step formed_next_alt_step formed_next_decl_step tree).0

-- an alternative: whether it is not empty
abbrev pub filled_alt : Alt → Bool
filled_alt tree = (fold-Alt Bool (Bool × Bool) Bool Bool Bool Bool Bool Bool Bool Bool Bool Bool Bool Bool Bool Bool Bool (Bool × Bool) Bool formed_aexp_step formed_alt_step formed_decl_step formed_list_exp_step formed_operand_step formed_qual_step formed_rhs_step formed_where_step formed_alts_step formed_apply_step formed_arrow_guard_step formed_block_step formed_comma_exp_step formed_comma_qual_step formed_equal_guard_step formed_exp_step formed_link_step formed_next_alt_step formed_next_decl_step tree).1

-- a declaration, with all that is in it
abbrev pub formed_decl : Decl → Bool
formed_decl = fold-Decl Bool (Bool × Bool) Bool Bool Bool Bool Bool Bool Bool Bool Bool Bool Bool Bool Bool Bool Bool (Bool × Bool) Bool formed_aexp_step formed_alt_step formed_decl_step formed_list_exp_step formed_operand_step formed_qual_step formed_rhs_step formed_where_step formed_alts_step formed_apply_step formed_arrow_guard_step formed_block_step formed_comma_exp_step formed_comma_qual_step formed_equal_guard_step formed_exp_step formed_link_step formed_next_alt_step formed_next_decl_step

-- what stands in brackets, with all that is in it
abbrev pub formed_list_exp : ListExp → Bool
formed_list_exp = fold-ListExp Bool (Bool × Bool) Bool Bool Bool Bool Bool Bool Bool Bool Bool Bool Bool Bool Bool Bool Bool (Bool × Bool) Bool formed_aexp_step formed_alt_step formed_decl_step formed_list_exp_step formed_operand_step formed_qual_step formed_rhs_step formed_where_step formed_alts_step formed_apply_step formed_arrow_guard_step formed_block_step formed_comma_exp_step formed_comma_qual_step formed_equal_guard_step formed_exp_step formed_link_step formed_next_alt_step formed_next_decl_step

-- the last operand of a chain, with all that is in it
abbrev pub formed_operand : Operand → Bool
formed_operand = fold-Operand Bool (Bool × Bool) Bool Bool Bool Bool Bool Bool Bool Bool Bool Bool Bool Bool Bool Bool Bool (Bool × Bool) Bool formed_aexp_step formed_alt_step formed_decl_step formed_list_exp_step formed_operand_step formed_qual_step formed_rhs_step formed_where_step formed_alts_step formed_apply_step formed_arrow_guard_step formed_block_step formed_comma_exp_step formed_comma_qual_step formed_equal_guard_step formed_exp_step formed_link_step formed_next_alt_step formed_next_decl_step

-- a part of a comprehension, with all that is in it
abbrev pub formed_qual : Qual → Bool
formed_qual = fold-Qual Bool (Bool × Bool) Bool Bool Bool Bool Bool Bool Bool Bool Bool Bool Bool Bool Bool Bool Bool (Bool × Bool) Bool formed_aexp_step formed_alt_step formed_decl_step formed_list_exp_step formed_operand_step formed_qual_step formed_rhs_step formed_where_step formed_alts_step formed_apply_step formed_arrow_guard_step formed_block_step formed_comma_exp_step formed_comma_qual_step formed_equal_guard_step formed_exp_step formed_link_step formed_next_alt_step formed_next_decl_step

-- the right side of an equation or a binding, with all that is in it
abbrev pub formed_rhs : Rhs → Bool
formed_rhs = fold-Rhs Bool (Bool × Bool) Bool Bool Bool Bool Bool Bool Bool Bool Bool Bool Bool Bool Bool Bool Bool (Bool × Bool) Bool formed_aexp_step formed_alt_step formed_decl_step formed_list_exp_step formed_operand_step formed_qual_step formed_rhs_step formed_where_step formed_alts_step formed_apply_step formed_arrow_guard_step formed_block_step formed_comma_exp_step formed_comma_qual_step formed_equal_guard_step formed_exp_step formed_link_step formed_next_alt_step formed_next_decl_step

-- `where` and declarations, or nothing, with all that is in it
abbrev pub formed_where : Where → Bool
formed_where = fold-Where Bool (Bool × Bool) Bool Bool Bool Bool Bool Bool Bool Bool Bool Bool Bool Bool Bool Bool Bool (Bool × Bool) Bool formed_aexp_step formed_alt_step formed_decl_step formed_list_exp_step formed_operand_step formed_qual_step formed_rhs_step formed_where_step formed_alts_step formed_apply_step formed_arrow_guard_step formed_block_step formed_comma_exp_step formed_comma_qual_step formed_equal_guard_step formed_exp_step formed_link_step formed_next_alt_step formed_next_decl_step

-- alternatives, with all that is in them
abbrev pub formed_alts : Alts → Bool
formed_alts = fold-Alts Bool (Bool × Bool) Bool Bool Bool Bool Bool Bool Bool Bool Bool Bool Bool Bool Bool Bool Bool (Bool × Bool) Bool formed_aexp_step formed_alt_step formed_decl_step formed_list_exp_step formed_operand_step formed_qual_step formed_rhs_step formed_where_step formed_alts_step formed_apply_step formed_arrow_guard_step formed_block_step formed_comma_exp_step formed_comma_qual_step formed_equal_guard_step formed_exp_step formed_link_step formed_next_alt_step formed_next_decl_step

-- a function and its arguments, with all that is in it
abbrev pub formed_apply : Apply → Bool
formed_apply = fold-Apply Bool (Bool × Bool) Bool Bool Bool Bool Bool Bool Bool Bool Bool Bool Bool Bool Bool Bool Bool (Bool × Bool) Bool formed_aexp_step formed_alt_step formed_decl_step formed_list_exp_step formed_operand_step formed_qual_step formed_rhs_step formed_where_step formed_alts_step formed_apply_step formed_arrow_guard_step formed_block_step formed_comma_exp_step formed_comma_qual_step formed_equal_guard_step formed_exp_step formed_link_step formed_next_alt_step formed_next_decl_step

-- a guarded expression with `->`, with all that is in it
abbrev pub formed_arrow_guard : ArrowGuard → Bool
formed_arrow_guard = fold-ArrowGuard Bool (Bool × Bool) Bool Bool Bool Bool Bool Bool Bool Bool Bool Bool Bool Bool Bool Bool Bool (Bool × Bool) Bool formed_aexp_step formed_alt_step formed_decl_step formed_list_exp_step formed_operand_step formed_qual_step formed_rhs_step formed_where_step formed_alts_step formed_apply_step formed_arrow_guard_step formed_block_step formed_comma_exp_step formed_comma_qual_step formed_equal_guard_step formed_exp_step formed_link_step formed_next_alt_step formed_next_decl_step

-- declarations in braces, with all that is in them
abbrev pub formed_block : Block → Bool
formed_block = fold-Block Bool (Bool × Bool) Bool Bool Bool Bool Bool Bool Bool Bool Bool Bool Bool Bool Bool Bool Bool (Bool × Bool) Bool formed_aexp_step formed_alt_step formed_decl_step formed_list_exp_step formed_operand_step formed_qual_step formed_rhs_step formed_where_step formed_alts_step formed_apply_step formed_arrow_guard_step formed_block_step formed_comma_exp_step formed_comma_qual_step formed_equal_guard_step formed_exp_step formed_link_step formed_next_alt_step formed_next_decl_step

-- `,` and an expression, with all that is in it
abbrev pub formed_comma_exp : CommaExp → Bool
formed_comma_exp = fold-CommaExp Bool (Bool × Bool) Bool Bool Bool Bool Bool Bool Bool Bool Bool Bool Bool Bool Bool Bool Bool (Bool × Bool) Bool formed_aexp_step formed_alt_step formed_decl_step formed_list_exp_step formed_operand_step formed_qual_step formed_rhs_step formed_where_step formed_alts_step formed_apply_step formed_arrow_guard_step formed_block_step formed_comma_exp_step formed_comma_qual_step formed_equal_guard_step formed_exp_step formed_link_step formed_next_alt_step formed_next_decl_step

-- `,` and a part of a comprehension, with all that is in it
abbrev pub formed_comma_qual : CommaQual → Bool
formed_comma_qual = fold-CommaQual Bool (Bool × Bool) Bool Bool Bool Bool Bool Bool Bool Bool Bool Bool Bool Bool Bool Bool Bool (Bool × Bool) Bool formed_aexp_step formed_alt_step formed_decl_step formed_list_exp_step formed_operand_step formed_qual_step formed_rhs_step formed_where_step formed_alts_step formed_apply_step formed_arrow_guard_step formed_block_step formed_comma_exp_step formed_comma_qual_step formed_equal_guard_step formed_exp_step formed_link_step formed_next_alt_step formed_next_decl_step

-- a guarded expression with `=`, with all that is in it
abbrev pub formed_equal_guard : EqualGuard → Bool
formed_equal_guard = fold-EqualGuard Bool (Bool × Bool) Bool Bool Bool Bool Bool Bool Bool Bool Bool Bool Bool Bool Bool Bool Bool (Bool × Bool) Bool formed_aexp_step formed_alt_step formed_decl_step formed_list_exp_step formed_operand_step formed_qual_step formed_rhs_step formed_where_step formed_alts_step formed_apply_step formed_arrow_guard_step formed_block_step formed_comma_exp_step formed_comma_qual_step formed_equal_guard_step formed_exp_step formed_link_step formed_next_alt_step formed_next_decl_step

-- operands with operators between them, with all that is in them
abbrev pub formed_exp : Exp → Bool
formed_exp = fold-Exp Bool (Bool × Bool) Bool Bool Bool Bool Bool Bool Bool Bool Bool Bool Bool Bool Bool Bool Bool (Bool × Bool) Bool formed_aexp_step formed_alt_step formed_decl_step formed_list_exp_step formed_operand_step formed_qual_step formed_rhs_step formed_where_step formed_alts_step formed_apply_step formed_arrow_guard_step formed_block_step formed_comma_exp_step formed_comma_qual_step formed_equal_guard_step formed_exp_step formed_link_step formed_next_alt_step formed_next_decl_step

-- an operand and the operator behind it, with all that is in it
abbrev pub formed_link : Link → Bool
formed_link = fold-Link Bool (Bool × Bool) Bool Bool Bool Bool Bool Bool Bool Bool Bool Bool Bool Bool Bool Bool Bool (Bool × Bool) Bool formed_aexp_step formed_alt_step formed_decl_step formed_list_exp_step formed_operand_step formed_qual_step formed_rhs_step formed_where_step formed_alts_step formed_apply_step formed_arrow_guard_step formed_block_step formed_comma_exp_step formed_comma_qual_step formed_equal_guard_step formed_exp_step formed_link_step formed_next_alt_step formed_next_decl_step

-- `;` and an alternative: whether it is well formed
abbrev pub formed_next_alt : NextAlt → Bool
formed_next_alt tree = (fold-NextAlt Bool (Bool × Bool) Bool Bool Bool Bool Bool Bool Bool Bool Bool Bool Bool Bool Bool Bool Bool (Bool × Bool) Bool formed_aexp_step formed_alt_step formed_decl_step formed_list_exp_step formed_operand_step formed_qual_step formed_rhs_step formed_where_step formed_alts_step formed_apply_step formed_arrow_guard_step formed_block_step formed_comma_exp_step formed_comma_qual_step formed_equal_guard_step formed_exp_step formed_link_step formed_next_alt_step formed_next_decl_step tree).0

-- `;` and an alternative: whether it is not empty
abbrev pub filled_next_alt : NextAlt → Bool
filled_next_alt tree = (fold-NextAlt Bool (Bool × Bool) Bool Bool Bool Bool Bool Bool Bool Bool Bool Bool Bool Bool Bool Bool Bool (Bool × Bool) Bool formed_aexp_step formed_alt_step formed_decl_step formed_list_exp_step formed_operand_step formed_qual_step formed_rhs_step formed_where_step formed_alts_step formed_apply_step formed_arrow_guard_step formed_block_step formed_comma_exp_step formed_comma_qual_step formed_equal_guard_step formed_exp_step formed_link_step formed_next_alt_step formed_next_decl_step tree).1

-- `;` and a declaration, with all that is in it
abbrev pub formed_next_decl : NextDecl → Bool
formed_next_decl = fold-NextDecl Bool (Bool × Bool) Bool Bool Bool Bool Bool Bool Bool Bool Bool Bool Bool Bool Bool Bool Bool (Bool × Bool) Bool formed_aexp_step formed_alt_step formed_decl_step formed_list_exp_step formed_operand_step formed_qual_step formed_rhs_step formed_where_step formed_alts_step formed_apply_step formed_arrow_guard_step formed_block_step formed_comma_exp_step formed_comma_qual_step formed_equal_guard_step formed_exp_step formed_link_step formed_next_alt_step formed_next_decl_step
