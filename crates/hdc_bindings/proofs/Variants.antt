-- What parts of a program in memory hold, one equation for each form that binds names.
use Rattle.std.proofs.Common.{◌≡◌, List, sym, ◌∙◌, ap}
use Rattle.hdc_base.specs.declared.place.At.{At}
use Rattle.hdc_tree.specs.declared.head.Head.{Head}
use Rattle.hdc_tree.specs.declared.pattern.Apat.{Apat}
use Rattle.hdc_tree.specs.declared.pattern.Pat.{Pat}
use Rattle.hdc_tree.specs.declared.expression.Alt.{Alt-F, fold-roll-Alt}
use Rattle.hdc_tree.specs.declared.expression.Alt.TheVariants as v_alt
use Rattle.hdc_tree.specs.declared.expression.Block.{Block}
use Rattle.hdc_tree.specs.declared.expression.Decl.{Decl-F, fold-roll-Decl}
use Rattle.hdc_tree.specs.declared.expression.Decl.TheVariants as v_decl
use Rattle.hdc_tree.specs.declared.expression.Exp.{Exp}
use Rattle.hdc_tree.specs.declared.expression.Operand.{Operand-F, fold-roll-Operand}
use Rattle.hdc_tree.specs.declared.expression.Operand.TheVariants as v_operand
use Rattle.hdc_tree.specs.declared.expression.Rhs.{Rhs, Rhs-F, fold-roll-Rhs}
use Rattle.hdc_tree.specs.declared.expression.Rhs.TheVariants as v_rhs
use Rattle.hdc_tree.specs.declared.expression.Where.{Where}
use Rattle.hdc_written.specs.Written as written
use Rattle.hdc_written.specs.Written.{pattern, Expression, lambda, let_in, Qualifier, Alternative, alternative, Alternatives, RightSide, plain, Declaration, equation, Declarations}
use Rattle.hdc_written.specs.Mirror.{Guarded, Linked, apat_of, pat_of, each_pattern, head_name, head_patterns, first_of_head, aexp_step, alt_step, decl_step, list_exp_step, operand_step, qual_step, rhs_step, where_step, alts_step, apply_step, arrow_guard_step, block_step, comma_exp_step, comma_qual_step, equal_guard_step, exp_step, link_step, next_alt_step, next_decl_step, alt_of, decl_of, operand_of, rhs_of, where_of, block_of, exp_of}

pub alt_arrow : (p : Pat) (a : At) (e : Exp) (ds : Where) → alt_of (v_alt.Arrow p a e ds) ≡ alternative (pat_of p) (plain (exp_of e) (where_of ds))
alt_arrow p a e ds = ap alt_of (sym (v_alt.rolls-Arrow p a e ds)) ∙ fold-roll-Alt written.Operand Alternative Declaration written.Operand written.Operand Qualifier RightSide Declarations Alternatives written.Operand Guarded Declarations Expression Qualifier Guarded Expression Linked Alternative Declaration aexp_step alt_step decl_step list_exp_step operand_step qual_step rhs_step where_step alts_step apply_step arrow_guard_step block_step comma_exp_step comma_qual_step equal_guard_step exp_step link_step next_alt_step next_decl_step (Alt-F.Arrow p a e ds)

pub decl_equation : (h : Head) (r : Rhs) → decl_of (v_decl.Equation h r) ≡ equation (first_of_head h) (head_name h) (head_patterns h) (rhs_of r)
decl_equation h r = ap decl_of (sym (v_decl.rolls-Equation h r)) ∙ fold-roll-Decl written.Operand Alternative Declaration written.Operand written.Operand Qualifier RightSide Declarations Alternatives written.Operand Guarded Declarations Expression Qualifier Guarded Expression Linked Alternative Declaration aexp_step alt_step decl_step list_exp_step operand_step qual_step rhs_step where_step alts_step apply_step arrow_guard_step block_step comma_exp_step comma_qual_step equal_guard_step exp_step link_step next_alt_step next_decl_step (Decl-F.Equation h r)

pub operand_lambda : (a : At) (p : Apat) (ps : List Apat) (b : At) (e : Exp) → operand_of (v_operand.Lambda a p ps b e) ≡ lambda a (pattern (apat_of p) (each_pattern apat_of ps)) (exp_of e)
operand_lambda a p ps b e = ap operand_of (sym (v_operand.rolls-Lambda a p ps b e)) ∙ fold-roll-Operand written.Operand Alternative Declaration written.Operand written.Operand Qualifier RightSide Declarations Alternatives written.Operand Guarded Declarations Expression Qualifier Guarded Expression Linked Alternative Declaration aexp_step alt_step decl_step list_exp_step operand_step qual_step rhs_step where_step alts_step apply_step arrow_guard_step block_step comma_exp_step comma_qual_step equal_guard_step exp_step link_step next_alt_step next_decl_step (Operand-F.Lambda a p ps b e)

pub operand_let : (a : At) (ds : Block) (b : At) (e : Exp) → operand_of (v_operand.Let a ds b e) ≡ let_in a (block_of ds) (exp_of e)
operand_let a ds b e = ap operand_of (sym (v_operand.rolls-Let a ds b e)) ∙ fold-roll-Operand written.Operand Alternative Declaration written.Operand written.Operand Qualifier RightSide Declarations Alternatives written.Operand Guarded Declarations Expression Qualifier Guarded Expression Linked Alternative Declaration aexp_step alt_step decl_step list_exp_step operand_step qual_step rhs_step where_step alts_step apply_step arrow_guard_step block_step comma_exp_step comma_qual_step equal_guard_step exp_step link_step next_alt_step next_decl_step (Operand-F.Let a ds b e)

pub rhs_equal : (a : At) (e : Exp) (ds : Where) → rhs_of (v_rhs.Equal a e ds) ≡ plain (exp_of e) (where_of ds)
rhs_equal a e ds = ap rhs_of (sym (v_rhs.rolls-Equal a e ds)) ∙ fold-roll-Rhs written.Operand Alternative Declaration written.Operand written.Operand Qualifier RightSide Declarations Alternatives written.Operand Guarded Declarations Expression Qualifier Guarded Expression Linked Alternative Declaration aexp_step alt_step decl_step list_exp_step operand_step qual_step rhs_step where_step alts_step apply_step arrow_guard_step block_step comma_exp_step comma_qual_step equal_guard_step exp_step link_step next_alt_step next_decl_step (Rhs-F.Equal a e ds)
