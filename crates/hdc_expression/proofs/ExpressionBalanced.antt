-- Brackets match in the spelling of expressions and declarations, and where a token divides outside brackets.
use Rattle.std.proofs.Common.{◌≡◌, true, false, List, map, refl, sym, subst}
use Rattle.hdc_tree.specs.declared.head.Head.{Head}
use Rattle.hdc_tree.specs.declared.head.Head.TheVariants as head
use Rattle.hdc_base.specs.declared.token.Key.TheVariants as key
use Rattle.hdc_tree.specs.declared.expression.Aexp.{Aexp, Aexp-F, roll-Aexp, map-Aexp, ind-Aexp}
use Rattle.hdc_tree.specs.declared.expression.Alt.{Alt, Alt-F, roll-Alt, map-Alt, ind-Alt}
use Rattle.hdc_tree.specs.declared.expression.Decl.{Decl, Decl-F, roll-Decl, map-Decl, ind-Decl}
use Rattle.hdc_tree.specs.declared.expression.ListExp.{ListExp, ListExp-F, roll-ListExp, map-ListExp, ind-ListExp}
use Rattle.hdc_tree.specs.declared.expression.Operand.{Operand, Operand-F, roll-Operand, map-Operand, ind-Operand}
use Rattle.hdc_tree.specs.declared.expression.Qual.{Qual, Qual-F, roll-Qual, map-Qual, ind-Qual}
use Rattle.hdc_tree.specs.declared.expression.Rhs.{Rhs, Rhs-F, roll-Rhs, map-Rhs, ind-Rhs}
use Rattle.hdc_tree.specs.declared.expression.Where.{Where, Where-F, roll-Where, map-Where, ind-Where}
use Rattle.hdc_tree.specs.declared.expression.Alts.{Alts, Alts-F, roll-Alts, map-Alts, ind-Alts}
use Rattle.hdc_tree.specs.declared.expression.Apply.{Apply, Apply-F, roll-Apply, map-Apply, ind-Apply}
use Rattle.hdc_tree.specs.declared.expression.ArrowGuard.{ArrowGuard, ArrowGuard-F, roll-ArrowGuard, map-ArrowGuard, ind-ArrowGuard}
use Rattle.hdc_tree.specs.declared.expression.Block.{Block, Block-F, roll-Block, map-Block, ind-Block}
use Rattle.hdc_tree.specs.declared.expression.CommaExp.{CommaExp, CommaExp-F, roll-CommaExp, map-CommaExp, ind-CommaExp}
use Rattle.hdc_tree.specs.declared.expression.CommaQual.{CommaQual, CommaQual-F, roll-CommaQual, map-CommaQual, ind-CommaQual}
use Rattle.hdc_tree.specs.declared.expression.EqualGuard.{EqualGuard, EqualGuard-F, roll-EqualGuard, map-EqualGuard, ind-EqualGuard}
use Rattle.hdc_tree.specs.declared.expression.Exp.{Exp, Exp-F, roll-Exp, map-Exp, ind-Exp}
use Rattle.hdc_tree.specs.declared.expression.Link.{Link, Link-F, roll-Link, map-Link, ind-Link}
use Rattle.hdc_tree.specs.declared.expression.NextAlt.{NextAlt, NextAlt-F, roll-NextAlt, map-NextAlt, ind-NextAlt}
use Rattle.hdc_tree.specs.declared.expression.NextDecl.{NextDecl, NextDecl-F, roll-NextDecl, map-NextDecl, ind-NextDecl}
use Rattle.hdc_tree.specs.declared.expression.Aexp.TheVariants as v_aexp
use Rattle.hdc_tree.specs.declared.expression.Alt.TheVariants as v_alt
use Rattle.hdc_tree.specs.declared.expression.Decl.TheVariants as v_decl
use Rattle.hdc_tree.specs.declared.expression.ListExp.TheVariants as v_list_exp
use Rattle.hdc_tree.specs.declared.expression.Operand.TheVariants as v_operand
use Rattle.hdc_tree.specs.declared.expression.Qual.TheVariants as v_qual
use Rattle.hdc_tree.specs.declared.expression.Rhs.TheVariants as v_rhs
use Rattle.hdc_tree.specs.declared.expression.Where.TheVariants as v_where
use Rattle.hdc_tree.specs.ExpressionSpelling.{aexp_onto, alt_onto, decl_onto, list_exp_onto, operand_onto, qual_onto, rhs_onto, where_onto, alts_onto, apply_onto, arrow_guard_onto, block_onto, comma_exp_onto, comma_qual_onto, equal_guard_onto, exp_onto, link_onto, next_alt_onto, next_decl_onto}
use Rattle.hdc_tree.specs.HeadSpelling.{head_onto}
use Rattle.hdc_tree.proofs.ExpressionEquations.{aexp_var, aexp_con, aexp_literal, aexp_unit, aexp_nil, aexp_cons, aexp_paren, aexp_tuple, aexp_list, aexp_left_section, aexp_right_section, alt_blank, alt_arrow, alt_guarded, decl_empty, decl_signature, decl_equation, decl_binding, list_exp_members, list_exp_range, list_exp_comprehension, operand_applied, operand_lambda, operand_let, operand_if, operand_case, qual_generator, qual_condition, qual_local, rhs_equal, rhs_guards, where_absent, where_present, alts_made, apply_made, arrow_guard_made, block_made, comma_exp_made, comma_qual_made, equal_guard_made, exp_made, link_made, next_alt_made, next_decl_made}
use Rattle.hdc_syntax.proofs.Balanced.{BalancedWord, word_by, put, put_free, put_none, put_both, put_key, put_divide, put_within, put_each, put_all, put_capital, put_literal, put_sign, put_var, put_var_op, put_op, comma_var_word}
use Rattle.hdc_syntax.proofs.PatternBalanced.{apat_word, pat_word}
use Rattle.hdc_syntax.proofs.TypeBalanced.{type_exp_word}

-- ---- what equations define

pub head_word : (x : Head) → BalancedWord Head head_onto false x
head_word (head.Prefix v ps) = word_by (λ k. refl) (put_both (put_var false v) (put_each apat_word ps))
head_word (head.Infix p op q) = word_by (λ k. refl) (put_both (put (apat_word p)) (put_both (put_var_op false op) (put (apat_word q))))
head_word (head.Paren at p op q end r rs) = word_by (λ k. refl) (put_both (put_within false at key.KOpenParen end key.KCloseParen refl refl (put_both (put_free (apat_word p)) (put_both (put_var_op true op) (put_free (apat_word q))))) (put_both (put (apat_word r)) (put_each apat_word rs)))

-- ---- expressions and declarations by their parts, of which it is known

module _ (HeldAexp HeldAlt HeldDecl HeldListExp HeldOperand HeldQual HeldRhs HeldWhere HeldAlts HeldApply HeldArrowGuard HeldBlock HeldCommaExp HeldCommaQual HeldEqualGuard HeldExp HeldLink HeldNextAlt HeldNextDecl : Type 0)
    (aexp_of : HeldAexp → Aexp) (alt_of : HeldAlt → Alt) (decl_of : HeldDecl → Decl) (list_exp_of : HeldListExp → ListExp) (operand_of : HeldOperand → Operand) (qual_of : HeldQual → Qual) (rhs_of : HeldRhs → Rhs) (where_of : HeldWhere → Where) (alts_of : HeldAlts → Alts) (apply_of : HeldApply → Apply) (arrow_guard_of : HeldArrowGuard → ArrowGuard) (block_of : HeldBlock → Block) (comma_exp_of : HeldCommaExp → CommaExp) (comma_qual_of : HeldCommaQual → CommaQual) (equal_guard_of : HeldEqualGuard → EqualGuard) (exp_of : HeldExp → Exp) (link_of : HeldLink → Link) (next_alt_of : HeldNextAlt → NextAlt) (next_decl_of : HeldNextDecl → NextDecl)
    (aexp_known : (s : HeldAexp) → BalancedWord Aexp aexp_onto false (aexp_of s))
    (alt_known : (s : HeldAlt) → BalancedWord Alt alt_onto true (alt_of s))
    (decl_known : (s : HeldDecl) → BalancedWord Decl decl_onto true (decl_of s))
    (list_exp_known : (s : HeldListExp) → BalancedWord ListExp list_exp_onto false (list_exp_of s))
    (operand_known : (s : HeldOperand) → BalancedWord Operand operand_onto false (operand_of s))
    (qual_known : (s : HeldQual) → BalancedWord Qual qual_onto true (qual_of s))
    (rhs_known : (s : HeldRhs) → BalancedWord Rhs rhs_onto true (rhs_of s))
    (where_known : (s : HeldWhere) → BalancedWord Where where_onto false (where_of s))
    (alts_known : (s : HeldAlts) → BalancedWord Alts alts_onto false (alts_of s))
    (apply_known : (s : HeldApply) → BalancedWord Apply apply_onto false (apply_of s))
    (arrow_guard_known : (s : HeldArrowGuard) → BalancedWord ArrowGuard arrow_guard_onto true (arrow_guard_of s))
    (block_known : (s : HeldBlock) → BalancedWord Block block_onto false (block_of s))
    (comma_exp_known : (s : HeldCommaExp) → BalancedWord CommaExp comma_exp_onto true (comma_exp_of s))
    (comma_qual_known : (s : HeldCommaQual) → BalancedWord CommaQual comma_qual_onto true (comma_qual_of s))
    (equal_guard_known : (s : HeldEqualGuard) → BalancedWord EqualGuard equal_guard_onto true (equal_guard_of s))
    (exp_known : (s : HeldExp) → BalancedWord Exp exp_onto false (exp_of s))
    (link_known : (s : HeldLink) → BalancedWord Link link_onto false (link_of s))
    (next_alt_known : (s : HeldNextAlt) → BalancedWord NextAlt next_alt_onto true (next_alt_of s))
    (next_decl_known : (s : HeldNextDecl) → BalancedWord NextDecl next_decl_onto true (next_decl_of s)) where
  aexp_by : (y : Aexp-F HeldAexp HeldAlt HeldDecl HeldListExp HeldOperand HeldQual HeldRhs HeldWhere HeldAlts HeldApply HeldArrowGuard HeldBlock HeldCommaExp HeldCommaQual HeldEqualGuard HeldExp HeldLink HeldNextAlt HeldNextDecl) → BalancedWord Aexp aexp_onto false (roll-Aexp (map-Aexp HeldAexp HeldAlt HeldDecl HeldListExp HeldOperand HeldQual HeldRhs HeldWhere HeldAlts HeldApply HeldArrowGuard HeldBlock HeldCommaExp HeldCommaQual HeldEqualGuard HeldExp HeldLink HeldNextAlt HeldNextDecl Aexp Alt Decl ListExp Operand Qual Rhs Where Alts Apply ArrowGuard Block CommaExp CommaQual EqualGuard Exp Link NextAlt NextDecl aexp_of alt_of decl_of list_exp_of operand_of qual_of rhs_of where_of alts_of apply_of arrow_guard_of block_of comma_exp_of comma_qual_of equal_guard_of exp_of link_of next_alt_of next_decl_of y))
  aexp_by (Aexp-F.Var var) = subst (BalancedWord Aexp aexp_onto false) (sym (v_aexp.rolls-Var var)) (word_by (aexp_var var) (put_var false var))
  aexp_by (Aexp-F.Con name) = subst (BalancedWord Aexp aexp_onto false) (sym (v_aexp.rolls-Con name)) (word_by (aexp_con name) (put_capital false name))
  aexp_by (Aexp-F.Literal at literal) = subst (BalancedWord Aexp aexp_onto false) (sym (v_aexp.rolls-Literal at literal)) (word_by (aexp_literal at literal) (put_literal false at literal))
  aexp_by (Aexp-F.Unit open_at close_at) = subst (BalancedWord Aexp aexp_onto false) (sym (v_aexp.rolls-Unit open_at close_at)) (word_by (aexp_unit open_at close_at) (put_within false open_at key.KOpenParen close_at key.KCloseParen refl refl (put_none true)))
  aexp_by (Aexp-F.Nil open_at close_at) = subst (BalancedWord Aexp aexp_onto false) (sym (v_aexp.rolls-Nil open_at close_at)) (word_by (aexp_nil open_at close_at) (put_within false open_at key.KOpenBracket close_at key.KCloseBracket refl refl (put_none true)))
  aexp_by (Aexp-F.Cons open_at at close_at) = subst (BalancedWord Aexp aexp_onto false) (sym (v_aexp.rolls-Cons open_at at close_at)) (word_by (aexp_cons open_at at close_at) (put_within false open_at key.KOpenParen close_at key.KCloseParen refl refl (put_key true at key.KColon refl)))
  aexp_by (Aexp-F.Paren open_at inner close_at) = subst (BalancedWord Aexp aexp_onto false) (sym (v_aexp.rolls-Paren open_at (exp_of inner) close_at)) (word_by (aexp_paren open_at (exp_of inner) close_at) (put_within false open_at key.KOpenParen close_at key.KCloseParen refl refl (put_free (exp_known inner))))
  aexp_by (Aexp-F.Tuple open_at first rest close_at) = subst (BalancedWord Aexp aexp_onto false) (sym (v_aexp.rolls-Tuple open_at (exp_of first) (map comma_exp_of rest) close_at)) (word_by (aexp_tuple open_at (exp_of first) (map comma_exp_of rest) close_at) (put_within false open_at key.KOpenParen close_at key.KCloseParen refl refl (put_both (put_free (exp_known first)) (put_all CommaExp comma_exp_onto true HeldCommaExp comma_exp_of comma_exp_known rest))))
  aexp_by (Aexp-F.List list) = subst (BalancedWord Aexp aexp_onto false) (sym (v_aexp.rolls-List (list_exp_of list))) (word_by (aexp_list (list_exp_of list)) (put (list_exp_known list)))
  aexp_by (Aexp-F.LeftSection open_at left op close_at) = subst (BalancedWord Aexp aexp_onto false) (sym (v_aexp.rolls-LeftSection open_at (exp_of left) op close_at)) (word_by (aexp_left_section open_at (exp_of left) op close_at) (put_within false open_at key.KOpenParen close_at key.KCloseParen refl refl (put_both (put_free (exp_known left)) (put_op true op))))
  aexp_by (Aexp-F.RightSection open_at op right close_at) = subst (BalancedWord Aexp aexp_onto false) (sym (v_aexp.rolls-RightSection open_at op (exp_of right) close_at)) (word_by (aexp_right_section open_at op (exp_of right) close_at) (put_within false open_at key.KOpenParen close_at key.KCloseParen refl refl (put_both (put_op true op) (put_free (exp_known right)))))

  alt_by : (y : Alt-F HeldAexp HeldAlt HeldDecl HeldListExp HeldOperand HeldQual HeldRhs HeldWhere HeldAlts HeldApply HeldArrowGuard HeldBlock HeldCommaExp HeldCommaQual HeldEqualGuard HeldExp HeldLink HeldNextAlt HeldNextDecl) → BalancedWord Alt alt_onto true (roll-Alt (map-Alt HeldAexp HeldAlt HeldDecl HeldListExp HeldOperand HeldQual HeldRhs HeldWhere HeldAlts HeldApply HeldArrowGuard HeldBlock HeldCommaExp HeldCommaQual HeldEqualGuard HeldExp HeldLink HeldNextAlt HeldNextDecl Aexp Alt Decl ListExp Operand Qual Rhs Where Alts Apply ArrowGuard Block CommaExp CommaQual EqualGuard Exp Link NextAlt NextDecl aexp_of alt_of decl_of list_exp_of operand_of qual_of rhs_of where_of alts_of apply_of arrow_guard_of block_of comma_exp_of comma_qual_of equal_guard_of exp_of link_of next_alt_of next_decl_of y))
  alt_by Alt-F.Blank = subst (BalancedWord Alt alt_onto true) (sym (v_alt.rolls-Blank)) (word_by alt_blank (put_none true))
  alt_by (Alt-F.Arrow pat arrow exp local) = subst (BalancedWord Alt alt_onto true) (sym (v_alt.rolls-Arrow pat arrow (exp_of exp) (where_of local))) (word_by (alt_arrow pat arrow (exp_of exp) (where_of local)) (put_both (put_free (pat_word pat)) (put_both (put_key true arrow key.KRightArrow refl) (put_both (put_free (exp_known exp)) (put_free (where_known local))))))
  alt_by (Alt-F.Guarded pat first rest local) = subst (BalancedWord Alt alt_onto true) (sym (v_alt.rolls-Guarded pat (arrow_guard_of first) (map arrow_guard_of rest) (where_of local))) (word_by (alt_guarded pat (arrow_guard_of first) (map arrow_guard_of rest) (where_of local)) (put_both (put_free (pat_word pat)) (put_both (put (arrow_guard_known first)) (put_both (put_all ArrowGuard arrow_guard_onto true HeldArrowGuard arrow_guard_of arrow_guard_known rest) (put_free (where_known local))))))

  decl_by : (y : Decl-F HeldAexp HeldAlt HeldDecl HeldListExp HeldOperand HeldQual HeldRhs HeldWhere HeldAlts HeldApply HeldArrowGuard HeldBlock HeldCommaExp HeldCommaQual HeldEqualGuard HeldExp HeldLink HeldNextAlt HeldNextDecl) → BalancedWord Decl decl_onto true (roll-Decl (map-Decl HeldAexp HeldAlt HeldDecl HeldListExp HeldOperand HeldQual HeldRhs HeldWhere HeldAlts HeldApply HeldArrowGuard HeldBlock HeldCommaExp HeldCommaQual HeldEqualGuard HeldExp HeldLink HeldNextAlt HeldNextDecl Aexp Alt Decl ListExp Operand Qual Rhs Where Alts Apply ArrowGuard Block CommaExp CommaQual EqualGuard Exp Link NextAlt NextDecl aexp_of alt_of decl_of list_exp_of operand_of qual_of rhs_of where_of alts_of apply_of arrow_guard_of block_of comma_exp_of comma_qual_of equal_guard_of exp_of link_of next_alt_of next_decl_of y))
  decl_by Decl-F.Empty = subst (BalancedWord Decl decl_onto true) (sym (v_decl.rolls-Empty)) (word_by decl_empty (put_none true))
  decl_by (Decl-F.Signature var rest at part) = subst (BalancedWord Decl decl_onto true) (sym (v_decl.rolls-Signature var rest at part)) (word_by (decl_signature var rest at part) (put_both (put_var true var) (put_both (put_each comma_var_word rest) (put_both (put_key true at key.KDoubleColon refl) (put_free (type_exp_word part))))))
  decl_by (Decl-F.Equation head rhs) = subst (BalancedWord Decl decl_onto true) (sym (v_decl.rolls-Equation head (rhs_of rhs))) (word_by (decl_equation head (rhs_of rhs)) (put_both (put_free (head_word head)) (put (rhs_known rhs))))
  decl_by (Decl-F.Binding pat rhs) = subst (BalancedWord Decl decl_onto true) (sym (v_decl.rolls-Binding pat (rhs_of rhs))) (word_by (decl_binding pat (rhs_of rhs)) (put_both (put_free (pat_word pat)) (put (rhs_known rhs))))

  list_exp_by : (y : ListExp-F HeldAexp HeldAlt HeldDecl HeldListExp HeldOperand HeldQual HeldRhs HeldWhere HeldAlts HeldApply HeldArrowGuard HeldBlock HeldCommaExp HeldCommaQual HeldEqualGuard HeldExp HeldLink HeldNextAlt HeldNextDecl) → BalancedWord ListExp list_exp_onto false (roll-ListExp (map-ListExp HeldAexp HeldAlt HeldDecl HeldListExp HeldOperand HeldQual HeldRhs HeldWhere HeldAlts HeldApply HeldArrowGuard HeldBlock HeldCommaExp HeldCommaQual HeldEqualGuard HeldExp HeldLink HeldNextAlt HeldNextDecl Aexp Alt Decl ListExp Operand Qual Rhs Where Alts Apply ArrowGuard Block CommaExp CommaQual EqualGuard Exp Link NextAlt NextDecl aexp_of alt_of decl_of list_exp_of operand_of qual_of rhs_of where_of alts_of apply_of arrow_guard_of block_of comma_exp_of comma_qual_of equal_guard_of exp_of link_of next_alt_of next_decl_of y))
  list_exp_by (ListExp-F.Members open_at first rest close_at) = subst (BalancedWord ListExp list_exp_onto false) (sym (v_list_exp.rolls-Members open_at (exp_of first) (map comma_exp_of rest) close_at)) (word_by (list_exp_members open_at (exp_of first) (map comma_exp_of rest) close_at) (put_within false open_at key.KOpenBracket close_at key.KCloseBracket refl refl (put_both (put_free (exp_known first)) (put_all CommaExp comma_exp_onto true HeldCommaExp comma_exp_of comma_exp_known rest))))
  list_exp_by (ListExp-F.Range open_at low dots high close_at) = subst (BalancedWord ListExp list_exp_onto false) (sym (v_list_exp.rolls-Range open_at (exp_of low) dots (exp_of high) close_at)) (word_by (list_exp_range open_at (exp_of low) dots (exp_of high) close_at) (put_within false open_at key.KOpenBracket close_at key.KCloseBracket refl refl (put_both (put_free (exp_known low)) (put_both (put_key true dots key.KDots refl) (put_free (exp_known high))))))
  list_exp_by (ListExp-F.Comprehension open_at head bar first rest close_at) = subst (BalancedWord ListExp list_exp_onto false) (sym (v_list_exp.rolls-Comprehension open_at (exp_of head) bar (qual_of first) (map comma_qual_of rest) close_at)) (word_by (list_exp_comprehension open_at (exp_of head) bar (qual_of first) (map comma_qual_of rest) close_at) (put_within false open_at key.KOpenBracket close_at key.KCloseBracket refl refl (put_both (put_free (exp_known head)) (put_both (put_divide bar key.KBar refl) (put_both (put (qual_known first)) (put_all CommaQual comma_qual_onto true HeldCommaQual comma_qual_of comma_qual_known rest))))))

  operand_by : (y : Operand-F HeldAexp HeldAlt HeldDecl HeldListExp HeldOperand HeldQual HeldRhs HeldWhere HeldAlts HeldApply HeldArrowGuard HeldBlock HeldCommaExp HeldCommaQual HeldEqualGuard HeldExp HeldLink HeldNextAlt HeldNextDecl) → BalancedWord Operand operand_onto false (roll-Operand (map-Operand HeldAexp HeldAlt HeldDecl HeldListExp HeldOperand HeldQual HeldRhs HeldWhere HeldAlts HeldApply HeldArrowGuard HeldBlock HeldCommaExp HeldCommaQual HeldEqualGuard HeldExp HeldLink HeldNextAlt HeldNextDecl Aexp Alt Decl ListExp Operand Qual Rhs Where Alts Apply ArrowGuard Block CommaExp CommaQual EqualGuard Exp Link NextAlt NextDecl aexp_of alt_of decl_of list_exp_of operand_of qual_of rhs_of where_of alts_of apply_of arrow_guard_of block_of comma_exp_of comma_qual_of equal_guard_of exp_of link_of next_alt_of next_decl_of y))
  operand_by (Operand-F.Applied apply) = subst (BalancedWord Operand operand_onto false) (sym (v_operand.rolls-Applied (apply_of apply))) (word_by (operand_applied (apply_of apply)) (put (apply_known apply)))
  operand_by (Operand-F.Lambda at first rest arrow body) = subst (BalancedWord Operand operand_onto false) (sym (v_operand.rolls-Lambda at first rest arrow (exp_of body))) (word_by (operand_lambda at first rest arrow (exp_of body)) (put_both (put_key false at key.KBackslash refl) (put_both (put (apat_word first)) (put_both (put_each apat_word rest) (put_both (put_key false arrow key.KRightArrow refl) (put (exp_known body)))))))
  operand_by (Operand-F.Let at decls in_at body) = subst (BalancedWord Operand operand_onto false) (sym (v_operand.rolls-Let at (block_of decls) in_at (exp_of body))) (word_by (operand_let at (block_of decls) in_at (exp_of body)) (put_both (put_key false at key.KLet refl) (put_both (put (block_known decls)) (put_both (put_key false in_at key.KIn refl) (put (exp_known body))))))
  operand_by (Operand-F.If at condition then_at positive else_at negative) = subst (BalancedWord Operand operand_onto false) (sym (v_operand.rolls-If at (exp_of condition) then_at (exp_of positive) else_at (exp_of negative))) (word_by (operand_if at (exp_of condition) then_at (exp_of positive) else_at (exp_of negative)) (put_both (put_key false at key.KIf refl) (put_both (put (exp_known condition)) (put_both (put_key false then_at key.KThen refl) (put_both (put (exp_known positive)) (put_both (put_key false else_at key.KElse refl) (put (exp_known negative))))))))
  operand_by (Operand-F.Case at subject of_at alts) = subst (BalancedWord Operand operand_onto false) (sym (v_operand.rolls-Case at (exp_of subject) of_at (alts_of alts))) (word_by (operand_case at (exp_of subject) of_at (alts_of alts)) (put_both (put_key false at key.KCase refl) (put_both (put (exp_known subject)) (put_both (put_key false of_at key.KOf refl) (put (alts_known alts))))))

  qual_by : (y : Qual-F HeldAexp HeldAlt HeldDecl HeldListExp HeldOperand HeldQual HeldRhs HeldWhere HeldAlts HeldApply HeldArrowGuard HeldBlock HeldCommaExp HeldCommaQual HeldEqualGuard HeldExp HeldLink HeldNextAlt HeldNextDecl) → BalancedWord Qual qual_onto true (roll-Qual (map-Qual HeldAexp HeldAlt HeldDecl HeldListExp HeldOperand HeldQual HeldRhs HeldWhere HeldAlts HeldApply HeldArrowGuard HeldBlock HeldCommaExp HeldCommaQual HeldEqualGuard HeldExp HeldLink HeldNextAlt HeldNextDecl Aexp Alt Decl ListExp Operand Qual Rhs Where Alts Apply ArrowGuard Block CommaExp CommaQual EqualGuard Exp Link NextAlt NextDecl aexp_of alt_of decl_of list_exp_of operand_of qual_of rhs_of where_of alts_of apply_of arrow_guard_of block_of comma_exp_of comma_qual_of equal_guard_of exp_of link_of next_alt_of next_decl_of y))
  qual_by (Qual-F.Generator pat arrow exp) = subst (BalancedWord Qual qual_onto true) (sym (v_qual.rolls-Generator pat arrow (exp_of exp))) (word_by (qual_generator pat arrow (exp_of exp)) (put_both (put_free (pat_word pat)) (put_both (put_divide arrow key.KLeftArrow refl) (put_free (exp_known exp)))))
  qual_by (Qual-F.Condition exp) = subst (BalancedWord Qual qual_onto true) (sym (v_qual.rolls-Condition (exp_of exp))) (word_by (qual_condition (exp_of exp)) (put_free (exp_known exp)))
  qual_by (Qual-F.Local at decls) = subst (BalancedWord Qual qual_onto true) (sym (v_qual.rolls-Local at (block_of decls))) (word_by (qual_local at (block_of decls)) (put_both (put_key true at key.KLet refl) (put_free (block_known decls))))

  rhs_by : (y : Rhs-F HeldAexp HeldAlt HeldDecl HeldListExp HeldOperand HeldQual HeldRhs HeldWhere HeldAlts HeldApply HeldArrowGuard HeldBlock HeldCommaExp HeldCommaQual HeldEqualGuard HeldExp HeldLink HeldNextAlt HeldNextDecl) → BalancedWord Rhs rhs_onto true (roll-Rhs (map-Rhs HeldAexp HeldAlt HeldDecl HeldListExp HeldOperand HeldQual HeldRhs HeldWhere HeldAlts HeldApply HeldArrowGuard HeldBlock HeldCommaExp HeldCommaQual HeldEqualGuard HeldExp HeldLink HeldNextAlt HeldNextDecl Aexp Alt Decl ListExp Operand Qual Rhs Where Alts Apply ArrowGuard Block CommaExp CommaQual EqualGuard Exp Link NextAlt NextDecl aexp_of alt_of decl_of list_exp_of operand_of qual_of rhs_of where_of alts_of apply_of arrow_guard_of block_of comma_exp_of comma_qual_of equal_guard_of exp_of link_of next_alt_of next_decl_of y))
  rhs_by (Rhs-F.Equal equal exp local) = subst (BalancedWord Rhs rhs_onto true) (sym (v_rhs.rolls-Equal equal (exp_of exp) (where_of local))) (word_by (rhs_equal equal (exp_of exp) (where_of local)) (put_both (put_key true equal key.KEqual refl) (put_both (put_free (exp_known exp)) (put_free (where_known local)))))
  rhs_by (Rhs-F.Guards first rest local) = subst (BalancedWord Rhs rhs_onto true) (sym (v_rhs.rolls-Guards (equal_guard_of first) (map equal_guard_of rest) (where_of local))) (word_by (rhs_guards (equal_guard_of first) (map equal_guard_of rest) (where_of local)) (put_both (put (equal_guard_known first)) (put_both (put_all EqualGuard equal_guard_onto true HeldEqualGuard equal_guard_of equal_guard_known rest) (put_free (where_known local)))))

  where_by : (y : Where-F HeldAexp HeldAlt HeldDecl HeldListExp HeldOperand HeldQual HeldRhs HeldWhere HeldAlts HeldApply HeldArrowGuard HeldBlock HeldCommaExp HeldCommaQual HeldEqualGuard HeldExp HeldLink HeldNextAlt HeldNextDecl) → BalancedWord Where where_onto false (roll-Where (map-Where HeldAexp HeldAlt HeldDecl HeldListExp HeldOperand HeldQual HeldRhs HeldWhere HeldAlts HeldApply HeldArrowGuard HeldBlock HeldCommaExp HeldCommaQual HeldEqualGuard HeldExp HeldLink HeldNextAlt HeldNextDecl Aexp Alt Decl ListExp Operand Qual Rhs Where Alts Apply ArrowGuard Block CommaExp CommaQual EqualGuard Exp Link NextAlt NextDecl aexp_of alt_of decl_of list_exp_of operand_of qual_of rhs_of where_of alts_of apply_of arrow_guard_of block_of comma_exp_of comma_qual_of equal_guard_of exp_of link_of next_alt_of next_decl_of y))
  where_by Where-F.Absent = subst (BalancedWord Where where_onto false) (sym (v_where.rolls-Absent)) (word_by where_absent (put_none false))
  where_by (Where-F.Present at decls) = subst (BalancedWord Where where_onto false) (sym (v_where.rolls-Present at (block_of decls))) (word_by (where_present at (block_of decls)) (put_both (put_key false at key.KWhere refl) (put (block_known decls))))

  alts_by : (y : Alts-F HeldAexp HeldAlt HeldDecl HeldListExp HeldOperand HeldQual HeldRhs HeldWhere HeldAlts HeldApply HeldArrowGuard HeldBlock HeldCommaExp HeldCommaQual HeldEqualGuard HeldExp HeldLink HeldNextAlt HeldNextDecl) → BalancedWord Alts alts_onto false (roll-Alts (map-Alts HeldAexp HeldAlt HeldDecl HeldListExp HeldOperand HeldQual HeldRhs HeldWhere HeldAlts HeldApply HeldArrowGuard HeldBlock HeldCommaExp HeldCommaQual HeldEqualGuard HeldExp HeldLink HeldNextAlt HeldNextDecl Aexp Alt Decl ListExp Operand Qual Rhs Where Alts Apply ArrowGuard Block CommaExp CommaQual EqualGuard Exp Link NextAlt NextDecl aexp_of alt_of decl_of list_exp_of operand_of qual_of rhs_of where_of alts_of apply_of arrow_guard_of block_of comma_exp_of comma_qual_of equal_guard_of exp_of link_of next_alt_of next_decl_of y))
  alts_by y = word_by (alts_made y.open_at (alt_of y.first) (map next_alt_of y.rest) y.close_at) (put_within false y.open_at key.KOpenBrace y.close_at key.KCloseBrace refl refl (put_both (put (alt_known y.first)) (put_all NextAlt next_alt_onto true HeldNextAlt next_alt_of next_alt_known y.rest)))

  apply_by : (y : Apply-F HeldAexp HeldAlt HeldDecl HeldListExp HeldOperand HeldQual HeldRhs HeldWhere HeldAlts HeldApply HeldArrowGuard HeldBlock HeldCommaExp HeldCommaQual HeldEqualGuard HeldExp HeldLink HeldNextAlt HeldNextDecl) → BalancedWord Apply apply_onto false (roll-Apply (map-Apply HeldAexp HeldAlt HeldDecl HeldListExp HeldOperand HeldQual HeldRhs HeldWhere HeldAlts HeldApply HeldArrowGuard HeldBlock HeldCommaExp HeldCommaQual HeldEqualGuard HeldExp HeldLink HeldNextAlt HeldNextDecl Aexp Alt Decl ListExp Operand Qual Rhs Where Alts Apply ArrowGuard Block CommaExp CommaQual EqualGuard Exp Link NextAlt NextDecl aexp_of alt_of decl_of list_exp_of operand_of qual_of rhs_of where_of alts_of apply_of arrow_guard_of block_of comma_exp_of comma_qual_of equal_guard_of exp_of link_of next_alt_of next_decl_of y))
  apply_by y = word_by (apply_made (aexp_of y.head) (map aexp_of y.args)) (put_both (put (aexp_known y.head)) (put_all Aexp aexp_onto false HeldAexp aexp_of aexp_known y.args))

  arrow_guard_by : (y : ArrowGuard-F HeldAexp HeldAlt HeldDecl HeldListExp HeldOperand HeldQual HeldRhs HeldWhere HeldAlts HeldApply HeldArrowGuard HeldBlock HeldCommaExp HeldCommaQual HeldEqualGuard HeldExp HeldLink HeldNextAlt HeldNextDecl) → BalancedWord ArrowGuard arrow_guard_onto true (roll-ArrowGuard (map-ArrowGuard HeldAexp HeldAlt HeldDecl HeldListExp HeldOperand HeldQual HeldRhs HeldWhere HeldAlts HeldApply HeldArrowGuard HeldBlock HeldCommaExp HeldCommaQual HeldEqualGuard HeldExp HeldLink HeldNextAlt HeldNextDecl Aexp Alt Decl ListExp Operand Qual Rhs Where Alts Apply ArrowGuard Block CommaExp CommaQual EqualGuard Exp Link NextAlt NextDecl aexp_of alt_of decl_of list_exp_of operand_of qual_of rhs_of where_of alts_of apply_of arrow_guard_of block_of comma_exp_of comma_qual_of equal_guard_of exp_of link_of next_alt_of next_decl_of y))
  arrow_guard_by y = word_by (arrow_guard_made y.bar (exp_of y.condition) y.arrow (exp_of y.exp)) (put_both (put_divide y.bar key.KBar refl) (put_both (put_free (exp_known y.condition)) (put_both (put_key true y.arrow key.KRightArrow refl) (put_free (exp_known y.exp)))))

  block_by : (y : Block-F HeldAexp HeldAlt HeldDecl HeldListExp HeldOperand HeldQual HeldRhs HeldWhere HeldAlts HeldApply HeldArrowGuard HeldBlock HeldCommaExp HeldCommaQual HeldEqualGuard HeldExp HeldLink HeldNextAlt HeldNextDecl) → BalancedWord Block block_onto false (roll-Block (map-Block HeldAexp HeldAlt HeldDecl HeldListExp HeldOperand HeldQual HeldRhs HeldWhere HeldAlts HeldApply HeldArrowGuard HeldBlock HeldCommaExp HeldCommaQual HeldEqualGuard HeldExp HeldLink HeldNextAlt HeldNextDecl Aexp Alt Decl ListExp Operand Qual Rhs Where Alts Apply ArrowGuard Block CommaExp CommaQual EqualGuard Exp Link NextAlt NextDecl aexp_of alt_of decl_of list_exp_of operand_of qual_of rhs_of where_of alts_of apply_of arrow_guard_of block_of comma_exp_of comma_qual_of equal_guard_of exp_of link_of next_alt_of next_decl_of y))
  block_by y = word_by (block_made y.open_at (decl_of y.first) (map next_decl_of y.rest) y.close_at) (put_within false y.open_at key.KOpenBrace y.close_at key.KCloseBrace refl refl (put_both (put (decl_known y.first)) (put_all NextDecl next_decl_onto true HeldNextDecl next_decl_of next_decl_known y.rest)))

  comma_exp_by : (y : CommaExp-F HeldAexp HeldAlt HeldDecl HeldListExp HeldOperand HeldQual HeldRhs HeldWhere HeldAlts HeldApply HeldArrowGuard HeldBlock HeldCommaExp HeldCommaQual HeldEqualGuard HeldExp HeldLink HeldNextAlt HeldNextDecl) → BalancedWord CommaExp comma_exp_onto true (roll-CommaExp (map-CommaExp HeldAexp HeldAlt HeldDecl HeldListExp HeldOperand HeldQual HeldRhs HeldWhere HeldAlts HeldApply HeldArrowGuard HeldBlock HeldCommaExp HeldCommaQual HeldEqualGuard HeldExp HeldLink HeldNextAlt HeldNextDecl Aexp Alt Decl ListExp Operand Qual Rhs Where Alts Apply ArrowGuard Block CommaExp CommaQual EqualGuard Exp Link NextAlt NextDecl aexp_of alt_of decl_of list_exp_of operand_of qual_of rhs_of where_of alts_of apply_of arrow_guard_of block_of comma_exp_of comma_qual_of equal_guard_of exp_of link_of next_alt_of next_decl_of y))
  comma_exp_by y = word_by (comma_exp_made y.comma (exp_of y.exp)) (put_both (put_divide y.comma key.KComma refl) (put_free (exp_known y.exp)))

  comma_qual_by : (y : CommaQual-F HeldAexp HeldAlt HeldDecl HeldListExp HeldOperand HeldQual HeldRhs HeldWhere HeldAlts HeldApply HeldArrowGuard HeldBlock HeldCommaExp HeldCommaQual HeldEqualGuard HeldExp HeldLink HeldNextAlt HeldNextDecl) → BalancedWord CommaQual comma_qual_onto true (roll-CommaQual (map-CommaQual HeldAexp HeldAlt HeldDecl HeldListExp HeldOperand HeldQual HeldRhs HeldWhere HeldAlts HeldApply HeldArrowGuard HeldBlock HeldCommaExp HeldCommaQual HeldEqualGuard HeldExp HeldLink HeldNextAlt HeldNextDecl Aexp Alt Decl ListExp Operand Qual Rhs Where Alts Apply ArrowGuard Block CommaExp CommaQual EqualGuard Exp Link NextAlt NextDecl aexp_of alt_of decl_of list_exp_of operand_of qual_of rhs_of where_of alts_of apply_of arrow_guard_of block_of comma_exp_of comma_qual_of equal_guard_of exp_of link_of next_alt_of next_decl_of y))
  comma_qual_by y = word_by (comma_qual_made y.comma (qual_of y.qual)) (put_both (put_divide y.comma key.KComma refl) (put (qual_known y.qual)))

  equal_guard_by : (y : EqualGuard-F HeldAexp HeldAlt HeldDecl HeldListExp HeldOperand HeldQual HeldRhs HeldWhere HeldAlts HeldApply HeldArrowGuard HeldBlock HeldCommaExp HeldCommaQual HeldEqualGuard HeldExp HeldLink HeldNextAlt HeldNextDecl) → BalancedWord EqualGuard equal_guard_onto true (roll-EqualGuard (map-EqualGuard HeldAexp HeldAlt HeldDecl HeldListExp HeldOperand HeldQual HeldRhs HeldWhere HeldAlts HeldApply HeldArrowGuard HeldBlock HeldCommaExp HeldCommaQual HeldEqualGuard HeldExp HeldLink HeldNextAlt HeldNextDecl Aexp Alt Decl ListExp Operand Qual Rhs Where Alts Apply ArrowGuard Block CommaExp CommaQual EqualGuard Exp Link NextAlt NextDecl aexp_of alt_of decl_of list_exp_of operand_of qual_of rhs_of where_of alts_of apply_of arrow_guard_of block_of comma_exp_of comma_qual_of equal_guard_of exp_of link_of next_alt_of next_decl_of y))
  equal_guard_by y = word_by (equal_guard_made y.bar (exp_of y.condition) y.equal (exp_of y.exp)) (put_both (put_divide y.bar key.KBar refl) (put_both (put_free (exp_known y.condition)) (put_both (put_key true y.equal key.KEqual refl) (put_free (exp_known y.exp)))))

  exp_by : (y : Exp-F HeldAexp HeldAlt HeldDecl HeldListExp HeldOperand HeldQual HeldRhs HeldWhere HeldAlts HeldApply HeldArrowGuard HeldBlock HeldCommaExp HeldCommaQual HeldEqualGuard HeldExp HeldLink HeldNextAlt HeldNextDecl) → BalancedWord Exp exp_onto false (roll-Exp (map-Exp HeldAexp HeldAlt HeldDecl HeldListExp HeldOperand HeldQual HeldRhs HeldWhere HeldAlts HeldApply HeldArrowGuard HeldBlock HeldCommaExp HeldCommaQual HeldEqualGuard HeldExp HeldLink HeldNextAlt HeldNextDecl Aexp Alt Decl ListExp Operand Qual Rhs Where Alts Apply ArrowGuard Block CommaExp CommaQual EqualGuard Exp Link NextAlt NextDecl aexp_of alt_of decl_of list_exp_of operand_of qual_of rhs_of where_of alts_of apply_of arrow_guard_of block_of comma_exp_of comma_qual_of equal_guard_of exp_of link_of next_alt_of next_decl_of y))
  exp_by y = word_by (exp_made (map link_of y.links) y.sign (operand_of y.last)) (put_both (put_all Link link_onto false HeldLink link_of link_known y.links) (put_both (put_sign false y.sign) (put (operand_known y.last))))

  link_by : (y : Link-F HeldAexp HeldAlt HeldDecl HeldListExp HeldOperand HeldQual HeldRhs HeldWhere HeldAlts HeldApply HeldArrowGuard HeldBlock HeldCommaExp HeldCommaQual HeldEqualGuard HeldExp HeldLink HeldNextAlt HeldNextDecl) → BalancedWord Link link_onto false (roll-Link (map-Link HeldAexp HeldAlt HeldDecl HeldListExp HeldOperand HeldQual HeldRhs HeldWhere HeldAlts HeldApply HeldArrowGuard HeldBlock HeldCommaExp HeldCommaQual HeldEqualGuard HeldExp HeldLink HeldNextAlt HeldNextDecl Aexp Alt Decl ListExp Operand Qual Rhs Where Alts Apply ArrowGuard Block CommaExp CommaQual EqualGuard Exp Link NextAlt NextDecl aexp_of alt_of decl_of list_exp_of operand_of qual_of rhs_of where_of alts_of apply_of arrow_guard_of block_of comma_exp_of comma_qual_of equal_guard_of exp_of link_of next_alt_of next_decl_of y))
  link_by y = word_by (link_made y.sign (apply_of y.left) y.op) (put_both (put_sign false y.sign) (put_both (put (apply_known y.left)) (put_op false y.op)))

  next_alt_by : (y : NextAlt-F HeldAexp HeldAlt HeldDecl HeldListExp HeldOperand HeldQual HeldRhs HeldWhere HeldAlts HeldApply HeldArrowGuard HeldBlock HeldCommaExp HeldCommaQual HeldEqualGuard HeldExp HeldLink HeldNextAlt HeldNextDecl) → BalancedWord NextAlt next_alt_onto true (roll-NextAlt (map-NextAlt HeldAexp HeldAlt HeldDecl HeldListExp HeldOperand HeldQual HeldRhs HeldWhere HeldAlts HeldApply HeldArrowGuard HeldBlock HeldCommaExp HeldCommaQual HeldEqualGuard HeldExp HeldLink HeldNextAlt HeldNextDecl Aexp Alt Decl ListExp Operand Qual Rhs Where Alts Apply ArrowGuard Block CommaExp CommaQual EqualGuard Exp Link NextAlt NextDecl aexp_of alt_of decl_of list_exp_of operand_of qual_of rhs_of where_of alts_of apply_of arrow_guard_of block_of comma_exp_of comma_qual_of equal_guard_of exp_of link_of next_alt_of next_decl_of y))
  next_alt_by y = word_by (next_alt_made y.semicolon (alt_of y.alt)) (put_both (put_divide y.semicolon key.KSemicolon refl) (put (alt_known y.alt)))

  next_decl_by : (y : NextDecl-F HeldAexp HeldAlt HeldDecl HeldListExp HeldOperand HeldQual HeldRhs HeldWhere HeldAlts HeldApply HeldArrowGuard HeldBlock HeldCommaExp HeldCommaQual HeldEqualGuard HeldExp HeldLink HeldNextAlt HeldNextDecl) → BalancedWord NextDecl next_decl_onto true (roll-NextDecl (map-NextDecl HeldAexp HeldAlt HeldDecl HeldListExp HeldOperand HeldQual HeldRhs HeldWhere HeldAlts HeldApply HeldArrowGuard HeldBlock HeldCommaExp HeldCommaQual HeldEqualGuard HeldExp HeldLink HeldNextAlt HeldNextDecl Aexp Alt Decl ListExp Operand Qual Rhs Where Alts Apply ArrowGuard Block CommaExp CommaQual EqualGuard Exp Link NextAlt NextDecl aexp_of alt_of decl_of list_exp_of operand_of qual_of rhs_of where_of alts_of apply_of arrow_guard_of block_of comma_exp_of comma_qual_of equal_guard_of exp_of link_of next_alt_of next_decl_of y))
  next_decl_by y = word_by (next_decl_made y.semicolon (decl_of y.decl)) (put_both (put_divide y.semicolon key.KSemicolon refl) (put (decl_known y.decl)))

-- ---- expressions and declarations, by induction

abbrev KnownAexp : Type 0
KnownAexp = (x : Aexp) × BalancedWord Aexp aexp_onto false x

abbrev KnownAlt : Type 0
KnownAlt = (x : Alt) × BalancedWord Alt alt_onto true x

abbrev KnownDecl : Type 0
KnownDecl = (x : Decl) × BalancedWord Decl decl_onto true x

abbrev KnownListExp : Type 0
KnownListExp = (x : ListExp) × BalancedWord ListExp list_exp_onto false x

abbrev KnownOperand : Type 0
KnownOperand = (x : Operand) × BalancedWord Operand operand_onto false x

abbrev KnownQual : Type 0
KnownQual = (x : Qual) × BalancedWord Qual qual_onto true x

abbrev KnownRhs : Type 0
KnownRhs = (x : Rhs) × BalancedWord Rhs rhs_onto true x

abbrev KnownWhere : Type 0
KnownWhere = (x : Where) × BalancedWord Where where_onto false x

abbrev KnownAlts : Type 0
KnownAlts = (x : Alts) × BalancedWord Alts alts_onto false x

abbrev KnownApply : Type 0
KnownApply = (x : Apply) × BalancedWord Apply apply_onto false x

abbrev KnownArrowGuard : Type 0
KnownArrowGuard = (x : ArrowGuard) × BalancedWord ArrowGuard arrow_guard_onto true x

abbrev KnownBlock : Type 0
KnownBlock = (x : Block) × BalancedWord Block block_onto false x

abbrev KnownCommaExp : Type 0
KnownCommaExp = (x : CommaExp) × BalancedWord CommaExp comma_exp_onto true x

abbrev KnownCommaQual : Type 0
KnownCommaQual = (x : CommaQual) × BalancedWord CommaQual comma_qual_onto true x

abbrev KnownEqualGuard : Type 0
KnownEqualGuard = (x : EqualGuard) × BalancedWord EqualGuard equal_guard_onto true x

abbrev KnownExp : Type 0
KnownExp = (x : Exp) × BalancedWord Exp exp_onto false x

abbrev KnownLink : Type 0
KnownLink = (x : Link) × BalancedWord Link link_onto false x

abbrev KnownNextAlt : Type 0
KnownNextAlt = (x : NextAlt) × BalancedWord NextAlt next_alt_onto true x

abbrev KnownNextDecl : Type 0
KnownNextDecl = (x : NextDecl) × BalancedWord NextDecl next_decl_onto true x

aexp_at : (x : Aexp-F Aexp Alt Decl ListExp Operand Qual Rhs Where Alts Apply ArrowGuard Block CommaExp CommaQual EqualGuard Exp Link NextAlt NextDecl) (y : Aexp-F KnownAexp KnownAlt KnownDecl KnownListExp KnownOperand KnownQual KnownRhs KnownWhere KnownAlts KnownApply KnownArrowGuard KnownBlock KnownCommaExp KnownCommaQual KnownEqualGuard KnownExp KnownLink KnownNextAlt KnownNextDecl) → map-Aexp KnownAexp KnownAlt KnownDecl KnownListExp KnownOperand KnownQual KnownRhs KnownWhere KnownAlts KnownApply KnownArrowGuard KnownBlock KnownCommaExp KnownCommaQual KnownEqualGuard KnownExp KnownLink KnownNextAlt KnownNextDecl Aexp Alt Decl ListExp Operand Qual Rhs Where Alts Apply ArrowGuard Block CommaExp CommaQual EqualGuard Exp Link NextAlt NextDecl (λ s. s.0) (λ s. s.0) (λ s. s.0) (λ s. s.0) (λ s. s.0) (λ s. s.0) (λ s. s.0) (λ s. s.0) (λ s. s.0) (λ s. s.0) (λ s. s.0) (λ s. s.0) (λ s. s.0) (λ s. s.0) (λ s. s.0) (λ s. s.0) (λ s. s.0) (λ s. s.0) (λ s. s.0) y ≡ x → BalancedWord Aexp aexp_onto false (roll-Aexp x)
aexp_at x y e = subst (λ (z : Aexp-F Aexp Alt Decl ListExp Operand Qual Rhs Where Alts Apply ArrowGuard Block CommaExp CommaQual EqualGuard Exp Link NextAlt NextDecl). BalancedWord Aexp aexp_onto false (roll-Aexp z)) e (aexp_by KnownAexp KnownAlt KnownDecl KnownListExp KnownOperand KnownQual KnownRhs KnownWhere KnownAlts KnownApply KnownArrowGuard KnownBlock KnownCommaExp KnownCommaQual KnownEqualGuard KnownExp KnownLink KnownNextAlt KnownNextDecl (λ s. s.0) (λ s. s.0) (λ s. s.0) (λ s. s.0) (λ s. s.0) (λ s. s.0) (λ s. s.0) (λ s. s.0) (λ s. s.0) (λ s. s.0) (λ s. s.0) (λ s. s.0) (λ s. s.0) (λ s. s.0) (λ s. s.0) (λ s. s.0) (λ s. s.0) (λ s. s.0) (λ s. s.0) (λ s. s.1) (λ s. s.1) (λ s. s.1) (λ s. s.1) (λ s. s.1) (λ s. s.1) (λ s. s.1) (λ s. s.1) (λ s. s.1) (λ s. s.1) (λ s. s.1) (λ s. s.1) (λ s. s.1) (λ s. s.1) (λ s. s.1) (λ s. s.1) (λ s. s.1) (λ s. s.1) (λ s. s.1) y)

alt_at : (x : Alt-F Aexp Alt Decl ListExp Operand Qual Rhs Where Alts Apply ArrowGuard Block CommaExp CommaQual EqualGuard Exp Link NextAlt NextDecl) (y : Alt-F KnownAexp KnownAlt KnownDecl KnownListExp KnownOperand KnownQual KnownRhs KnownWhere KnownAlts KnownApply KnownArrowGuard KnownBlock KnownCommaExp KnownCommaQual KnownEqualGuard KnownExp KnownLink KnownNextAlt KnownNextDecl) → map-Alt KnownAexp KnownAlt KnownDecl KnownListExp KnownOperand KnownQual KnownRhs KnownWhere KnownAlts KnownApply KnownArrowGuard KnownBlock KnownCommaExp KnownCommaQual KnownEqualGuard KnownExp KnownLink KnownNextAlt KnownNextDecl Aexp Alt Decl ListExp Operand Qual Rhs Where Alts Apply ArrowGuard Block CommaExp CommaQual EqualGuard Exp Link NextAlt NextDecl (λ s. s.0) (λ s. s.0) (λ s. s.0) (λ s. s.0) (λ s. s.0) (λ s. s.0) (λ s. s.0) (λ s. s.0) (λ s. s.0) (λ s. s.0) (λ s. s.0) (λ s. s.0) (λ s. s.0) (λ s. s.0) (λ s. s.0) (λ s. s.0) (λ s. s.0) (λ s. s.0) (λ s. s.0) y ≡ x → BalancedWord Alt alt_onto true (roll-Alt x)
alt_at x y e = subst (λ (z : Alt-F Aexp Alt Decl ListExp Operand Qual Rhs Where Alts Apply ArrowGuard Block CommaExp CommaQual EqualGuard Exp Link NextAlt NextDecl). BalancedWord Alt alt_onto true (roll-Alt z)) e (alt_by KnownAexp KnownAlt KnownDecl KnownListExp KnownOperand KnownQual KnownRhs KnownWhere KnownAlts KnownApply KnownArrowGuard KnownBlock KnownCommaExp KnownCommaQual KnownEqualGuard KnownExp KnownLink KnownNextAlt KnownNextDecl (λ s. s.0) (λ s. s.0) (λ s. s.0) (λ s. s.0) (λ s. s.0) (λ s. s.0) (λ s. s.0) (λ s. s.0) (λ s. s.0) (λ s. s.0) (λ s. s.0) (λ s. s.0) (λ s. s.0) (λ s. s.0) (λ s. s.0) (λ s. s.0) (λ s. s.0) (λ s. s.0) (λ s. s.0) (λ s. s.1) (λ s. s.1) (λ s. s.1) (λ s. s.1) (λ s. s.1) (λ s. s.1) (λ s. s.1) (λ s. s.1) (λ s. s.1) (λ s. s.1) (λ s. s.1) (λ s. s.1) (λ s. s.1) (λ s. s.1) (λ s. s.1) (λ s. s.1) (λ s. s.1) (λ s. s.1) (λ s. s.1) y)

decl_at : (x : Decl-F Aexp Alt Decl ListExp Operand Qual Rhs Where Alts Apply ArrowGuard Block CommaExp CommaQual EqualGuard Exp Link NextAlt NextDecl) (y : Decl-F KnownAexp KnownAlt KnownDecl KnownListExp KnownOperand KnownQual KnownRhs KnownWhere KnownAlts KnownApply KnownArrowGuard KnownBlock KnownCommaExp KnownCommaQual KnownEqualGuard KnownExp KnownLink KnownNextAlt KnownNextDecl) → map-Decl KnownAexp KnownAlt KnownDecl KnownListExp KnownOperand KnownQual KnownRhs KnownWhere KnownAlts KnownApply KnownArrowGuard KnownBlock KnownCommaExp KnownCommaQual KnownEqualGuard KnownExp KnownLink KnownNextAlt KnownNextDecl Aexp Alt Decl ListExp Operand Qual Rhs Where Alts Apply ArrowGuard Block CommaExp CommaQual EqualGuard Exp Link NextAlt NextDecl (λ s. s.0) (λ s. s.0) (λ s. s.0) (λ s. s.0) (λ s. s.0) (λ s. s.0) (λ s. s.0) (λ s. s.0) (λ s. s.0) (λ s. s.0) (λ s. s.0) (λ s. s.0) (λ s. s.0) (λ s. s.0) (λ s. s.0) (λ s. s.0) (λ s. s.0) (λ s. s.0) (λ s. s.0) y ≡ x → BalancedWord Decl decl_onto true (roll-Decl x)
decl_at x y e = subst (λ (z : Decl-F Aexp Alt Decl ListExp Operand Qual Rhs Where Alts Apply ArrowGuard Block CommaExp CommaQual EqualGuard Exp Link NextAlt NextDecl). BalancedWord Decl decl_onto true (roll-Decl z)) e (decl_by KnownAexp KnownAlt KnownDecl KnownListExp KnownOperand KnownQual KnownRhs KnownWhere KnownAlts KnownApply KnownArrowGuard KnownBlock KnownCommaExp KnownCommaQual KnownEqualGuard KnownExp KnownLink KnownNextAlt KnownNextDecl (λ s. s.0) (λ s. s.0) (λ s. s.0) (λ s. s.0) (λ s. s.0) (λ s. s.0) (λ s. s.0) (λ s. s.0) (λ s. s.0) (λ s. s.0) (λ s. s.0) (λ s. s.0) (λ s. s.0) (λ s. s.0) (λ s. s.0) (λ s. s.0) (λ s. s.0) (λ s. s.0) (λ s. s.0) (λ s. s.1) (λ s. s.1) (λ s. s.1) (λ s. s.1) (λ s. s.1) (λ s. s.1) (λ s. s.1) (λ s. s.1) (λ s. s.1) (λ s. s.1) (λ s. s.1) (λ s. s.1) (λ s. s.1) (λ s. s.1) (λ s. s.1) (λ s. s.1) (λ s. s.1) (λ s. s.1) (λ s. s.1) y)

list_exp_at : (x : ListExp-F Aexp Alt Decl ListExp Operand Qual Rhs Where Alts Apply ArrowGuard Block CommaExp CommaQual EqualGuard Exp Link NextAlt NextDecl) (y : ListExp-F KnownAexp KnownAlt KnownDecl KnownListExp KnownOperand KnownQual KnownRhs KnownWhere KnownAlts KnownApply KnownArrowGuard KnownBlock KnownCommaExp KnownCommaQual KnownEqualGuard KnownExp KnownLink KnownNextAlt KnownNextDecl) → map-ListExp KnownAexp KnownAlt KnownDecl KnownListExp KnownOperand KnownQual KnownRhs KnownWhere KnownAlts KnownApply KnownArrowGuard KnownBlock KnownCommaExp KnownCommaQual KnownEqualGuard KnownExp KnownLink KnownNextAlt KnownNextDecl Aexp Alt Decl ListExp Operand Qual Rhs Where Alts Apply ArrowGuard Block CommaExp CommaQual EqualGuard Exp Link NextAlt NextDecl (λ s. s.0) (λ s. s.0) (λ s. s.0) (λ s. s.0) (λ s. s.0) (λ s. s.0) (λ s. s.0) (λ s. s.0) (λ s. s.0) (λ s. s.0) (λ s. s.0) (λ s. s.0) (λ s. s.0) (λ s. s.0) (λ s. s.0) (λ s. s.0) (λ s. s.0) (λ s. s.0) (λ s. s.0) y ≡ x → BalancedWord ListExp list_exp_onto false (roll-ListExp x)
list_exp_at x y e = subst (λ (z : ListExp-F Aexp Alt Decl ListExp Operand Qual Rhs Where Alts Apply ArrowGuard Block CommaExp CommaQual EqualGuard Exp Link NextAlt NextDecl). BalancedWord ListExp list_exp_onto false (roll-ListExp z)) e (list_exp_by KnownAexp KnownAlt KnownDecl KnownListExp KnownOperand KnownQual KnownRhs KnownWhere KnownAlts KnownApply KnownArrowGuard KnownBlock KnownCommaExp KnownCommaQual KnownEqualGuard KnownExp KnownLink KnownNextAlt KnownNextDecl (λ s. s.0) (λ s. s.0) (λ s. s.0) (λ s. s.0) (λ s. s.0) (λ s. s.0) (λ s. s.0) (λ s. s.0) (λ s. s.0) (λ s. s.0) (λ s. s.0) (λ s. s.0) (λ s. s.0) (λ s. s.0) (λ s. s.0) (λ s. s.0) (λ s. s.0) (λ s. s.0) (λ s. s.0) (λ s. s.1) (λ s. s.1) (λ s. s.1) (λ s. s.1) (λ s. s.1) (λ s. s.1) (λ s. s.1) (λ s. s.1) (λ s. s.1) (λ s. s.1) (λ s. s.1) (λ s. s.1) (λ s. s.1) (λ s. s.1) (λ s. s.1) (λ s. s.1) (λ s. s.1) (λ s. s.1) (λ s. s.1) y)

operand_at : (x : Operand-F Aexp Alt Decl ListExp Operand Qual Rhs Where Alts Apply ArrowGuard Block CommaExp CommaQual EqualGuard Exp Link NextAlt NextDecl) (y : Operand-F KnownAexp KnownAlt KnownDecl KnownListExp KnownOperand KnownQual KnownRhs KnownWhere KnownAlts KnownApply KnownArrowGuard KnownBlock KnownCommaExp KnownCommaQual KnownEqualGuard KnownExp KnownLink KnownNextAlt KnownNextDecl) → map-Operand KnownAexp KnownAlt KnownDecl KnownListExp KnownOperand KnownQual KnownRhs KnownWhere KnownAlts KnownApply KnownArrowGuard KnownBlock KnownCommaExp KnownCommaQual KnownEqualGuard KnownExp KnownLink KnownNextAlt KnownNextDecl Aexp Alt Decl ListExp Operand Qual Rhs Where Alts Apply ArrowGuard Block CommaExp CommaQual EqualGuard Exp Link NextAlt NextDecl (λ s. s.0) (λ s. s.0) (λ s. s.0) (λ s. s.0) (λ s. s.0) (λ s. s.0) (λ s. s.0) (λ s. s.0) (λ s. s.0) (λ s. s.0) (λ s. s.0) (λ s. s.0) (λ s. s.0) (λ s. s.0) (λ s. s.0) (λ s. s.0) (λ s. s.0) (λ s. s.0) (λ s. s.0) y ≡ x → BalancedWord Operand operand_onto false (roll-Operand x)
operand_at x y e = subst (λ (z : Operand-F Aexp Alt Decl ListExp Operand Qual Rhs Where Alts Apply ArrowGuard Block CommaExp CommaQual EqualGuard Exp Link NextAlt NextDecl). BalancedWord Operand operand_onto false (roll-Operand z)) e (operand_by KnownAexp KnownAlt KnownDecl KnownListExp KnownOperand KnownQual KnownRhs KnownWhere KnownAlts KnownApply KnownArrowGuard KnownBlock KnownCommaExp KnownCommaQual KnownEqualGuard KnownExp KnownLink KnownNextAlt KnownNextDecl (λ s. s.0) (λ s. s.0) (λ s. s.0) (λ s. s.0) (λ s. s.0) (λ s. s.0) (λ s. s.0) (λ s. s.0) (λ s. s.0) (λ s. s.0) (λ s. s.0) (λ s. s.0) (λ s. s.0) (λ s. s.0) (λ s. s.0) (λ s. s.0) (λ s. s.0) (λ s. s.0) (λ s. s.0) (λ s. s.1) (λ s. s.1) (λ s. s.1) (λ s. s.1) (λ s. s.1) (λ s. s.1) (λ s. s.1) (λ s. s.1) (λ s. s.1) (λ s. s.1) (λ s. s.1) (λ s. s.1) (λ s. s.1) (λ s. s.1) (λ s. s.1) (λ s. s.1) (λ s. s.1) (λ s. s.1) (λ s. s.1) y)

qual_at : (x : Qual-F Aexp Alt Decl ListExp Operand Qual Rhs Where Alts Apply ArrowGuard Block CommaExp CommaQual EqualGuard Exp Link NextAlt NextDecl) (y : Qual-F KnownAexp KnownAlt KnownDecl KnownListExp KnownOperand KnownQual KnownRhs KnownWhere KnownAlts KnownApply KnownArrowGuard KnownBlock KnownCommaExp KnownCommaQual KnownEqualGuard KnownExp KnownLink KnownNextAlt KnownNextDecl) → map-Qual KnownAexp KnownAlt KnownDecl KnownListExp KnownOperand KnownQual KnownRhs KnownWhere KnownAlts KnownApply KnownArrowGuard KnownBlock KnownCommaExp KnownCommaQual KnownEqualGuard KnownExp KnownLink KnownNextAlt KnownNextDecl Aexp Alt Decl ListExp Operand Qual Rhs Where Alts Apply ArrowGuard Block CommaExp CommaQual EqualGuard Exp Link NextAlt NextDecl (λ s. s.0) (λ s. s.0) (λ s. s.0) (λ s. s.0) (λ s. s.0) (λ s. s.0) (λ s. s.0) (λ s. s.0) (λ s. s.0) (λ s. s.0) (λ s. s.0) (λ s. s.0) (λ s. s.0) (λ s. s.0) (λ s. s.0) (λ s. s.0) (λ s. s.0) (λ s. s.0) (λ s. s.0) y ≡ x → BalancedWord Qual qual_onto true (roll-Qual x)
qual_at x y e = subst (λ (z : Qual-F Aexp Alt Decl ListExp Operand Qual Rhs Where Alts Apply ArrowGuard Block CommaExp CommaQual EqualGuard Exp Link NextAlt NextDecl). BalancedWord Qual qual_onto true (roll-Qual z)) e (qual_by KnownAexp KnownAlt KnownDecl KnownListExp KnownOperand KnownQual KnownRhs KnownWhere KnownAlts KnownApply KnownArrowGuard KnownBlock KnownCommaExp KnownCommaQual KnownEqualGuard KnownExp KnownLink KnownNextAlt KnownNextDecl (λ s. s.0) (λ s. s.0) (λ s. s.0) (λ s. s.0) (λ s. s.0) (λ s. s.0) (λ s. s.0) (λ s. s.0) (λ s. s.0) (λ s. s.0) (λ s. s.0) (λ s. s.0) (λ s. s.0) (λ s. s.0) (λ s. s.0) (λ s. s.0) (λ s. s.0) (λ s. s.0) (λ s. s.0) (λ s. s.1) (λ s. s.1) (λ s. s.1) (λ s. s.1) (λ s. s.1) (λ s. s.1) (λ s. s.1) (λ s. s.1) (λ s. s.1) (λ s. s.1) (λ s. s.1) (λ s. s.1) (λ s. s.1) (λ s. s.1) (λ s. s.1) (λ s. s.1) (λ s. s.1) (λ s. s.1) (λ s. s.1) y)

rhs_at : (x : Rhs-F Aexp Alt Decl ListExp Operand Qual Rhs Where Alts Apply ArrowGuard Block CommaExp CommaQual EqualGuard Exp Link NextAlt NextDecl) (y : Rhs-F KnownAexp KnownAlt KnownDecl KnownListExp KnownOperand KnownQual KnownRhs KnownWhere KnownAlts KnownApply KnownArrowGuard KnownBlock KnownCommaExp KnownCommaQual KnownEqualGuard KnownExp KnownLink KnownNextAlt KnownNextDecl) → map-Rhs KnownAexp KnownAlt KnownDecl KnownListExp KnownOperand KnownQual KnownRhs KnownWhere KnownAlts KnownApply KnownArrowGuard KnownBlock KnownCommaExp KnownCommaQual KnownEqualGuard KnownExp KnownLink KnownNextAlt KnownNextDecl Aexp Alt Decl ListExp Operand Qual Rhs Where Alts Apply ArrowGuard Block CommaExp CommaQual EqualGuard Exp Link NextAlt NextDecl (λ s. s.0) (λ s. s.0) (λ s. s.0) (λ s. s.0) (λ s. s.0) (λ s. s.0) (λ s. s.0) (λ s. s.0) (λ s. s.0) (λ s. s.0) (λ s. s.0) (λ s. s.0) (λ s. s.0) (λ s. s.0) (λ s. s.0) (λ s. s.0) (λ s. s.0) (λ s. s.0) (λ s. s.0) y ≡ x → BalancedWord Rhs rhs_onto true (roll-Rhs x)
rhs_at x y e = subst (λ (z : Rhs-F Aexp Alt Decl ListExp Operand Qual Rhs Where Alts Apply ArrowGuard Block CommaExp CommaQual EqualGuard Exp Link NextAlt NextDecl). BalancedWord Rhs rhs_onto true (roll-Rhs z)) e (rhs_by KnownAexp KnownAlt KnownDecl KnownListExp KnownOperand KnownQual KnownRhs KnownWhere KnownAlts KnownApply KnownArrowGuard KnownBlock KnownCommaExp KnownCommaQual KnownEqualGuard KnownExp KnownLink KnownNextAlt KnownNextDecl (λ s. s.0) (λ s. s.0) (λ s. s.0) (λ s. s.0) (λ s. s.0) (λ s. s.0) (λ s. s.0) (λ s. s.0) (λ s. s.0) (λ s. s.0) (λ s. s.0) (λ s. s.0) (λ s. s.0) (λ s. s.0) (λ s. s.0) (λ s. s.0) (λ s. s.0) (λ s. s.0) (λ s. s.0) (λ s. s.1) (λ s. s.1) (λ s. s.1) (λ s. s.1) (λ s. s.1) (λ s. s.1) (λ s. s.1) (λ s. s.1) (λ s. s.1) (λ s. s.1) (λ s. s.1) (λ s. s.1) (λ s. s.1) (λ s. s.1) (λ s. s.1) (λ s. s.1) (λ s. s.1) (λ s. s.1) (λ s. s.1) y)

where_at : (x : Where-F Aexp Alt Decl ListExp Operand Qual Rhs Where Alts Apply ArrowGuard Block CommaExp CommaQual EqualGuard Exp Link NextAlt NextDecl) (y : Where-F KnownAexp KnownAlt KnownDecl KnownListExp KnownOperand KnownQual KnownRhs KnownWhere KnownAlts KnownApply KnownArrowGuard KnownBlock KnownCommaExp KnownCommaQual KnownEqualGuard KnownExp KnownLink KnownNextAlt KnownNextDecl) → map-Where KnownAexp KnownAlt KnownDecl KnownListExp KnownOperand KnownQual KnownRhs KnownWhere KnownAlts KnownApply KnownArrowGuard KnownBlock KnownCommaExp KnownCommaQual KnownEqualGuard KnownExp KnownLink KnownNextAlt KnownNextDecl Aexp Alt Decl ListExp Operand Qual Rhs Where Alts Apply ArrowGuard Block CommaExp CommaQual EqualGuard Exp Link NextAlt NextDecl (λ s. s.0) (λ s. s.0) (λ s. s.0) (λ s. s.0) (λ s. s.0) (λ s. s.0) (λ s. s.0) (λ s. s.0) (λ s. s.0) (λ s. s.0) (λ s. s.0) (λ s. s.0) (λ s. s.0) (λ s. s.0) (λ s. s.0) (λ s. s.0) (λ s. s.0) (λ s. s.0) (λ s. s.0) y ≡ x → BalancedWord Where where_onto false (roll-Where x)
where_at x y e = subst (λ (z : Where-F Aexp Alt Decl ListExp Operand Qual Rhs Where Alts Apply ArrowGuard Block CommaExp CommaQual EqualGuard Exp Link NextAlt NextDecl). BalancedWord Where where_onto false (roll-Where z)) e (where_by KnownAexp KnownAlt KnownDecl KnownListExp KnownOperand KnownQual KnownRhs KnownWhere KnownAlts KnownApply KnownArrowGuard KnownBlock KnownCommaExp KnownCommaQual KnownEqualGuard KnownExp KnownLink KnownNextAlt KnownNextDecl (λ s. s.0) (λ s. s.0) (λ s. s.0) (λ s. s.0) (λ s. s.0) (λ s. s.0) (λ s. s.0) (λ s. s.0) (λ s. s.0) (λ s. s.0) (λ s. s.0) (λ s. s.0) (λ s. s.0) (λ s. s.0) (λ s. s.0) (λ s. s.0) (λ s. s.0) (λ s. s.0) (λ s. s.0) (λ s. s.1) (λ s. s.1) (λ s. s.1) (λ s. s.1) (λ s. s.1) (λ s. s.1) (λ s. s.1) (λ s. s.1) (λ s. s.1) (λ s. s.1) (λ s. s.1) (λ s. s.1) (λ s. s.1) (λ s. s.1) (λ s. s.1) (λ s. s.1) (λ s. s.1) (λ s. s.1) (λ s. s.1) y)

alts_at : (x : Alts-F Aexp Alt Decl ListExp Operand Qual Rhs Where Alts Apply ArrowGuard Block CommaExp CommaQual EqualGuard Exp Link NextAlt NextDecl) (y : Alts-F KnownAexp KnownAlt KnownDecl KnownListExp KnownOperand KnownQual KnownRhs KnownWhere KnownAlts KnownApply KnownArrowGuard KnownBlock KnownCommaExp KnownCommaQual KnownEqualGuard KnownExp KnownLink KnownNextAlt KnownNextDecl) → map-Alts KnownAexp KnownAlt KnownDecl KnownListExp KnownOperand KnownQual KnownRhs KnownWhere KnownAlts KnownApply KnownArrowGuard KnownBlock KnownCommaExp KnownCommaQual KnownEqualGuard KnownExp KnownLink KnownNextAlt KnownNextDecl Aexp Alt Decl ListExp Operand Qual Rhs Where Alts Apply ArrowGuard Block CommaExp CommaQual EqualGuard Exp Link NextAlt NextDecl (λ s. s.0) (λ s. s.0) (λ s. s.0) (λ s. s.0) (λ s. s.0) (λ s. s.0) (λ s. s.0) (λ s. s.0) (λ s. s.0) (λ s. s.0) (λ s. s.0) (λ s. s.0) (λ s. s.0) (λ s. s.0) (λ s. s.0) (λ s. s.0) (λ s. s.0) (λ s. s.0) (λ s. s.0) y ≡ x → BalancedWord Alts alts_onto false (roll-Alts x)
alts_at x y e = subst (λ (z : Alts-F Aexp Alt Decl ListExp Operand Qual Rhs Where Alts Apply ArrowGuard Block CommaExp CommaQual EqualGuard Exp Link NextAlt NextDecl). BalancedWord Alts alts_onto false (roll-Alts z)) e (alts_by KnownAexp KnownAlt KnownDecl KnownListExp KnownOperand KnownQual KnownRhs KnownWhere KnownAlts KnownApply KnownArrowGuard KnownBlock KnownCommaExp KnownCommaQual KnownEqualGuard KnownExp KnownLink KnownNextAlt KnownNextDecl (λ s. s.0) (λ s. s.0) (λ s. s.0) (λ s. s.0) (λ s. s.0) (λ s. s.0) (λ s. s.0) (λ s. s.0) (λ s. s.0) (λ s. s.0) (λ s. s.0) (λ s. s.0) (λ s. s.0) (λ s. s.0) (λ s. s.0) (λ s. s.0) (λ s. s.0) (λ s. s.0) (λ s. s.0) (λ s. s.1) (λ s. s.1) (λ s. s.1) (λ s. s.1) (λ s. s.1) (λ s. s.1) (λ s. s.1) (λ s. s.1) (λ s. s.1) (λ s. s.1) (λ s. s.1) (λ s. s.1) (λ s. s.1) (λ s. s.1) (λ s. s.1) (λ s. s.1) (λ s. s.1) (λ s. s.1) (λ s. s.1) y)

apply_at : (x : Apply-F Aexp Alt Decl ListExp Operand Qual Rhs Where Alts Apply ArrowGuard Block CommaExp CommaQual EqualGuard Exp Link NextAlt NextDecl) (y : Apply-F KnownAexp KnownAlt KnownDecl KnownListExp KnownOperand KnownQual KnownRhs KnownWhere KnownAlts KnownApply KnownArrowGuard KnownBlock KnownCommaExp KnownCommaQual KnownEqualGuard KnownExp KnownLink KnownNextAlt KnownNextDecl) → map-Apply KnownAexp KnownAlt KnownDecl KnownListExp KnownOperand KnownQual KnownRhs KnownWhere KnownAlts KnownApply KnownArrowGuard KnownBlock KnownCommaExp KnownCommaQual KnownEqualGuard KnownExp KnownLink KnownNextAlt KnownNextDecl Aexp Alt Decl ListExp Operand Qual Rhs Where Alts Apply ArrowGuard Block CommaExp CommaQual EqualGuard Exp Link NextAlt NextDecl (λ s. s.0) (λ s. s.0) (λ s. s.0) (λ s. s.0) (λ s. s.0) (λ s. s.0) (λ s. s.0) (λ s. s.0) (λ s. s.0) (λ s. s.0) (λ s. s.0) (λ s. s.0) (λ s. s.0) (λ s. s.0) (λ s. s.0) (λ s. s.0) (λ s. s.0) (λ s. s.0) (λ s. s.0) y ≡ x → BalancedWord Apply apply_onto false (roll-Apply x)
apply_at x y e = subst (λ (z : Apply-F Aexp Alt Decl ListExp Operand Qual Rhs Where Alts Apply ArrowGuard Block CommaExp CommaQual EqualGuard Exp Link NextAlt NextDecl). BalancedWord Apply apply_onto false (roll-Apply z)) e (apply_by KnownAexp KnownAlt KnownDecl KnownListExp KnownOperand KnownQual KnownRhs KnownWhere KnownAlts KnownApply KnownArrowGuard KnownBlock KnownCommaExp KnownCommaQual KnownEqualGuard KnownExp KnownLink KnownNextAlt KnownNextDecl (λ s. s.0) (λ s. s.0) (λ s. s.0) (λ s. s.0) (λ s. s.0) (λ s. s.0) (λ s. s.0) (λ s. s.0) (λ s. s.0) (λ s. s.0) (λ s. s.0) (λ s. s.0) (λ s. s.0) (λ s. s.0) (λ s. s.0) (λ s. s.0) (λ s. s.0) (λ s. s.0) (λ s. s.0) (λ s. s.1) (λ s. s.1) (λ s. s.1) (λ s. s.1) (λ s. s.1) (λ s. s.1) (λ s. s.1) (λ s. s.1) (λ s. s.1) (λ s. s.1) (λ s. s.1) (λ s. s.1) (λ s. s.1) (λ s. s.1) (λ s. s.1) (λ s. s.1) (λ s. s.1) (λ s. s.1) (λ s. s.1) y)

arrow_guard_at : (x : ArrowGuard-F Aexp Alt Decl ListExp Operand Qual Rhs Where Alts Apply ArrowGuard Block CommaExp CommaQual EqualGuard Exp Link NextAlt NextDecl) (y : ArrowGuard-F KnownAexp KnownAlt KnownDecl KnownListExp KnownOperand KnownQual KnownRhs KnownWhere KnownAlts KnownApply KnownArrowGuard KnownBlock KnownCommaExp KnownCommaQual KnownEqualGuard KnownExp KnownLink KnownNextAlt KnownNextDecl) → map-ArrowGuard KnownAexp KnownAlt KnownDecl KnownListExp KnownOperand KnownQual KnownRhs KnownWhere KnownAlts KnownApply KnownArrowGuard KnownBlock KnownCommaExp KnownCommaQual KnownEqualGuard KnownExp KnownLink KnownNextAlt KnownNextDecl Aexp Alt Decl ListExp Operand Qual Rhs Where Alts Apply ArrowGuard Block CommaExp CommaQual EqualGuard Exp Link NextAlt NextDecl (λ s. s.0) (λ s. s.0) (λ s. s.0) (λ s. s.0) (λ s. s.0) (λ s. s.0) (λ s. s.0) (λ s. s.0) (λ s. s.0) (λ s. s.0) (λ s. s.0) (λ s. s.0) (λ s. s.0) (λ s. s.0) (λ s. s.0) (λ s. s.0) (λ s. s.0) (λ s. s.0) (λ s. s.0) y ≡ x → BalancedWord ArrowGuard arrow_guard_onto true (roll-ArrowGuard x)
arrow_guard_at x y e = subst (λ (z : ArrowGuard-F Aexp Alt Decl ListExp Operand Qual Rhs Where Alts Apply ArrowGuard Block CommaExp CommaQual EqualGuard Exp Link NextAlt NextDecl). BalancedWord ArrowGuard arrow_guard_onto true (roll-ArrowGuard z)) e (arrow_guard_by KnownAexp KnownAlt KnownDecl KnownListExp KnownOperand KnownQual KnownRhs KnownWhere KnownAlts KnownApply KnownArrowGuard KnownBlock KnownCommaExp KnownCommaQual KnownEqualGuard KnownExp KnownLink KnownNextAlt KnownNextDecl (λ s. s.0) (λ s. s.0) (λ s. s.0) (λ s. s.0) (λ s. s.0) (λ s. s.0) (λ s. s.0) (λ s. s.0) (λ s. s.0) (λ s. s.0) (λ s. s.0) (λ s. s.0) (λ s. s.0) (λ s. s.0) (λ s. s.0) (λ s. s.0) (λ s. s.0) (λ s. s.0) (λ s. s.0) (λ s. s.1) (λ s. s.1) (λ s. s.1) (λ s. s.1) (λ s. s.1) (λ s. s.1) (λ s. s.1) (λ s. s.1) (λ s. s.1) (λ s. s.1) (λ s. s.1) (λ s. s.1) (λ s. s.1) (λ s. s.1) (λ s. s.1) (λ s. s.1) (λ s. s.1) (λ s. s.1) (λ s. s.1) y)

block_at : (x : Block-F Aexp Alt Decl ListExp Operand Qual Rhs Where Alts Apply ArrowGuard Block CommaExp CommaQual EqualGuard Exp Link NextAlt NextDecl) (y : Block-F KnownAexp KnownAlt KnownDecl KnownListExp KnownOperand KnownQual KnownRhs KnownWhere KnownAlts KnownApply KnownArrowGuard KnownBlock KnownCommaExp KnownCommaQual KnownEqualGuard KnownExp KnownLink KnownNextAlt KnownNextDecl) → map-Block KnownAexp KnownAlt KnownDecl KnownListExp KnownOperand KnownQual KnownRhs KnownWhere KnownAlts KnownApply KnownArrowGuard KnownBlock KnownCommaExp KnownCommaQual KnownEqualGuard KnownExp KnownLink KnownNextAlt KnownNextDecl Aexp Alt Decl ListExp Operand Qual Rhs Where Alts Apply ArrowGuard Block CommaExp CommaQual EqualGuard Exp Link NextAlt NextDecl (λ s. s.0) (λ s. s.0) (λ s. s.0) (λ s. s.0) (λ s. s.0) (λ s. s.0) (λ s. s.0) (λ s. s.0) (λ s. s.0) (λ s. s.0) (λ s. s.0) (λ s. s.0) (λ s. s.0) (λ s. s.0) (λ s. s.0) (λ s. s.0) (λ s. s.0) (λ s. s.0) (λ s. s.0) y ≡ x → BalancedWord Block block_onto false (roll-Block x)
block_at x y e = subst (λ (z : Block-F Aexp Alt Decl ListExp Operand Qual Rhs Where Alts Apply ArrowGuard Block CommaExp CommaQual EqualGuard Exp Link NextAlt NextDecl). BalancedWord Block block_onto false (roll-Block z)) e (block_by KnownAexp KnownAlt KnownDecl KnownListExp KnownOperand KnownQual KnownRhs KnownWhere KnownAlts KnownApply KnownArrowGuard KnownBlock KnownCommaExp KnownCommaQual KnownEqualGuard KnownExp KnownLink KnownNextAlt KnownNextDecl (λ s. s.0) (λ s. s.0) (λ s. s.0) (λ s. s.0) (λ s. s.0) (λ s. s.0) (λ s. s.0) (λ s. s.0) (λ s. s.0) (λ s. s.0) (λ s. s.0) (λ s. s.0) (λ s. s.0) (λ s. s.0) (λ s. s.0) (λ s. s.0) (λ s. s.0) (λ s. s.0) (λ s. s.0) (λ s. s.1) (λ s. s.1) (λ s. s.1) (λ s. s.1) (λ s. s.1) (λ s. s.1) (λ s. s.1) (λ s. s.1) (λ s. s.1) (λ s. s.1) (λ s. s.1) (λ s. s.1) (λ s. s.1) (λ s. s.1) (λ s. s.1) (λ s. s.1) (λ s. s.1) (λ s. s.1) (λ s. s.1) y)

comma_exp_at : (x : CommaExp-F Aexp Alt Decl ListExp Operand Qual Rhs Where Alts Apply ArrowGuard Block CommaExp CommaQual EqualGuard Exp Link NextAlt NextDecl) (y : CommaExp-F KnownAexp KnownAlt KnownDecl KnownListExp KnownOperand KnownQual KnownRhs KnownWhere KnownAlts KnownApply KnownArrowGuard KnownBlock KnownCommaExp KnownCommaQual KnownEqualGuard KnownExp KnownLink KnownNextAlt KnownNextDecl) → map-CommaExp KnownAexp KnownAlt KnownDecl KnownListExp KnownOperand KnownQual KnownRhs KnownWhere KnownAlts KnownApply KnownArrowGuard KnownBlock KnownCommaExp KnownCommaQual KnownEqualGuard KnownExp KnownLink KnownNextAlt KnownNextDecl Aexp Alt Decl ListExp Operand Qual Rhs Where Alts Apply ArrowGuard Block CommaExp CommaQual EqualGuard Exp Link NextAlt NextDecl (λ s. s.0) (λ s. s.0) (λ s. s.0) (λ s. s.0) (λ s. s.0) (λ s. s.0) (λ s. s.0) (λ s. s.0) (λ s. s.0) (λ s. s.0) (λ s. s.0) (λ s. s.0) (λ s. s.0) (λ s. s.0) (λ s. s.0) (λ s. s.0) (λ s. s.0) (λ s. s.0) (λ s. s.0) y ≡ x → BalancedWord CommaExp comma_exp_onto true (roll-CommaExp x)
comma_exp_at x y e = subst (λ (z : CommaExp-F Aexp Alt Decl ListExp Operand Qual Rhs Where Alts Apply ArrowGuard Block CommaExp CommaQual EqualGuard Exp Link NextAlt NextDecl). BalancedWord CommaExp comma_exp_onto true (roll-CommaExp z)) e (comma_exp_by KnownAexp KnownAlt KnownDecl KnownListExp KnownOperand KnownQual KnownRhs KnownWhere KnownAlts KnownApply KnownArrowGuard KnownBlock KnownCommaExp KnownCommaQual KnownEqualGuard KnownExp KnownLink KnownNextAlt KnownNextDecl (λ s. s.0) (λ s. s.0) (λ s. s.0) (λ s. s.0) (λ s. s.0) (λ s. s.0) (λ s. s.0) (λ s. s.0) (λ s. s.0) (λ s. s.0) (λ s. s.0) (λ s. s.0) (λ s. s.0) (λ s. s.0) (λ s. s.0) (λ s. s.0) (λ s. s.0) (λ s. s.0) (λ s. s.0) (λ s. s.1) (λ s. s.1) (λ s. s.1) (λ s. s.1) (λ s. s.1) (λ s. s.1) (λ s. s.1) (λ s. s.1) (λ s. s.1) (λ s. s.1) (λ s. s.1) (λ s. s.1) (λ s. s.1) (λ s. s.1) (λ s. s.1) (λ s. s.1) (λ s. s.1) (λ s. s.1) (λ s. s.1) y)

comma_qual_at : (x : CommaQual-F Aexp Alt Decl ListExp Operand Qual Rhs Where Alts Apply ArrowGuard Block CommaExp CommaQual EqualGuard Exp Link NextAlt NextDecl) (y : CommaQual-F KnownAexp KnownAlt KnownDecl KnownListExp KnownOperand KnownQual KnownRhs KnownWhere KnownAlts KnownApply KnownArrowGuard KnownBlock KnownCommaExp KnownCommaQual KnownEqualGuard KnownExp KnownLink KnownNextAlt KnownNextDecl) → map-CommaQual KnownAexp KnownAlt KnownDecl KnownListExp KnownOperand KnownQual KnownRhs KnownWhere KnownAlts KnownApply KnownArrowGuard KnownBlock KnownCommaExp KnownCommaQual KnownEqualGuard KnownExp KnownLink KnownNextAlt KnownNextDecl Aexp Alt Decl ListExp Operand Qual Rhs Where Alts Apply ArrowGuard Block CommaExp CommaQual EqualGuard Exp Link NextAlt NextDecl (λ s. s.0) (λ s. s.0) (λ s. s.0) (λ s. s.0) (λ s. s.0) (λ s. s.0) (λ s. s.0) (λ s. s.0) (λ s. s.0) (λ s. s.0) (λ s. s.0) (λ s. s.0) (λ s. s.0) (λ s. s.0) (λ s. s.0) (λ s. s.0) (λ s. s.0) (λ s. s.0) (λ s. s.0) y ≡ x → BalancedWord CommaQual comma_qual_onto true (roll-CommaQual x)
comma_qual_at x y e = subst (λ (z : CommaQual-F Aexp Alt Decl ListExp Operand Qual Rhs Where Alts Apply ArrowGuard Block CommaExp CommaQual EqualGuard Exp Link NextAlt NextDecl). BalancedWord CommaQual comma_qual_onto true (roll-CommaQual z)) e (comma_qual_by KnownAexp KnownAlt KnownDecl KnownListExp KnownOperand KnownQual KnownRhs KnownWhere KnownAlts KnownApply KnownArrowGuard KnownBlock KnownCommaExp KnownCommaQual KnownEqualGuard KnownExp KnownLink KnownNextAlt KnownNextDecl (λ s. s.0) (λ s. s.0) (λ s. s.0) (λ s. s.0) (λ s. s.0) (λ s. s.0) (λ s. s.0) (λ s. s.0) (λ s. s.0) (λ s. s.0) (λ s. s.0) (λ s. s.0) (λ s. s.0) (λ s. s.0) (λ s. s.0) (λ s. s.0) (λ s. s.0) (λ s. s.0) (λ s. s.0) (λ s. s.1) (λ s. s.1) (λ s. s.1) (λ s. s.1) (λ s. s.1) (λ s. s.1) (λ s. s.1) (λ s. s.1) (λ s. s.1) (λ s. s.1) (λ s. s.1) (λ s. s.1) (λ s. s.1) (λ s. s.1) (λ s. s.1) (λ s. s.1) (λ s. s.1) (λ s. s.1) (λ s. s.1) y)

equal_guard_at : (x : EqualGuard-F Aexp Alt Decl ListExp Operand Qual Rhs Where Alts Apply ArrowGuard Block CommaExp CommaQual EqualGuard Exp Link NextAlt NextDecl) (y : EqualGuard-F KnownAexp KnownAlt KnownDecl KnownListExp KnownOperand KnownQual KnownRhs KnownWhere KnownAlts KnownApply KnownArrowGuard KnownBlock KnownCommaExp KnownCommaQual KnownEqualGuard KnownExp KnownLink KnownNextAlt KnownNextDecl) → map-EqualGuard KnownAexp KnownAlt KnownDecl KnownListExp KnownOperand KnownQual KnownRhs KnownWhere KnownAlts KnownApply KnownArrowGuard KnownBlock KnownCommaExp KnownCommaQual KnownEqualGuard KnownExp KnownLink KnownNextAlt KnownNextDecl Aexp Alt Decl ListExp Operand Qual Rhs Where Alts Apply ArrowGuard Block CommaExp CommaQual EqualGuard Exp Link NextAlt NextDecl (λ s. s.0) (λ s. s.0) (λ s. s.0) (λ s. s.0) (λ s. s.0) (λ s. s.0) (λ s. s.0) (λ s. s.0) (λ s. s.0) (λ s. s.0) (λ s. s.0) (λ s. s.0) (λ s. s.0) (λ s. s.0) (λ s. s.0) (λ s. s.0) (λ s. s.0) (λ s. s.0) (λ s. s.0) y ≡ x → BalancedWord EqualGuard equal_guard_onto true (roll-EqualGuard x)
equal_guard_at x y e = subst (λ (z : EqualGuard-F Aexp Alt Decl ListExp Operand Qual Rhs Where Alts Apply ArrowGuard Block CommaExp CommaQual EqualGuard Exp Link NextAlt NextDecl). BalancedWord EqualGuard equal_guard_onto true (roll-EqualGuard z)) e (equal_guard_by KnownAexp KnownAlt KnownDecl KnownListExp KnownOperand KnownQual KnownRhs KnownWhere KnownAlts KnownApply KnownArrowGuard KnownBlock KnownCommaExp KnownCommaQual KnownEqualGuard KnownExp KnownLink KnownNextAlt KnownNextDecl (λ s. s.0) (λ s. s.0) (λ s. s.0) (λ s. s.0) (λ s. s.0) (λ s. s.0) (λ s. s.0) (λ s. s.0) (λ s. s.0) (λ s. s.0) (λ s. s.0) (λ s. s.0) (λ s. s.0) (λ s. s.0) (λ s. s.0) (λ s. s.0) (λ s. s.0) (λ s. s.0) (λ s. s.0) (λ s. s.1) (λ s. s.1) (λ s. s.1) (λ s. s.1) (λ s. s.1) (λ s. s.1) (λ s. s.1) (λ s. s.1) (λ s. s.1) (λ s. s.1) (λ s. s.1) (λ s. s.1) (λ s. s.1) (λ s. s.1) (λ s. s.1) (λ s. s.1) (λ s. s.1) (λ s. s.1) (λ s. s.1) y)

exp_at : (x : Exp-F Aexp Alt Decl ListExp Operand Qual Rhs Where Alts Apply ArrowGuard Block CommaExp CommaQual EqualGuard Exp Link NextAlt NextDecl) (y : Exp-F KnownAexp KnownAlt KnownDecl KnownListExp KnownOperand KnownQual KnownRhs KnownWhere KnownAlts KnownApply KnownArrowGuard KnownBlock KnownCommaExp KnownCommaQual KnownEqualGuard KnownExp KnownLink KnownNextAlt KnownNextDecl) → map-Exp KnownAexp KnownAlt KnownDecl KnownListExp KnownOperand KnownQual KnownRhs KnownWhere KnownAlts KnownApply KnownArrowGuard KnownBlock KnownCommaExp KnownCommaQual KnownEqualGuard KnownExp KnownLink KnownNextAlt KnownNextDecl Aexp Alt Decl ListExp Operand Qual Rhs Where Alts Apply ArrowGuard Block CommaExp CommaQual EqualGuard Exp Link NextAlt NextDecl (λ s. s.0) (λ s. s.0) (λ s. s.0) (λ s. s.0) (λ s. s.0) (λ s. s.0) (λ s. s.0) (λ s. s.0) (λ s. s.0) (λ s. s.0) (λ s. s.0) (λ s. s.0) (λ s. s.0) (λ s. s.0) (λ s. s.0) (λ s. s.0) (λ s. s.0) (λ s. s.0) (λ s. s.0) y ≡ x → BalancedWord Exp exp_onto false (roll-Exp x)
exp_at x y e = subst (λ (z : Exp-F Aexp Alt Decl ListExp Operand Qual Rhs Where Alts Apply ArrowGuard Block CommaExp CommaQual EqualGuard Exp Link NextAlt NextDecl). BalancedWord Exp exp_onto false (roll-Exp z)) e (exp_by KnownAexp KnownAlt KnownDecl KnownListExp KnownOperand KnownQual KnownRhs KnownWhere KnownAlts KnownApply KnownArrowGuard KnownBlock KnownCommaExp KnownCommaQual KnownEqualGuard KnownExp KnownLink KnownNextAlt KnownNextDecl (λ s. s.0) (λ s. s.0) (λ s. s.0) (λ s. s.0) (λ s. s.0) (λ s. s.0) (λ s. s.0) (λ s. s.0) (λ s. s.0) (λ s. s.0) (λ s. s.0) (λ s. s.0) (λ s. s.0) (λ s. s.0) (λ s. s.0) (λ s. s.0) (λ s. s.0) (λ s. s.0) (λ s. s.0) (λ s. s.1) (λ s. s.1) (λ s. s.1) (λ s. s.1) (λ s. s.1) (λ s. s.1) (λ s. s.1) (λ s. s.1) (λ s. s.1) (λ s. s.1) (λ s. s.1) (λ s. s.1) (λ s. s.1) (λ s. s.1) (λ s. s.1) (λ s. s.1) (λ s. s.1) (λ s. s.1) (λ s. s.1) y)

link_at : (x : Link-F Aexp Alt Decl ListExp Operand Qual Rhs Where Alts Apply ArrowGuard Block CommaExp CommaQual EqualGuard Exp Link NextAlt NextDecl) (y : Link-F KnownAexp KnownAlt KnownDecl KnownListExp KnownOperand KnownQual KnownRhs KnownWhere KnownAlts KnownApply KnownArrowGuard KnownBlock KnownCommaExp KnownCommaQual KnownEqualGuard KnownExp KnownLink KnownNextAlt KnownNextDecl) → map-Link KnownAexp KnownAlt KnownDecl KnownListExp KnownOperand KnownQual KnownRhs KnownWhere KnownAlts KnownApply KnownArrowGuard KnownBlock KnownCommaExp KnownCommaQual KnownEqualGuard KnownExp KnownLink KnownNextAlt KnownNextDecl Aexp Alt Decl ListExp Operand Qual Rhs Where Alts Apply ArrowGuard Block CommaExp CommaQual EqualGuard Exp Link NextAlt NextDecl (λ s. s.0) (λ s. s.0) (λ s. s.0) (λ s. s.0) (λ s. s.0) (λ s. s.0) (λ s. s.0) (λ s. s.0) (λ s. s.0) (λ s. s.0) (λ s. s.0) (λ s. s.0) (λ s. s.0) (λ s. s.0) (λ s. s.0) (λ s. s.0) (λ s. s.0) (λ s. s.0) (λ s. s.0) y ≡ x → BalancedWord Link link_onto false (roll-Link x)
link_at x y e = subst (λ (z : Link-F Aexp Alt Decl ListExp Operand Qual Rhs Where Alts Apply ArrowGuard Block CommaExp CommaQual EqualGuard Exp Link NextAlt NextDecl). BalancedWord Link link_onto false (roll-Link z)) e (link_by KnownAexp KnownAlt KnownDecl KnownListExp KnownOperand KnownQual KnownRhs KnownWhere KnownAlts KnownApply KnownArrowGuard KnownBlock KnownCommaExp KnownCommaQual KnownEqualGuard KnownExp KnownLink KnownNextAlt KnownNextDecl (λ s. s.0) (λ s. s.0) (λ s. s.0) (λ s. s.0) (λ s. s.0) (λ s. s.0) (λ s. s.0) (λ s. s.0) (λ s. s.0) (λ s. s.0) (λ s. s.0) (λ s. s.0) (λ s. s.0) (λ s. s.0) (λ s. s.0) (λ s. s.0) (λ s. s.0) (λ s. s.0) (λ s. s.0) (λ s. s.1) (λ s. s.1) (λ s. s.1) (λ s. s.1) (λ s. s.1) (λ s. s.1) (λ s. s.1) (λ s. s.1) (λ s. s.1) (λ s. s.1) (λ s. s.1) (λ s. s.1) (λ s. s.1) (λ s. s.1) (λ s. s.1) (λ s. s.1) (λ s. s.1) (λ s. s.1) (λ s. s.1) y)

next_alt_at : (x : NextAlt-F Aexp Alt Decl ListExp Operand Qual Rhs Where Alts Apply ArrowGuard Block CommaExp CommaQual EqualGuard Exp Link NextAlt NextDecl) (y : NextAlt-F KnownAexp KnownAlt KnownDecl KnownListExp KnownOperand KnownQual KnownRhs KnownWhere KnownAlts KnownApply KnownArrowGuard KnownBlock KnownCommaExp KnownCommaQual KnownEqualGuard KnownExp KnownLink KnownNextAlt KnownNextDecl) → map-NextAlt KnownAexp KnownAlt KnownDecl KnownListExp KnownOperand KnownQual KnownRhs KnownWhere KnownAlts KnownApply KnownArrowGuard KnownBlock KnownCommaExp KnownCommaQual KnownEqualGuard KnownExp KnownLink KnownNextAlt KnownNextDecl Aexp Alt Decl ListExp Operand Qual Rhs Where Alts Apply ArrowGuard Block CommaExp CommaQual EqualGuard Exp Link NextAlt NextDecl (λ s. s.0) (λ s. s.0) (λ s. s.0) (λ s. s.0) (λ s. s.0) (λ s. s.0) (λ s. s.0) (λ s. s.0) (λ s. s.0) (λ s. s.0) (λ s. s.0) (λ s. s.0) (λ s. s.0) (λ s. s.0) (λ s. s.0) (λ s. s.0) (λ s. s.0) (λ s. s.0) (λ s. s.0) y ≡ x → BalancedWord NextAlt next_alt_onto true (roll-NextAlt x)
next_alt_at x y e = subst (λ (z : NextAlt-F Aexp Alt Decl ListExp Operand Qual Rhs Where Alts Apply ArrowGuard Block CommaExp CommaQual EqualGuard Exp Link NextAlt NextDecl). BalancedWord NextAlt next_alt_onto true (roll-NextAlt z)) e (next_alt_by KnownAexp KnownAlt KnownDecl KnownListExp KnownOperand KnownQual KnownRhs KnownWhere KnownAlts KnownApply KnownArrowGuard KnownBlock KnownCommaExp KnownCommaQual KnownEqualGuard KnownExp KnownLink KnownNextAlt KnownNextDecl (λ s. s.0) (λ s. s.0) (λ s. s.0) (λ s. s.0) (λ s. s.0) (λ s. s.0) (λ s. s.0) (λ s. s.0) (λ s. s.0) (λ s. s.0) (λ s. s.0) (λ s. s.0) (λ s. s.0) (λ s. s.0) (λ s. s.0) (λ s. s.0) (λ s. s.0) (λ s. s.0) (λ s. s.0) (λ s. s.1) (λ s. s.1) (λ s. s.1) (λ s. s.1) (λ s. s.1) (λ s. s.1) (λ s. s.1) (λ s. s.1) (λ s. s.1) (λ s. s.1) (λ s. s.1) (λ s. s.1) (λ s. s.1) (λ s. s.1) (λ s. s.1) (λ s. s.1) (λ s. s.1) (λ s. s.1) (λ s. s.1) y)

next_decl_at : (x : NextDecl-F Aexp Alt Decl ListExp Operand Qual Rhs Where Alts Apply ArrowGuard Block CommaExp CommaQual EqualGuard Exp Link NextAlt NextDecl) (y : NextDecl-F KnownAexp KnownAlt KnownDecl KnownListExp KnownOperand KnownQual KnownRhs KnownWhere KnownAlts KnownApply KnownArrowGuard KnownBlock KnownCommaExp KnownCommaQual KnownEqualGuard KnownExp KnownLink KnownNextAlt KnownNextDecl) → map-NextDecl KnownAexp KnownAlt KnownDecl KnownListExp KnownOperand KnownQual KnownRhs KnownWhere KnownAlts KnownApply KnownArrowGuard KnownBlock KnownCommaExp KnownCommaQual KnownEqualGuard KnownExp KnownLink KnownNextAlt KnownNextDecl Aexp Alt Decl ListExp Operand Qual Rhs Where Alts Apply ArrowGuard Block CommaExp CommaQual EqualGuard Exp Link NextAlt NextDecl (λ s. s.0) (λ s. s.0) (λ s. s.0) (λ s. s.0) (λ s. s.0) (λ s. s.0) (λ s. s.0) (λ s. s.0) (λ s. s.0) (λ s. s.0) (λ s. s.0) (λ s. s.0) (λ s. s.0) (λ s. s.0) (λ s. s.0) (λ s. s.0) (λ s. s.0) (λ s. s.0) (λ s. s.0) y ≡ x → BalancedWord NextDecl next_decl_onto true (roll-NextDecl x)
next_decl_at x y e = subst (λ (z : NextDecl-F Aexp Alt Decl ListExp Operand Qual Rhs Where Alts Apply ArrowGuard Block CommaExp CommaQual EqualGuard Exp Link NextAlt NextDecl). BalancedWord NextDecl next_decl_onto true (roll-NextDecl z)) e (next_decl_by KnownAexp KnownAlt KnownDecl KnownListExp KnownOperand KnownQual KnownRhs KnownWhere KnownAlts KnownApply KnownArrowGuard KnownBlock KnownCommaExp KnownCommaQual KnownEqualGuard KnownExp KnownLink KnownNextAlt KnownNextDecl (λ s. s.0) (λ s. s.0) (λ s. s.0) (λ s. s.0) (λ s. s.0) (λ s. s.0) (λ s. s.0) (λ s. s.0) (λ s. s.0) (λ s. s.0) (λ s. s.0) (λ s. s.0) (λ s. s.0) (λ s. s.0) (λ s. s.0) (λ s. s.0) (λ s. s.0) (λ s. s.0) (λ s. s.0) (λ s. s.1) (λ s. s.1) (λ s. s.1) (λ s. s.1) (λ s. s.1) (λ s. s.1) (λ s. s.1) (λ s. s.1) (λ s. s.1) (λ s. s.1) (λ s. s.1) (λ s. s.1) (λ s. s.1) (λ s. s.1) (λ s. s.1) (λ s. s.1) (λ s. s.1) (λ s. s.1) (λ s. s.1) y)

pub aexp_word : (x : Aexp) → BalancedWord Aexp aexp_onto false x
aexp_word = ind-Aexp (BalancedWord Aexp aexp_onto false) (BalancedWord Alt alt_onto true) (BalancedWord Decl decl_onto true) (BalancedWord ListExp list_exp_onto false) (BalancedWord Operand operand_onto false) (BalancedWord Qual qual_onto true) (BalancedWord Rhs rhs_onto true) (BalancedWord Where where_onto false) (BalancedWord Alts alts_onto false) (BalancedWord Apply apply_onto false) (BalancedWord ArrowGuard arrow_guard_onto true) (BalancedWord Block block_onto false) (BalancedWord CommaExp comma_exp_onto true) (BalancedWord CommaQual comma_qual_onto true) (BalancedWord EqualGuard equal_guard_onto true) (BalancedWord Exp exp_onto false) (BalancedWord Link link_onto false) (BalancedWord NextAlt next_alt_onto true) (BalancedWord NextDecl next_decl_onto true) aexp_at alt_at decl_at list_exp_at operand_at qual_at rhs_at where_at alts_at apply_at arrow_guard_at block_at comma_exp_at comma_qual_at equal_guard_at exp_at link_at next_alt_at next_decl_at

pub alt_word : (x : Alt) → BalancedWord Alt alt_onto true x
alt_word = ind-Alt (BalancedWord Aexp aexp_onto false) (BalancedWord Alt alt_onto true) (BalancedWord Decl decl_onto true) (BalancedWord ListExp list_exp_onto false) (BalancedWord Operand operand_onto false) (BalancedWord Qual qual_onto true) (BalancedWord Rhs rhs_onto true) (BalancedWord Where where_onto false) (BalancedWord Alts alts_onto false) (BalancedWord Apply apply_onto false) (BalancedWord ArrowGuard arrow_guard_onto true) (BalancedWord Block block_onto false) (BalancedWord CommaExp comma_exp_onto true) (BalancedWord CommaQual comma_qual_onto true) (BalancedWord EqualGuard equal_guard_onto true) (BalancedWord Exp exp_onto false) (BalancedWord Link link_onto false) (BalancedWord NextAlt next_alt_onto true) (BalancedWord NextDecl next_decl_onto true) aexp_at alt_at decl_at list_exp_at operand_at qual_at rhs_at where_at alts_at apply_at arrow_guard_at block_at comma_exp_at comma_qual_at equal_guard_at exp_at link_at next_alt_at next_decl_at

pub decl_word : (x : Decl) → BalancedWord Decl decl_onto true x
decl_word = ind-Decl (BalancedWord Aexp aexp_onto false) (BalancedWord Alt alt_onto true) (BalancedWord Decl decl_onto true) (BalancedWord ListExp list_exp_onto false) (BalancedWord Operand operand_onto false) (BalancedWord Qual qual_onto true) (BalancedWord Rhs rhs_onto true) (BalancedWord Where where_onto false) (BalancedWord Alts alts_onto false) (BalancedWord Apply apply_onto false) (BalancedWord ArrowGuard arrow_guard_onto true) (BalancedWord Block block_onto false) (BalancedWord CommaExp comma_exp_onto true) (BalancedWord CommaQual comma_qual_onto true) (BalancedWord EqualGuard equal_guard_onto true) (BalancedWord Exp exp_onto false) (BalancedWord Link link_onto false) (BalancedWord NextAlt next_alt_onto true) (BalancedWord NextDecl next_decl_onto true) aexp_at alt_at decl_at list_exp_at operand_at qual_at rhs_at where_at alts_at apply_at arrow_guard_at block_at comma_exp_at comma_qual_at equal_guard_at exp_at link_at next_alt_at next_decl_at

pub list_exp_word : (x : ListExp) → BalancedWord ListExp list_exp_onto false x
list_exp_word = ind-ListExp (BalancedWord Aexp aexp_onto false) (BalancedWord Alt alt_onto true) (BalancedWord Decl decl_onto true) (BalancedWord ListExp list_exp_onto false) (BalancedWord Operand operand_onto false) (BalancedWord Qual qual_onto true) (BalancedWord Rhs rhs_onto true) (BalancedWord Where where_onto false) (BalancedWord Alts alts_onto false) (BalancedWord Apply apply_onto false) (BalancedWord ArrowGuard arrow_guard_onto true) (BalancedWord Block block_onto false) (BalancedWord CommaExp comma_exp_onto true) (BalancedWord CommaQual comma_qual_onto true) (BalancedWord EqualGuard equal_guard_onto true) (BalancedWord Exp exp_onto false) (BalancedWord Link link_onto false) (BalancedWord NextAlt next_alt_onto true) (BalancedWord NextDecl next_decl_onto true) aexp_at alt_at decl_at list_exp_at operand_at qual_at rhs_at where_at alts_at apply_at arrow_guard_at block_at comma_exp_at comma_qual_at equal_guard_at exp_at link_at next_alt_at next_decl_at

pub operand_word : (x : Operand) → BalancedWord Operand operand_onto false x
operand_word = ind-Operand (BalancedWord Aexp aexp_onto false) (BalancedWord Alt alt_onto true) (BalancedWord Decl decl_onto true) (BalancedWord ListExp list_exp_onto false) (BalancedWord Operand operand_onto false) (BalancedWord Qual qual_onto true) (BalancedWord Rhs rhs_onto true) (BalancedWord Where where_onto false) (BalancedWord Alts alts_onto false) (BalancedWord Apply apply_onto false) (BalancedWord ArrowGuard arrow_guard_onto true) (BalancedWord Block block_onto false) (BalancedWord CommaExp comma_exp_onto true) (BalancedWord CommaQual comma_qual_onto true) (BalancedWord EqualGuard equal_guard_onto true) (BalancedWord Exp exp_onto false) (BalancedWord Link link_onto false) (BalancedWord NextAlt next_alt_onto true) (BalancedWord NextDecl next_decl_onto true) aexp_at alt_at decl_at list_exp_at operand_at qual_at rhs_at where_at alts_at apply_at arrow_guard_at block_at comma_exp_at comma_qual_at equal_guard_at exp_at link_at next_alt_at next_decl_at

pub qual_word : (x : Qual) → BalancedWord Qual qual_onto true x
qual_word = ind-Qual (BalancedWord Aexp aexp_onto false) (BalancedWord Alt alt_onto true) (BalancedWord Decl decl_onto true) (BalancedWord ListExp list_exp_onto false) (BalancedWord Operand operand_onto false) (BalancedWord Qual qual_onto true) (BalancedWord Rhs rhs_onto true) (BalancedWord Where where_onto false) (BalancedWord Alts alts_onto false) (BalancedWord Apply apply_onto false) (BalancedWord ArrowGuard arrow_guard_onto true) (BalancedWord Block block_onto false) (BalancedWord CommaExp comma_exp_onto true) (BalancedWord CommaQual comma_qual_onto true) (BalancedWord EqualGuard equal_guard_onto true) (BalancedWord Exp exp_onto false) (BalancedWord Link link_onto false) (BalancedWord NextAlt next_alt_onto true) (BalancedWord NextDecl next_decl_onto true) aexp_at alt_at decl_at list_exp_at operand_at qual_at rhs_at where_at alts_at apply_at arrow_guard_at block_at comma_exp_at comma_qual_at equal_guard_at exp_at link_at next_alt_at next_decl_at

pub rhs_word : (x : Rhs) → BalancedWord Rhs rhs_onto true x
rhs_word = ind-Rhs (BalancedWord Aexp aexp_onto false) (BalancedWord Alt alt_onto true) (BalancedWord Decl decl_onto true) (BalancedWord ListExp list_exp_onto false) (BalancedWord Operand operand_onto false) (BalancedWord Qual qual_onto true) (BalancedWord Rhs rhs_onto true) (BalancedWord Where where_onto false) (BalancedWord Alts alts_onto false) (BalancedWord Apply apply_onto false) (BalancedWord ArrowGuard arrow_guard_onto true) (BalancedWord Block block_onto false) (BalancedWord CommaExp comma_exp_onto true) (BalancedWord CommaQual comma_qual_onto true) (BalancedWord EqualGuard equal_guard_onto true) (BalancedWord Exp exp_onto false) (BalancedWord Link link_onto false) (BalancedWord NextAlt next_alt_onto true) (BalancedWord NextDecl next_decl_onto true) aexp_at alt_at decl_at list_exp_at operand_at qual_at rhs_at where_at alts_at apply_at arrow_guard_at block_at comma_exp_at comma_qual_at equal_guard_at exp_at link_at next_alt_at next_decl_at

pub where_word : (x : Where) → BalancedWord Where where_onto false x
where_word = ind-Where (BalancedWord Aexp aexp_onto false) (BalancedWord Alt alt_onto true) (BalancedWord Decl decl_onto true) (BalancedWord ListExp list_exp_onto false) (BalancedWord Operand operand_onto false) (BalancedWord Qual qual_onto true) (BalancedWord Rhs rhs_onto true) (BalancedWord Where where_onto false) (BalancedWord Alts alts_onto false) (BalancedWord Apply apply_onto false) (BalancedWord ArrowGuard arrow_guard_onto true) (BalancedWord Block block_onto false) (BalancedWord CommaExp comma_exp_onto true) (BalancedWord CommaQual comma_qual_onto true) (BalancedWord EqualGuard equal_guard_onto true) (BalancedWord Exp exp_onto false) (BalancedWord Link link_onto false) (BalancedWord NextAlt next_alt_onto true) (BalancedWord NextDecl next_decl_onto true) aexp_at alt_at decl_at list_exp_at operand_at qual_at rhs_at where_at alts_at apply_at arrow_guard_at block_at comma_exp_at comma_qual_at equal_guard_at exp_at link_at next_alt_at next_decl_at

pub alts_word : (x : Alts) → BalancedWord Alts alts_onto false x
alts_word = ind-Alts (BalancedWord Aexp aexp_onto false) (BalancedWord Alt alt_onto true) (BalancedWord Decl decl_onto true) (BalancedWord ListExp list_exp_onto false) (BalancedWord Operand operand_onto false) (BalancedWord Qual qual_onto true) (BalancedWord Rhs rhs_onto true) (BalancedWord Where where_onto false) (BalancedWord Alts alts_onto false) (BalancedWord Apply apply_onto false) (BalancedWord ArrowGuard arrow_guard_onto true) (BalancedWord Block block_onto false) (BalancedWord CommaExp comma_exp_onto true) (BalancedWord CommaQual comma_qual_onto true) (BalancedWord EqualGuard equal_guard_onto true) (BalancedWord Exp exp_onto false) (BalancedWord Link link_onto false) (BalancedWord NextAlt next_alt_onto true) (BalancedWord NextDecl next_decl_onto true) aexp_at alt_at decl_at list_exp_at operand_at qual_at rhs_at where_at alts_at apply_at arrow_guard_at block_at comma_exp_at comma_qual_at equal_guard_at exp_at link_at next_alt_at next_decl_at

pub apply_word : (x : Apply) → BalancedWord Apply apply_onto false x
apply_word = ind-Apply (BalancedWord Aexp aexp_onto false) (BalancedWord Alt alt_onto true) (BalancedWord Decl decl_onto true) (BalancedWord ListExp list_exp_onto false) (BalancedWord Operand operand_onto false) (BalancedWord Qual qual_onto true) (BalancedWord Rhs rhs_onto true) (BalancedWord Where where_onto false) (BalancedWord Alts alts_onto false) (BalancedWord Apply apply_onto false) (BalancedWord ArrowGuard arrow_guard_onto true) (BalancedWord Block block_onto false) (BalancedWord CommaExp comma_exp_onto true) (BalancedWord CommaQual comma_qual_onto true) (BalancedWord EqualGuard equal_guard_onto true) (BalancedWord Exp exp_onto false) (BalancedWord Link link_onto false) (BalancedWord NextAlt next_alt_onto true) (BalancedWord NextDecl next_decl_onto true) aexp_at alt_at decl_at list_exp_at operand_at qual_at rhs_at where_at alts_at apply_at arrow_guard_at block_at comma_exp_at comma_qual_at equal_guard_at exp_at link_at next_alt_at next_decl_at

pub arrow_guard_word : (x : ArrowGuard) → BalancedWord ArrowGuard arrow_guard_onto true x
arrow_guard_word = ind-ArrowGuard (BalancedWord Aexp aexp_onto false) (BalancedWord Alt alt_onto true) (BalancedWord Decl decl_onto true) (BalancedWord ListExp list_exp_onto false) (BalancedWord Operand operand_onto false) (BalancedWord Qual qual_onto true) (BalancedWord Rhs rhs_onto true) (BalancedWord Where where_onto false) (BalancedWord Alts alts_onto false) (BalancedWord Apply apply_onto false) (BalancedWord ArrowGuard arrow_guard_onto true) (BalancedWord Block block_onto false) (BalancedWord CommaExp comma_exp_onto true) (BalancedWord CommaQual comma_qual_onto true) (BalancedWord EqualGuard equal_guard_onto true) (BalancedWord Exp exp_onto false) (BalancedWord Link link_onto false) (BalancedWord NextAlt next_alt_onto true) (BalancedWord NextDecl next_decl_onto true) aexp_at alt_at decl_at list_exp_at operand_at qual_at rhs_at where_at alts_at apply_at arrow_guard_at block_at comma_exp_at comma_qual_at equal_guard_at exp_at link_at next_alt_at next_decl_at

pub block_word : (x : Block) → BalancedWord Block block_onto false x
block_word = ind-Block (BalancedWord Aexp aexp_onto false) (BalancedWord Alt alt_onto true) (BalancedWord Decl decl_onto true) (BalancedWord ListExp list_exp_onto false) (BalancedWord Operand operand_onto false) (BalancedWord Qual qual_onto true) (BalancedWord Rhs rhs_onto true) (BalancedWord Where where_onto false) (BalancedWord Alts alts_onto false) (BalancedWord Apply apply_onto false) (BalancedWord ArrowGuard arrow_guard_onto true) (BalancedWord Block block_onto false) (BalancedWord CommaExp comma_exp_onto true) (BalancedWord CommaQual comma_qual_onto true) (BalancedWord EqualGuard equal_guard_onto true) (BalancedWord Exp exp_onto false) (BalancedWord Link link_onto false) (BalancedWord NextAlt next_alt_onto true) (BalancedWord NextDecl next_decl_onto true) aexp_at alt_at decl_at list_exp_at operand_at qual_at rhs_at where_at alts_at apply_at arrow_guard_at block_at comma_exp_at comma_qual_at equal_guard_at exp_at link_at next_alt_at next_decl_at

pub comma_exp_word : (x : CommaExp) → BalancedWord CommaExp comma_exp_onto true x
comma_exp_word = ind-CommaExp (BalancedWord Aexp aexp_onto false) (BalancedWord Alt alt_onto true) (BalancedWord Decl decl_onto true) (BalancedWord ListExp list_exp_onto false) (BalancedWord Operand operand_onto false) (BalancedWord Qual qual_onto true) (BalancedWord Rhs rhs_onto true) (BalancedWord Where where_onto false) (BalancedWord Alts alts_onto false) (BalancedWord Apply apply_onto false) (BalancedWord ArrowGuard arrow_guard_onto true) (BalancedWord Block block_onto false) (BalancedWord CommaExp comma_exp_onto true) (BalancedWord CommaQual comma_qual_onto true) (BalancedWord EqualGuard equal_guard_onto true) (BalancedWord Exp exp_onto false) (BalancedWord Link link_onto false) (BalancedWord NextAlt next_alt_onto true) (BalancedWord NextDecl next_decl_onto true) aexp_at alt_at decl_at list_exp_at operand_at qual_at rhs_at where_at alts_at apply_at arrow_guard_at block_at comma_exp_at comma_qual_at equal_guard_at exp_at link_at next_alt_at next_decl_at

pub comma_qual_word : (x : CommaQual) → BalancedWord CommaQual comma_qual_onto true x
comma_qual_word = ind-CommaQual (BalancedWord Aexp aexp_onto false) (BalancedWord Alt alt_onto true) (BalancedWord Decl decl_onto true) (BalancedWord ListExp list_exp_onto false) (BalancedWord Operand operand_onto false) (BalancedWord Qual qual_onto true) (BalancedWord Rhs rhs_onto true) (BalancedWord Where where_onto false) (BalancedWord Alts alts_onto false) (BalancedWord Apply apply_onto false) (BalancedWord ArrowGuard arrow_guard_onto true) (BalancedWord Block block_onto false) (BalancedWord CommaExp comma_exp_onto true) (BalancedWord CommaQual comma_qual_onto true) (BalancedWord EqualGuard equal_guard_onto true) (BalancedWord Exp exp_onto false) (BalancedWord Link link_onto false) (BalancedWord NextAlt next_alt_onto true) (BalancedWord NextDecl next_decl_onto true) aexp_at alt_at decl_at list_exp_at operand_at qual_at rhs_at where_at alts_at apply_at arrow_guard_at block_at comma_exp_at comma_qual_at equal_guard_at exp_at link_at next_alt_at next_decl_at

pub equal_guard_word : (x : EqualGuard) → BalancedWord EqualGuard equal_guard_onto true x
equal_guard_word = ind-EqualGuard (BalancedWord Aexp aexp_onto false) (BalancedWord Alt alt_onto true) (BalancedWord Decl decl_onto true) (BalancedWord ListExp list_exp_onto false) (BalancedWord Operand operand_onto false) (BalancedWord Qual qual_onto true) (BalancedWord Rhs rhs_onto true) (BalancedWord Where where_onto false) (BalancedWord Alts alts_onto false) (BalancedWord Apply apply_onto false) (BalancedWord ArrowGuard arrow_guard_onto true) (BalancedWord Block block_onto false) (BalancedWord CommaExp comma_exp_onto true) (BalancedWord CommaQual comma_qual_onto true) (BalancedWord EqualGuard equal_guard_onto true) (BalancedWord Exp exp_onto false) (BalancedWord Link link_onto false) (BalancedWord NextAlt next_alt_onto true) (BalancedWord NextDecl next_decl_onto true) aexp_at alt_at decl_at list_exp_at operand_at qual_at rhs_at where_at alts_at apply_at arrow_guard_at block_at comma_exp_at comma_qual_at equal_guard_at exp_at link_at next_alt_at next_decl_at

pub exp_word : (x : Exp) → BalancedWord Exp exp_onto false x
exp_word = ind-Exp (BalancedWord Aexp aexp_onto false) (BalancedWord Alt alt_onto true) (BalancedWord Decl decl_onto true) (BalancedWord ListExp list_exp_onto false) (BalancedWord Operand operand_onto false) (BalancedWord Qual qual_onto true) (BalancedWord Rhs rhs_onto true) (BalancedWord Where where_onto false) (BalancedWord Alts alts_onto false) (BalancedWord Apply apply_onto false) (BalancedWord ArrowGuard arrow_guard_onto true) (BalancedWord Block block_onto false) (BalancedWord CommaExp comma_exp_onto true) (BalancedWord CommaQual comma_qual_onto true) (BalancedWord EqualGuard equal_guard_onto true) (BalancedWord Exp exp_onto false) (BalancedWord Link link_onto false) (BalancedWord NextAlt next_alt_onto true) (BalancedWord NextDecl next_decl_onto true) aexp_at alt_at decl_at list_exp_at operand_at qual_at rhs_at where_at alts_at apply_at arrow_guard_at block_at comma_exp_at comma_qual_at equal_guard_at exp_at link_at next_alt_at next_decl_at

pub link_word : (x : Link) → BalancedWord Link link_onto false x
link_word = ind-Link (BalancedWord Aexp aexp_onto false) (BalancedWord Alt alt_onto true) (BalancedWord Decl decl_onto true) (BalancedWord ListExp list_exp_onto false) (BalancedWord Operand operand_onto false) (BalancedWord Qual qual_onto true) (BalancedWord Rhs rhs_onto true) (BalancedWord Where where_onto false) (BalancedWord Alts alts_onto false) (BalancedWord Apply apply_onto false) (BalancedWord ArrowGuard arrow_guard_onto true) (BalancedWord Block block_onto false) (BalancedWord CommaExp comma_exp_onto true) (BalancedWord CommaQual comma_qual_onto true) (BalancedWord EqualGuard equal_guard_onto true) (BalancedWord Exp exp_onto false) (BalancedWord Link link_onto false) (BalancedWord NextAlt next_alt_onto true) (BalancedWord NextDecl next_decl_onto true) aexp_at alt_at decl_at list_exp_at operand_at qual_at rhs_at where_at alts_at apply_at arrow_guard_at block_at comma_exp_at comma_qual_at equal_guard_at exp_at link_at next_alt_at next_decl_at

pub next_alt_word : (x : NextAlt) → BalancedWord NextAlt next_alt_onto true x
next_alt_word = ind-NextAlt (BalancedWord Aexp aexp_onto false) (BalancedWord Alt alt_onto true) (BalancedWord Decl decl_onto true) (BalancedWord ListExp list_exp_onto false) (BalancedWord Operand operand_onto false) (BalancedWord Qual qual_onto true) (BalancedWord Rhs rhs_onto true) (BalancedWord Where where_onto false) (BalancedWord Alts alts_onto false) (BalancedWord Apply apply_onto false) (BalancedWord ArrowGuard arrow_guard_onto true) (BalancedWord Block block_onto false) (BalancedWord CommaExp comma_exp_onto true) (BalancedWord CommaQual comma_qual_onto true) (BalancedWord EqualGuard equal_guard_onto true) (BalancedWord Exp exp_onto false) (BalancedWord Link link_onto false) (BalancedWord NextAlt next_alt_onto true) (BalancedWord NextDecl next_decl_onto true) aexp_at alt_at decl_at list_exp_at operand_at qual_at rhs_at where_at alts_at apply_at arrow_guard_at block_at comma_exp_at comma_qual_at equal_guard_at exp_at link_at next_alt_at next_decl_at

pub next_decl_word : (x : NextDecl) → BalancedWord NextDecl next_decl_onto true x
next_decl_word = ind-NextDecl (BalancedWord Aexp aexp_onto false) (BalancedWord Alt alt_onto true) (BalancedWord Decl decl_onto true) (BalancedWord ListExp list_exp_onto false) (BalancedWord Operand operand_onto false) (BalancedWord Qual qual_onto true) (BalancedWord Rhs rhs_onto true) (BalancedWord Where where_onto false) (BalancedWord Alts alts_onto false) (BalancedWord Apply apply_onto false) (BalancedWord ArrowGuard arrow_guard_onto true) (BalancedWord Block block_onto false) (BalancedWord CommaExp comma_exp_onto true) (BalancedWord CommaQual comma_qual_onto true) (BalancedWord EqualGuard equal_guard_onto true) (BalancedWord Exp exp_onto false) (BalancedWord Link link_onto false) (BalancedWord NextAlt next_alt_onto true) (BalancedWord NextDecl next_decl_onto true) aexp_at alt_at decl_at list_exp_at operand_at qual_at rhs_at where_at alts_at apply_at arrow_guard_at block_at comma_exp_at comma_qual_at equal_guard_at exp_at link_at next_alt_at next_decl_at
