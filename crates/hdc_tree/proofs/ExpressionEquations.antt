-- The equations of the spelling of expressions and declarations, one for each production, and of their parts.
use Rattle.std.proofs.Common.{◌≡◌, List, sym, ◌∙◌, ap}
use Rattle.hdc_base.specs.declared.place.At.{At}
use Rattle.hdc_base.specs.declared.token.Key.TheVariants as key
use Rattle.hdc_base.specs.declared.token.Token as text_token
use Rattle.hdc_tree.specs.declared.name.Name.{Name}
use Rattle.hdc_tree.specs.declared.name.Literal.{Literal}
use Rattle.hdc_tree.specs.declared.name.Op.{Op}
use Rattle.hdc_tree.specs.declared.name.Var.{Var}
use Rattle.hdc_tree.specs.declared.expression.Aexp.{Aexp, Aexp-F, fold-roll-Aexp}
use Rattle.hdc_tree.specs.declared.expression.Alt.{Alt, Alt-F, fold-roll-Alt}
use Rattle.hdc_tree.specs.declared.expression.Decl.{Decl, Decl-F, fold-roll-Decl}
use Rattle.hdc_tree.specs.declared.expression.ListExp.{ListExp, ListExp-F, fold-roll-ListExp}
use Rattle.hdc_tree.specs.declared.expression.Operand.{Operand, Operand-F, fold-roll-Operand}
use Rattle.hdc_tree.specs.declared.expression.Qual.{Qual, Qual-F, fold-roll-Qual}
use Rattle.hdc_tree.specs.declared.expression.Rhs.{Rhs, Rhs-F, fold-roll-Rhs}
use Rattle.hdc_tree.specs.declared.expression.Where.{Where, Where-F, fold-roll-Where}
use Rattle.hdc_tree.specs.declared.expression.Alts.{Alts, roll-Alts, out-Alts, roll-out-Alts, fold-roll-Alts}
use Rattle.hdc_tree.specs.declared.expression.Apply.{Apply, roll-Apply, out-Apply, roll-out-Apply, fold-roll-Apply}
use Rattle.hdc_tree.specs.declared.expression.ArrowGuard.{ArrowGuard, roll-ArrowGuard, out-ArrowGuard, roll-out-ArrowGuard, fold-roll-ArrowGuard}
use Rattle.hdc_tree.specs.declared.expression.Block.{Block, roll-Block, out-Block, roll-out-Block, fold-roll-Block}
use Rattle.hdc_tree.specs.declared.expression.CommaExp.{CommaExp, roll-CommaExp, out-CommaExp, roll-out-CommaExp, fold-roll-CommaExp}
use Rattle.hdc_tree.specs.declared.expression.CommaQual.{CommaQual, roll-CommaQual, out-CommaQual, roll-out-CommaQual, fold-roll-CommaQual}
use Rattle.hdc_tree.specs.declared.expression.EqualGuard.{EqualGuard, roll-EqualGuard, out-EqualGuard, roll-out-EqualGuard, fold-roll-EqualGuard}
use Rattle.hdc_tree.specs.declared.expression.Exp.{Exp, roll-Exp, out-Exp, roll-out-Exp, fold-roll-Exp}
use Rattle.hdc_tree.specs.declared.expression.Link.{Link, roll-Link, out-Link, roll-out-Link, fold-roll-Link}
use Rattle.hdc_tree.specs.declared.expression.NextAlt.{NextAlt, roll-NextAlt, out-NextAlt, roll-out-NextAlt, fold-roll-NextAlt}
use Rattle.hdc_tree.specs.declared.expression.NextDecl.{NextDecl, roll-NextDecl, out-NextDecl, roll-out-NextDecl, fold-roll-NextDecl}
use Rattle.hdc_tree.specs.declared.expression.Aexp.TheVariants as v_aexp
use Rattle.hdc_tree.specs.declared.expression.Alt.TheVariants as v_alt
use Rattle.hdc_tree.specs.declared.expression.Decl.TheVariants as v_decl
use Rattle.hdc_tree.specs.declared.expression.ListExp.TheVariants as v_list_exp
use Rattle.hdc_tree.specs.declared.expression.Operand.TheVariants as v_operand
use Rattle.hdc_tree.specs.declared.expression.Qual.TheVariants as v_qual
use Rattle.hdc_tree.specs.declared.expression.Rhs.TheVariants as v_rhs
use Rattle.hdc_tree.specs.declared.expression.Where.TheVariants as v_where
use Rattle.hdc_tree.specs.NameSpelling.{Puts, key_onto, capital_onto, literal_onto, var_onto, op_onto, each_onto}
use Rattle.hdc_tree.specs.ExpressionSpelling.{aexp_step, alt_step, decl_step, list_exp_step, operand_step, qual_step, rhs_step, where_step, alts_step, apply_step, arrow_guard_step, block_step, comma_exp_step, comma_qual_step, equal_guard_step, exp_step, link_step, next_alt_step, next_decl_step, aexp_onto, alt_onto, decl_onto, list_exp_onto, operand_onto, qual_onto, rhs_onto, where_onto, alts_onto, apply_onto, arrow_guard_onto, block_onto, comma_exp_onto, comma_qual_onto, equal_guard_onto, exp_onto, link_onto, next_alt_onto, next_decl_onto}
use Rattle.hdc_tree.proofs.Lists.{each_is}
use Rattle.hdc_tree.specs.declared.pattern.Apat.{Apat}
use Rattle.hdc_tree.specs.declared.pattern.Pat.{Pat}
use Rattle.hdc_tree.specs.NameSpelling.{sign_onto, comma_var_onto}
use Rattle.hdc_tree.specs.PatternSpelling.{apat_onto, pat_onto}
use Rattle.hdc_tree.specs.TypeSpelling.{type_exp_onto}
use Rattle.hdc_tree.specs.HeadSpelling.{head_onto}
use Rattle.hdc_tree.specs.declared.name.CommaVar.{CommaVar}
use Rattle.hdc_tree.specs.declared.type_tree.TypeExp.{TypeExp}
use Rattle.hdc_tree.specs.declared.head.Head.{Head}
use Rattle.hdc_tree.specs.declared.name.Sign.{Sign}

pub aexp_tuple : (open_at : At) (first : Exp) (rest : List CommaExp) (close_at : At) (k : List text_token.Token) → aexp_onto (v_aexp.Tuple open_at first rest close_at) k ≡ key_onto open_at key.KOpenParen (exp_onto first (each_onto comma_exp_onto rest (key_onto close_at key.KCloseParen k)))
aexp_tuple open_at first rest close_at k = ap (λ z. aexp_onto z k) (sym (v_aexp.rolls-Tuple open_at first rest close_at)) ∙ ap (λ (f : Puts). f k) (fold-roll-Aexp Puts Puts Puts Puts Puts Puts Puts Puts Puts Puts Puts Puts Puts Puts Puts Puts Puts Puts Puts aexp_step alt_step decl_step list_exp_step operand_step qual_step rhs_step where_step alts_step apply_step arrow_guard_step block_step comma_exp_step comma_qual_step equal_guard_step exp_step link_step next_alt_step next_decl_step (Aexp-F.Tuple open_at first rest close_at)) ∙ ap (λ z. key_onto open_at key.KOpenParen ((exp_onto first (z)))) (each_is comma_exp_onto rest (key_onto close_at key.KCloseParen k))

pub alt_guarded : (pat : Pat) (first : ArrowGuard) (rest : List ArrowGuard) (local : Where) (k : List text_token.Token) → alt_onto (v_alt.Guarded pat first rest local) k ≡ pat_onto pat (arrow_guard_onto first (each_onto arrow_guard_onto rest (where_onto local k)))
alt_guarded pat first rest local k = ap (λ z. alt_onto z k) (sym (v_alt.rolls-Guarded pat first rest local)) ∙ ap (λ (f : Puts). f k) (fold-roll-Alt Puts Puts Puts Puts Puts Puts Puts Puts Puts Puts Puts Puts Puts Puts Puts Puts Puts Puts Puts aexp_step alt_step decl_step list_exp_step operand_step qual_step rhs_step where_step alts_step apply_step arrow_guard_step block_step comma_exp_step comma_qual_step equal_guard_step exp_step link_step next_alt_step next_decl_step (Alt-F.Guarded pat first rest local)) ∙ ap (λ z. pat_onto pat ((arrow_guard_onto first (z)))) (each_is arrow_guard_onto rest (where_onto local k))

pub list_exp_members : (open_at : At) (first : Exp) (rest : List CommaExp) (close_at : At) (k : List text_token.Token) → list_exp_onto (v_list_exp.Members open_at first rest close_at) k ≡ key_onto open_at key.KOpenBracket (exp_onto first (each_onto comma_exp_onto rest (key_onto close_at key.KCloseBracket k)))
list_exp_members open_at first rest close_at k = ap (λ z. list_exp_onto z k) (sym (v_list_exp.rolls-Members open_at first rest close_at)) ∙ ap (λ (f : Puts). f k) (fold-roll-ListExp Puts Puts Puts Puts Puts Puts Puts Puts Puts Puts Puts Puts Puts Puts Puts Puts Puts Puts Puts aexp_step alt_step decl_step list_exp_step operand_step qual_step rhs_step where_step alts_step apply_step arrow_guard_step block_step comma_exp_step comma_qual_step equal_guard_step exp_step link_step next_alt_step next_decl_step (ListExp-F.Members open_at first rest close_at)) ∙ ap (λ z. key_onto open_at key.KOpenBracket ((exp_onto first (z)))) (each_is comma_exp_onto rest (key_onto close_at key.KCloseBracket k))

pub list_exp_comprehension : (open_at : At) (head : Exp) (bar : At) (first : Qual) (rest : List CommaQual) (close_at : At) (k : List text_token.Token) → list_exp_onto (v_list_exp.Comprehension open_at head bar first rest close_at) k ≡ key_onto open_at key.KOpenBracket (exp_onto head (key_onto bar key.KBar (qual_onto first (each_onto comma_qual_onto rest (key_onto close_at key.KCloseBracket k)))))
list_exp_comprehension open_at head bar first rest close_at k = ap (λ z. list_exp_onto z k) (sym (v_list_exp.rolls-Comprehension open_at head bar first rest close_at)) ∙ ap (λ (f : Puts). f k) (fold-roll-ListExp Puts Puts Puts Puts Puts Puts Puts Puts Puts Puts Puts Puts Puts Puts Puts Puts Puts Puts Puts aexp_step alt_step decl_step list_exp_step operand_step qual_step rhs_step where_step alts_step apply_step arrow_guard_step block_step comma_exp_step comma_qual_step equal_guard_step exp_step link_step next_alt_step next_decl_step (ListExp-F.Comprehension open_at head bar first rest close_at)) ∙ ap (λ z. key_onto open_at key.KOpenBracket ((exp_onto head ((key_onto bar key.KBar ((qual_onto first (z)))))))) (each_is comma_qual_onto rest (key_onto close_at key.KCloseBracket k))

pub rhs_guards : (first : EqualGuard) (rest : List EqualGuard) (local : Where) (k : List text_token.Token) → rhs_onto (v_rhs.Guards first rest local) k ≡ equal_guard_onto first (each_onto equal_guard_onto rest (where_onto local k))
rhs_guards first rest local k = ap (λ z. rhs_onto z k) (sym (v_rhs.rolls-Guards first rest local)) ∙ ap (λ (f : Puts). f k) (fold-roll-Rhs Puts Puts Puts Puts Puts Puts Puts Puts Puts Puts Puts Puts Puts Puts Puts Puts Puts Puts Puts aexp_step alt_step decl_step list_exp_step operand_step qual_step rhs_step where_step alts_step apply_step arrow_guard_step block_step comma_exp_step comma_qual_step equal_guard_step exp_step link_step next_alt_step next_decl_step (Rhs-F.Guards first rest local)) ∙ ap (λ z. equal_guard_onto first (z)) (each_is equal_guard_onto rest (where_onto local k))

pub alts_parts : (part : Alts) (k : List text_token.Token) → alts_onto part k ≡ key_onto (out-Alts part).open_at key.KOpenBrace (alt_onto (out-Alts part).first (each_onto next_alt_onto (out-Alts part).rest (key_onto (out-Alts part).close_at key.KCloseBrace k)))
alts_parts part k = ap (λ z. alts_onto z k) (sym (roll-out-Alts part)) ∙ ap (λ (f : Puts). f k) (fold-roll-Alts Puts Puts Puts Puts Puts Puts Puts Puts Puts Puts Puts Puts Puts Puts Puts Puts Puts Puts Puts aexp_step alt_step decl_step list_exp_step operand_step qual_step rhs_step where_step alts_step apply_step arrow_guard_step block_step comma_exp_step comma_qual_step equal_guard_step exp_step link_step next_alt_step next_decl_step (out-Alts part)) ∙ ap (λ z. key_onto (out-Alts part).open_at key.KOpenBrace ((alt_onto (out-Alts part).first (z)))) (each_is next_alt_onto (out-Alts part).rest (key_onto (out-Alts part).close_at key.KCloseBrace k))

pub apply_parts : (part : Apply) (k : List text_token.Token) → apply_onto part k ≡ aexp_onto (out-Apply part).head (each_onto aexp_onto (out-Apply part).args k)
apply_parts part k = ap (λ z. apply_onto z k) (sym (roll-out-Apply part)) ∙ ap (λ (f : Puts). f k) (fold-roll-Apply Puts Puts Puts Puts Puts Puts Puts Puts Puts Puts Puts Puts Puts Puts Puts Puts Puts Puts Puts aexp_step alt_step decl_step list_exp_step operand_step qual_step rhs_step where_step alts_step apply_step arrow_guard_step block_step comma_exp_step comma_qual_step equal_guard_step exp_step link_step next_alt_step next_decl_step (out-Apply part)) ∙ ap (λ z. aexp_onto (out-Apply part).head (z)) (each_is aexp_onto (out-Apply part).args k)

pub arrow_guard_parts : (part : ArrowGuard) (k : List text_token.Token) → arrow_guard_onto part k ≡ key_onto (out-ArrowGuard part).bar key.KBar (exp_onto (out-ArrowGuard part).condition (key_onto (out-ArrowGuard part).arrow key.KRightArrow (exp_onto (out-ArrowGuard part).exp k)))
arrow_guard_parts part k = ap (λ z. arrow_guard_onto z k) (sym (roll-out-ArrowGuard part)) ∙ ap (λ (f : Puts). f k) (fold-roll-ArrowGuard Puts Puts Puts Puts Puts Puts Puts Puts Puts Puts Puts Puts Puts Puts Puts Puts Puts Puts Puts aexp_step alt_step decl_step list_exp_step operand_step qual_step rhs_step where_step alts_step apply_step arrow_guard_step block_step comma_exp_step comma_qual_step equal_guard_step exp_step link_step next_alt_step next_decl_step (out-ArrowGuard part))

pub block_parts : (part : Block) (k : List text_token.Token) → block_onto part k ≡ key_onto (out-Block part).open_at key.KOpenBrace (decl_onto (out-Block part).first (each_onto next_decl_onto (out-Block part).rest (key_onto (out-Block part).close_at key.KCloseBrace k)))
block_parts part k = ap (λ z. block_onto z k) (sym (roll-out-Block part)) ∙ ap (λ (f : Puts). f k) (fold-roll-Block Puts Puts Puts Puts Puts Puts Puts Puts Puts Puts Puts Puts Puts Puts Puts Puts Puts Puts Puts aexp_step alt_step decl_step list_exp_step operand_step qual_step rhs_step where_step alts_step apply_step arrow_guard_step block_step comma_exp_step comma_qual_step equal_guard_step exp_step link_step next_alt_step next_decl_step (out-Block part)) ∙ ap (λ z. key_onto (out-Block part).open_at key.KOpenBrace ((decl_onto (out-Block part).first (z)))) (each_is next_decl_onto (out-Block part).rest (key_onto (out-Block part).close_at key.KCloseBrace k))

pub comma_exp_parts : (part : CommaExp) (k : List text_token.Token) → comma_exp_onto part k ≡ key_onto (out-CommaExp part).comma key.KComma (exp_onto (out-CommaExp part).exp k)
comma_exp_parts part k = ap (λ z. comma_exp_onto z k) (sym (roll-out-CommaExp part)) ∙ ap (λ (f : Puts). f k) (fold-roll-CommaExp Puts Puts Puts Puts Puts Puts Puts Puts Puts Puts Puts Puts Puts Puts Puts Puts Puts Puts Puts aexp_step alt_step decl_step list_exp_step operand_step qual_step rhs_step where_step alts_step apply_step arrow_guard_step block_step comma_exp_step comma_qual_step equal_guard_step exp_step link_step next_alt_step next_decl_step (out-CommaExp part))

pub comma_qual_parts : (part : CommaQual) (k : List text_token.Token) → comma_qual_onto part k ≡ key_onto (out-CommaQual part).comma key.KComma (qual_onto (out-CommaQual part).qual k)
comma_qual_parts part k = ap (λ z. comma_qual_onto z k) (sym (roll-out-CommaQual part)) ∙ ap (λ (f : Puts). f k) (fold-roll-CommaQual Puts Puts Puts Puts Puts Puts Puts Puts Puts Puts Puts Puts Puts Puts Puts Puts Puts Puts Puts aexp_step alt_step decl_step list_exp_step operand_step qual_step rhs_step where_step alts_step apply_step arrow_guard_step block_step comma_exp_step comma_qual_step equal_guard_step exp_step link_step next_alt_step next_decl_step (out-CommaQual part))

pub equal_guard_parts : (part : EqualGuard) (k : List text_token.Token) → equal_guard_onto part k ≡ key_onto (out-EqualGuard part).bar key.KBar (exp_onto (out-EqualGuard part).condition (key_onto (out-EqualGuard part).equal key.KEqual (exp_onto (out-EqualGuard part).exp k)))
equal_guard_parts part k = ap (λ z. equal_guard_onto z k) (sym (roll-out-EqualGuard part)) ∙ ap (λ (f : Puts). f k) (fold-roll-EqualGuard Puts Puts Puts Puts Puts Puts Puts Puts Puts Puts Puts Puts Puts Puts Puts Puts Puts Puts Puts aexp_step alt_step decl_step list_exp_step operand_step qual_step rhs_step where_step alts_step apply_step arrow_guard_step block_step comma_exp_step comma_qual_step equal_guard_step exp_step link_step next_alt_step next_decl_step (out-EqualGuard part))

pub exp_parts : (part : Exp) (k : List text_token.Token) → exp_onto part k ≡ each_onto link_onto (out-Exp part).links (sign_onto (out-Exp part).sign (operand_onto (out-Exp part).last k))
exp_parts part k = ap (λ z. exp_onto z k) (sym (roll-out-Exp part)) ∙ ap (λ (f : Puts). f k) (fold-roll-Exp Puts Puts Puts Puts Puts Puts Puts Puts Puts Puts Puts Puts Puts Puts Puts Puts Puts Puts Puts aexp_step alt_step decl_step list_exp_step operand_step qual_step rhs_step where_step alts_step apply_step arrow_guard_step block_step comma_exp_step comma_qual_step equal_guard_step exp_step link_step next_alt_step next_decl_step (out-Exp part)) ∙ ap (λ z. z) (each_is link_onto (out-Exp part).links (sign_onto (out-Exp part).sign (operand_onto (out-Exp part).last k)))

pub link_parts : (part : Link) (k : List text_token.Token) → link_onto part k ≡ sign_onto (out-Link part).sign (apply_onto (out-Link part).left (op_onto (out-Link part).op k))
link_parts part k = ap (λ z. link_onto z k) (sym (roll-out-Link part)) ∙ ap (λ (f : Puts). f k) (fold-roll-Link Puts Puts Puts Puts Puts Puts Puts Puts Puts Puts Puts Puts Puts Puts Puts Puts Puts Puts Puts aexp_step alt_step decl_step list_exp_step operand_step qual_step rhs_step where_step alts_step apply_step arrow_guard_step block_step comma_exp_step comma_qual_step equal_guard_step exp_step link_step next_alt_step next_decl_step (out-Link part))

pub next_alt_parts : (part : NextAlt) (k : List text_token.Token) → next_alt_onto part k ≡ key_onto (out-NextAlt part).semicolon key.KSemicolon (alt_onto (out-NextAlt part).alt k)
next_alt_parts part k = ap (λ z. next_alt_onto z k) (sym (roll-out-NextAlt part)) ∙ ap (λ (f : Puts). f k) (fold-roll-NextAlt Puts Puts Puts Puts Puts Puts Puts Puts Puts Puts Puts Puts Puts Puts Puts Puts Puts Puts Puts aexp_step alt_step decl_step list_exp_step operand_step qual_step rhs_step where_step alts_step apply_step arrow_guard_step block_step comma_exp_step comma_qual_step equal_guard_step exp_step link_step next_alt_step next_decl_step (out-NextAlt part))

pub next_decl_parts : (part : NextDecl) (k : List text_token.Token) → next_decl_onto part k ≡ key_onto (out-NextDecl part).semicolon key.KSemicolon (decl_onto (out-NextDecl part).decl k)
next_decl_parts part k = ap (λ z. next_decl_onto z k) (sym (roll-out-NextDecl part)) ∙ ap (λ (f : Puts). f k) (fold-roll-NextDecl Puts Puts Puts Puts Puts Puts Puts Puts Puts Puts Puts Puts Puts Puts Puts Puts Puts Puts Puts aexp_step alt_step decl_step list_exp_step operand_step qual_step rhs_step where_step alts_step apply_step arrow_guard_step block_step comma_exp_step comma_qual_step equal_guard_step exp_step link_step next_alt_step next_decl_step (out-NextDecl part))

pub aexp_var : (var : Var) (k : List text_token.Token) → aexp_onto (v_aexp.Var var) k ≡ var_onto var k
aexp_var var k = ap (λ z. aexp_onto z k) (sym (v_aexp.rolls-Var var)) ∙ ap (λ (f : Puts). f k) (fold-roll-Aexp Puts Puts Puts Puts Puts Puts Puts Puts Puts Puts Puts Puts Puts Puts Puts Puts Puts Puts Puts aexp_step alt_step decl_step list_exp_step operand_step qual_step rhs_step where_step alts_step apply_step arrow_guard_step block_step comma_exp_step comma_qual_step equal_guard_step exp_step link_step next_alt_step next_decl_step (Aexp-F.Var var))

pub aexp_con : (name : Name) (k : List text_token.Token) → aexp_onto (v_aexp.Con name) k ≡ capital_onto name k
aexp_con name k = ap (λ z. aexp_onto z k) (sym (v_aexp.rolls-Con name)) ∙ ap (λ (f : Puts). f k) (fold-roll-Aexp Puts Puts Puts Puts Puts Puts Puts Puts Puts Puts Puts Puts Puts Puts Puts Puts Puts Puts Puts aexp_step alt_step decl_step list_exp_step operand_step qual_step rhs_step where_step alts_step apply_step arrow_guard_step block_step comma_exp_step comma_qual_step equal_guard_step exp_step link_step next_alt_step next_decl_step (Aexp-F.Con name))

pub aexp_literal : (at : At) (literal : Literal) (k : List text_token.Token) → aexp_onto (v_aexp.Literal at literal) k ≡ literal_onto at literal k
aexp_literal at literal k = ap (λ z. aexp_onto z k) (sym (v_aexp.rolls-Literal at literal)) ∙ ap (λ (f : Puts). f k) (fold-roll-Aexp Puts Puts Puts Puts Puts Puts Puts Puts Puts Puts Puts Puts Puts Puts Puts Puts Puts Puts Puts aexp_step alt_step decl_step list_exp_step operand_step qual_step rhs_step where_step alts_step apply_step arrow_guard_step block_step comma_exp_step comma_qual_step equal_guard_step exp_step link_step next_alt_step next_decl_step (Aexp-F.Literal at literal))

pub aexp_unit : (open_at close_at : At) (k : List text_token.Token) → aexp_onto (v_aexp.Unit open_at close_at) k ≡ key_onto open_at key.KOpenParen (key_onto close_at key.KCloseParen k)
aexp_unit open_at close_at k = ap (λ z. aexp_onto z k) (sym (v_aexp.rolls-Unit open_at close_at)) ∙ ap (λ (f : Puts). f k) (fold-roll-Aexp Puts Puts Puts Puts Puts Puts Puts Puts Puts Puts Puts Puts Puts Puts Puts Puts Puts Puts Puts aexp_step alt_step decl_step list_exp_step operand_step qual_step rhs_step where_step alts_step apply_step arrow_guard_step block_step comma_exp_step comma_qual_step equal_guard_step exp_step link_step next_alt_step next_decl_step (Aexp-F.Unit open_at close_at))

pub aexp_nil : (open_at close_at : At) (k : List text_token.Token) → aexp_onto (v_aexp.Nil open_at close_at) k ≡ key_onto open_at key.KOpenBracket (key_onto close_at key.KCloseBracket k)
aexp_nil open_at close_at k = ap (λ z. aexp_onto z k) (sym (v_aexp.rolls-Nil open_at close_at)) ∙ ap (λ (f : Puts). f k) (fold-roll-Aexp Puts Puts Puts Puts Puts Puts Puts Puts Puts Puts Puts Puts Puts Puts Puts Puts Puts Puts Puts aexp_step alt_step decl_step list_exp_step operand_step qual_step rhs_step where_step alts_step apply_step arrow_guard_step block_step comma_exp_step comma_qual_step equal_guard_step exp_step link_step next_alt_step next_decl_step (Aexp-F.Nil open_at close_at))

pub aexp_cons : (open_at at close_at : At) (k : List text_token.Token) → aexp_onto (v_aexp.Cons open_at at close_at) k ≡ key_onto open_at key.KOpenParen (key_onto at key.KColon (key_onto close_at key.KCloseParen k))
aexp_cons open_at at close_at k = ap (λ z. aexp_onto z k) (sym (v_aexp.rolls-Cons open_at at close_at)) ∙ ap (λ (f : Puts). f k) (fold-roll-Aexp Puts Puts Puts Puts Puts Puts Puts Puts Puts Puts Puts Puts Puts Puts Puts Puts Puts Puts Puts aexp_step alt_step decl_step list_exp_step operand_step qual_step rhs_step where_step alts_step apply_step arrow_guard_step block_step comma_exp_step comma_qual_step equal_guard_step exp_step link_step next_alt_step next_decl_step (Aexp-F.Cons open_at at close_at))

pub aexp_paren : (open_at : At) (inner : Exp) (close_at : At) (k : List text_token.Token) → aexp_onto (v_aexp.Paren open_at inner close_at) k ≡ key_onto open_at key.KOpenParen (exp_onto inner (key_onto close_at key.KCloseParen k))
aexp_paren open_at inner close_at k = ap (λ z. aexp_onto z k) (sym (v_aexp.rolls-Paren open_at inner close_at)) ∙ ap (λ (f : Puts). f k) (fold-roll-Aexp Puts Puts Puts Puts Puts Puts Puts Puts Puts Puts Puts Puts Puts Puts Puts Puts Puts Puts Puts aexp_step alt_step decl_step list_exp_step operand_step qual_step rhs_step where_step alts_step apply_step arrow_guard_step block_step comma_exp_step comma_qual_step equal_guard_step exp_step link_step next_alt_step next_decl_step (Aexp-F.Paren open_at inner close_at))

pub aexp_list : (list : ListExp) (k : List text_token.Token) → aexp_onto (v_aexp.List list) k ≡ list_exp_onto list k
aexp_list list k = ap (λ z. aexp_onto z k) (sym (v_aexp.rolls-List list)) ∙ ap (λ (f : Puts). f k) (fold-roll-Aexp Puts Puts Puts Puts Puts Puts Puts Puts Puts Puts Puts Puts Puts Puts Puts Puts Puts Puts Puts aexp_step alt_step decl_step list_exp_step operand_step qual_step rhs_step where_step alts_step apply_step arrow_guard_step block_step comma_exp_step comma_qual_step equal_guard_step exp_step link_step next_alt_step next_decl_step (Aexp-F.List list))

pub aexp_left_section : (open_at : At) (left : Exp) (op : Op) (close_at : At) (k : List text_token.Token) → aexp_onto (v_aexp.LeftSection open_at left op close_at) k ≡ key_onto open_at key.KOpenParen (exp_onto left (op_onto op (key_onto close_at key.KCloseParen k)))
aexp_left_section open_at left op close_at k = ap (λ z. aexp_onto z k) (sym (v_aexp.rolls-LeftSection open_at left op close_at)) ∙ ap (λ (f : Puts). f k) (fold-roll-Aexp Puts Puts Puts Puts Puts Puts Puts Puts Puts Puts Puts Puts Puts Puts Puts Puts Puts Puts Puts aexp_step alt_step decl_step list_exp_step operand_step qual_step rhs_step where_step alts_step apply_step arrow_guard_step block_step comma_exp_step comma_qual_step equal_guard_step exp_step link_step next_alt_step next_decl_step (Aexp-F.LeftSection open_at left op close_at))

pub aexp_right_section : (open_at : At) (op : Op) (right : Exp) (close_at : At) (k : List text_token.Token) → aexp_onto (v_aexp.RightSection open_at op right close_at) k ≡ key_onto open_at key.KOpenParen (op_onto op (exp_onto right (key_onto close_at key.KCloseParen k)))
aexp_right_section open_at op right close_at k = ap (λ z. aexp_onto z k) (sym (v_aexp.rolls-RightSection open_at op right close_at)) ∙ ap (λ (f : Puts). f k) (fold-roll-Aexp Puts Puts Puts Puts Puts Puts Puts Puts Puts Puts Puts Puts Puts Puts Puts Puts Puts Puts Puts aexp_step alt_step decl_step list_exp_step operand_step qual_step rhs_step where_step alts_step apply_step arrow_guard_step block_step comma_exp_step comma_qual_step equal_guard_step exp_step link_step next_alt_step next_decl_step (Aexp-F.RightSection open_at op right close_at))

pub alt_blank : (k : List text_token.Token) → alt_onto v_alt.Blank k ≡ k
alt_blank k = ap (λ z. alt_onto z k) (sym v_alt.rolls-Blank) ∙ ap (λ (f : Puts). f k) (fold-roll-Alt Puts Puts Puts Puts Puts Puts Puts Puts Puts Puts Puts Puts Puts Puts Puts Puts Puts Puts Puts aexp_step alt_step decl_step list_exp_step operand_step qual_step rhs_step where_step alts_step apply_step arrow_guard_step block_step comma_exp_step comma_qual_step equal_guard_step exp_step link_step next_alt_step next_decl_step Alt-F.Blank)

pub alt_arrow : (pat : Pat) (arrow : At) (exp : Exp) (local : Where) (k : List text_token.Token) → alt_onto (v_alt.Arrow pat arrow exp local) k ≡ pat_onto pat (key_onto arrow key.KRightArrow (exp_onto exp (where_onto local k)))
alt_arrow pat arrow exp local k = ap (λ z. alt_onto z k) (sym (v_alt.rolls-Arrow pat arrow exp local)) ∙ ap (λ (f : Puts). f k) (fold-roll-Alt Puts Puts Puts Puts Puts Puts Puts Puts Puts Puts Puts Puts Puts Puts Puts Puts Puts Puts Puts aexp_step alt_step decl_step list_exp_step operand_step qual_step rhs_step where_step alts_step apply_step arrow_guard_step block_step comma_exp_step comma_qual_step equal_guard_step exp_step link_step next_alt_step next_decl_step (Alt-F.Arrow pat arrow exp local))

pub decl_empty : (k : List text_token.Token) → decl_onto v_decl.Empty k ≡ k
decl_empty k = ap (λ z. decl_onto z k) (sym v_decl.rolls-Empty) ∙ ap (λ (f : Puts). f k) (fold-roll-Decl Puts Puts Puts Puts Puts Puts Puts Puts Puts Puts Puts Puts Puts Puts Puts Puts Puts Puts Puts aexp_step alt_step decl_step list_exp_step operand_step qual_step rhs_step where_step alts_step apply_step arrow_guard_step block_step comma_exp_step comma_qual_step equal_guard_step exp_step link_step next_alt_step next_decl_step Decl-F.Empty)

pub decl_signature : (var : Var) (rest : List CommaVar) (at : At) (part : TypeExp) (k : List text_token.Token) → decl_onto (v_decl.Signature var rest at part) k ≡ var_onto var (each_onto comma_var_onto rest (key_onto at key.KDoubleColon (type_exp_onto part k)))
decl_signature var rest at part k = ap (λ z. decl_onto z k) (sym (v_decl.rolls-Signature var rest at part)) ∙ ap (λ (f : Puts). f k) (fold-roll-Decl Puts Puts Puts Puts Puts Puts Puts Puts Puts Puts Puts Puts Puts Puts Puts Puts Puts Puts Puts aexp_step alt_step decl_step list_exp_step operand_step qual_step rhs_step where_step alts_step apply_step arrow_guard_step block_step comma_exp_step comma_qual_step equal_guard_step exp_step link_step next_alt_step next_decl_step (Decl-F.Signature var rest at part))

pub decl_equation : (head : Head) (rhs : Rhs) (k : List text_token.Token) → decl_onto (v_decl.Equation head rhs) k ≡ head_onto head (rhs_onto rhs k)
decl_equation head rhs k = ap (λ z. decl_onto z k) (sym (v_decl.rolls-Equation head rhs)) ∙ ap (λ (f : Puts). f k) (fold-roll-Decl Puts Puts Puts Puts Puts Puts Puts Puts Puts Puts Puts Puts Puts Puts Puts Puts Puts Puts Puts aexp_step alt_step decl_step list_exp_step operand_step qual_step rhs_step where_step alts_step apply_step arrow_guard_step block_step comma_exp_step comma_qual_step equal_guard_step exp_step link_step next_alt_step next_decl_step (Decl-F.Equation head rhs))

pub decl_binding : (pat : Pat) (rhs : Rhs) (k : List text_token.Token) → decl_onto (v_decl.Binding pat rhs) k ≡ pat_onto pat (rhs_onto rhs k)
decl_binding pat rhs k = ap (λ z. decl_onto z k) (sym (v_decl.rolls-Binding pat rhs)) ∙ ap (λ (f : Puts). f k) (fold-roll-Decl Puts Puts Puts Puts Puts Puts Puts Puts Puts Puts Puts Puts Puts Puts Puts Puts Puts Puts Puts aexp_step alt_step decl_step list_exp_step operand_step qual_step rhs_step where_step alts_step apply_step arrow_guard_step block_step comma_exp_step comma_qual_step equal_guard_step exp_step link_step next_alt_step next_decl_step (Decl-F.Binding pat rhs))

pub list_exp_range : (open_at : At) (low : Exp) (dots : At) (high : Exp) (close_at : At) (k : List text_token.Token) → list_exp_onto (v_list_exp.Range open_at low dots high close_at) k ≡ key_onto open_at key.KOpenBracket (exp_onto low (key_onto dots key.KDots (exp_onto high (key_onto close_at key.KCloseBracket k))))
list_exp_range open_at low dots high close_at k = ap (λ z. list_exp_onto z k) (sym (v_list_exp.rolls-Range open_at low dots high close_at)) ∙ ap (λ (f : Puts). f k) (fold-roll-ListExp Puts Puts Puts Puts Puts Puts Puts Puts Puts Puts Puts Puts Puts Puts Puts Puts Puts Puts Puts aexp_step alt_step decl_step list_exp_step operand_step qual_step rhs_step where_step alts_step apply_step arrow_guard_step block_step comma_exp_step comma_qual_step equal_guard_step exp_step link_step next_alt_step next_decl_step (ListExp-F.Range open_at low dots high close_at))

pub operand_applied : (apply : Apply) (k : List text_token.Token) → operand_onto (v_operand.Applied apply) k ≡ apply_onto apply k
operand_applied apply k = ap (λ z. operand_onto z k) (sym (v_operand.rolls-Applied apply)) ∙ ap (λ (f : Puts). f k) (fold-roll-Operand Puts Puts Puts Puts Puts Puts Puts Puts Puts Puts Puts Puts Puts Puts Puts Puts Puts Puts Puts aexp_step alt_step decl_step list_exp_step operand_step qual_step rhs_step where_step alts_step apply_step arrow_guard_step block_step comma_exp_step comma_qual_step equal_guard_step exp_step link_step next_alt_step next_decl_step (Operand-F.Applied apply))

pub operand_lambda : (at : At) (first : Apat) (rest : List Apat) (arrow : At) (body : Exp) (k : List text_token.Token) → operand_onto (v_operand.Lambda at first rest arrow body) k ≡ key_onto at key.KBackslash (apat_onto first (each_onto apat_onto rest (key_onto arrow key.KRightArrow (exp_onto body k))))
operand_lambda at first rest arrow body k = ap (λ z. operand_onto z k) (sym (v_operand.rolls-Lambda at first rest arrow body)) ∙ ap (λ (f : Puts). f k) (fold-roll-Operand Puts Puts Puts Puts Puts Puts Puts Puts Puts Puts Puts Puts Puts Puts Puts Puts Puts Puts Puts aexp_step alt_step decl_step list_exp_step operand_step qual_step rhs_step where_step alts_step apply_step arrow_guard_step block_step comma_exp_step comma_qual_step equal_guard_step exp_step link_step next_alt_step next_decl_step (Operand-F.Lambda at first rest arrow body))

pub operand_let : (at : At) (decls : Block) (in_at : At) (body : Exp) (k : List text_token.Token) → operand_onto (v_operand.Let at decls in_at body) k ≡ key_onto at key.KLet (block_onto decls (key_onto in_at key.KIn (exp_onto body k)))
operand_let at decls in_at body k = ap (λ z. operand_onto z k) (sym (v_operand.rolls-Let at decls in_at body)) ∙ ap (λ (f : Puts). f k) (fold-roll-Operand Puts Puts Puts Puts Puts Puts Puts Puts Puts Puts Puts Puts Puts Puts Puts Puts Puts Puts Puts aexp_step alt_step decl_step list_exp_step operand_step qual_step rhs_step where_step alts_step apply_step arrow_guard_step block_step comma_exp_step comma_qual_step equal_guard_step exp_step link_step next_alt_step next_decl_step (Operand-F.Let at decls in_at body))

pub operand_if : (at : At) (condition : Exp) (then_at : At) (positive : Exp) (else_at : At) (negative : Exp) (k : List text_token.Token) → operand_onto (v_operand.If at condition then_at positive else_at negative) k ≡ key_onto at key.KIf (exp_onto condition (key_onto then_at key.KThen (exp_onto positive (key_onto else_at key.KElse (exp_onto negative k)))))
operand_if at condition then_at positive else_at negative k = ap (λ z. operand_onto z k) (sym (v_operand.rolls-If at condition then_at positive else_at negative)) ∙ ap (λ (f : Puts). f k) (fold-roll-Operand Puts Puts Puts Puts Puts Puts Puts Puts Puts Puts Puts Puts Puts Puts Puts Puts Puts Puts Puts aexp_step alt_step decl_step list_exp_step operand_step qual_step rhs_step where_step alts_step apply_step arrow_guard_step block_step comma_exp_step comma_qual_step equal_guard_step exp_step link_step next_alt_step next_decl_step (Operand-F.If at condition then_at positive else_at negative))

pub operand_case : (at : At) (subject : Exp) (of_at : At) (alts : Alts) (k : List text_token.Token) → operand_onto (v_operand.Case at subject of_at alts) k ≡ key_onto at key.KCase (exp_onto subject (key_onto of_at key.KOf (alts_onto alts k)))
operand_case at subject of_at alts k = ap (λ z. operand_onto z k) (sym (v_operand.rolls-Case at subject of_at alts)) ∙ ap (λ (f : Puts). f k) (fold-roll-Operand Puts Puts Puts Puts Puts Puts Puts Puts Puts Puts Puts Puts Puts Puts Puts Puts Puts Puts Puts aexp_step alt_step decl_step list_exp_step operand_step qual_step rhs_step where_step alts_step apply_step arrow_guard_step block_step comma_exp_step comma_qual_step equal_guard_step exp_step link_step next_alt_step next_decl_step (Operand-F.Case at subject of_at alts))

pub qual_generator : (pat : Pat) (arrow : At) (exp : Exp) (k : List text_token.Token) → qual_onto (v_qual.Generator pat arrow exp) k ≡ pat_onto pat (key_onto arrow key.KLeftArrow (exp_onto exp k))
qual_generator pat arrow exp k = ap (λ z. qual_onto z k) (sym (v_qual.rolls-Generator pat arrow exp)) ∙ ap (λ (f : Puts). f k) (fold-roll-Qual Puts Puts Puts Puts Puts Puts Puts Puts Puts Puts Puts Puts Puts Puts Puts Puts Puts Puts Puts aexp_step alt_step decl_step list_exp_step operand_step qual_step rhs_step where_step alts_step apply_step arrow_guard_step block_step comma_exp_step comma_qual_step equal_guard_step exp_step link_step next_alt_step next_decl_step (Qual-F.Generator pat arrow exp))

pub qual_condition : (exp : Exp) (k : List text_token.Token) → qual_onto (v_qual.Condition exp) k ≡ exp_onto exp k
qual_condition exp k = ap (λ z. qual_onto z k) (sym (v_qual.rolls-Condition exp)) ∙ ap (λ (f : Puts). f k) (fold-roll-Qual Puts Puts Puts Puts Puts Puts Puts Puts Puts Puts Puts Puts Puts Puts Puts Puts Puts Puts Puts aexp_step alt_step decl_step list_exp_step operand_step qual_step rhs_step where_step alts_step apply_step arrow_guard_step block_step comma_exp_step comma_qual_step equal_guard_step exp_step link_step next_alt_step next_decl_step (Qual-F.Condition exp))

pub qual_local : (at : At) (decls : Block) (k : List text_token.Token) → qual_onto (v_qual.Local at decls) k ≡ key_onto at key.KLet (block_onto decls k)
qual_local at decls k = ap (λ z. qual_onto z k) (sym (v_qual.rolls-Local at decls)) ∙ ap (λ (f : Puts). f k) (fold-roll-Qual Puts Puts Puts Puts Puts Puts Puts Puts Puts Puts Puts Puts Puts Puts Puts Puts Puts Puts Puts aexp_step alt_step decl_step list_exp_step operand_step qual_step rhs_step where_step alts_step apply_step arrow_guard_step block_step comma_exp_step comma_qual_step equal_guard_step exp_step link_step next_alt_step next_decl_step (Qual-F.Local at decls))

pub rhs_equal : (equal : At) (exp : Exp) (local : Where) (k : List text_token.Token) → rhs_onto (v_rhs.Equal equal exp local) k ≡ key_onto equal key.KEqual (exp_onto exp (where_onto local k))
rhs_equal equal exp local k = ap (λ z. rhs_onto z k) (sym (v_rhs.rolls-Equal equal exp local)) ∙ ap (λ (f : Puts). f k) (fold-roll-Rhs Puts Puts Puts Puts Puts Puts Puts Puts Puts Puts Puts Puts Puts Puts Puts Puts Puts Puts Puts aexp_step alt_step decl_step list_exp_step operand_step qual_step rhs_step where_step alts_step apply_step arrow_guard_step block_step comma_exp_step comma_qual_step equal_guard_step exp_step link_step next_alt_step next_decl_step (Rhs-F.Equal equal exp local))

pub where_absent : (k : List text_token.Token) → where_onto v_where.Absent k ≡ k
where_absent k = ap (λ z. where_onto z k) (sym v_where.rolls-Absent) ∙ ap (λ (f : Puts). f k) (fold-roll-Where Puts Puts Puts Puts Puts Puts Puts Puts Puts Puts Puts Puts Puts Puts Puts Puts Puts Puts Puts aexp_step alt_step decl_step list_exp_step operand_step qual_step rhs_step where_step alts_step apply_step arrow_guard_step block_step comma_exp_step comma_qual_step equal_guard_step exp_step link_step next_alt_step next_decl_step Where-F.Absent)

pub where_present : (at : At) (decls : Block) (k : List text_token.Token) → where_onto (v_where.Present at decls) k ≡ key_onto at key.KWhere (block_onto decls k)
where_present at decls k = ap (λ z. where_onto z k) (sym (v_where.rolls-Present at decls)) ∙ ap (λ (f : Puts). f k) (fold-roll-Where Puts Puts Puts Puts Puts Puts Puts Puts Puts Puts Puts Puts Puts Puts Puts Puts Puts Puts Puts aexp_step alt_step decl_step list_exp_step operand_step qual_step rhs_step where_step alts_step apply_step arrow_guard_step block_step comma_exp_step comma_qual_step equal_guard_step exp_step link_step next_alt_step next_decl_step (Where-F.Present at decls))

pub alts_made : (open_at : At) (first : Alt) (rest : List NextAlt) (close_at : At) (k : List text_token.Token) → alts_onto (roll-Alts (record { open_at = open_at; first = first; rest = rest; close_at = close_at })) k ≡ key_onto open_at key.KOpenBrace (alt_onto first (each_onto next_alt_onto rest (key_onto close_at key.KCloseBrace k)))
alts_made open_at first rest close_at k = ap (λ (f : Puts). f k) (fold-roll-Alts Puts Puts Puts Puts Puts Puts Puts Puts Puts Puts Puts Puts Puts Puts Puts Puts Puts Puts Puts aexp_step alt_step decl_step list_exp_step operand_step qual_step rhs_step where_step alts_step apply_step arrow_guard_step block_step comma_exp_step comma_qual_step equal_guard_step exp_step link_step next_alt_step next_decl_step (record { open_at = open_at; first = first; rest = rest; close_at = close_at })) ∙ ap (λ z. key_onto open_at key.KOpenBrace (alt_onto first z)) (each_is next_alt_onto rest (key_onto close_at key.KCloseBrace k))

pub apply_made : (head : Aexp) (args : List Aexp) (k : List text_token.Token) → apply_onto (roll-Apply (record { head = head; args = args })) k ≡ aexp_onto head (each_onto aexp_onto args k)
apply_made head args k = ap (λ (f : Puts). f k) (fold-roll-Apply Puts Puts Puts Puts Puts Puts Puts Puts Puts Puts Puts Puts Puts Puts Puts Puts Puts Puts Puts aexp_step alt_step decl_step list_exp_step operand_step qual_step rhs_step where_step alts_step apply_step arrow_guard_step block_step comma_exp_step comma_qual_step equal_guard_step exp_step link_step next_alt_step next_decl_step (record { head = head; args = args })) ∙ ap (λ z. aexp_onto head z) (each_is aexp_onto args k)

pub arrow_guard_made : (bar : At) (condition : Exp) (arrow : At) (exp : Exp) (k : List text_token.Token) → arrow_guard_onto (roll-ArrowGuard (record { bar = bar; condition = condition; arrow = arrow; exp = exp })) k ≡ key_onto bar key.KBar (exp_onto condition (key_onto arrow key.KRightArrow (exp_onto exp k)))
arrow_guard_made bar condition arrow exp k = ap (λ (f : Puts). f k) (fold-roll-ArrowGuard Puts Puts Puts Puts Puts Puts Puts Puts Puts Puts Puts Puts Puts Puts Puts Puts Puts Puts Puts aexp_step alt_step decl_step list_exp_step operand_step qual_step rhs_step where_step alts_step apply_step arrow_guard_step block_step comma_exp_step comma_qual_step equal_guard_step exp_step link_step next_alt_step next_decl_step (record { bar = bar; condition = condition; arrow = arrow; exp = exp }))

pub block_made : (open_at : At) (first : Decl) (rest : List NextDecl) (close_at : At) (k : List text_token.Token) → block_onto (roll-Block (record { open_at = open_at; first = first; rest = rest; close_at = close_at })) k ≡ key_onto open_at key.KOpenBrace (decl_onto first (each_onto next_decl_onto rest (key_onto close_at key.KCloseBrace k)))
block_made open_at first rest close_at k = ap (λ (f : Puts). f k) (fold-roll-Block Puts Puts Puts Puts Puts Puts Puts Puts Puts Puts Puts Puts Puts Puts Puts Puts Puts Puts Puts aexp_step alt_step decl_step list_exp_step operand_step qual_step rhs_step where_step alts_step apply_step arrow_guard_step block_step comma_exp_step comma_qual_step equal_guard_step exp_step link_step next_alt_step next_decl_step (record { open_at = open_at; first = first; rest = rest; close_at = close_at })) ∙ ap (λ z. key_onto open_at key.KOpenBrace (decl_onto first z)) (each_is next_decl_onto rest (key_onto close_at key.KCloseBrace k))

pub comma_exp_made : (comma : At) (exp : Exp) (k : List text_token.Token) → comma_exp_onto (roll-CommaExp (record { comma = comma; exp = exp })) k ≡ key_onto comma key.KComma (exp_onto exp k)
comma_exp_made comma exp k = ap (λ (f : Puts). f k) (fold-roll-CommaExp Puts Puts Puts Puts Puts Puts Puts Puts Puts Puts Puts Puts Puts Puts Puts Puts Puts Puts Puts aexp_step alt_step decl_step list_exp_step operand_step qual_step rhs_step where_step alts_step apply_step arrow_guard_step block_step comma_exp_step comma_qual_step equal_guard_step exp_step link_step next_alt_step next_decl_step (record { comma = comma; exp = exp }))

pub comma_qual_made : (comma : At) (qual : Qual) (k : List text_token.Token) → comma_qual_onto (roll-CommaQual (record { comma = comma; qual = qual })) k ≡ key_onto comma key.KComma (qual_onto qual k)
comma_qual_made comma qual k = ap (λ (f : Puts). f k) (fold-roll-CommaQual Puts Puts Puts Puts Puts Puts Puts Puts Puts Puts Puts Puts Puts Puts Puts Puts Puts Puts Puts aexp_step alt_step decl_step list_exp_step operand_step qual_step rhs_step where_step alts_step apply_step arrow_guard_step block_step comma_exp_step comma_qual_step equal_guard_step exp_step link_step next_alt_step next_decl_step (record { comma = comma; qual = qual }))

pub equal_guard_made : (bar : At) (condition : Exp) (equal : At) (exp : Exp) (k : List text_token.Token) → equal_guard_onto (roll-EqualGuard (record { bar = bar; condition = condition; equal = equal; exp = exp })) k ≡ key_onto bar key.KBar (exp_onto condition (key_onto equal key.KEqual (exp_onto exp k)))
equal_guard_made bar condition equal exp k = ap (λ (f : Puts). f k) (fold-roll-EqualGuard Puts Puts Puts Puts Puts Puts Puts Puts Puts Puts Puts Puts Puts Puts Puts Puts Puts Puts Puts aexp_step alt_step decl_step list_exp_step operand_step qual_step rhs_step where_step alts_step apply_step arrow_guard_step block_step comma_exp_step comma_qual_step equal_guard_step exp_step link_step next_alt_step next_decl_step (record { bar = bar; condition = condition; equal = equal; exp = exp }))

pub exp_made : (links : List Link) (sign : Sign) (last : Operand) (k : List text_token.Token) → exp_onto (roll-Exp (record { links = links; sign = sign; last = last })) k ≡ each_onto link_onto links (sign_onto sign (operand_onto last k))
exp_made links sign last k = ap (λ (f : Puts). f k) (fold-roll-Exp Puts Puts Puts Puts Puts Puts Puts Puts Puts Puts Puts Puts Puts Puts Puts Puts Puts Puts Puts aexp_step alt_step decl_step list_exp_step operand_step qual_step rhs_step where_step alts_step apply_step arrow_guard_step block_step comma_exp_step comma_qual_step equal_guard_step exp_step link_step next_alt_step next_decl_step (record { links = links; sign = sign; last = last })) ∙ each_is link_onto links (sign_onto sign (operand_onto last k))

pub link_made : (sign : Sign) (left : Apply) (op : Op) (k : List text_token.Token) → link_onto (roll-Link (record { sign = sign; left = left; op = op })) k ≡ sign_onto sign (apply_onto left (op_onto op k))
link_made sign left op k = ap (λ (f : Puts). f k) (fold-roll-Link Puts Puts Puts Puts Puts Puts Puts Puts Puts Puts Puts Puts Puts Puts Puts Puts Puts Puts Puts aexp_step alt_step decl_step list_exp_step operand_step qual_step rhs_step where_step alts_step apply_step arrow_guard_step block_step comma_exp_step comma_qual_step equal_guard_step exp_step link_step next_alt_step next_decl_step (record { sign = sign; left = left; op = op }))

pub next_alt_made : (semicolon : At) (alt : Alt) (k : List text_token.Token) → next_alt_onto (roll-NextAlt (record { semicolon = semicolon; alt = alt })) k ≡ key_onto semicolon key.KSemicolon (alt_onto alt k)
next_alt_made semicolon alt k = ap (λ (f : Puts). f k) (fold-roll-NextAlt Puts Puts Puts Puts Puts Puts Puts Puts Puts Puts Puts Puts Puts Puts Puts Puts Puts Puts Puts aexp_step alt_step decl_step list_exp_step operand_step qual_step rhs_step where_step alts_step apply_step arrow_guard_step block_step comma_exp_step comma_qual_step equal_guard_step exp_step link_step next_alt_step next_decl_step (record { semicolon = semicolon; alt = alt }))

pub next_decl_made : (semicolon : At) (decl : Decl) (k : List text_token.Token) → next_decl_onto (roll-NextDecl (record { semicolon = semicolon; decl = decl })) k ≡ key_onto semicolon key.KSemicolon (decl_onto decl k)
next_decl_made semicolon decl k = ap (λ (f : Puts). f k) (fold-roll-NextDecl Puts Puts Puts Puts Puts Puts Puts Puts Puts Puts Puts Puts Puts Puts Puts Puts Puts Puts Puts aexp_step alt_step decl_step list_exp_step operand_step qual_step rhs_step where_step alts_step apply_step arrow_guard_step block_step comma_exp_step comma_qual_step equal_guard_step exp_step link_step next_alt_step next_decl_step (record { semicolon = semicolon; decl = decl }))

pub ruleset expressions_equations = (aexp_tuple, alt_guarded, list_exp_members, list_exp_comprehension, rhs_guards, alts_parts, apply_parts, arrow_guard_parts, block_parts, comma_exp_parts, comma_qual_parts, equal_guard_parts, exp_parts, link_parts, next_alt_parts, next_decl_parts)
