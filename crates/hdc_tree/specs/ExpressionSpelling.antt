-- How expressions and declarations are spelled, one equation for each production.
use Rattle.hdc_base.specs.declared.token.Key.TheVariants as key
use Rattle.hdc_tree.specs.declared.expression.Aexp.{Aexp, Aexp-F, fold-Aexp}
use Rattle.hdc_tree.specs.declared.expression.Alt.{Alt, Alt-F, fold-Alt}
use Rattle.hdc_tree.specs.declared.expression.Decl.{Decl, Decl-F, fold-Decl}
use Rattle.hdc_tree.specs.declared.expression.ListExp.{ListExp, ListExp-F, fold-ListExp}
use Rattle.hdc_tree.specs.declared.expression.Operand.{Operand, Operand-F, fold-Operand}
use Rattle.hdc_tree.specs.declared.expression.Qual.{Qual, Qual-F, fold-Qual}
use Rattle.hdc_tree.specs.declared.expression.Rhs.{Rhs, Rhs-F, fold-Rhs}
use Rattle.hdc_tree.specs.declared.expression.Where.{Where, Where-F, fold-Where}
use Rattle.hdc_tree.specs.declared.expression.Alts.{Alts, Alts-F, fold-Alts}
use Rattle.hdc_tree.specs.declared.expression.Apply.{Apply, Apply-F, fold-Apply}
use Rattle.hdc_tree.specs.declared.expression.ArrowGuard.{ArrowGuard, ArrowGuard-F, fold-ArrowGuard}
use Rattle.hdc_tree.specs.declared.expression.Block.{Block, Block-F, fold-Block}
use Rattle.hdc_tree.specs.declared.expression.CommaExp.{CommaExp, CommaExp-F, fold-CommaExp}
use Rattle.hdc_tree.specs.declared.expression.CommaQual.{CommaQual, CommaQual-F, fold-CommaQual}
use Rattle.hdc_tree.specs.declared.expression.EqualGuard.{EqualGuard, EqualGuard-F, fold-EqualGuard}
use Rattle.hdc_tree.specs.declared.expression.Exp.{Exp, Exp-F, fold-Exp}
use Rattle.hdc_tree.specs.declared.expression.Link.{Link, Link-F, fold-Link}
use Rattle.hdc_tree.specs.declared.expression.NextAlt.{NextAlt, NextAlt-F, fold-NextAlt}
use Rattle.hdc_tree.specs.declared.expression.NextDecl.{NextDecl, NextDecl-F, fold-NextDecl}
use Rattle.hdc_tree.specs.NameSpelling.{Puts, key_onto, capital_onto, literal_onto, var_onto, op_onto, all_onto, each_onto}
use Rattle.hdc_tree.specs.NameSpelling.{sign_onto, comma_var_onto}
use Rattle.hdc_tree.specs.PatternSpelling.{apat_onto, pat_onto}
use Rattle.hdc_tree.specs.TypeSpelling.{type_exp_onto}
use Rattle.hdc_tree.specs.HeadSpelling.{head_onto}

abbrev pub aexp_step : Aexp-F Puts Puts Puts Puts Puts Puts Puts Puts Puts Puts Puts Puts Puts Puts Puts Puts Puts Puts Puts → Puts
aexp_step (Aexp-F.Var var) k = var_onto var k
aexp_step (Aexp-F.Con name) k = capital_onto name k
aexp_step (Aexp-F.Literal at literal) k = literal_onto at literal k
aexp_step (Aexp-F.Unit open_at close_at) k = key_onto open_at key.KOpenParen (key_onto close_at key.KCloseParen k)
aexp_step (Aexp-F.Nil open_at close_at) k = key_onto open_at key.KOpenBracket (key_onto close_at key.KCloseBracket k)
aexp_step (Aexp-F.Cons open_at at close_at) k = key_onto open_at key.KOpenParen (key_onto at key.KColon (key_onto close_at key.KCloseParen k))
aexp_step (Aexp-F.Paren open_at inner close_at) k = key_onto open_at key.KOpenParen (inner (key_onto close_at key.KCloseParen k))
aexp_step (Aexp-F.Tuple open_at first rest close_at) k = key_onto open_at key.KOpenParen (first (all_onto rest (key_onto close_at key.KCloseParen k)))
aexp_step (Aexp-F.List list) k = list k
aexp_step (Aexp-F.LeftSection open_at left op close_at) k = key_onto open_at key.KOpenParen (left (op_onto op (key_onto close_at key.KCloseParen k)))
aexp_step (Aexp-F.RightSection open_at op right close_at) k = key_onto open_at key.KOpenParen (op_onto op (right (key_onto close_at key.KCloseParen k)))

abbrev pub alt_step : Alt-F Puts Puts Puts Puts Puts Puts Puts Puts Puts Puts Puts Puts Puts Puts Puts Puts Puts Puts Puts → Puts
alt_step Alt-F.Blank k = k
alt_step (Alt-F.Arrow pat arrow exp local) k = pat_onto pat (key_onto arrow key.KRightArrow (exp (local k)))
alt_step (Alt-F.Guarded pat first rest local) k = pat_onto pat (first (all_onto rest (local k)))

abbrev pub decl_step : Decl-F Puts Puts Puts Puts Puts Puts Puts Puts Puts Puts Puts Puts Puts Puts Puts Puts Puts Puts Puts → Puts
decl_step Decl-F.Empty k = k
decl_step (Decl-F.Signature var rest at part) k = var_onto var (each_onto comma_var_onto rest (key_onto at key.KDoubleColon (type_exp_onto part k)))
decl_step (Decl-F.Equation head rhs) k = head_onto head (rhs k)
decl_step (Decl-F.Binding pat rhs) k = pat_onto pat (rhs k)

abbrev pub list_exp_step : ListExp-F Puts Puts Puts Puts Puts Puts Puts Puts Puts Puts Puts Puts Puts Puts Puts Puts Puts Puts Puts → Puts
list_exp_step (ListExp-F.Members open_at first rest close_at) k = key_onto open_at key.KOpenBracket (first (all_onto rest (key_onto close_at key.KCloseBracket k)))
list_exp_step (ListExp-F.Range open_at low dots high close_at) k = key_onto open_at key.KOpenBracket (low (key_onto dots key.KDots (high (key_onto close_at key.KCloseBracket k))))
list_exp_step (ListExp-F.Comprehension open_at head bar first rest close_at) k = key_onto open_at key.KOpenBracket (head (key_onto bar key.KBar (first (all_onto rest (key_onto close_at key.KCloseBracket k)))))

abbrev pub operand_step : Operand-F Puts Puts Puts Puts Puts Puts Puts Puts Puts Puts Puts Puts Puts Puts Puts Puts Puts Puts Puts → Puts
operand_step (Operand-F.Applied apply) k = apply k
operand_step (Operand-F.Lambda at first rest arrow body) k = key_onto at key.KBackslash (apat_onto first (each_onto apat_onto rest (key_onto arrow key.KRightArrow (body k))))
operand_step (Operand-F.Let at decls in_at body) k = key_onto at key.KLet (decls (key_onto in_at key.KIn (body k)))
operand_step (Operand-F.If at condition then_at positive else_at negative) k = key_onto at key.KIf (condition (key_onto then_at key.KThen (positive (key_onto else_at key.KElse (negative k)))))
operand_step (Operand-F.Case at subject of_at alts) k = key_onto at key.KCase (subject (key_onto of_at key.KOf (alts k)))

abbrev pub qual_step : Qual-F Puts Puts Puts Puts Puts Puts Puts Puts Puts Puts Puts Puts Puts Puts Puts Puts Puts Puts Puts → Puts
qual_step (Qual-F.Generator pat arrow exp) k = pat_onto pat (key_onto arrow key.KLeftArrow (exp k))
qual_step (Qual-F.Condition exp) k = exp k
qual_step (Qual-F.Local at decls) k = key_onto at key.KLet (decls k)

abbrev pub rhs_step : Rhs-F Puts Puts Puts Puts Puts Puts Puts Puts Puts Puts Puts Puts Puts Puts Puts Puts Puts Puts Puts → Puts
rhs_step (Rhs-F.Equal equal exp local) k = key_onto equal key.KEqual (exp (local k))
rhs_step (Rhs-F.Guards first rest local) k = first (all_onto rest (local k))

abbrev pub where_step : Where-F Puts Puts Puts Puts Puts Puts Puts Puts Puts Puts Puts Puts Puts Puts Puts Puts Puts Puts Puts → Puts
where_step Where-F.Absent k = k
where_step (Where-F.Present at decls) k = key_onto at key.KWhere (decls k)

abbrev pub alts_step : Alts-F Puts Puts Puts Puts Puts Puts Puts Puts Puts Puts Puts Puts Puts Puts Puts Puts Puts Puts Puts → Puts
alts_step part k = key_onto part.open_at key.KOpenBrace (part.first (all_onto part.rest (key_onto part.close_at key.KCloseBrace k)))

abbrev pub apply_step : Apply-F Puts Puts Puts Puts Puts Puts Puts Puts Puts Puts Puts Puts Puts Puts Puts Puts Puts Puts Puts → Puts
apply_step part k = part.head (all_onto part.args k)

abbrev pub arrow_guard_step : ArrowGuard-F Puts Puts Puts Puts Puts Puts Puts Puts Puts Puts Puts Puts Puts Puts Puts Puts Puts Puts Puts → Puts
arrow_guard_step part k = key_onto part.bar key.KBar (part.condition (key_onto part.arrow key.KRightArrow (part.exp k)))

abbrev pub block_step : Block-F Puts Puts Puts Puts Puts Puts Puts Puts Puts Puts Puts Puts Puts Puts Puts Puts Puts Puts Puts → Puts
block_step part k = key_onto part.open_at key.KOpenBrace (part.first (all_onto part.rest (key_onto part.close_at key.KCloseBrace k)))

abbrev pub comma_exp_step : CommaExp-F Puts Puts Puts Puts Puts Puts Puts Puts Puts Puts Puts Puts Puts Puts Puts Puts Puts Puts Puts → Puts
comma_exp_step part k = key_onto part.comma key.KComma (part.exp k)

abbrev pub comma_qual_step : CommaQual-F Puts Puts Puts Puts Puts Puts Puts Puts Puts Puts Puts Puts Puts Puts Puts Puts Puts Puts Puts → Puts
comma_qual_step part k = key_onto part.comma key.KComma (part.qual k)

abbrev pub equal_guard_step : EqualGuard-F Puts Puts Puts Puts Puts Puts Puts Puts Puts Puts Puts Puts Puts Puts Puts Puts Puts Puts Puts → Puts
equal_guard_step part k = key_onto part.bar key.KBar (part.condition (key_onto part.equal key.KEqual (part.exp k)))

abbrev pub exp_step : Exp-F Puts Puts Puts Puts Puts Puts Puts Puts Puts Puts Puts Puts Puts Puts Puts Puts Puts Puts Puts → Puts
exp_step part k = all_onto part.links (sign_onto part.sign (part.last k))

abbrev pub link_step : Link-F Puts Puts Puts Puts Puts Puts Puts Puts Puts Puts Puts Puts Puts Puts Puts Puts Puts Puts Puts → Puts
link_step part k = sign_onto part.sign (part.left (op_onto part.op k))

abbrev pub next_alt_step : NextAlt-F Puts Puts Puts Puts Puts Puts Puts Puts Puts Puts Puts Puts Puts Puts Puts Puts Puts Puts Puts → Puts
next_alt_step part k = key_onto part.semicolon key.KSemicolon (part.alt k)

abbrev pub next_decl_step : NextDecl-F Puts Puts Puts Puts Puts Puts Puts Puts Puts Puts Puts Puts Puts Puts Puts Puts Puts Puts Puts → Puts
next_decl_step part k = key_onto part.semicolon key.KSemicolon (part.decl k)

abbrev pub aexp_onto : Aexp → Puts
aexp_onto = fold-Aexp Puts Puts Puts Puts Puts Puts Puts Puts Puts Puts Puts Puts Puts Puts Puts Puts Puts Puts Puts aexp_step alt_step decl_step list_exp_step operand_step qual_step rhs_step where_step alts_step apply_step arrow_guard_step block_step comma_exp_step comma_qual_step equal_guard_step exp_step link_step next_alt_step next_decl_step

abbrev pub alt_onto : Alt → Puts
alt_onto = fold-Alt Puts Puts Puts Puts Puts Puts Puts Puts Puts Puts Puts Puts Puts Puts Puts Puts Puts Puts Puts aexp_step alt_step decl_step list_exp_step operand_step qual_step rhs_step where_step alts_step apply_step arrow_guard_step block_step comma_exp_step comma_qual_step equal_guard_step exp_step link_step next_alt_step next_decl_step

abbrev pub decl_onto : Decl → Puts
decl_onto = fold-Decl Puts Puts Puts Puts Puts Puts Puts Puts Puts Puts Puts Puts Puts Puts Puts Puts Puts Puts Puts aexp_step alt_step decl_step list_exp_step operand_step qual_step rhs_step where_step alts_step apply_step arrow_guard_step block_step comma_exp_step comma_qual_step equal_guard_step exp_step link_step next_alt_step next_decl_step

abbrev pub list_exp_onto : ListExp → Puts
list_exp_onto = fold-ListExp Puts Puts Puts Puts Puts Puts Puts Puts Puts Puts Puts Puts Puts Puts Puts Puts Puts Puts Puts aexp_step alt_step decl_step list_exp_step operand_step qual_step rhs_step where_step alts_step apply_step arrow_guard_step block_step comma_exp_step comma_qual_step equal_guard_step exp_step link_step next_alt_step next_decl_step

abbrev pub operand_onto : Operand → Puts
operand_onto = fold-Operand Puts Puts Puts Puts Puts Puts Puts Puts Puts Puts Puts Puts Puts Puts Puts Puts Puts Puts Puts aexp_step alt_step decl_step list_exp_step operand_step qual_step rhs_step where_step alts_step apply_step arrow_guard_step block_step comma_exp_step comma_qual_step equal_guard_step exp_step link_step next_alt_step next_decl_step

abbrev pub qual_onto : Qual → Puts
qual_onto = fold-Qual Puts Puts Puts Puts Puts Puts Puts Puts Puts Puts Puts Puts Puts Puts Puts Puts Puts Puts Puts aexp_step alt_step decl_step list_exp_step operand_step qual_step rhs_step where_step alts_step apply_step arrow_guard_step block_step comma_exp_step comma_qual_step equal_guard_step exp_step link_step next_alt_step next_decl_step

abbrev pub rhs_onto : Rhs → Puts
rhs_onto = fold-Rhs Puts Puts Puts Puts Puts Puts Puts Puts Puts Puts Puts Puts Puts Puts Puts Puts Puts Puts Puts aexp_step alt_step decl_step list_exp_step operand_step qual_step rhs_step where_step alts_step apply_step arrow_guard_step block_step comma_exp_step comma_qual_step equal_guard_step exp_step link_step next_alt_step next_decl_step

abbrev pub where_onto : Where → Puts
where_onto = fold-Where Puts Puts Puts Puts Puts Puts Puts Puts Puts Puts Puts Puts Puts Puts Puts Puts Puts Puts Puts aexp_step alt_step decl_step list_exp_step operand_step qual_step rhs_step where_step alts_step apply_step arrow_guard_step block_step comma_exp_step comma_qual_step equal_guard_step exp_step link_step next_alt_step next_decl_step

abbrev pub alts_onto : Alts → Puts
alts_onto = fold-Alts Puts Puts Puts Puts Puts Puts Puts Puts Puts Puts Puts Puts Puts Puts Puts Puts Puts Puts Puts aexp_step alt_step decl_step list_exp_step operand_step qual_step rhs_step where_step alts_step apply_step arrow_guard_step block_step comma_exp_step comma_qual_step equal_guard_step exp_step link_step next_alt_step next_decl_step

abbrev pub apply_onto : Apply → Puts
apply_onto = fold-Apply Puts Puts Puts Puts Puts Puts Puts Puts Puts Puts Puts Puts Puts Puts Puts Puts Puts Puts Puts aexp_step alt_step decl_step list_exp_step operand_step qual_step rhs_step where_step alts_step apply_step arrow_guard_step block_step comma_exp_step comma_qual_step equal_guard_step exp_step link_step next_alt_step next_decl_step

abbrev pub arrow_guard_onto : ArrowGuard → Puts
arrow_guard_onto = fold-ArrowGuard Puts Puts Puts Puts Puts Puts Puts Puts Puts Puts Puts Puts Puts Puts Puts Puts Puts Puts Puts aexp_step alt_step decl_step list_exp_step operand_step qual_step rhs_step where_step alts_step apply_step arrow_guard_step block_step comma_exp_step comma_qual_step equal_guard_step exp_step link_step next_alt_step next_decl_step

abbrev pub block_onto : Block → Puts
block_onto = fold-Block Puts Puts Puts Puts Puts Puts Puts Puts Puts Puts Puts Puts Puts Puts Puts Puts Puts Puts Puts aexp_step alt_step decl_step list_exp_step operand_step qual_step rhs_step where_step alts_step apply_step arrow_guard_step block_step comma_exp_step comma_qual_step equal_guard_step exp_step link_step next_alt_step next_decl_step

abbrev pub comma_exp_onto : CommaExp → Puts
comma_exp_onto = fold-CommaExp Puts Puts Puts Puts Puts Puts Puts Puts Puts Puts Puts Puts Puts Puts Puts Puts Puts Puts Puts aexp_step alt_step decl_step list_exp_step operand_step qual_step rhs_step where_step alts_step apply_step arrow_guard_step block_step comma_exp_step comma_qual_step equal_guard_step exp_step link_step next_alt_step next_decl_step

abbrev pub comma_qual_onto : CommaQual → Puts
comma_qual_onto = fold-CommaQual Puts Puts Puts Puts Puts Puts Puts Puts Puts Puts Puts Puts Puts Puts Puts Puts Puts Puts Puts aexp_step alt_step decl_step list_exp_step operand_step qual_step rhs_step where_step alts_step apply_step arrow_guard_step block_step comma_exp_step comma_qual_step equal_guard_step exp_step link_step next_alt_step next_decl_step

abbrev pub equal_guard_onto : EqualGuard → Puts
equal_guard_onto = fold-EqualGuard Puts Puts Puts Puts Puts Puts Puts Puts Puts Puts Puts Puts Puts Puts Puts Puts Puts Puts Puts aexp_step alt_step decl_step list_exp_step operand_step qual_step rhs_step where_step alts_step apply_step arrow_guard_step block_step comma_exp_step comma_qual_step equal_guard_step exp_step link_step next_alt_step next_decl_step

abbrev pub exp_onto : Exp → Puts
exp_onto = fold-Exp Puts Puts Puts Puts Puts Puts Puts Puts Puts Puts Puts Puts Puts Puts Puts Puts Puts Puts Puts aexp_step alt_step decl_step list_exp_step operand_step qual_step rhs_step where_step alts_step apply_step arrow_guard_step block_step comma_exp_step comma_qual_step equal_guard_step exp_step link_step next_alt_step next_decl_step

abbrev pub link_onto : Link → Puts
link_onto = fold-Link Puts Puts Puts Puts Puts Puts Puts Puts Puts Puts Puts Puts Puts Puts Puts Puts Puts Puts Puts aexp_step alt_step decl_step list_exp_step operand_step qual_step rhs_step where_step alts_step apply_step arrow_guard_step block_step comma_exp_step comma_qual_step equal_guard_step exp_step link_step next_alt_step next_decl_step

abbrev pub next_alt_onto : NextAlt → Puts
next_alt_onto = fold-NextAlt Puts Puts Puts Puts Puts Puts Puts Puts Puts Puts Puts Puts Puts Puts Puts Puts Puts Puts Puts aexp_step alt_step decl_step list_exp_step operand_step qual_step rhs_step where_step alts_step apply_step arrow_guard_step block_step comma_exp_step comma_qual_step equal_guard_step exp_step link_step next_alt_step next_decl_step

abbrev pub next_decl_onto : NextDecl → Puts
next_decl_onto = fold-NextDecl Puts Puts Puts Puts Puts Puts Puts Puts Puts Puts Puts Puts Puts Puts Puts Puts Puts Puts Puts aexp_step alt_step decl_step list_exp_step operand_step qual_step rhs_step where_step alts_step apply_step arrow_guard_step block_step comma_exp_step comma_qual_step equal_guard_step exp_step link_step next_alt_step next_decl_step
