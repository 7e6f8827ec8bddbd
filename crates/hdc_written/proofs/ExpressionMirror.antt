-- What an expression or declaration in memory holds, one equation for each production with a list or with parts.
use Rattle.std.proofs.Common.{◌≡◌, List, [], ◌∷◌, map, refl, sym, ◌∙◌, ap}
use Rattle.hdc_base.specs.declared.place.At.{At}
use Rattle.hdc_tree.specs.declared.pattern.Pat.{Pat}
use Rattle.hdc_tree.specs.declared.expression.Aexp.{Aexp-F, fold-roll-Aexp}
use Rattle.hdc_tree.specs.declared.expression.Alt.{Alt-F, fold-roll-Alt}
use Rattle.hdc_tree.specs.declared.expression.ListExp.{ListExp-F, fold-roll-ListExp}
use Rattle.hdc_tree.specs.declared.expression.Qual.{Qual}
use Rattle.hdc_tree.specs.declared.expression.Rhs.{Rhs-F, fold-roll-Rhs}
use Rattle.hdc_tree.specs.declared.expression.Where.{Where}
use Rattle.hdc_tree.specs.declared.expression.Alts.{Alts, out-Alts, roll-out-Alts, fold-roll-Alts}
use Rattle.hdc_tree.specs.declared.expression.Apply.{Apply, out-Apply, roll-out-Apply, fold-roll-Apply}
use Rattle.hdc_tree.specs.declared.expression.ArrowGuard.{ArrowGuard, out-ArrowGuard, roll-out-ArrowGuard, fold-roll-ArrowGuard}
use Rattle.hdc_tree.specs.declared.expression.Block.{Block, out-Block, roll-out-Block, fold-roll-Block}
use Rattle.hdc_tree.specs.declared.expression.CommaExp.{CommaExp, out-CommaExp, roll-out-CommaExp, fold-roll-CommaExp}
use Rattle.hdc_tree.specs.declared.expression.CommaQual.{CommaQual, out-CommaQual, roll-out-CommaQual, fold-roll-CommaQual}
use Rattle.hdc_tree.specs.declared.expression.EqualGuard.{EqualGuard, out-EqualGuard, roll-out-EqualGuard, fold-roll-EqualGuard}
use Rattle.hdc_tree.specs.declared.expression.Exp.{Exp, out-Exp, roll-out-Exp, fold-roll-Exp}
use Rattle.hdc_tree.specs.declared.expression.Link.{Link, out-Link, roll-out-Link, fold-roll-Link}
use Rattle.hdc_tree.specs.declared.expression.NextAlt.{NextAlt, out-NextAlt, roll-out-NextAlt, fold-roll-NextAlt}
use Rattle.hdc_tree.specs.declared.expression.NextDecl.{NextDecl, out-NextDecl, roll-out-NextDecl, fold-roll-NextDecl}
use Rattle.hdc_tree.specs.declared.expression.Aexp.TheVariants as v_aexp
use Rattle.hdc_tree.specs.declared.expression.Alt.TheVariants as v_alt
use Rattle.hdc_tree.specs.declared.expression.ListExp.TheVariants as v_list_exp
use Rattle.hdc_tree.specs.declared.expression.Rhs.TheVariants as v_rhs
use Rattle.hdc_written.specs.Written as written
use Rattle.hdc_written.specs.Written.{Expression, chain, link, Qualifier, Alternative, alternative, Alternatives, next_alternative, RightSide, guarded, guard, Declaration, Declarations, declaration}
use Rattle.hdc_written.specs.Mirror.{Guarded, Linked, pat_of, aexp_step, alt_step, decl_step, list_exp_step, operand_step, qual_step, rhs_step, where_step, alts_step, apply_step, arrow_guard_step, block_step, comma_exp_step, comma_qual_step, equal_guard_step, exp_step, link_step, next_alt_step, next_decl_step, aexp_of, alt_of, decl_of, list_exp_of, operand_of, qual_of, rhs_of, where_of, alts_of, apply_of, arrow_guard_of, block_of, comma_exp_of, comma_qual_of, equal_guard_of, exp_of, link_of, next_alt_of, next_decl_of, all_links, each_link, all_operands, each_operand, all_expressions, each_expression, all_qualifiers, each_qualifier, all_alternatives, each_alternative, all_guards, each_guard, all_declarations, each_declaration}

links_each : {A : Type 0} (f : A → Linked) (xs : List A) → all_links (map f xs) ≡ each_link f xs
links_each f [] = refl
links_each f (x ∷ xs) = ap (λ z. link (f x).sign (f x).operand (f x).op z) (links_each f xs)

operands_each : {A : Type 0} (f : A → written.Operand) (xs : List A) → all_operands (map f xs) ≡ each_operand f xs
operands_each f [] = refl
operands_each f (x ∷ xs) = ap (λ z. written.operand (f x) z) (operands_each f xs)

expressions_each : {A : Type 0} (f : A → Expression) (xs : List A) → all_expressions (map f xs) ≡ each_expression f xs
expressions_each f [] = refl
expressions_each f (x ∷ xs) = ap (λ z. written.expression (f x) z) (expressions_each f xs)

qualifiers_each : {A : Type 0} (f : A → Qualifier) (xs : List A) → all_qualifiers (map f xs) ≡ each_qualifier f xs
qualifiers_each f [] = refl
qualifiers_each f (x ∷ xs) = ap (λ z. written.qualifier (f x) z) (qualifiers_each f xs)

alternatives_each : {A : Type 0} (f : A → Alternative) (xs : List A) → all_alternatives (map f xs) ≡ each_alternative f xs
alternatives_each f [] = refl
alternatives_each f (x ∷ xs) = ap (λ z. next_alternative (f x) z) (alternatives_each f xs)

guards_each : {A : Type 0} (f : A → Guarded) (xs : List A) → all_guards (map f xs) ≡ each_guard f xs
guards_each f [] = refl
guards_each f (x ∷ xs) = ap (λ z. guard (f x).condition (f x).value z) (guards_each f xs)

declarations_each : {A : Type 0} (f : A → Declaration) (xs : List A) → all_declarations (map f xs) ≡ each_declaration f xs
declarations_each f [] = refl
declarations_each f (x ∷ xs) = ap (λ z. declaration (f x) z) (declarations_each f xs)

pub aexp_tuple : (a : At) (e : Exp) (es : List CommaExp) (b : At) → aexp_of (v_aexp.Tuple a e es b) ≡ written.tuple a (written.expression (exp_of e) (each_expression comma_exp_of es))
aexp_tuple a e es b = ap aexp_of (sym (v_aexp.rolls-Tuple a e es b)) ∙ fold-roll-Aexp written.Operand Alternative Declaration written.Operand written.Operand Qualifier RightSide Declarations Alternatives written.Operand Guarded Declarations Expression Qualifier Guarded Expression Linked Alternative Declaration aexp_step alt_step decl_step list_exp_step operand_step qual_step rhs_step where_step alts_step apply_step arrow_guard_step block_step comma_exp_step comma_qual_step equal_guard_step exp_step link_step next_alt_step next_decl_step (Aexp-F.Tuple a e es b) ∙ ap (λ z. written.tuple a (written.expression (exp_of e) z)) (expressions_each comma_exp_of es)

pub alt_guarded : (p : Pat) (g : ArrowGuard) (gs : List ArrowGuard) (ds : Where) → alt_of (v_alt.Guarded p g gs ds) ≡ alternative (pat_of p) (guarded (arrow_guard_of g).bar (guard (arrow_guard_of g).condition (arrow_guard_of g).value (each_guard arrow_guard_of gs)) (where_of ds))
alt_guarded p g gs ds = ap alt_of (sym (v_alt.rolls-Guarded p g gs ds)) ∙ fold-roll-Alt written.Operand Alternative Declaration written.Operand written.Operand Qualifier RightSide Declarations Alternatives written.Operand Guarded Declarations Expression Qualifier Guarded Expression Linked Alternative Declaration aexp_step alt_step decl_step list_exp_step operand_step qual_step rhs_step where_step alts_step apply_step arrow_guard_step block_step comma_exp_step comma_qual_step equal_guard_step exp_step link_step next_alt_step next_decl_step (Alt-F.Guarded p g gs ds) ∙ ap (λ z. alternative (pat_of p) (guarded (arrow_guard_of g).bar (guard (arrow_guard_of g).condition (arrow_guard_of g).value z) (where_of ds))) (guards_each arrow_guard_of gs)

pub list_exp_members : (a : At) (e : Exp) (es : List CommaExp) (b : At) → list_exp_of (v_list_exp.Members a e es b) ≡ written.list a (written.expression (exp_of e) (each_expression comma_exp_of es))
list_exp_members a e es b = ap list_exp_of (sym (v_list_exp.rolls-Members a e es b)) ∙ fold-roll-ListExp written.Operand Alternative Declaration written.Operand written.Operand Qualifier RightSide Declarations Alternatives written.Operand Guarded Declarations Expression Qualifier Guarded Expression Linked Alternative Declaration aexp_step alt_step decl_step list_exp_step operand_step qual_step rhs_step where_step alts_step apply_step arrow_guard_step block_step comma_exp_step comma_qual_step equal_guard_step exp_step link_step next_alt_step next_decl_step (ListExp-F.Members a e es b) ∙ ap (λ z. written.list a (written.expression (exp_of e) z)) (expressions_each comma_exp_of es)

pub list_exp_comprehension : (a : At) (e : Exp) (b : At) (q : Qual) (qs : List CommaQual) (c : At) → list_exp_of (v_list_exp.Comprehension a e b q qs c) ≡ written.comprehension a (exp_of e) (written.qualifier (qual_of q) (each_qualifier comma_qual_of qs))
list_exp_comprehension a e b q qs c = ap list_exp_of (sym (v_list_exp.rolls-Comprehension a e b q qs c)) ∙ fold-roll-ListExp written.Operand Alternative Declaration written.Operand written.Operand Qualifier RightSide Declarations Alternatives written.Operand Guarded Declarations Expression Qualifier Guarded Expression Linked Alternative Declaration aexp_step alt_step decl_step list_exp_step operand_step qual_step rhs_step where_step alts_step apply_step arrow_guard_step block_step comma_exp_step comma_qual_step equal_guard_step exp_step link_step next_alt_step next_decl_step (ListExp-F.Comprehension a e b q qs c) ∙ ap (λ z. written.comprehension a (exp_of e) (written.qualifier (qual_of q) z)) (qualifiers_each comma_qual_of qs)

pub rhs_guards : (g : EqualGuard) (gs : List EqualGuard) (ds : Where) → rhs_of (v_rhs.Guards g gs ds) ≡ guarded (equal_guard_of g).bar (guard (equal_guard_of g).condition (equal_guard_of g).value (each_guard equal_guard_of gs)) (where_of ds)
rhs_guards g gs ds = ap rhs_of (sym (v_rhs.rolls-Guards g gs ds)) ∙ fold-roll-Rhs written.Operand Alternative Declaration written.Operand written.Operand Qualifier RightSide Declarations Alternatives written.Operand Guarded Declarations Expression Qualifier Guarded Expression Linked Alternative Declaration aexp_step alt_step decl_step list_exp_step operand_step qual_step rhs_step where_step alts_step apply_step arrow_guard_step block_step comma_exp_step comma_qual_step equal_guard_step exp_step link_step next_alt_step next_decl_step (Rhs-F.Guards g gs ds) ∙ ap (λ z. guarded (equal_guard_of g).bar (guard (equal_guard_of g).condition (equal_guard_of g).value z) (where_of ds)) (guards_each equal_guard_of gs)

pub alts_parts : (part : Alts) → alts_of part ≡ next_alternative (alt_of (out-Alts part).first) (each_alternative next_alt_of (out-Alts part).rest)
alts_parts part = ap alts_of (sym (roll-out-Alts part)) ∙ fold-roll-Alts written.Operand Alternative Declaration written.Operand written.Operand Qualifier RightSide Declarations Alternatives written.Operand Guarded Declarations Expression Qualifier Guarded Expression Linked Alternative Declaration aexp_step alt_step decl_step list_exp_step operand_step qual_step rhs_step where_step alts_step apply_step arrow_guard_step block_step comma_exp_step comma_qual_step equal_guard_step exp_step link_step next_alt_step next_decl_step (out-Alts part) ∙ ap (λ z. next_alternative (alt_of (out-Alts part).first) z) (alternatives_each next_alt_of (out-Alts part).rest)

pub apply_parts : (part : Apply) → apply_of part ≡ written.applied (aexp_of (out-Apply part).head) (each_operand aexp_of (out-Apply part).args)
apply_parts part = ap apply_of (sym (roll-out-Apply part)) ∙ fold-roll-Apply written.Operand Alternative Declaration written.Operand written.Operand Qualifier RightSide Declarations Alternatives written.Operand Guarded Declarations Expression Qualifier Guarded Expression Linked Alternative Declaration aexp_step alt_step decl_step list_exp_step operand_step qual_step rhs_step where_step alts_step apply_step arrow_guard_step block_step comma_exp_step comma_qual_step equal_guard_step exp_step link_step next_alt_step next_decl_step (out-Apply part) ∙ ap (λ z. written.applied (aexp_of (out-Apply part).head) z) (operands_each aexp_of (out-Apply part).args)

pub arrow_guard_parts : (part : ArrowGuard) → arrow_guard_of part ≡ record { bar = (out-ArrowGuard part).bar; condition = exp_of (out-ArrowGuard part).condition; value = exp_of (out-ArrowGuard part).exp }
arrow_guard_parts part = ap arrow_guard_of (sym (roll-out-ArrowGuard part)) ∙ fold-roll-ArrowGuard written.Operand Alternative Declaration written.Operand written.Operand Qualifier RightSide Declarations Alternatives written.Operand Guarded Declarations Expression Qualifier Guarded Expression Linked Alternative Declaration aexp_step alt_step decl_step list_exp_step operand_step qual_step rhs_step where_step alts_step apply_step arrow_guard_step block_step comma_exp_step comma_qual_step equal_guard_step exp_step link_step next_alt_step next_decl_step (out-ArrowGuard part)

pub block_parts : (part : Block) → block_of part ≡ declaration (decl_of (out-Block part).first) (each_declaration next_decl_of (out-Block part).rest)
block_parts part = ap block_of (sym (roll-out-Block part)) ∙ fold-roll-Block written.Operand Alternative Declaration written.Operand written.Operand Qualifier RightSide Declarations Alternatives written.Operand Guarded Declarations Expression Qualifier Guarded Expression Linked Alternative Declaration aexp_step alt_step decl_step list_exp_step operand_step qual_step rhs_step where_step alts_step apply_step arrow_guard_step block_step comma_exp_step comma_qual_step equal_guard_step exp_step link_step next_alt_step next_decl_step (out-Block part) ∙ ap (λ z. declaration (decl_of (out-Block part).first) z) (declarations_each next_decl_of (out-Block part).rest)

pub comma_exp_parts : (part : CommaExp) → comma_exp_of part ≡ exp_of (out-CommaExp part).exp
comma_exp_parts part = ap comma_exp_of (sym (roll-out-CommaExp part)) ∙ fold-roll-CommaExp written.Operand Alternative Declaration written.Operand written.Operand Qualifier RightSide Declarations Alternatives written.Operand Guarded Declarations Expression Qualifier Guarded Expression Linked Alternative Declaration aexp_step alt_step decl_step list_exp_step operand_step qual_step rhs_step where_step alts_step apply_step arrow_guard_step block_step comma_exp_step comma_qual_step equal_guard_step exp_step link_step next_alt_step next_decl_step (out-CommaExp part)

pub comma_qual_parts : (part : CommaQual) → comma_qual_of part ≡ qual_of (out-CommaQual part).qual
comma_qual_parts part = ap comma_qual_of (sym (roll-out-CommaQual part)) ∙ fold-roll-CommaQual written.Operand Alternative Declaration written.Operand written.Operand Qualifier RightSide Declarations Alternatives written.Operand Guarded Declarations Expression Qualifier Guarded Expression Linked Alternative Declaration aexp_step alt_step decl_step list_exp_step operand_step qual_step rhs_step where_step alts_step apply_step arrow_guard_step block_step comma_exp_step comma_qual_step equal_guard_step exp_step link_step next_alt_step next_decl_step (out-CommaQual part)

pub equal_guard_parts : (part : EqualGuard) → equal_guard_of part ≡ record { bar = (out-EqualGuard part).bar; condition = exp_of (out-EqualGuard part).condition; value = exp_of (out-EqualGuard part).exp }
equal_guard_parts part = ap equal_guard_of (sym (roll-out-EqualGuard part)) ∙ fold-roll-EqualGuard written.Operand Alternative Declaration written.Operand written.Operand Qualifier RightSide Declarations Alternatives written.Operand Guarded Declarations Expression Qualifier Guarded Expression Linked Alternative Declaration aexp_step alt_step decl_step list_exp_step operand_step qual_step rhs_step where_step alts_step apply_step arrow_guard_step block_step comma_exp_step comma_qual_step equal_guard_step exp_step link_step next_alt_step next_decl_step (out-EqualGuard part)

pub exp_parts : (part : Exp) → exp_of part ≡ chain (each_link link_of (out-Exp part).links) (out-Exp part).sign (operand_of (out-Exp part).last)
exp_parts part = ap exp_of (sym (roll-out-Exp part)) ∙ fold-roll-Exp written.Operand Alternative Declaration written.Operand written.Operand Qualifier RightSide Declarations Alternatives written.Operand Guarded Declarations Expression Qualifier Guarded Expression Linked Alternative Declaration aexp_step alt_step decl_step list_exp_step operand_step qual_step rhs_step where_step alts_step apply_step arrow_guard_step block_step comma_exp_step comma_qual_step equal_guard_step exp_step link_step next_alt_step next_decl_step (out-Exp part) ∙ ap (λ z. chain z (out-Exp part).sign (operand_of (out-Exp part).last)) (links_each link_of (out-Exp part).links)

pub link_parts : (part : Link) → link_of part ≡ record { sign = (out-Link part).sign; operand = apply_of (out-Link part).left; op = (out-Link part).op }
link_parts part = ap link_of (sym (roll-out-Link part)) ∙ fold-roll-Link written.Operand Alternative Declaration written.Operand written.Operand Qualifier RightSide Declarations Alternatives written.Operand Guarded Declarations Expression Qualifier Guarded Expression Linked Alternative Declaration aexp_step alt_step decl_step list_exp_step operand_step qual_step rhs_step where_step alts_step apply_step arrow_guard_step block_step comma_exp_step comma_qual_step equal_guard_step exp_step link_step next_alt_step next_decl_step (out-Link part)

pub next_alt_parts : (part : NextAlt) → next_alt_of part ≡ alt_of (out-NextAlt part).alt
next_alt_parts part = ap next_alt_of (sym (roll-out-NextAlt part)) ∙ fold-roll-NextAlt written.Operand Alternative Declaration written.Operand written.Operand Qualifier RightSide Declarations Alternatives written.Operand Guarded Declarations Expression Qualifier Guarded Expression Linked Alternative Declaration aexp_step alt_step decl_step list_exp_step operand_step qual_step rhs_step where_step alts_step apply_step arrow_guard_step block_step comma_exp_step comma_qual_step equal_guard_step exp_step link_step next_alt_step next_decl_step (out-NextAlt part)

pub next_decl_parts : (part : NextDecl) → next_decl_of part ≡ decl_of (out-NextDecl part).decl
next_decl_parts part = ap next_decl_of (sym (roll-out-NextDecl part)) ∙ fold-roll-NextDecl written.Operand Alternative Declaration written.Operand written.Operand Qualifier RightSide Declarations Alternatives written.Operand Guarded Declarations Expression Qualifier Guarded Expression Linked Alternative Declaration aexp_step alt_step decl_step list_exp_step operand_step qual_step rhs_step where_step alts_step apply_step arrow_guard_step block_step comma_exp_step comma_qual_step equal_guard_step exp_step link_step next_alt_step next_decl_step (out-NextDecl part)

pub ruleset mirrored_expressions = (aexp_tuple, alt_guarded, list_exp_members, list_exp_comprehension, rhs_guards, alts_parts, apply_parts, arrow_guard_parts, block_parts, comma_exp_parts, comma_qual_parts, equal_guard_parts, exp_parts, link_parts, next_alt_parts, next_decl_parts)
