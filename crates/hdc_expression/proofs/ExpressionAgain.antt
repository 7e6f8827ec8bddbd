-- Each rule of expressions reads again what is spelled, unless a limit comes.
use Rattle.std.proofs.Common.{◌≡◌, ℕ, zero, suc, Bool, true, false, ◌&&◌, not, cond, List, [], ◌∷◌, ◌++◌, length, Option, Some, None, Ok, inl, inr, refl, sym, ◌∙◌, ap, append_assoc, append-nil, subst}
use Rattle.hdc_base.specs.declared.place.At.{At}
use Rattle.hdc_base.specs.declared.token.Key.TheVariants as key
use Rattle.hdc_base.specs.declared.token.Token.{Token}
use Rattle.hdc_tree.specs.declared.name.Name.{Name}
use Rattle.hdc_tree.specs.declared.name.Literal.{Literal}
use Rattle.hdc_tree.specs.declared.name.Literal.TheVariants as lit
use Rattle.hdc_tree.specs.declared.name.Op.{Op}
use Rattle.hdc_tree.specs.declared.name.Op.TheVariants as operator
use Rattle.hdc_tree.specs.declared.name.Sign.{Sign}
use Rattle.hdc_tree.specs.declared.name.Sign.TheVariants as sign
use Rattle.hdc_tree.specs.declared.name.Var.{Var}
use Rattle.hdc_tree.specs.declared.name.Var.TheVariants as var
use Rattle.hdc_tree.specs.declared.name.VarOp.TheVariants as var_op
use Rattle.hdc_tree.specs.declared.pattern.Apat.{Apat}
use Rattle.hdc_tree.specs.declared.pattern.Pat.{Pat}
use Rattle.hdc_tree.specs.declared.expression.Aexp.{Aexp}
use Rattle.hdc_tree.specs.declared.expression.Aexp.TheVariants as a
use Rattle.hdc_tree.specs.declared.expression.Alts.{Alts}
use Rattle.hdc_tree.specs.declared.expression.Apply.{Apply, roll-Apply}
use Rattle.hdc_tree.specs.declared.expression.Block.{Block}
use Rattle.hdc_tree.specs.declared.expression.CommaExp.{CommaExp, roll-CommaExp}
use Rattle.hdc_tree.specs.declared.expression.CommaQual.{CommaQual, roll-CommaQual}
use Rattle.hdc_tree.specs.declared.expression.Exp.{Exp}
use Rattle.hdc_tree.specs.declared.expression.Link.{Link, roll-Link}
use Rattle.hdc_tree.specs.declared.expression.ListExp.{ListExp}
use Rattle.hdc_tree.specs.declared.expression.ListExp.TheVariants as l
use Rattle.hdc_tree.specs.declared.expression.Operand.{Operand}
use Rattle.hdc_tree.specs.declared.expression.Operand.TheVariants as o
use Rattle.hdc_tree.specs.declared.expression.Qual.{Qual}
use Rattle.hdc_tree.specs.declared.expression.Qual.TheVariants as q
use Rattle.hdc_tree.specs.NameSpelling.{key_onto, minus_onto, literal_onto, var_onto, op_onto, sign_onto, each_onto}
use Rattle.hdc_tree.specs.PatternSpelling.{apat_onto, pat_onto}
use Rattle.hdc_tree.specs.ExpressionSpelling.{aexp_onto, alts_onto, apply_onto, block_onto, comma_exp_onto, comma_qual_onto, exp_onto, link_onto, list_exp_onto, operand_onto, qual_onto}
use Rattle.hdc_tree.specs.Form.{each_formed, few}
use Rattle.hdc_tree.specs.PatternForm.{formed_apat, formed_pat}
use Rattle.hdc_tree.specs.ExpressionForm.{is_minus, formed_aexp, formed_alts, formed_apply, formed_block, formed_comma_exp, formed_comma_qual, formed_exp, formed_link, formed_list_exp, formed_operand, formed_qual}
use Rattle.hdc_tree.proofs.ExpressionCases.{aexp_cases, apply_cases, comma_exp_cases, comma_qual_cases, exp_cases, link_cases, list_exp_cases, operand_cases, qual_cases}
use Rattle.hdc_tree.proofs.ExpressionEquations.{aexp_var, aexp_con, aexp_literal, aexp_unit, aexp_nil, aexp_cons, aexp_paren, aexp_tuple, aexp_list, aexp_left_section, aexp_right_section, apply_made, comma_exp_made, comma_qual_made, exp_made, link_made, list_exp_members, list_exp_range, list_exp_comprehension, operand_applied, operand_lambda, operand_let, operand_if, operand_case, qual_generator, qual_condition, qual_local}
use Rattle.hdc_tree.proofs.ExpressionFormed.{formed_aexp_paren, formed_aexp_tuple, formed_aexp_list, formed_aexp_left_section, formed_aexp_right_section, formed_apply_made, formed_comma_exp_made, formed_comma_qual_made, formed_exp_made, formed_link_made, formed_list_exp_members, formed_list_exp_range, formed_list_exp_comprehension, formed_operand_applied, formed_operand_lambda, formed_operand_let, formed_operand_if, formed_operand_case, formed_qual_generator, formed_qual_condition, formed_qual_local}
use Rattle.hdc_syntax.specs.Parser.{Parser, pure, refuse, head}
use Rattle.hdc_syntax.specs.Words.{is, is_minus_text}
use Rattle.hdc_syntax.specs.Names.{starts_op, quoted_op}
use Rattle.hdc_syntax.proofs.NameRules.{always, again_op, op_starts}
use Rattle.hdc_syntax.proofs.Tests.{both, first_part, second_part, not_true, not_both}
use Rattle.hdc_syntax.proofs.Meets.{Meets, meets_return, meets_deep, meets_then, meets_yes, meets_no, meets_first, meets_second, Items, may_all, meets_many, meets_at_most}
use Rattle.hdc_syntax.proofs.PatternAgain.{not_key, few_more, apats_no_at, again_apats, again_pat, starts_pat, pat_starts}
use Rattle.hdc_expression.specs.declared.qualifier.QualHead.{QualHead}
use Rattle.hdc_expression.specs.declared.qualifier.QualHead.TheVariants as h
use Rattle.hdc_expression.specs.ExpressionReader.{Opened, Inner, starts_aexp, ends_qual, made, linked, whole, comma_exp, comma_exps, tuple_exp, parens_behind, inside, right_section, cons_in, symbol_in, parens_by, parens, generator, condition, qual_behind, let_qual, qual, comma_qual, comma_quals, range, comprehension, members, brackets_behind, brackets, aexp, aexps, apply, lambda, let_in, choice, last_op, cases, signed, after_op, operands, chain_by, chain, exp_level}
use Rattle.hdc_expression.proofs.Opened.{tail, ends_exp, Follows, MeetsInner}
use Rattle.hdc_expression.proofs.ExpressionStarts.{same_behind, starts_operand, apply_starts_operand, aexp_starts, apply_starts, operand_starts, chain_starts, starts_exp, exp_no_close_paren, exp_no_close_bracket, operand_no_symbol, operand_no_minus, exp_front, exp_let, no_op, op_no_aexp, follows_no_aexp, qual_ends_exp, comma_exp_starts, comma_exp_ends_exp, comma_exp_no_close, comma_qual_starts, comma_qual_ends_qual}

module _ (turns : ℕ) (inner : Inner) (m : MeetsInner inner)
    (none : (e : Exp) (k : List Token) → ends_qual (head k) ≡ true → (y : QualHead) (rest : List Token) → generator turns inner (exp_onto e k) ≡ Ok (y, rest) → ⊥) where
  pub again_whole : (e : Exp) → formed_exp e ≡ true → (k : List Token) → ends_exp (head k) ≡ true → Meets Exp (whole turns inner (exp_onto e k)) e k
  unfolding whole
  again_whole e w k f = meets_then _ (m.exp false sign.Absent e w None k f (exp_onto e k) refl) (meets_return e k)

  pub again_comma_exp : (x : CommaExp) → formed_comma_exp x ≡ true → (k : List Token) → ends_exp (head k) ≡ true → Meets CommaExp (comma_exp turns inner (comma_exp_onto x k)) x k
  unfolding comma_exp
  again_comma_exp x w k f = comma_exp_cases (λ x. formed_comma_exp x ≡ true → Meets CommaExp (comma_exp turns inner (comma_exp_onto x k)) x k)
      (λ comma e w. subst (λ (z : List Token). Meets CommaExp (comma_exp turns inner z) (roll-CommaExp (record { comma = comma; exp = e })) k) (sym (comma_exp_made comma e k))
      (meets_then _ (again_whole e (sym (formed_comma_exp_made comma e) ∙ w) k f) (meets_return (roll-CommaExp (record { comma = comma; exp = e })) k)))
      x w

  more_exps : Items CommaExp comma_exp_onto formed_comma_exp (is key.KComma) ends_exp (comma_exp turns inner)
  more_exps = record { reads = again_comma_exp; begins = comma_exp_starts; follows = comma_exp_ends_exp }

  comma_exps_end_exp : (xs : List CommaExp) (k : List Token) → ends_exp (head k) ≡ true → ends_exp (head (each_onto comma_exp_onto xs k)) ≡ true
  comma_exps_end_exp = may_all CommaExp comma_exp_onto formed_comma_exp (is key.KComma) ends_exp (comma_exp turns inner) more_exps

  pub again_comma_exps : (xs : List CommaExp) → each_formed formed_comma_exp xs ≡ true → (k : List Token) → is key.KComma (head k) ≡ false → ends_exp (head k) ≡ true → Meets (List CommaExp) (comma_exps turns inner (each_onto comma_exp_onto xs k)) xs k
  again_comma_exps xs w k e f = meets_many CommaExp comma_exp_onto formed_comma_exp (is key.KComma) ends_exp (comma_exp turns inner) more_exps turns [] xs k w e f

  -- ---- in parentheses

  pub again_tuple_exp : (open_at : At) (first : Exp) (rest : List CommaExp) (close_at : At) → each_formed formed_comma_exp rest ≡ true → few rest ≡ true → (k : List Token)
      → Meets Aexp (tuple_exp turns inner open_at first (each_onto comma_exp_onto rest (key_onto close_at key.KCloseParen k))) (a.Tuple open_at first rest close_at) k
  unfolding tuple_exp
  again_tuple_exp open_at first [] close_at w small k = absurd (cc)
  again_tuple_exp open_at first (second ∷ more) close_at w small k =
      let k1 : List Token = key_onto close_at key.KCloseParen k in
      meets_then _ (again_comma_exp second (first_part (formed_comma_exp second) (each_formed formed_comma_exp more) w) (each_onto comma_exp_onto more k1) (comma_exps_end_exp more k1 refl))
      (meets_then _ (meets_at_most CommaExp comma_exp_onto formed_comma_exp (is key.KComma) ends_exp (comma_exp turns inner) more_exps 5 (second ∷ []) more k1
      (second_part (formed_comma_exp second) (each_formed formed_comma_exp more) w) (few_more (length more) small) refl refl)
      (meets_return (a.Tuple open_at first (second ∷ more) close_at) k))

  again_parens_tuple : (open_at : At) (first : Exp) (rest : List CommaExp) (close_at : At) → each_formed formed_comma_exp rest ≡ true → few rest ≡ true → (k : List Token)
      → Meets Aexp (parens_behind turns inner open_at first None (each_onto comma_exp_onto rest (key_onto close_at key.KCloseParen k))) (a.Tuple open_at first rest close_at) k
  again_parens_tuple open_at first [] close_at w small k = absurd (cc)
  again_parens_tuple open_at first (second ∷ more) close_at w small k =
      meets_no _ _ (comma_exp_no_close second (each_onto comma_exp_onto more (key_onto close_at key.KCloseParen k))) (again_tuple_exp open_at first (second ∷ more) close_at w small k)

  pub again_inside : (open_at : At) (taken : Sign) (e : Exp) → formed_exp e ≡ true → (end : Option Op) (k : List Token) → Follows true end k → (ts : List Token) → exp_onto e (tail end k) ≡ sign_onto taken ts
      → (y : Aexp) (rest : List Token) → Meets Aexp (parens_behind turns inner open_at e end k) y rest → Meets Aexp (inside turns inner open_at taken ts) y rest
  unfolding inside
  again_inside open_at taken e w end k f ts same y rest n = meets_then _ (m.exp true taken e w end k f ts same) n

  by_sign : (open_at at : At) (e : Exp) → formed_exp e ≡ true → (end : Option Op) (k : List Token) → Follows true end k → (ts : List Token) → exp_onto e (tail end k) ≡ minus_onto at ts → starts_operand (head ts) ≡ true
      → (y : Aexp) (rest : List Token) → Meets Aexp (parens_behind turns inner open_at e end k) y rest → Meets Aexp (parens_by turns inner open_at (head (minus_onto at ts)) (minus_onto at ts)) y rest
  unfolding symbol_in
  by_sign open_at at e w end k f ts same starts y rest n = meets_no _ _ (not_key starts_operand key.KCloseParen (λ at. refl) (head ts) starts) (again_inside open_at (sign.Minus at) e w end k f ts same y rest n)

  by_operand : (open_at : At) (e : Exp) → formed_exp e ≡ true → (end : Option Op) (k : List Token) → Follows true end k → starts_operand (head (exp_onto e (tail end k))) ≡ true
      → (y : Aexp) (rest : List Token) → Meets Aexp (parens_behind turns inner open_at e end k) y rest → Meets Aexp (parens_by turns inner open_at (head (exp_onto e (tail end k))) (exp_onto e (tail end k))) y rest
  by_operand open_at e w end k f starts y rest n =
      let ts : List Token = exp_onto e (tail end k) in
      meets_no _ _ (not_key starts_operand key.KCloseParen (λ at. refl) (head ts) starts)
      (meets_no _ _ (not_key starts_operand key.KColon (λ at. refl) (head ts) starts)
      (meets_no _ _ (operand_no_symbol (head ts) starts)
      (meets_no _ _ (not_key starts_operand key.KBackquote (λ at. refl) (head ts) starts)
      (again_inside open_at sign.Absent e w end k f ts refl y rest n))))

  -- an expression behind a parenthesis, and what is read behind it
  pub again_parens_exp : (open_at : At) (e : Exp) → formed_exp e ≡ true → (end : Option Op) (k : List Token) → Follows true end k
      → (y : Aexp) (rest : List Token) → Meets Aexp (parens_behind turns inner open_at e end k) y rest → Meets Aexp (parens turns inner (key_onto open_at key.KOpenParen (exp_onto e (tail end k)))) y rest
  unfolding parens
  again_parens_exp open_at e w end k f y rest n = elim (exp_front e) [
    | inl s ↦ let t = s.1 (tail end k) in
        subst (λ (z : List Token). Meets Aexp (parens_by turns inner open_at (head z) z) y rest) (sym t.1) (by_sign open_at s.0 e w end k f t.0 t.1 t.2 y rest n)
    | inr s ↦ by_operand open_at e w end k f (s (tail end k)) y rest n
  ]

  pub again_right_section : (open_at : At) (y : Op) (e : Exp) (close_at : At) → formed_exp e ≡ true → (k : List Token)
      → Meets Aexp (right_section turns inner open_at y (exp_onto e (key_onto close_at key.KCloseParen k))) (a.RightSection open_at y e close_at) k
  unfolding right_section
  again_right_section open_at y e close_at w k = meets_then _ (again_whole e w (key_onto close_at key.KCloseParen k) refl) (meets_return (a.RightSection open_at y e close_at) k)

  again_parens_op : (open_at : At) (y : Op) (e : Exp) (close_at : At) → formed_exp e ≡ true → not (is_minus y) ≡ true → (k : List Token)
      → Meets Aexp (parens turns inner (key_onto open_at key.KOpenParen (op_onto y (exp_onto e (key_onto close_at key.KCloseParen k))))) (a.RightSection open_at y e close_at) k
  unfolding parens cons_in symbol_in quoted_op
  again_parens_op open_at (operator.Var (var_op.Symbol n)) e close_at w other k =
      meets_no _ _ (exp_no_close_paren e (key_onto close_at key.KCloseParen k)) (meets_no _ _ (not_true (is_minus_text n.text) other) (again_right_section open_at (operator.Var (var_op.Symbol n)) e close_at w k))
  again_parens_op open_at (operator.Var (var_op.Quoted o n c)) e close_at w other k = again_right_section open_at (operator.Var (var_op.Quoted o n c)) e close_at w k
  again_parens_op open_at (operator.Cons at) e close_at w other k = meets_no _ _ (exp_no_close_paren e (key_onto close_at key.KCloseParen k)) (again_right_section open_at (operator.Cons at) e close_at w k)
  again_parens_op open_at (operator.Con o n c) e close_at w other k = again_right_section open_at (operator.Con o n c) e close_at w k

  -- ---- qualifiers

  pub again_generator : (x : Pat) → formed_pat x ≡ true → (arrow : At) (k : List Token) → Meets QualHead (generator turns inner (pat_onto x (key_onto arrow key.KLeftArrow k))) (h.Source x arrow) k
  unfolding generator
  again_generator x w arrow k = meets_then _ (again_pat turns inner.apat m.apat x w (key_onto arrow key.KLeftArrow k) refl) (meets_return (h.Source x arrow) k)

  pub again_condition : (e : Exp) → formed_exp e ≡ true → (k : List Token) → ends_qual (head k) ≡ true → Meets QualHead (condition turns inner (exp_onto e k)) (h.Condition e) k
  unfolding condition
  again_condition e w k f = meets_then _ (again_whole e w k (qual_ends_exp (head k) f)) (meets_yes (pure (h.Condition e)) refuse f (meets_return (h.Condition e) k))

  qual_no_in : (k : List Token) → ends_qual (head k) ≡ true → is key.KIn (head k) ≡ false
  qual_no_in k f = not_key ends_qual key.KIn (λ at. refl) (head k) f

  by_generator : (x : Pat) (arrow : At) (e : Exp) → formed_pat x ≡ true → formed_exp e ≡ true → (k : List Token) → ends_qual (head k) ≡ true
      → Meets Qual (qual turns inner (pat_onto x (key_onto arrow key.KLeftArrow (exp_onto e k)))) (q.Generator x arrow e) k
  unfolding qual
  by_generator x arrow e v w k f =
      let ts : List Token = pat_onto x (key_onto arrow key.KLeftArrow (exp_onto e k)) in
      meets_no _ _ (not_key starts_pat key.KLet (λ at. refl) (head ts) (pat_starts x (key_onto arrow key.KLeftArrow (exp_onto e k))))
      (meets_then (qual_behind turns inner) (meets_first (generator turns inner) (condition turns inner) {ts = ts} (again_generator x v arrow (exp_onto e k)))
      (meets_then _ (again_whole e w k (qual_ends_exp (head k) f)) (meets_return (q.Generator x arrow e) k)))

  by_condition : (e : Exp) → formed_exp e ≡ true → (k : List Token) → ends_qual (head k) ≡ true → is key.KLet (head (exp_onto e k)) ≡ false → Meets Qual (qual turns inner (exp_onto e k)) (q.Condition e) k
  unfolding qual
  by_condition e w k f n = meets_no _ _ n
      (meets_then (qual_behind turns inner) (meets_second (generator turns inner) (condition turns inner) {ts = exp_onto e k} (none e k f) (again_condition e w k f)) (meets_return (q.Condition e) k))

  by_let : (at : At) (decls : Block) (in_at : At) (body : Exp) → formed_block decls ≡ true → formed_exp body ≡ true → (k : List Token) → ends_qual (head k) ≡ true
      → Meets Qual (qual turns inner (key_onto at key.KLet (block_onto decls (key_onto in_at key.KIn (exp_onto body k))))) (q.Condition (made [] sign.Absent (o.Let at decls in_at body))) k
  unfolding qual let_qual
  by_let at decls in_at body v w k f = meets_then _ (m.block decls v (key_onto in_at key.KIn (exp_onto body k)))
      (meets_then _ (again_whole body w k (qual_ends_exp (head k) f)) (meets_return (q.Condition (made [] sign.Absent (o.Let at decls in_at body))) k))

  let_alone : (at : At) (decls : Block) (in_at : At) (body : Exp) → formed_exp (made [] sign.Absent (o.Let at decls in_at body)) ≡ true → (k : List Token) → ends_qual (head k) ≡ true
      → Meets Qual (qual turns inner (exp_onto (made [] sign.Absent (o.Let at decls in_at body)) k)) (q.Condition (made [] sign.Absent (o.Let at decls in_at body))) k
  let_alone at decls in_at body w k f =
      let e = made [] sign.Absent (o.Let at decls in_at body) in
      let v = sym (formed_operand_let at decls in_at body) ∙ sym (formed_exp_made [] sign.Absent (o.Let at decls in_at body)) ∙ w in
      subst (λ (z : List Token). Meets Qual (qual turns inner z) (q.Condition e) k) (sym (exp_made [] sign.Absent (o.Let at decls in_at body) k ∙ operand_let at decls in_at body k))
      (by_let at decls in_at body (first_part (formed_block decls) (formed_exp body) v) (second_part (formed_block decls) (formed_exp body) v) k f)

  again_qual_exp : (e : Exp) → formed_exp e ≡ true → (k : List Token) → ends_qual (head k) ≡ true → Meets Qual (qual turns inner (exp_onto e k)) (q.Condition e) k
  again_qual_exp e w k f = elim (exp_let e) [
    | inl s ↦ subst (λ (z : Exp). Meets Qual (qual turns inner (exp_onto z k)) (q.Condition z) k) (sym s.same) (let_alone s.at s.decls s.in_at s.body (ap formed_exp (sym s.same) ∙ w) k f)
    | inr n ↦ by_condition e w k f (n k)
  ]

  again_qual_local : (at : At) (decls : Block) → formed_block decls ≡ true → (k : List Token) → ends_qual (head k) ≡ true → Meets Qual (qual turns inner (key_onto at key.KLet (block_onto decls k))) (q.Local at decls) k
  unfolding qual let_qual
  again_qual_local at decls w k f = meets_then _ (m.block decls w k) (meets_no _ _ (qual_no_in k f) (meets_return (q.Local at decls) k))

  pub again_qual : (x : Qual) → formed_qual x ≡ true → (k : List Token) → ends_qual (head k) ≡ true → Meets Qual (qual turns inner (qual_onto x k)) x k
  again_qual x w k f = qual_cases (λ x. formed_qual x ≡ true → Meets Qual (qual turns inner (qual_onto x k)) x k)
      (λ p arrow e w. let v = sym (formed_qual_generator p arrow e) ∙ w in
      subst (λ (z : List Token). Meets Qual (qual turns inner z) (q.Generator p arrow e) k) (sym (qual_generator p arrow e k))
      (by_generator p arrow e (first_part (formed_pat p) (formed_exp e) v) (second_part (formed_pat p) (formed_exp e) v) k f))
      (λ e w. subst (λ (z : List Token). Meets Qual (qual turns inner z) (q.Condition e) k) (sym (qual_condition e k)) (again_qual_exp e (sym (formed_qual_condition e) ∙ w) k f))
      (λ at decls w. subst (λ (z : List Token). Meets Qual (qual turns inner z) (q.Local at decls) k) (sym (qual_local at decls k)) (again_qual_local at decls (sym (formed_qual_local at decls) ∙ w) k f))
      x w

  pub again_comma_qual : (x : CommaQual) → formed_comma_qual x ≡ true → (k : List Token) → ends_qual (head k) ≡ true → Meets CommaQual (comma_qual turns inner (comma_qual_onto x k)) x k
  unfolding comma_qual
  again_comma_qual x w k f = comma_qual_cases (λ x. formed_comma_qual x ≡ true → Meets CommaQual (comma_qual turns inner (comma_qual_onto x k)) x k)
      (λ comma y w. subst (λ (z : List Token). Meets CommaQual (comma_qual turns inner z) (roll-CommaQual (record { comma = comma; qual = y })) k) (sym (comma_qual_made comma y k))
      (meets_then _ (again_qual y (sym (formed_comma_qual_made comma y) ∙ w) k f) (meets_return (roll-CommaQual (record { comma = comma; qual = y })) k)))
      x w

  more_quals : Items CommaQual comma_qual_onto formed_comma_qual (is key.KComma) ends_qual (comma_qual turns inner)
  more_quals = record { reads = again_comma_qual; begins = comma_qual_starts; follows = comma_qual_ends_qual }

  comma_quals_end_qual : (xs : List CommaQual) (k : List Token) → ends_qual (head k) ≡ true → ends_qual (head (each_onto comma_qual_onto xs k)) ≡ true
  comma_quals_end_qual = may_all CommaQual comma_qual_onto formed_comma_qual (is key.KComma) ends_qual (comma_qual turns inner) more_quals

  pub again_comma_quals : (xs : List CommaQual) → each_formed formed_comma_qual xs ≡ true → (k : List Token) → is key.KComma (head k) ≡ false → ends_qual (head k) ≡ true → Meets (List CommaQual) (comma_quals turns inner (each_onto comma_qual_onto xs k)) xs k
  again_comma_quals xs w k e f = meets_many CommaQual comma_qual_onto formed_comma_qual (is key.KComma) ends_qual (comma_qual turns inner) more_quals turns [] xs k w e f

  -- ---- in brackets

  pub again_range : (open_at : At) (low : Exp) (dots : At) (high : Exp) (close_at : At) → formed_exp high ≡ true → (k : List Token)
      → Meets Aexp (range turns inner open_at low (key_onto dots key.KDots (exp_onto high (key_onto close_at key.KCloseBracket k)))) (a.List (l.Range open_at low dots high close_at)) k
  unfolding range
  again_range open_at low dots high close_at w k = meets_then _ (again_whole high w (key_onto close_at key.KCloseBracket k) refl) (meets_return (a.List (l.Range open_at low dots high close_at)) k)

  pub again_comprehension : (open_at : At) (e : Exp) (bar : At) (x : Qual) (xs : List CommaQual) (close_at : At) → formed_qual x ≡ true → each_formed formed_comma_qual xs ≡ true → (k : List Token)
      → Meets Aexp (comprehension turns inner open_at e (key_onto bar key.KBar (qual_onto x (each_onto comma_qual_onto xs (key_onto close_at key.KCloseBracket k))))) (a.List (l.Comprehension open_at e bar x xs close_at)) k
  unfolding comprehension
  again_comprehension open_at e bar x xs close_at v w k =
      let k1 : List Token = key_onto close_at key.KCloseBracket k in
      meets_then _ (again_qual x v (each_onto comma_qual_onto xs k1) (comma_quals_end_qual xs k1 refl))
      (meets_then _ (again_comma_quals xs w k1 refl refl) (meets_return (a.List (l.Comprehension open_at e bar x xs close_at)) k))

  pub again_members : (open_at : At) (first : Exp) (rest : List CommaExp) (close_at : At) → each_formed formed_comma_exp rest ≡ true → (k : List Token)
      → Meets Aexp (members turns inner open_at first (each_onto comma_exp_onto rest (key_onto close_at key.KCloseBracket k))) (a.List (l.Members open_at first rest close_at)) k
  unfolding members
  again_members open_at first rest close_at w k = meets_then _ (again_comma_exps rest w (key_onto close_at key.KCloseBracket k) refl refl) (meets_return (a.List (l.Members open_at first rest close_at)) k)

  again_members_behind : (open_at : At) (first : Exp) (rest : List CommaExp) (close_at : At) → each_formed formed_comma_exp rest ≡ true → (k : List Token)
      → Meets Aexp (brackets_behind turns inner open_at first (each_onto comma_exp_onto rest (key_onto close_at key.KCloseBracket k))) (a.List (l.Members open_at first rest close_at)) k
  again_members_behind open_at first [] close_at w k = again_members open_at first [] close_at w k
  again_members_behind open_at first (second ∷ more) close_at w k =
      let ts : List Token = each_onto comma_exp_onto (second ∷ more) (key_onto close_at key.KCloseBracket k) in
      let e = comma_exp_starts second (each_onto comma_exp_onto more (key_onto close_at key.KCloseBracket k)) in
      meets_no _ _ (not_key (is key.KComma) key.KDots (λ at. refl) (head ts) e) (meets_no _ _ (not_key (is key.KComma) key.KBar (λ at. refl) (head ts) e) (again_members open_at first (second ∷ more) close_at w k))

  again_brackets_exp : (open_at : At) (e : Exp) → formed_exp e ≡ true → (k : List Token) → ends_exp (head k) ≡ true → (y : Aexp) (rest : List Token) → Meets Aexp (brackets_behind turns inner open_at e k) y rest
      → Meets Aexp (brackets turns inner (key_onto open_at key.KOpenBracket (exp_onto e k))) y rest
  unfolding brackets
  again_brackets_exp open_at e w k f y rest n = meets_no _ _ (exp_no_close_bracket e k) (meets_then _ (again_whole e w k f) n)

  pub again_brackets : (x : ListExp) → formed_list_exp x ≡ true → (k : List Token) → Meets Aexp (brackets turns inner (list_exp_onto x k)) (a.List x) k
  again_brackets x w k = list_exp_cases (λ x. formed_list_exp x ≡ true → Meets Aexp (brackets turns inner (list_exp_onto x k)) (a.List x) k)
      (λ open_at e es close_at w.
      let v = sym (formed_list_exp_members open_at e es close_at) ∙ w in
      let k1 : List Token = key_onto close_at key.KCloseBracket k in
      subst (λ (z : List Token). Meets Aexp (brackets turns inner z) (a.List (l.Members open_at e es close_at)) k) (sym (list_exp_members open_at e es close_at k))
      (again_brackets_exp open_at e (first_part (formed_exp e) (each_formed formed_comma_exp es) v) (each_onto comma_exp_onto es k1) (comma_exps_end_exp es k1 refl) (a.List (l.Members open_at e es close_at)) k
      (again_members_behind open_at e es close_at (second_part (formed_exp e) (each_formed formed_comma_exp es) v) k)))
      (λ open_at low dots high close_at w.
      let v = sym (formed_list_exp_range open_at low dots high close_at) ∙ w in
      let k1 : List Token = key_onto dots key.KDots (exp_onto high (key_onto close_at key.KCloseBracket k)) in
      subst (λ (z : List Token). Meets Aexp (brackets turns inner z) (a.List (l.Range open_at low dots high close_at)) k) (sym (list_exp_range open_at low dots high close_at k))
      (again_brackets_exp open_at low (first_part (formed_exp low) (formed_exp high) v) k1 refl (a.List (l.Range open_at low dots high close_at)) k
      (again_range open_at low dots high close_at (second_part (formed_exp low) (formed_exp high) v) k)))
      (λ open_at e bar y ys close_at w.
      let v = sym (formed_list_exp_comprehension open_at e bar y ys close_at) ∙ w in
      let u = second_part (formed_exp e) (formed_qual y && each_formed formed_comma_qual ys) v in
      let k1 : List Token = key_onto bar key.KBar (qual_onto y (each_onto comma_qual_onto ys (key_onto close_at key.KCloseBracket k))) in
      subst (λ (z : List Token). Meets Aexp (brackets turns inner z) (a.List (l.Comprehension open_at e bar y ys close_at)) k) (sym (list_exp_comprehension open_at e bar y ys close_at k))
      (again_brackets_exp open_at e (first_part (formed_exp e) (formed_qual y && each_formed formed_comma_qual ys) v) k1 refl (a.List (l.Comprehension open_at e bar y ys close_at)) k
      (again_comprehension open_at e bar y ys close_at (first_part (formed_qual y) (each_formed formed_comma_qual ys) u) (second_part (formed_qual y) (each_formed formed_comma_qual ys) u) k)))
      x w

  -- ---- arguments

  again_variable : (x : Var) (k : List Token) → Meets Aexp (aexp turns inner (var_onto x k)) (a.Var x) k
  unfolding aexp parens symbol_in
  again_variable (var.Plain n) k = meets_return (a.Var (var.Plain n)) k
  again_variable (var.Operator open_at n close_at) k = meets_return (a.Var (var.Operator open_at n close_at)) k

  again_literal_exp : (at : At) (x : Literal) (k : List Token) → Meets Aexp (aexp turns inner (literal_onto at x k)) (a.Literal at x) k
  unfolding aexp
  again_literal_exp at (lit.Num n) k = meets_return (a.Literal at (lit.Num n)) k
  again_literal_exp at (lit.Chr c) k = meets_return (a.Literal at (lit.Chr c)) k
  again_literal_exp at (lit.Str cs) k = meets_return (a.Literal at (lit.Str cs)) k

  -- by the token that opens it
  by_parens : (open_at : At) (ts : List Token) (y : Aexp) (rest : List Token) → Meets Aexp (parens turns inner (key_onto open_at key.KOpenParen ts)) y rest → Meets Aexp (aexp turns inner (key_onto open_at key.KOpenParen ts)) y rest
  unfolding aexp
  by_parens open_at ts y rest n = n

  by_brackets : (x : ListExp) (k : List Token) (y : Aexp) (rest : List Token) → Meets Aexp (brackets turns inner (list_exp_onto x k)) y rest → Meets Aexp (aexp turns inner (list_exp_onto x k)) y rest
  unfolding aexp
  by_brackets x k y rest n = list_exp_cases (λ x. Meets Aexp (brackets turns inner (list_exp_onto x k)) y rest → Meets Aexp (aexp turns inner (list_exp_onto x k)) y rest)
      (λ open_at e es close_at n. subst (λ (z : List Token). Meets Aexp (aexp turns inner z) y rest) (sym (list_exp_members open_at e es close_at k))
      (subst (λ (z : List Token). Meets Aexp (brackets turns inner z) y rest) (list_exp_members open_at e es close_at k) n))
      (λ open_at low dots high close_at n. subst (λ (z : List Token). Meets Aexp (aexp turns inner z) y rest) (sym (list_exp_range open_at low dots high close_at k))
      (subst (λ (z : List Token). Meets Aexp (brackets turns inner z) y rest) (list_exp_range open_at low dots high close_at k) n))
      (λ open_at e bar z zs close_at n. subst (λ (z : List Token). Meets Aexp (aexp turns inner z) y rest) (sym (list_exp_comprehension open_at e bar z zs close_at k))
      (subst (λ (z : List Token). Meets Aexp (brackets turns inner z) y rest) (list_exp_comprehension open_at e bar z zs close_at k) n))
      x n

  again_unit_exp : (open_at close_at : At) (k : List Token) → Meets Aexp (aexp turns inner (key_onto open_at key.KOpenParen (key_onto close_at key.KCloseParen k))) (a.Unit open_at close_at) k
  unfolding aexp parens
  again_unit_exp open_at close_at k = meets_return (a.Unit open_at close_at) k

  again_nil_exp : (open_at close_at : At) (k : List Token) → Meets Aexp (aexp turns inner (key_onto open_at key.KOpenBracket (key_onto close_at key.KCloseBracket k))) (a.Nil open_at close_at) k
  unfolding aexp brackets
  again_nil_exp open_at close_at k = meets_return (a.Nil open_at close_at) k

  again_cons_exp : (open_at at close_at : At) (k : List Token) → Meets Aexp (aexp turns inner (key_onto open_at key.KOpenParen (key_onto at key.KColon (key_onto close_at key.KCloseParen k)))) (a.Cons open_at at close_at) k
  unfolding aexp parens cons_in
  again_cons_exp open_at at close_at k = meets_return (a.Cons open_at at close_at) k

  again_con_exp : (n : Name) (k : List Token) → Meets Aexp (aexp turns inner (aexp_onto (a.Con n) k)) (a.Con n) k
  unfolding aexp
  again_con_exp n k = subst (λ (z : List Token). Meets Aexp (aexp turns inner z) (a.Con n) k) (sym (aexp_con n k)) (meets_return (a.Con n) k)

  pub again_aexp : (x : Aexp) → formed_aexp x ≡ true → (k : List Token) → Meets Aexp (aexp turns inner (aexp_onto x k)) x k
  again_aexp x w k = aexp_cases (λ x. formed_aexp x ≡ true → Meets Aexp (aexp turns inner (aexp_onto x k)) x k)
      (λ v w. subst (λ (z : List Token). Meets Aexp (aexp turns inner z) (a.Var v) k) (sym (aexp_var v k)) (again_variable v k))
      (λ n w. again_con_exp n k)
      (λ at y w. subst (λ (z : List Token). Meets Aexp (aexp turns inner z) (a.Literal at y) k) (sym (aexp_literal at y k)) (again_literal_exp at y k))
      (λ open_at close_at w. subst (λ (z : List Token). Meets Aexp (aexp turns inner z) (a.Unit open_at close_at) k) (sym (aexp_unit open_at close_at k)) (again_unit_exp open_at close_at k))
      (λ open_at close_at w. subst (λ (z : List Token). Meets Aexp (aexp turns inner z) (a.Nil open_at close_at) k) (sym (aexp_nil open_at close_at k)) (again_nil_exp open_at close_at k))
      (λ open_at at close_at w. subst (λ (z : List Token). Meets Aexp (aexp turns inner z) (a.Cons open_at at close_at) k) (sym (aexp_cons open_at at close_at k)) (again_cons_exp open_at at close_at k))
      (λ open_at e close_at w.
      let k1 : List Token = key_onto close_at key.KCloseParen k in
      subst (λ (z : List Token). Meets Aexp (aexp turns inner z) (a.Paren open_at e close_at) k) (sym (aexp_paren open_at e close_at k))
      (by_parens open_at (exp_onto e k1) (a.Paren open_at e close_at) k
      (again_parens_exp open_at e (sym (formed_aexp_paren open_at e close_at) ∙ w) None k1 refl (a.Paren open_at e close_at) k (meets_return (a.Paren open_at e close_at) k))))
      (λ open_at e es close_at w.
      let k1 : List Token = key_onto close_at key.KCloseParen k in
      let k2 : List Token = each_onto comma_exp_onto es k1 in
      let v = sym (formed_aexp_tuple open_at e es close_at) ∙ w in
      let u = second_part (formed_exp e) (each_formed formed_comma_exp es && few es) v in
      subst (λ (z : List Token). Meets Aexp (aexp turns inner z) (a.Tuple open_at e es close_at) k) (sym (aexp_tuple open_at e es close_at k))
      (by_parens open_at (exp_onto e k2) (a.Tuple open_at e es close_at) k
      (again_parens_exp open_at e (first_part (formed_exp e) (each_formed formed_comma_exp es && few es) v) None k2 (comma_exps_end_exp es k1 refl) (a.Tuple open_at e es close_at) k
      (again_parens_tuple open_at e es close_at (first_part (each_formed formed_comma_exp es) (few es) u) (second_part (each_formed formed_comma_exp es) (few es) u) k))))
      (λ y w. subst (λ (z : List Token). Meets Aexp (aexp turns inner z) (a.List y) k) (sym (aexp_list y k)) (by_brackets y k (a.List y) k (again_brackets y (sym (formed_aexp_list y) ∙ w) k)))
      (λ open_at e y close_at w.
      let k1 : List Token = key_onto close_at key.KCloseParen k in
      subst (λ (z : List Token). Meets Aexp (aexp turns inner z) (a.LeftSection open_at e y close_at) k) (sym (aexp_left_section open_at e y close_at k))
      (by_parens open_at (exp_onto e (op_onto y k1)) (a.LeftSection open_at e y close_at) k
      (again_parens_exp open_at e (sym (formed_aexp_left_section open_at e y close_at) ∙ w) (Some y) k1 (refl, refl) (a.LeftSection open_at e y close_at) k (meets_return (a.LeftSection open_at e y close_at) k))))
      (λ open_at y e close_at w.
      let k1 : List Token = key_onto close_at key.KCloseParen k in
      let v = sym (formed_aexp_right_section open_at y e close_at) ∙ w in
      subst (λ (z : List Token). Meets Aexp (aexp turns inner z) (a.RightSection open_at y e close_at) k) (sym (aexp_right_section open_at y e close_at k))
      (by_parens open_at (op_onto y (exp_onto e k1)) (a.RightSection open_at y e close_at) k
      (again_parens_op open_at y e close_at (first_part (formed_exp e) (not (is_minus y)) v) (second_part (formed_exp e) (not (is_minus y)) v) k)))
      x w

  args : Items Aexp aexp_onto formed_aexp starts_aexp always (aexp turns inner)
  args = record { reads = λ x w k e. again_aexp x w k; begins = aexp_starts; follows = λ x k. refl }

  pub again_aexps : (xs : List Aexp) → each_formed formed_aexp xs ≡ true → (k : List Token) → starts_aexp (head k) ≡ false → Meets (List Aexp) (aexps turns inner (each_onto aexp_onto xs k)) xs k
  again_aexps xs w k e = meets_many Aexp aexp_onto formed_aexp starts_aexp always (aexp turns inner) args turns [] xs k w e refl

  pub again_apply : (x : Apply) → formed_apply x ≡ true → (k : List Token) → starts_aexp (head k) ≡ false → Meets Apply (apply turns inner (apply_onto x k)) x k
  unfolding apply
  again_apply x w k f = apply_cases (λ x. formed_apply x ≡ true → Meets Apply (apply turns inner (apply_onto x k)) x k)
      (λ y ys w. let v = sym (formed_apply_made y ys) ∙ w in
      subst (λ (z : List Token). Meets Apply (apply turns inner z) (roll-Apply (record { head = y; args = ys })) k) (sym (apply_made y ys k))
      (meets_then _ (again_aexp y (first_part (formed_aexp y) (each_formed formed_aexp ys) v) (each_onto aexp_onto ys k))
      (meets_then _ (again_aexps ys (second_part (formed_aexp y) (each_formed formed_aexp ys) v) k f) (meets_return (roll-Apply (record { head = y; args = ys })) k))))
      x w

  -- ---- operands

  pub again_lambda : (section : Bool) (links : List Link) (s : Sign) (at : At) (first : Apat) (rest : List Apat) (arrow : At) (e : Exp) → formed_apat first ≡ true → each_formed formed_apat rest ≡ true → formed_exp e ≡ true
      → (end : Option Op) (k : List Token) → Follows section end k
      → Meets Opened (lambda turns inner section links s (key_onto at key.KBackslash (apat_onto first (each_onto apat_onto rest (key_onto arrow key.KRightArrow (exp_onto e (tail end k))))))) (made links s (o.Lambda at first rest arrow e), end) k
  unfolding lambda
  again_lambda section links s at first rest arrow e u v w end k f =
      let k1 : List Token = key_onto arrow key.KRightArrow (exp_onto e (tail end k)) in
      meets_then _ (m.apat first u (each_onto apat_onto rest k1) (apats_no_at rest k1 refl))
      (meets_then _ (again_apats turns inner.apat m.apat rest v k1 refl refl)
      (meets_then _ (m.exp section sign.Absent e w end k f (exp_onto e (tail end k)) refl) (meets_return (made links s (o.Lambda at first rest arrow e), end) k)))

  pub again_let_in : (section : Bool) (links : List Link) (s : Sign) (at : At) (decls : Block) (in_at : At) (e : Exp) → formed_block decls ≡ true → formed_exp e ≡ true → (end : Option Op) (k : List Token) → Follows section end k
      → Meets Opened (let_in turns inner section links s (key_onto at key.KLet (block_onto decls (key_onto in_at key.KIn (exp_onto e (tail end k)))))) (made links s (o.Let at decls in_at e), end) k
  unfolding let_in
  again_let_in section links s at decls in_at e v w end k f =
      meets_then _ (m.block decls v (key_onto in_at key.KIn (exp_onto e (tail end k))))
      (meets_then _ (m.exp section sign.Absent e w end k f (exp_onto e (tail end k)) refl) (meets_return (made links s (o.Let at decls in_at e), end) k))

  pub again_choice : (section : Bool) (links : List Link) (s : Sign) (at : At) (c : Exp) (then_at : At) (d : Exp) (else_at : At) (e : Exp) → formed_exp c ≡ true → formed_exp d ≡ true → formed_exp e ≡ true
      → (end : Option Op) (k : List Token) → Follows section end k
      → Meets Opened (choice turns inner section links s (key_onto at key.KIf (exp_onto c (key_onto then_at key.KThen (exp_onto d (key_onto else_at key.KElse (exp_onto e (tail end k)))))))) (made links s (o.If at c then_at d else_at e), end) k
  unfolding choice
  again_choice section links s at c then_at d else_at e u v w end k f =
      let k1 : List Token = key_onto else_at key.KElse (exp_onto e (tail end k)) in
      meets_then _ (again_whole c u (key_onto then_at key.KThen (exp_onto d k1)) refl)
      (meets_then _ (again_whole d v k1 refl)
      (meets_then _ (m.exp section sign.Absent e w end k f (exp_onto e (tail end k)) refl) (meets_return (made links s (o.If at c then_at d else_at e), end) k)))

  pub again_last_op : (section : Bool) (end : Option Op) (k : List Token) → Follows section end k → Meets (Option Op) (last_op turns inner section (tail end k)) end k
  again_last_op section None k f = meets_no _ _ (not_both section (starts_op (head k)) (no_op (starts_aexp (head k)) (starts_op (head k)) f)) (meets_return None k)
  again_last_op section (Some y) k f = meets_yes _ _ (both section (starts_op (head (op_onto y k))) f.0 (op_starts y k)) (meets_then _ (again_op y k) (meets_return (Some y) k))

  pub again_cases : (section : Bool) (links : List Link) (s : Sign) (at : At) (e : Exp) (of_at : At) (alts : Alts) → formed_exp e ≡ true → formed_alts alts ≡ true → (end : Option Op) (k : List Token) → Follows section end k
      → Meets Opened (cases turns inner section links s (key_onto at key.KCase (exp_onto e (key_onto of_at key.KOf (alts_onto alts (tail end k)))))) (made links s (o.Case at e of_at alts), end) k
  unfolding cases
  again_cases section links s at e of_at alts v w end k f =
      meets_then _ (again_whole e v (key_onto of_at key.KOf (alts_onto alts (tail end k))) refl)
      (meets_then _ (m.alts alts w (tail end k))
      (meets_then _ (again_last_op section end k f) (meets_return (made links s (o.Case at e of_at alts), end) k)))

  -- ---- chains

  pub again_signed : (taken s : Sign) (u ts : List Token) → starts_operand (head u) ≡ true → sign_onto s u ≡ sign_onto taken ts → Meets Sign (signed turns inner taken ts) s u
  again_signed sign.Absent sign.Absent u ts e same = subst (λ (z : List Token). Meets Sign (signed turns inner sign.Absent z) sign.Absent u) same (meets_no _ _ (operand_no_minus (head u) e) (meets_return sign.Absent u))
  again_signed sign.Absent (sign.Minus at) u ts e same = subst (λ (z : List Token). Meets Sign (signed turns inner sign.Absent z) (sign.Minus at) u) same (meets_return (sign.Minus at) u)
  again_signed (sign.Minus at) sign.Absent u ts e same = let f : starts_operand (head u) ≡ false = ap (λ z. starts_operand (head z)) same in absurd (cc)
  again_signed (sign.Minus at) (sign.Minus there) u ts e same = let f = same_behind there at u ts same in
      subst (λ (z : Sign). Meets Sign (signed turns inner (sign.Minus at) ts) z u) (sym f.0) (subst (λ (z : List Token). Meets Sign (Ok (sign.Minus at, ts)) (sign.Minus at) z) (sym f.1) (meets_return (sign.Minus at) ts))

  module _ (go : List Link → Parser Opened) (section : Bool) (links : List Link) (s : Sign) where
    by_aexp : (u : List Token) (y : Opened) (rest : List Token) → starts_aexp (head u) ≡ true → Meets Opened (operands turns inner go section links s u) y rest → Meets Opened (chain_by turns inner go section links s (head u) u) y rest
    by_aexp u y rest e n =
        meets_no _ _ (not_key starts_aexp key.KBackslash (λ at. refl) (head u) e)
        (meets_no _ _ (not_key starts_aexp key.KLet (λ at. refl) (head u) e)
        (meets_no _ _ (not_key starts_aexp key.KIf (λ at. refl) (head u) e)
        (meets_no _ _ (not_key starts_aexp key.KCase (λ at. refl) (head u) e) n)))

    after_last : (x : Apply) (end : Option Op) (k : List Token) → Follows section end k
        → Meets Opened (cond (starts_op (head (tail end k))) (after_op turns inner go section links s x) (pure (made links s (o.Applied x), None)) (tail end k)) (made links s (o.Applied x), end) k
    unfolding after_op
    after_last x None k f = meets_no _ _ (no_op (starts_aexp (head k)) (starts_op (head k)) f) (meets_return (made links s (o.Applied x), None) k)
    after_last x (Some y) k f = meets_yes _ _ (op_starts y k) (meets_then _ (again_op y k) (meets_yes _ _ (both section (is key.KCloseParen (head k)) f.0 f.1) (meets_return (made links s (o.Applied x), Some y) k)))

    again_operands : (x : Apply) → formed_apply x ≡ true → (end : Option Op) (k : List Token) → Follows section end k → Meets Opened (operands turns inner go section links s (apply_onto x (tail end k))) (made links s (o.Applied x), end) k
    unfolding operands
    again_operands x w end k f = meets_then _ (again_apply x w (tail end k) (follows_no_aexp section end k f)) (after_last x end k f)

    again_linked : (x : Apply) (y : Op) (rest : List Token) → formed_apply x ≡ true → is key.KCloseParen (head rest) ≡ false → (z : Opened) (k : List Token) → Meets Opened (go (linked links s x y) rest) z k
        → Meets Opened (operands turns inner go section links s (apply_onto x (op_onto y rest))) z k
    unfolding operands after_op
    again_linked x y rest w e z k n = meets_then _ (again_apply x w (op_onto y rest) (op_no_aexp y rest))
        (meets_yes _ _ (op_starts y rest) (meets_then _ (again_op y rest) (meets_no _ _ (not_both section (is key.KCloseParen (head rest)) e) n)))

    again_last : (x : Operand) → formed_operand x ≡ true → (end : Option Op) (k : List Token) → Follows section end k
        → Meets Opened (chain_by turns inner go section links s (head (operand_onto x (tail end k))) (operand_onto x (tail end k))) (made links s x, end) k
    again_last x w end k f = operand_cases (λ x. formed_operand x ≡ true → Meets Opened (chain_by turns inner go section links s (head (operand_onto x (tail end k))) (operand_onto x (tail end k))) (made links s x, end) k)
        (λ y w. subst (λ (z : List Token). Meets Opened (chain_by turns inner go section links s (head z) z) (made links s (o.Applied y), end) k) (sym (operand_applied y (tail end k)))
        (by_aexp (apply_onto y (tail end k)) (made links s (o.Applied y), end) k (apply_starts y (tail end k)) (again_operands y (sym (formed_operand_applied y) ∙ w) end k f)))
        (λ at y ys arrow e w.
        let v = sym (formed_operand_lambda at y ys arrow e) ∙ w in
        let u = second_part (formed_apat y) (each_formed formed_apat ys && formed_exp e) v in
        subst (λ (z : List Token). Meets Opened (chain_by turns inner go section links s (head z) z) (made links s (o.Lambda at y ys arrow e), end) k) (sym (operand_lambda at y ys arrow e (tail end k)))
        (again_lambda section links s at y ys arrow e (first_part (formed_apat y) (each_formed formed_apat ys && formed_exp e) v) (first_part (each_formed formed_apat ys) (formed_exp e) u) (second_part (each_formed formed_apat ys) (formed_exp e) u) end k f))
        (λ at decls in_at e w.
        let v = sym (formed_operand_let at decls in_at e) ∙ w in
        subst (λ (z : List Token). Meets Opened (chain_by turns inner go section links s (head z) z) (made links s (o.Let at decls in_at e), end) k) (sym (operand_let at decls in_at e (tail end k)))
        (again_let_in section links s at decls in_at e (first_part (formed_block decls) (formed_exp e) v) (second_part (formed_block decls) (formed_exp e) v) end k f))
        (λ at c then_at d else_at e w.
        let v = sym (formed_operand_if at c then_at d else_at e) ∙ w in
        let u = second_part (formed_exp c) (formed_exp d && formed_exp e) v in
        subst (λ (z : List Token). Meets Opened (chain_by turns inner go section links s (head z) z) (made links s (o.If at c then_at d else_at e), end) k) (sym (operand_if at c then_at d else_at e (tail end k)))
        (again_choice section links s at c then_at d else_at e (first_part (formed_exp c) (formed_exp d && formed_exp e) v) (first_part (formed_exp d) (formed_exp e) u) (second_part (formed_exp d) (formed_exp e) u) end k f))
        (λ at e of_at alts w.
        let v = sym (formed_operand_case at e of_at alts) ∙ w in
        subst (λ (z : List Token). Meets Opened (chain_by turns inner go section links s (head z) z) (made links s (o.Case at e of_at alts), end) k) (sym (operand_case at e of_at alts (tail end k)))
        (again_cases section links s at e of_at alts (first_part (formed_exp e) (formed_alts alts) v) (second_part (formed_exp e) (formed_alts alts) v) end k f))
        x w

  again_chain : (section : Bool) (n : ℕ) (taken : Sign) (found more : List Link) (s : Sign) (last : Operand) → each_formed formed_link more ≡ true → formed_operand last ≡ true
      → (end : Option Op) (k : List Token) → Follows section end k → (ts : List Token) → each_onto link_onto more (sign_onto s (operand_onto last (tail end k))) ≡ sign_onto taken ts
      → Meets Opened (chain turns inner section n taken found ts) (made (found ++ more) s last, end) k
  unfolding chain
  again_chain section zero taken found more s last v w end k f ts same = meets_deep (made (found ++ more) s last, end) k
  again_chain section (suc n) taken found [] s last v w end k f ts same =
      subst (λ (z : List Link). Meets Opened (chain turns inner section (suc n) taken found ts) (made z s last, end) k) (sym (append-nil found))
      (meets_then _ (again_signed taken s (operand_onto last (tail end k)) ts (operand_starts last (tail end k)) same) (again_last (chain turns inner section n sign.Absent) section found s last w end k f))
  again_chain section (suc n) taken found (x ∷ xs) s last v w end k f ts same =
      let rest : List Token = each_onto link_onto xs (sign_onto s (operand_onto last (tail end k))) in
      link_cases (λ x. formed_link x ≡ true → link_onto x rest ≡ sign_onto taken ts → Meets Opened (chain turns inner section (suc n) taken found ts) (made (found ++ x ∷ xs) s last, end) k)
      (λ t y z u same.
      let link : Link = roll-Link (record { sign = t; left = y; op = z }) in
      let ys : List Token = apply_onto y (op_onto z rest) in
      meets_then _ (again_signed taken t ys ts (apply_starts_operand y (op_onto z rest)) (sym (link_made t y z rest) ∙ same))
      (by_aexp (chain turns inner section n sign.Absent) section found t ys (made (found ++ link ∷ xs) s last, end) k (apply_starts y (op_onto z rest))
      (again_linked (chain turns inner section n sign.Absent) section found t y z rest (sym (formed_link_made t y z) ∙ u) (not_key starts_exp key.KCloseParen (λ at. refl) (head rest) (chain_starts xs s last (tail end k))) (made (found ++ link ∷ xs) s last, end) k
      (subst (λ (z : List Link). Meets Opened (chain turns inner section n sign.Absent (found ++ link ∷ []) rest) (made z s last, end) k) (append_assoc found (link ∷ []) xs)
      (again_chain section n sign.Absent (found ++ link ∷ []) xs s last (second_part (formed_link x) (each_formed formed_link xs) v) w end k f rest refl)))))
      x (first_part (formed_link x) (each_formed formed_link xs) v) same

  pub again_exp_level : (section : Bool) (taken : Sign) (e : Exp) → formed_exp e ≡ true → (end : Option Op) (k : List Token) → Follows section end k → (ts : List Token) → exp_onto e (tail end k) ≡ sign_onto taken ts
      → Meets Opened (exp_level turns inner section taken ts) (e, end) k
  again_exp_level section taken e w end k f ts same = exp_cases (λ e. formed_exp e ≡ true → exp_onto e (tail end k) ≡ sign_onto taken ts → Meets Opened (exp_level turns inner section taken ts) (e, end) k)
      (λ xs s x w same. let v = sym (formed_exp_made xs s x) ∙ w in
      again_chain section turns taken [] xs s x (first_part (each_formed formed_link xs) (formed_operand x) v) (second_part (each_formed formed_link xs) (formed_operand x) v) end k f ts (sym (exp_made xs s x (tail end k)) ∙ same))
      e w same
