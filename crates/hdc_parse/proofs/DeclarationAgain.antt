-- Each rule of declarations reads again what is spelled, unless a limit comes.
use Rattle.std.proofs.Common.{◌≡◌, ℕ, Bool, true, false, ◌&&◌, not, List, [], ◌∷◌, Option, Ok, inl, inr, refl, sym, ◌∙◌, ap, subst}
use Rattle.hdc_base.specs.declared.place.At.{At}
use Rattle.hdc_base.specs.declared.token.Key.TheVariants as key
use Rattle.hdc_base.specs.declared.token.Word.TheVariants as word
use Rattle.hdc_base.specs.declared.token.Token.{Token}
use Rattle.hdc_tree.specs.declared.name.CommaVar.{CommaVar}
use Rattle.hdc_tree.specs.declared.name.Name.{Name}
use Rattle.hdc_tree.specs.declared.name.Var.{Var}
use Rattle.hdc_tree.specs.declared.name.Var.TheVariants as var_of
use Rattle.hdc_tree.specs.declared.name.VarOp.{VarOp}
use Rattle.hdc_tree.specs.declared.pattern.Apat.{Apat, out-Apat}
use Rattle.hdc_tree.specs.declared.pattern.Apat.TheVariants as a
use Rattle.hdc_tree.specs.declared.pattern.LeftPat.{LeftPat}
use Rattle.hdc_tree.specs.declared.pattern.LeftPat.TheVariants as l
use Rattle.hdc_tree.specs.declared.pattern.ConsPat.{ConsPat}
use Rattle.hdc_tree.specs.declared.pattern.Pat.{Pat, roll-Pat}
use Rattle.hdc_tree.specs.declared.type_tree.TypeExp.{TypeExp}
use Rattle.hdc_tree.specs.declared.head.Head.{Head}
use Rattle.hdc_tree.specs.declared.head.Head.TheVariants as lhs
use Rattle.hdc_tree.specs.declared.expression.Block.{Block, roll-Block}
use Rattle.hdc_tree.specs.declared.expression.Decl.{Decl}
use Rattle.hdc_tree.specs.declared.expression.Decl.TheVariants as d
use Rattle.hdc_tree.specs.declared.expression.Exp.{Exp}
use Rattle.hdc_tree.specs.declared.expression.NextDecl.{NextDecl, roll-NextDecl}
use Rattle.hdc_tree.specs.declared.expression.Rhs.{Rhs}
use Rattle.hdc_tree.specs.NameSpelling.{word_onto, key_onto, small_onto, capital_onto, minus_onto, var_onto, var_op_onto, comma_var_onto, each_onto}
use Rattle.hdc_tree.specs.HeadSpelling.{head_onto}
use Rattle.hdc_tree.specs.PatternSpelling.{apat_onto, left_pat_onto, comma_pat_onto, cons_pat_onto, pat_onto}
use Rattle.hdc_tree.specs.TypeSpelling.{type_exp_onto}
use Rattle.hdc_tree.specs.ExpressionSpelling.{block_onto, decl_onto, exp_onto, next_decl_onto, rhs_onto}
use Rattle.hdc_tree.specs.Form.{each_formed, few}
use Rattle.hdc_tree.specs.HeadForm.{formed_head}
use Rattle.hdc_tree.specs.PatternForm.{formed_apat, formed_left_pat, formed_comma_pat, formed_cons_pat, formed_pat, is_variable, is_plain_name}
use Rattle.hdc_tree.specs.TypeForm.{formed_type_exp}
use Rattle.hdc_tree.specs.ExpressionForm.{formed_block, formed_decl, formed_next_decl, formed_rhs}
use Rattle.hdc_tree.proofs.PatternCases.{apat_cases, left_pat_cases, pat_cases}
use Rattle.hdc_tree.proofs.PatternEquations.{apat_var, apat_as, apat_wildcard, apat_con, apat_literal, apat_unit, apat_nil, apat_paren, apat_tuple, apat_list, left_pat_plain, left_pat_applied, left_pat_negative, pat_made}
use Rattle.hdc_tree.proofs.PatternFormed.{formed_apat_as, formed_apat_paren, formed_apat_tuple, formed_left_pat_plain, formed_left_pat_applied, formed_pat_made, is_variable_var}
use Rattle.hdc_tree.proofs.ExpressionCases.{block_cases, decl_cases, next_decl_cases}
use Rattle.hdc_tree.proofs.ExpressionEquations.{block_made, decl_empty, decl_signature, decl_equation, decl_binding, next_decl_made}
use Rattle.hdc_tree.proofs.ExpressionFormed.{formed_block_made, formed_decl_signature, formed_decl_equation, formed_decl_binding, formed_next_decl_made}
use Rattle.hdc_syntax.specs.Parser.{head}
use Rattle.hdc_syntax.specs.Words.{is, is_small, is_capital, is_minus}
use Rattle.hdc_syntax.specs.Names.{starts_var_op}
use Rattle.hdc_syntax.proofs.NameRules.{always, again_var, again_var_op, var_op_starts}
use Rattle.hdc_syntax.proofs.Tests.{first_part, second_part, not_both}
use Rattle.hdc_syntax.proofs.Meets.{Meets, meets_return, meets_then, meets_yes, meets_no, Items, may_all, meets_many}
use Rattle.hdc_syntax.specs.PatternReader.{starts_apat, cons_pat, parens_behind}
use Rattle.hdc_syntax.proofs.PatternAgain.{not_key, apat_starts, apats_no_at, cons_pat_starts, ends_left, ends_pat, left_no_apat, left_no_at, pat_ends_left, pat_no_colon, again_apats, again_applied_pat, again_negative_pat, again_cons_pat, again_pat_behind, cons_pats_end_left, comma_pats_end_pat, again_parens_paren, again_parens_tuple}
use Rattle.hdc_syntax.proofs.TypeAgain.{again_type_exp}
use Rattle.hdc_expression.specs.declared.qualifier.QualHead.{QualHead}
use Rattle.hdc_expression.specs.ExpressionReader.{Inner, ends_qual, generator}
use Rattle.hdc_expression.proofs.Opened.{MeetsInner}
use Rattle.hdc_expression.specs.DeclarationReader.{ends_member, comma_var, signature, prefix_decl, var_behind, infix_decl, binding, left_behind, apat_behind, as_decl, cons_decl, named, constructed, negative, paren_infix, paren_left, paren_behind, symbol_decl, paren_constructed, parens, stated, decl, next_decl, next_decls, block}
use Rattle.hdc_parse.proofs.AlternativeAgain.{again_rhs}
use Rattle.hdc_parse.proofs.DeclarationStarts.{second_of, each_always, member_ends_type, next_decl_starts, next_decl_ends_member, rhs_no_apat, rhs_no_at, rhs_ends_pat, rhs_no_var_op, starts_params, params_start, params_no_var_op, params_no_signature, var_op_ends_left, var_op_no_colon, var_no_member, head_no_member, pat_ends_no_member, cons_pat_ends_left, cons_no_var_op, comma_no_var_op, apat_no_symbol, apat_no_minus, apat_no_close_paren, literal_no_small, literal_no_paren, literal_no_capital, apat_capital, apat_variable, plain_alone}

module _ (turns : ℕ) (inner : Inner) (m : MeetsInner inner)
    (none : (e : Exp) (k : List Token) → ends_qual (head k) ≡ true → (y : QualHead) (rest : List Token) → generator turns inner (exp_onto e k) ≡ Ok (y, rest) → ⊥) where
  -- ---- declarations behind what tells them apart

  pub again_comma_var : (x : CommaVar) (k : List Token) → Meets CommaVar (comma_var turns inner (comma_var_onto x k)) x k
  unfolding comma_var
  again_comma_var x k = meets_then _ (again_var x.var k) (meets_return x k)

  more_vars : Items CommaVar comma_var_onto always (is key.KComma) always (comma_var turns inner)
  more_vars = record { reads = λ x v k e. again_comma_var x k; begins = λ x k. refl; follows = λ x k. refl }

  pub again_signature : (x : Var) (xs : List CommaVar) (at : At) (part : TypeExp) → formed_type_exp part ≡ true → (k : List Token) → ends_member (head k) ≡ true
      → Meets Decl (signature turns inner x (each_onto comma_var_onto xs (key_onto at key.KDoubleColon (type_exp_onto part k)))) (d.Signature x xs at part) k
  unfolding signature
  again_signature x xs at part v k f =
      meets_then _ (meets_many CommaVar comma_var_onto always (is key.KComma) always (comma_var turns inner) more_vars turns [] xs (key_onto at key.KDoubleColon (type_exp_onto part k)) (each_always xs) refl refl)
      (meets_then _ (again_type_exp turns inner.atype m.atype part v k (member_ends_type (head k) f)) (meets_return (d.Signature x xs at part) k))

  var_behind_signature : (x : Var) (xs : List CommaVar) (at : At) (part : TypeExp) → formed_type_exp part ≡ true → (k : List Token) → ends_member (head k) ≡ true
      → Meets Decl (var_behind turns inner x (each_onto comma_var_onto xs (key_onto at key.KDoubleColon (type_exp_onto part k)))) (d.Signature x xs at part) k
  var_behind_signature x [] at part v k f = again_signature x [] at part v k f
  var_behind_signature x (y ∷ ys) at part v k f = again_signature x (y ∷ ys) at part v k f

  pub again_prefix_decl : (x : Var) (ps : List Apat) (right : Rhs) → each_formed formed_apat ps ≡ true → formed_rhs right ≡ true → (k : List Token) → ends_member (head k) ≡ true
      → Meets Decl (prefix_decl turns inner x (each_onto apat_onto ps (rhs_onto right k))) (d.Equation (lhs.Prefix x ps) right) k
  unfolding prefix_decl
  again_prefix_decl x ps right u v k f = meets_then _ (again_apats turns inner.apat m.apat ps u (rhs_onto right k) (rhs_no_apat right k) (rhs_no_at right k))
      (meets_then _ (again_rhs turns inner m none right v k f) (meets_return (d.Equation (lhs.Prefix x ps) right) k))

  var_behind_prefix : (x : Var) (ps : List Apat) (right : Rhs) → each_formed formed_apat ps ≡ true → formed_rhs right ≡ true → (k : List Token) → ends_member (head k) ≡ true
      → Meets Decl (var_behind turns inner x (each_onto apat_onto ps (rhs_onto right k))) (d.Equation (lhs.Prefix x ps) right) k
  var_behind_prefix x ps right u v k f = meets_no _ _ (params_no_signature (head (each_onto apat_onto ps (rhs_onto right k))) (params_start ps right k)) (again_prefix_decl x ps right u v k f)

  pub again_infix_decl : (x : Apat) (o : VarOp) (y : Apat) (right : Rhs) → formed_apat y ≡ true → formed_rhs right ≡ true → (k : List Token) → ends_member (head k) ≡ true
      → Meets Decl (infix_decl turns inner x (var_op_onto o (apat_onto y (rhs_onto right k)))) (d.Equation (lhs.Infix x o y) right) k
  unfolding infix_decl
  again_infix_decl x o y right u v k f = meets_then _ (again_var_op o (apat_onto y (rhs_onto right k)))
      (meets_then _ (m.apat y u (rhs_onto right k) (rhs_no_at right k))
      (meets_then _ (again_rhs turns inner m none right v k f) (meets_return (d.Equation (lhs.Infix x o y) right) k)))

  again_binding : (x : Pat) (right : Rhs) → formed_rhs right ≡ true → (k : List Token) → ends_member (head k) ≡ true → Meets Decl (binding turns inner x (rhs_onto right k)) (d.Binding x right) k
  again_binding x right v k f = meets_then _ (again_rhs turns inner m none right v k f) (meets_return (d.Binding x right) k)

  pub again_left_behind : (x : LeftPat) (xs : List ConsPat) (right : Rhs) → each_formed formed_cons_pat xs ≡ true → formed_rhs right ≡ true → (k : List Token) → ends_member (head k) ≡ true
      → Meets Decl (left_behind turns inner x (each_onto cons_pat_onto xs (rhs_onto right k))) (d.Binding (roll-Pat (record { first = x; rest = xs })) right) k
  unfolding left_behind
  again_left_behind x xs right u v k f = meets_then _ (again_pat_behind turns inner.apat m.apat x xs u (rhs_onto right k) (rhs_ends_pat right k)) (again_binding (roll-Pat (record { first = x; rest = xs })) right v k f)

  apat_behind_infix : (top : Bool) (x : Apat) (o : VarOp) (y : Apat) (right : Rhs) → formed_apat y ≡ true → formed_rhs right ≡ true → (k : List Token) → ends_member (head k) ≡ true
      → Meets Decl (apat_behind turns inner top x (var_op_onto o (apat_onto y (rhs_onto right k)))) (d.Equation (lhs.Infix x o y) right) k
  apat_behind_infix top x o y right u v k f =
      let k1 : List Token = var_op_onto o (apat_onto y (rhs_onto right k)) in
      meets_yes _ _ (second_of top (starts_var_op (head k1)) (var_op_starts o (apat_onto y (rhs_onto right k)))) (again_infix_decl x o y right u v k f)

  apat_behind_left : (x : Apat) (xs : List ConsPat) (right : Rhs) → each_formed formed_cons_pat xs ≡ true → formed_rhs right ≡ true → (k : List Token) → ends_member (head k) ≡ true
      → Meets Decl (apat_behind turns inner false x (each_onto cons_pat_onto xs (rhs_onto right k))) (d.Binding (roll-Pat (record { first = l.Plain x; rest = xs })) right) k
  apat_behind_left x xs right u v k f = meets_no _ _ (cons_no_var_op xs (rhs_onto right k) (rhs_no_var_op right k)) (again_left_behind (l.Plain x) xs right u v k f)

  more_cons : Items ConsPat cons_pat_onto formed_cons_pat (is key.KColon) ends_left (cons_pat turns inner.apat)
  more_cons = record { reads = again_cons_pat turns inner.apat m.apat; begins = cons_pat_starts; follows = cons_pat_ends_left }

  pub again_cons_decl : (n : Name) (x : ConsPat) (xs : List ConsPat) (right : Rhs) → formed_cons_pat x ≡ true → each_formed formed_cons_pat xs ≡ true → formed_rhs right ≡ true → (k : List Token) → ends_member (head k) ≡ true
      → Meets Decl (cons_decl turns inner n (cons_pat_onto x (each_onto cons_pat_onto xs (rhs_onto right k)))) (d.Binding (roll-Pat (record { first = l.Plain (a.Var n); rest = x ∷ xs })) right) k
  unfolding cons_decl
  again_cons_decl n x xs right t u v k f =
      let k1 : List Token = rhs_onto right k in
      meets_then _ (again_cons_pat turns inner.apat m.apat x t (each_onto cons_pat_onto xs k1) (cons_pats_end_left turns inner.apat m.apat xs k1 (rhs_ends_pat right k)))
      (meets_then _ (meets_many ConsPat cons_pat_onto formed_cons_pat (is key.KColon) ends_left (cons_pat turns inner.apat) more_cons turns (x ∷ []) xs k1 u (pat_no_colon (head k1) (rhs_ends_pat right k)) (pat_ends_left (head k1) (rhs_ends_pat right k)))
      (again_binding (roll-Pat (record { first = l.Plain (a.Var n); rest = x ∷ xs })) right v k f))

  -- ---- what begins with a parenthesis

  pub again_paren_infix : (top : Bool) (open_at : At) (x : Apat) (o : VarOp) (y : Apat) (close_at : At) (z : Apat) (zs : List Apat) (right : Rhs)
      → formed_apat y ≡ true → formed_apat z ≡ true → each_formed formed_apat zs ≡ true → formed_rhs right ≡ true → (k : List Token) → ends_member (head k) ≡ true
      → Meets Decl (paren_behind turns inner top open_at x (var_op_onto o (apat_onto y (key_onto close_at key.KCloseParen (apat_onto z (each_onto apat_onto zs (rhs_onto right k))))))) (d.Equation (lhs.Paren open_at x o y close_at z zs) right) k
  unfolding paren_infix
  again_paren_infix top open_at x o y close_at z zs right s t u v k f =
      let k2 : List Token = each_onto apat_onto zs (rhs_onto right k) in
      let k1 : List Token = apat_onto y (key_onto close_at key.KCloseParen (apat_onto z k2)) in
      meets_yes _ _ (var_op_starts o k1)
      (meets_then _ (again_var_op o k1)
      (meets_then _ (m.apat y s (key_onto close_at key.KCloseParen (apat_onto z k2)) refl)
      (meets_then _ (m.apat z t k2 (apats_no_at zs (rhs_onto right k) (rhs_no_at right k)))
      (meets_then _ (again_apats turns inner.apat m.apat zs u (rhs_onto right k) (rhs_no_apat right k) (rhs_no_at right k))
      (meets_then _ (again_rhs turns inner m none right v k f) (meets_return (d.Equation (lhs.Paren open_at x o y close_at z zs) right) k))))))

  module _ (top : Bool) (open_at : At) (z : Decl) (rest : List Token) where
    paren_con : (n : Name) (k : List Token) → ends_left (head k) ≡ true → Meets Decl (paren_behind turns inner top open_at (a.Con n) k) z rest → Meets Decl (parens turns inner top (key_onto open_at key.KOpenParen (capital_onto n k))) z rest
    unfolding parens paren_constructed
    paren_con n k e h = meets_no _ _ (left_no_apat (head k) e) h

    paren_apat : (x : Apat) → formed_apat x ≡ true → (k : List Token) → is_capital (head (apat_onto x k)) ≡ false → ends_left (head k) ≡ true → Meets Decl (paren_behind turns inner top open_at x k) z rest
        → Meets Decl (parens turns inner top (key_onto open_at key.KOpenParen (apat_onto x k))) z rest
    unfolding parens
    paren_apat x v k c e h = meets_no _ _ (apat_no_symbol x k) (meets_no _ _ (apat_no_close_paren x k) (meets_no _ _ c (meets_then _ (m.apat x v k (left_no_at (head k) e)) h)))

    -- a pattern that may be an argument behind the parenthesis, and what is read behind it
    paren_start : (x : Apat) → formed_apat x ≡ true → (k : List Token) → ends_left (head k) ≡ true → Meets Decl (paren_behind turns inner top open_at x k) z rest → Meets Decl (parens turns inner top (key_onto open_at key.KOpenParen (apat_onto x k))) z rest
    paren_start x v k e h = elim (apat_capital x) [
      | inl s ↦ subst (λ (y : Apat). Meets Decl (parens turns inner top (key_onto open_at key.KOpenParen (apat_onto y k))) z rest) (sym s.1)
          (subst (λ (ts : List Token). Meets Decl (parens turns inner top (key_onto open_at key.KOpenParen ts)) z rest) (sym (apat_con s.0 k))
          (paren_con s.0 k e (subst (λ (y : Apat). Meets Decl (paren_behind turns inner top open_at y k) z rest) s.1 h)))
      | inr s ↦ paren_apat x v k (s k) e h
    ]

    -- a pattern behind the parenthesis that no operator follows
    module _ (xs : List ConsPat) (u : each_formed formed_cons_pat xs ≡ true) (k : List Token) (e : ends_pat (head k) ≡ true) (y : Apat) (behind : List Token) (h : Meets Decl (apat_behind turns inner top y behind) z rest) where
      again_paren_left : (x : LeftPat) → Meets Apat (parens_behind turns inner.apat open_at (roll-Pat (record { first = x; rest = xs })) k) y behind → Meets Decl (paren_left turns inner top open_at x (each_onto cons_pat_onto xs k)) z rest
      unfolding paren_left
      again_paren_left x g = meets_then _ (again_pat_behind turns inner.apat m.apat x xs u k e) (meets_then _ g h)

      paren_plain : (x : Apat) → formed_apat x ≡ true → starts_var_op (head k) ≡ false → Meets Apat (parens_behind turns inner.apat open_at (roll-Pat (record { first = l.Plain x; rest = xs })) k) y behind
          → Meets Decl (parens turns inner top (key_onto open_at key.KOpenParen (apat_onto x (each_onto cons_pat_onto xs k)))) z rest
      paren_plain x v o g = paren_start x v (each_onto cons_pat_onto xs k) (cons_pats_end_left turns inner.apat m.apat xs k e) (meets_no _ _ (cons_no_var_op xs k o) (again_paren_left (l.Plain x) g))

      paren_applied_pat : (n : Name) (x : Apat) (ys : List Apat) → formed_apat x ≡ true → each_formed formed_apat ys ≡ true → Meets Apat (parens_behind turns inner.apat open_at (roll-Pat (record { first = l.Applied n x ys; rest = xs })) k) y behind
          → Meets Decl (parens turns inner top (key_onto open_at key.KOpenParen (capital_onto n (apat_onto x (each_onto apat_onto ys (each_onto cons_pat_onto xs k)))))) z rest
      unfolding parens paren_constructed
      paren_applied_pat n x ys v t g = meets_yes _ _ (apat_starts x (each_onto apat_onto ys (each_onto cons_pat_onto xs k)))
          (meets_then _ (again_applied_pat turns inner.apat m.apat n x ys v t (each_onto cons_pat_onto xs k) (cons_pats_end_left turns inner.apat m.apat xs k e)) (again_paren_left (l.Applied n x ys) g))

      paren_negative : (at number_at : At) (n : ℕ) → Meets Apat (parens_behind turns inner.apat open_at (roll-Pat (record { first = l.Negative at number_at n; rest = xs })) k) y behind
          → Meets Decl (parens turns inner top (key_onto open_at key.KOpenParen (minus_onto at (word_onto number_at (word.Num n) (each_onto cons_pat_onto xs k))))) z rest
      unfolding parens symbol_decl
      paren_negative at number_at n g = again_paren_left (l.Negative at number_at n) g

      paren_first : (x : LeftPat) → formed_left_pat x ≡ true → starts_var_op (head k) ≡ false → Meets Apat (parens_behind turns inner.apat open_at (roll-Pat (record { first = x; rest = xs })) k) y behind
          → Meets Decl (parens turns inner top (key_onto open_at key.KOpenParen (left_pat_onto x (each_onto cons_pat_onto xs k)))) z rest
      paren_first x v o g =
          let k1 : List Token = each_onto cons_pat_onto xs k in
          left_pat_cases (λ x. formed_left_pat x ≡ true → Meets Apat (parens_behind turns inner.apat open_at (roll-Pat (record { first = x; rest = xs })) k) y behind → Meets Decl (parens turns inner top (key_onto open_at key.KOpenParen (left_pat_onto x k1))) z rest)
          (λ p v g. subst (λ (ts : List Token). Meets Decl (parens turns inner top (key_onto open_at key.KOpenParen ts)) z rest) (sym (left_pat_plain p k1)) (paren_plain p (sym (formed_left_pat_plain p) ∙ v) o g))
          (λ n p ps v g. let t = sym (formed_left_pat_applied n p ps) ∙ v in
          subst (λ (ts : List Token). Meets Decl (parens turns inner top (key_onto open_at key.KOpenParen ts)) z rest) (sym (left_pat_applied n p ps k1))
          (paren_applied_pat n p ps (first_part (formed_apat p) (each_formed formed_apat ps) t) (second_part (formed_apat p) (each_formed formed_apat ps) t) g))
          (λ at number_at n v g. subst (λ (ts : List Token). Meets Decl (parens turns inner top (key_onto open_at key.KOpenParen ts)) z rest) (sym (left_pat_negative at number_at n k1)) (paren_negative at number_at n g))
          x v g

    again_paren_pat : (x : Pat) → formed_pat x ≡ true → (k : List Token) → ends_pat (head k) ≡ true → starts_var_op (head k) ≡ false → (y : Apat) (behind : List Token) → Meets Apat (parens_behind turns inner.apat open_at x k) y behind
        → Meets Decl (apat_behind turns inner top y behind) z rest → Meets Decl (parens turns inner top (key_onto open_at key.KOpenParen (pat_onto x k))) z rest
    again_paren_pat x v k e o y behind g h = pat_cases (λ x. formed_pat x ≡ true → Meets Apat (parens_behind turns inner.apat open_at x k) y behind → Meets Decl (parens turns inner top (key_onto open_at key.KOpenParen (pat_onto x k))) z rest)
        (λ p ps v g. let t = sym (formed_pat_made p ps) ∙ v in
        subst (λ (ts : List Token). Meets Decl (parens turns inner top (key_onto open_at key.KOpenParen ts)) z rest) (sym (pat_made p ps k))
        (paren_first ps (second_part (formed_left_pat p) (each_formed formed_cons_pat ps) t) k e y behind h p (first_part (formed_left_pat p) (each_formed formed_cons_pat ps) t) o g))
        x v g

  -- ---- declarations by their first tokens

  module _ (top : Bool) (z : Decl) (rest : List Token) where
    by_parens : (open_at : At) (ts : List Token) → Meets Decl (parens turns inner top (key_onto open_at key.KOpenParen ts)) z rest → Meets Decl (stated turns inner top (key_onto open_at key.KOpenParen ts)) z rest
    unfolding stated
    by_parens open_at ts h = h

    by_variable : (x : Var) (k : List Token) → is key.KAt (head k) ≡ false → is key.KColon (head k) ≡ false → starts_var_op (head k) ≡ false → Meets Decl (var_behind turns inner x k) z rest → Meets Decl (stated turns inner top (var_onto x k)) z rest
    unfolding stated named parens symbol_decl
    by_variable (var_of.Plain n) k e f g h = meets_no _ _ e (meets_no _ _ (not_both (not top) (is key.KColon (head k)) f) (meets_no _ _ g h))
    by_variable (var_of.Operator open_at n close_at) k e f g h = h

    by_apat : (x : Apat) → formed_apat x ≡ true → (k : List Token) → is key.KAt (head k) ≡ false → is_small (head (apat_onto x k)) ≡ false → is key.KOpenParen (head (apat_onto x k)) ≡ false → is_capital (head (apat_onto x k)) ≡ false
        → Meets Decl (apat_behind turns inner top x k) z rest → Meets Decl (stated turns inner top (apat_onto x k)) z rest
    unfolding stated
    by_apat x v k e s o c h = meets_no _ _ s (meets_no _ _ o (meets_no _ _ c (meets_no _ _ (not_both (not top) (is_minus (head (apat_onto x k))) (apat_no_minus x k)) (meets_then _ (m.apat x v k e) h))))

    by_as : (n : Name) (at : At) (x : Apat) → formed_apat x ≡ true → (k : List Token) → is key.KAt (head k) ≡ false → Meets Decl (apat_behind turns inner top (a.As n at x) k) z rest
        → Meets Decl (stated turns inner top (small_onto n (key_onto at key.KAt (apat_onto x k)))) z rest
    unfolding stated named as_decl
    by_as n at x v k e h = meets_then _ (m.apat x v k e) h

    by_constructor : (n : Name) (k : List Token) → starts_apat (head k) ≡ false → Meets Decl (apat_behind turns inner top (a.Con n) k) z rest → Meets Decl (stated turns inner top (capital_onto n k)) z rest
    unfolding stated constructed
    by_constructor n k e h = meets_no _ _ (not_both (not top) (starts_apat (head k)) e) h

    by_unit : (open_at close_at : At) (k : List Token) → Meets Decl (apat_behind turns inner top (a.Unit open_at close_at) k) z rest → Meets Decl (stated turns inner top (key_onto open_at key.KOpenParen (key_onto close_at key.KCloseParen k))) z rest
    unfolding stated parens
    by_unit open_at close_at k h = h

    -- a pattern that may be an argument and is no variable, and what is read behind it
    apat_first : (x : Apat) → formed_apat x ≡ true → is_variable (out-Apat x) ≡ false → (k : List Token) → ends_left (head k) ≡ true → Meets Decl (apat_behind turns inner top x k) z rest → Meets Decl (stated turns inner top (apat_onto x k)) z rest
    apat_first x v n k e h = apat_cases (λ x. formed_apat x ≡ true → is_variable (out-Apat x) ≡ false → Meets Decl (apat_behind turns inner top x k) z rest → Meets Decl (stated turns inner top (apat_onto x k)) z rest)
        (λ name v n h. let f = is_variable_var name in absurd (cc))
        (λ name at y v n h. subst (λ (ts : List Token). Meets Decl (stated turns inner top ts) z rest) (sym (apat_as name at y k)) (by_as name at y (sym (formed_apat_as name at y) ∙ v) k (left_no_at (head k) e) h))
        (λ at v n h. by_apat (a.Wildcard at) v k (left_no_at (head k) e) (ap (λ z. is_small (head z)) (apat_wildcard at k)) (ap (λ z. is key.KOpenParen (head z)) (apat_wildcard at k)) (ap (λ z. is_capital (head z)) (apat_wildcard at k)) h)
        (λ name v n h. subst (λ (ts : List Token). Meets Decl (stated turns inner top ts) z rest) (sym (apat_con name k)) (by_constructor name k (left_no_apat (head k) e) h))
        (λ at y v n h. by_apat (a.Literal at y) v k (left_no_at (head k) e) (ap (λ z. is_small (head z)) (apat_literal at y k) ∙ literal_no_small at y k) (ap (λ z. is key.KOpenParen (head z)) (apat_literal at y k) ∙ literal_no_paren at y k)
        (ap (λ z. is_capital (head z)) (apat_literal at y k) ∙ literal_no_capital at y k) h)
        (λ open_at close_at v n h. subst (λ (ts : List Token). Meets Decl (stated turns inner top ts) z rest) (sym (apat_unit open_at close_at k)) (by_unit open_at close_at k h))
        (λ open_at close_at v n h. by_apat (a.Nil open_at close_at) v k (left_no_at (head k) e) (ap (λ z. is_small (head z)) (apat_nil open_at close_at k)) (ap (λ z. is key.KOpenParen (head z)) (apat_nil open_at close_at k))
        (ap (λ z. is_capital (head z)) (apat_nil open_at close_at k)) h)
        (λ open_at y close_at v n h.
        let k1 : List Token = key_onto close_at key.KCloseParen k in
        subst (λ (ts : List Token). Meets Decl (stated turns inner top ts) z rest) (sym (apat_paren open_at y close_at k))
        (by_parens open_at (pat_onto y k1) (again_paren_pat top open_at z rest y (sym (formed_apat_paren open_at y close_at) ∙ v) k1 refl refl (a.Paren open_at y close_at) k (again_parens_paren turns inner.apat m.apat open_at y close_at k) h)))
        (λ open_at y ys close_at v n h.
        let k1 : List Token = key_onto close_at key.KCloseParen k in
        let k2 : List Token = each_onto comma_pat_onto ys k1 in
        let t = sym (formed_apat_tuple open_at y ys close_at) ∙ v in
        let u = second_part (formed_pat y) (each_formed formed_comma_pat ys && few ys) t in
        subst (λ (ts : List Token). Meets Decl (stated turns inner top ts) z rest) (sym (apat_tuple open_at y ys close_at k))
        (by_parens open_at (pat_onto y k2) (again_paren_pat top open_at z rest y (first_part (formed_pat y) (each_formed formed_comma_pat ys && few ys) t) k2 (comma_pats_end_pat turns inner.apat m.apat ys k1 refl) (comma_no_var_op ys k1 refl) (a.Tuple open_at y ys close_at) k
        (again_parens_tuple turns inner.apat m.apat open_at y ys close_at (first_part (each_formed formed_comma_pat ys) (few ys) u) (second_part (each_formed formed_comma_pat ys) (few ys) u) k) h)))
        (λ open_at y ys close_at v n h. by_apat (a.List open_at y ys close_at) v k (left_no_at (head k) e) (ap (λ z. is_small (head z)) (apat_list open_at y ys close_at k)) (ap (λ z. is key.KOpenParen (head z)) (apat_list open_at y ys close_at k))
        (ap (λ z. is_capital (head z)) (apat_list open_at y ys close_at k)) h)
        x v n h

  stated_signature : (top : Bool) (x : Var) (xs : List CommaVar) (at : At) (part : TypeExp) → formed_type_exp part ≡ true → (k : List Token) → ends_member (head k) ≡ true
      → Meets Decl (stated turns inner top (var_onto x (each_onto comma_var_onto xs (key_onto at key.KDoubleColon (type_exp_onto part k))))) (d.Signature x xs at part) k
  stated_signature top x [] at part v k f = by_variable top (d.Signature x [] at part) k x (key_onto at key.KDoubleColon (type_exp_onto part k)) refl refl refl (var_behind_signature x [] at part v k f)
  stated_signature top x (y ∷ ys) at part v k f = by_variable top (d.Signature x (y ∷ ys) at part) k x (each_onto comma_var_onto (y ∷ ys) (key_onto at key.KDoubleColon (type_exp_onto part k))) refl refl refl (var_behind_signature x (y ∷ ys) at part v k f)

  -- a signature is read at top level and elsewhere
  pub again_stated_signature : (top : Bool) (x : Var) (xs : List CommaVar) (at : At) (part : TypeExp) → formed_decl (d.Signature x xs at part) ≡ true → (k : List Token) → ends_member (head k) ≡ true
      → Meets Decl (stated turns inner top (decl_onto (d.Signature x xs at part) k)) (d.Signature x xs at part) k
  again_stated_signature top x xs at part v k f = subst (λ (ts : List Token). Meets Decl (stated turns inner top ts) (d.Signature x xs at part) k) (sym (decl_signature x xs at part k))
      (stated_signature top x xs at part (sym (formed_decl_signature x xs at part) ∙ v) k f)

  infix_variable : (top : Bool) (n : Name) (o : VarOp) (y : Apat) (right : Rhs) → formed_apat y ≡ true → formed_rhs right ≡ true → (k : List Token) → ends_member (head k) ≡ true
      → Meets Decl (stated turns inner top (small_onto n (var_op_onto o (apat_onto y (rhs_onto right k))))) (d.Equation (lhs.Infix (a.Var n) o y) right) k
  unfolding stated named
  infix_variable top n o y right u v k f =
      let k1 : List Token = apat_onto y (rhs_onto right k) in
      let c : Option Token = head (var_op_onto o k1) in
      meets_no _ _ (left_no_at c (var_op_ends_left o k1)) (meets_no _ _ (not_both (not top) (is key.KColon c) (var_op_no_colon o k1)) (meets_yes _ _ (var_op_starts o k1) (again_infix_decl (a.Var n) o y right u v k f)))

  stated_equation : (top : Bool) (x : Head) (right : Rhs) → formed_head x ≡ true → formed_rhs right ≡ true → (k : List Token) → ends_member (head k) ≡ true → Meets Decl (stated turns inner top (head_onto x (rhs_onto right k))) (d.Equation x right) k
  stated_equation top (lhs.Prefix x ps) right u v k f =
      let k1 : List Token = each_onto apat_onto ps (rhs_onto right k) in
      let e = params_start ps right k in
      by_variable top (d.Equation (lhs.Prefix x ps) right) k x k1 (not_key starts_params key.KAt (λ at. refl) (head k1) e) (not_key starts_params key.KColon (λ at. refl) (head k1) e) (params_no_var_op (head k1) e) (var_behind_prefix x ps right u v k f)
  stated_equation top (lhs.Infix x o y) right u v k f =
      let k1 : List Token = apat_onto y (rhs_onto right k) in
      let t = second_part (formed_apat x) (formed_apat y) u in
      elim (apat_variable x) [
        | inl s ↦ subst (λ (p : Apat). Meets Decl (stated turns inner top (apat_onto p (var_op_onto o k1))) (d.Equation (lhs.Infix p o y) right) k) (sym s.1)
            (subst (λ (ts : List Token). Meets Decl (stated turns inner top ts) (d.Equation (lhs.Infix (a.Var s.0) o y) right) k) (sym (apat_var s.0 (var_op_onto o k1))) (infix_variable top s.0 o y right t v k f))
        | inr n ↦ apat_first top (d.Equation (lhs.Infix x o y) right) k x (first_part (formed_apat x) (formed_apat y) u) n (var_op_onto o k1) (var_op_ends_left o k1) (apat_behind_infix top x o y right t v k f)
      ]
  stated_equation top (lhs.Paren open_at x o y close_at z zs) right u v k f =
      let k1 : List Token = apat_onto y (key_onto close_at key.KCloseParen (apat_onto z (each_onto apat_onto zs (rhs_onto right k)))) in
      let t = second_part (formed_apat x) (formed_apat y && (formed_apat z && each_formed formed_apat zs)) u in
      let s = second_part (formed_apat y) (formed_apat z && each_formed formed_apat zs) t in
      let equation : Decl = d.Equation (lhs.Paren open_at x o y close_at z zs) right in
      by_parens top equation k open_at (apat_onto x (var_op_onto o k1))
      (paren_start top open_at equation k x (first_part (formed_apat x) (formed_apat y && (formed_apat z && each_formed formed_apat zs)) u) (var_op_onto o k1) (var_op_ends_left o k1)
      (again_paren_infix top open_at x o y close_at z zs right (first_part (formed_apat y) (formed_apat z && each_formed formed_apat zs) t) (first_part (formed_apat z) (each_formed formed_apat zs) s) (second_part (formed_apat z) (each_formed formed_apat zs) s) v k f))

  -- an equation is read at top level and elsewhere
  pub again_stated_equation : (top : Bool) (x : Head) (right : Rhs) → formed_decl (d.Equation x right) ≡ true → (k : List Token) → ends_member (head k) ≡ true → Meets Decl (stated turns inner top (decl_onto (d.Equation x right) k)) (d.Equation x right) k
  again_stated_equation top x right v k f =
      let u = sym (formed_decl_equation x right) ∙ v in
      subst (λ (ts : List Token). Meets Decl (stated turns inner top ts) (d.Equation x right) k) (sym (decl_equation x right k)) (stated_equation top x right (first_part (formed_head x) (formed_rhs right) u) (second_part (formed_head x) (formed_rhs right) u) k f)

  module _ (xs : List ConsPat) (u : each_formed formed_cons_pat xs ≡ true) (right : Rhs) (v : formed_rhs right ≡ true) (k : List Token) (f : ends_member (head k) ≡ true) where
    binding_applied : (n : Name) (x : Apat) (ys : List Apat) → formed_apat x ≡ true → each_formed formed_apat ys ≡ true
        → Meets Decl (stated turns inner false (capital_onto n (apat_onto x (each_onto apat_onto ys (each_onto cons_pat_onto xs (rhs_onto right k)))))) (d.Binding (roll-Pat (record { first = l.Applied n x ys; rest = xs })) right) k
    unfolding stated constructed
    binding_applied n x ys s t =
        let k1 : List Token = each_onto cons_pat_onto xs (rhs_onto right k) in
        meets_yes _ _ (apat_starts x (each_onto apat_onto ys k1))
        (meets_then _ (again_applied_pat turns inner.apat m.apat n x ys s t k1 (cons_pats_end_left turns inner.apat m.apat xs (rhs_onto right k) (rhs_ends_pat right k))) (again_left_behind (l.Applied n x ys) xs right u v k f))

    binding_negative : (at number_at : At) (n : ℕ)
        → Meets Decl (stated turns inner false (minus_onto at (word_onto number_at (word.Num n) (each_onto cons_pat_onto xs (rhs_onto right k))))) (d.Binding (roll-Pat (record { first = l.Negative at number_at n; rest = xs })) right) k
    unfolding stated negative
    binding_negative at number_at n = meets_then _ (again_negative_pat turns inner.apat m.apat at number_at n (each_onto cons_pat_onto xs (rhs_onto right k))) (again_left_behind (l.Negative at number_at n) xs right u v k f)

  binding_variable : (n : Name) (xs : List ConsPat) → each_formed formed_cons_pat xs ≡ true → not (is_plain_name (roll-Pat (record { first = l.Plain (a.Var n); rest = xs }))) ≡ true → (right : Rhs) → formed_rhs right ≡ true → (k : List Token) → ends_member (head k) ≡ true
      → Meets Decl (stated turns inner false (small_onto n (each_onto cons_pat_onto xs (rhs_onto right k)))) (d.Binding (roll-Pat (record { first = l.Plain (a.Var n); rest = xs })) right) k
  unfolding stated named
  binding_variable n [] u plain right v k f = absurd (plain_alone n plain)
  binding_variable n (x ∷ xs) u plain right v k f =
      let k1 : List Token = each_onto cons_pat_onto xs (rhs_onto right k) in
      meets_no _ _ (left_no_at (head (cons_pat_onto x k1)) (cons_pat_ends_left x k1))
      (meets_yes _ _ (cons_pat_starts x k1) (again_cons_decl n x xs right (first_part (formed_cons_pat x) (each_formed formed_cons_pat xs) u) (second_part (formed_cons_pat x) (each_formed formed_cons_pat xs) u) v k f))

  binding_plain : (x : Apat) → formed_apat x ≡ true → (xs : List ConsPat) → each_formed formed_cons_pat xs ≡ true → not (is_plain_name (roll-Pat (record { first = l.Plain x; rest = xs }))) ≡ true → (right : Rhs) → formed_rhs right ≡ true → (k : List Token) → ends_member (head k) ≡ true
      → Meets Decl (stated turns inner false (apat_onto x (each_onto cons_pat_onto xs (rhs_onto right k)))) (d.Binding (roll-Pat (record { first = l.Plain x; rest = xs })) right) k
  binding_plain x t xs u plain right v k f =
      let k1 : List Token = each_onto cons_pat_onto xs (rhs_onto right k) in
      elim (apat_variable x) [
        | inl s ↦ subst (λ (p : Apat). Meets Decl (stated turns inner false (apat_onto p k1)) (d.Binding (roll-Pat (record { first = l.Plain p; rest = xs })) right) k) (sym s.1)
            (subst (λ (ts : List Token). Meets Decl (stated turns inner false ts) (d.Binding (roll-Pat (record { first = l.Plain (a.Var s.0); rest = xs })) right) k) (sym (apat_var s.0 k1))
            (binding_variable s.0 xs u (subst (λ (p : Apat). not (is_plain_name (roll-Pat (record { first = l.Plain p; rest = xs }))) ≡ true) s.1 plain) right v k f))
        | inr n ↦ apat_first false (d.Binding (roll-Pat (record { first = l.Plain x; rest = xs })) right) k x t n k1 (cons_pats_end_left turns inner.apat m.apat xs (rhs_onto right k) (rhs_ends_pat right k)) (apat_behind_left x xs right u v k f)
      ]

  stated_binding : (x : LeftPat) → formed_left_pat x ≡ true → (xs : List ConsPat) → each_formed formed_cons_pat xs ≡ true → not (is_plain_name (roll-Pat (record { first = x; rest = xs }))) ≡ true → (right : Rhs) → formed_rhs right ≡ true → (k : List Token) → ends_member (head k) ≡ true
      → Meets Decl (stated turns inner false (left_pat_onto x (each_onto cons_pat_onto xs (rhs_onto right k)))) (d.Binding (roll-Pat (record { first = x; rest = xs })) right) k
  stated_binding x t xs u plain right v k f =
      let k1 : List Token = each_onto cons_pat_onto xs (rhs_onto right k) in
      left_pat_cases (λ x. formed_left_pat x ≡ true → not (is_plain_name (roll-Pat (record { first = x; rest = xs }))) ≡ true → Meets Decl (stated turns inner false (left_pat_onto x k1)) (d.Binding (roll-Pat (record { first = x; rest = xs })) right) k)
      (λ p t plain. subst (λ (ts : List Token). Meets Decl (stated turns inner false ts) (d.Binding (roll-Pat (record { first = l.Plain p; rest = xs })) right) k) (sym (left_pat_plain p k1)) (binding_plain p (sym (formed_left_pat_plain p) ∙ t) xs u plain right v k f))
      (λ n p ps t plain. let s = sym (formed_left_pat_applied n p ps) ∙ t in
      subst (λ (ts : List Token). Meets Decl (stated turns inner false ts) (d.Binding (roll-Pat (record { first = l.Applied n p ps; rest = xs })) right) k) (sym (left_pat_applied n p ps k1))
      (binding_applied xs u right v k f n p ps (first_part (formed_apat p) (each_formed formed_apat ps) s) (second_part (formed_apat p) (each_formed formed_apat ps) s)))
      (λ at number_at n t plain. subst (λ (ts : List Token). Meets Decl (stated turns inner false ts) (d.Binding (roll-Pat (record { first = l.Negative at number_at n; rest = xs })) right) k) (sym (left_pat_negative at number_at n k1)) (binding_negative xs u right v k f at number_at n))
      x t plain

  -- a binding is read where it does not stand at top level
  pub again_stated_binding : (x : Pat) (right : Rhs) → formed_decl (d.Binding x right) ≡ true → (k : List Token) → ends_member (head k) ≡ true → Meets Decl (stated turns inner false (decl_onto (d.Binding x right) k)) (d.Binding x right) k
  again_stated_binding x right v k f = pat_cases (λ x. formed_decl (d.Binding x right) ≡ true → Meets Decl (stated turns inner false (decl_onto (d.Binding x right) k)) (d.Binding x right) k)
      (λ p ps v.
      let whole_pat : Pat = roll-Pat (record { first = p; rest = ps }) in
      let u = sym (formed_decl_binding whole_pat right) ∙ v in
      let t = second_part (formed_pat whole_pat) (formed_rhs right && not (is_plain_name whole_pat)) u in
      let s = sym (formed_pat_made p ps) ∙ first_part (formed_pat whole_pat) (formed_rhs right && not (is_plain_name whole_pat)) u in
      subst (λ (ts : List Token). Meets Decl (stated turns inner false ts) (d.Binding whole_pat right) k) (sym (decl_binding whole_pat right k ∙ pat_made p ps (rhs_onto right k)))
      (stated_binding p (first_part (formed_left_pat p) (each_formed formed_cons_pat ps) s) ps (second_part (formed_left_pat p) (each_formed formed_cons_pat ps) s) (second_part (formed_rhs right) (not (is_plain_name whole_pat)) t) right (first_part (formed_rhs right) (not (is_plain_name whole_pat)) t) k f))
      x v

  -- ---- blocks

  empty_decl : (k : List Token) → ends_member (head k) ≡ true → Meets Decl (decl turns inner k) d.Empty k
  unfolding decl
  empty_decl k f = meets_yes _ _ f (meets_return d.Empty k)

  by_stated : (ts : List Token) (z : Decl) (k : List Token) → ends_member (head ts) ≡ false → Meets Decl (stated turns inner false ts) z k → Meets Decl (decl turns inner ts) z k
  unfolding decl
  by_stated ts z k e h = meets_no _ _ e h

  pub again_decl : (x : Decl) → formed_decl x ≡ true → (k : List Token) → ends_member (head k) ≡ true → Meets Decl (decl turns inner (decl_onto x k)) x k
  again_decl x v k f = decl_cases (λ x. formed_decl x ≡ true → Meets Decl (decl turns inner (decl_onto x k)) x k)
      (λ v. subst (λ (ts : List Token). Meets Decl (decl turns inner ts) d.Empty k) (sym (decl_empty k)) (empty_decl k f))
      (λ y ys at part v. by_stated (decl_onto (d.Signature y ys at part) k) (d.Signature y ys at part) k
      (ap (λ z. ends_member (head z)) (decl_signature y ys at part k) ∙ var_no_member y (each_onto comma_var_onto ys (key_onto at key.KDoubleColon (type_exp_onto part k)))) (again_stated_signature false y ys at part v k f))
      (λ y right v. by_stated (decl_onto (d.Equation y right) k) (d.Equation y right) k (ap (λ z. ends_member (head z)) (decl_equation y right k) ∙ head_no_member y (rhs_onto right k)) (again_stated_equation false y right v k f))
      (λ p right v. by_stated (decl_onto (d.Binding p right) k) (d.Binding p right) k (ap (λ z. ends_member (head z)) (decl_binding p right k) ∙ pat_ends_no_member p (rhs_onto right k)) (again_stated_binding p right v k f))
      x v

  pub again_next_decl : (x : NextDecl) → formed_next_decl x ≡ true → (k : List Token) → ends_member (head k) ≡ true → Meets NextDecl (next_decl turns inner (next_decl_onto x k)) x k
  unfolding next_decl
  again_next_decl x v k f = next_decl_cases (λ x. formed_next_decl x ≡ true → Meets NextDecl (next_decl turns inner (next_decl_onto x k)) x k)
      (λ semicolon y v. subst (λ (z : List Token). Meets NextDecl (next_decl turns inner z) (roll-NextDecl (record { semicolon = semicolon; decl = y })) k) (sym (next_decl_made semicolon y k))
      (meets_then _ (again_decl y (sym (formed_next_decl_made semicolon y) ∙ v) k f) (meets_return (roll-NextDecl (record { semicolon = semicolon; decl = y })) k)))
      x v

  more_decls : Items NextDecl next_decl_onto formed_next_decl (is key.KSemicolon) ends_member (next_decl turns inner)
  more_decls = record { reads = again_next_decl; begins = next_decl_starts; follows = next_decl_ends_member }

  pub again_next_decls : (xs : List NextDecl) → each_formed formed_next_decl xs ≡ true → (k : List Token) → is key.KSemicolon (head k) ≡ false → ends_member (head k) ≡ true → Meets (List NextDecl) (next_decls turns inner (each_onto next_decl_onto xs k)) xs k
  again_next_decls xs v k e f = meets_many NextDecl next_decl_onto formed_next_decl (is key.KSemicolon) ends_member (next_decl turns inner) more_decls turns [] xs k v e f

  pub again_block : (x : Block) → formed_block x ≡ true → (k : List Token) → Meets Block (block turns inner (block_onto x k)) x k
  unfolding block
  again_block x v k = block_cases (λ x. formed_block x ≡ true → Meets Block (block turns inner (block_onto x k)) x k)
      (λ open_at y ys close_at v.
      let k1 : List Token = key_onto close_at key.KCloseBrace k in
      let u = sym (formed_block_made open_at y ys close_at) ∙ v in
      subst (λ (z : List Token). Meets Block (block turns inner z) (roll-Block (record { open_at = open_at; first = y; rest = ys; close_at = close_at })) k) (sym (block_made open_at y ys close_at k))
      (meets_then _ (again_decl y (first_part (formed_decl y) (each_formed formed_next_decl ys) u) (each_onto next_decl_onto ys k1) (may_all NextDecl next_decl_onto formed_next_decl (is key.KSemicolon) ends_member (next_decl turns inner) more_decls ys k1 refl))
      (meets_then _ (again_next_decls ys (second_part (formed_decl y) (each_formed formed_next_decl ys) u) k1 refl refl) (meets_return (roll-Block (record { open_at = open_at; first = y; rest = ys; close_at = close_at })) k))))
      x v
