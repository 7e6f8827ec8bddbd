-- What each rule of expressions reads is an expression's spelling, and where a rule stops the tokens so far begin one.
use Rattle.std.proofs.Common.{◌≡◌, ℕ, zero, suc, Bool, true, false, not, ◌&&◌, cond, List, [], ◌∷◌, ◌++◌, Option, Some, None, codes, refl, sym, ◌∙◌, ap, subst, append_assoc, append-nil}
use Rattle.std.proofs.lemmas.Slice.Eq.{bytes_eq-Decides}
use Rattle.hdc_base.specs.declared.place.At.{At}
use Rattle.hdc_base.specs.declared.token.Key.TheVariants as key
use Rattle.hdc_base.specs.declared.token.Word.TheVariants as word
use Rattle.hdc_base.specs.declared.token.Token.{Token}
use Rattle.hdc_tree.specs.declared.name.Name.{Name}
use Rattle.hdc_tree.specs.declared.name.Var.TheVariants as var
use Rattle.hdc_tree.specs.declared.name.VarOp.TheVariants as var_op
use Rattle.hdc_tree.specs.declared.name.Op.{Op}
use Rattle.hdc_tree.specs.declared.name.Op.TheVariants as operator
use Rattle.hdc_tree.specs.declared.name.Sign.{Sign}
use Rattle.hdc_tree.specs.declared.name.Sign.TheVariants as sign
use Rattle.hdc_tree.specs.declared.expression.Aexp.{Aexp}
use Rattle.hdc_tree.specs.declared.expression.Aexp.TheVariants as a
use Rattle.hdc_tree.specs.declared.expression.Apply.{Apply, roll-Apply}
use Rattle.hdc_tree.specs.declared.expression.Block.{Block}
use Rattle.hdc_tree.specs.declared.expression.CommaExp.{CommaExp, roll-CommaExp}
use Rattle.hdc_tree.specs.declared.expression.CommaQual.{CommaQual, roll-CommaQual}
use Rattle.hdc_tree.specs.declared.expression.Exp.{Exp}
use Rattle.hdc_tree.specs.declared.expression.Link.{Link, roll-Link}
use Rattle.hdc_tree.specs.declared.expression.ListExp.TheVariants as l
use Rattle.hdc_tree.specs.declared.expression.Operand.{Operand}
use Rattle.hdc_tree.specs.declared.expression.Operand.TheVariants as o
use Rattle.hdc_tree.specs.declared.expression.Qual.{Qual}
use Rattle.hdc_tree.specs.declared.expression.Qual.TheVariants as q
use Rattle.hdc_tree.specs.Form.{each_formed}
use Rattle.hdc_tree.specs.NameSpelling.{Puts, key_onto, small_onto, symbol_onto, minus_onto, op_onto, sign_onto, each_onto}
use Rattle.hdc_tree.specs.PatternSpelling.{pat_onto}
use Rattle.hdc_tree.specs.PatternForm.{formed_pat}
use Rattle.hdc_tree.specs.ExpressionSpelling.{aexp_onto, operand_onto, qual_onto, apply_onto, block_onto, comma_exp_onto, comma_qual_onto, exp_onto, link_onto}
use Rattle.hdc_tree.specs.ExpressionForm.{formed_aexp, formed_operand, formed_qual, formed_apply, formed_block, formed_comma_exp, formed_comma_qual, formed_exp, formed_link}
use Rattle.hdc_tree.specs.ExpressionForm as form
use Rattle.hdc_tree.proofs.ExpressionEquations.{aexp_var, aexp_con, aexp_literal, aexp_unit, aexp_nil, aexp_cons, aexp_paren, aexp_tuple, aexp_list, aexp_left_section, aexp_right_section, list_exp_members, list_exp_range, list_exp_comprehension, operand_applied, operand_lambda, operand_let, operand_if, operand_case, qual_generator, qual_condition, qual_local, apply_made, comma_exp_made, comma_qual_made, exp_made, link_made}
use Rattle.hdc_tree.proofs.ExpressionFormed.{formed_aexp_var, formed_aexp_con, formed_aexp_literal, formed_aexp_unit, formed_aexp_nil, formed_aexp_cons, formed_aexp_paren, formed_aexp_tuple, formed_aexp_list, formed_aexp_left_section, formed_aexp_right_section, formed_list_exp_members, formed_list_exp_range, formed_list_exp_comprehension, formed_operand_applied, formed_operand_lambda, formed_operand_let, formed_operand_if, formed_operand_case, formed_qual_generator, formed_qual_condition, formed_qual_local, formed_apply_made, formed_comma_exp_made, formed_comma_qual_made, formed_exp_made, formed_link_made}
use Rattle.hdc_syntax.specs.Parser.{Parser, ◌>>=◌, pure, peek}
use Rattle.hdc_syntax.specs.Words.{is, is_small, is_capital, is_symbol, is_minus, is_minus_text, is_literal}
use Rattle.hdc_syntax.specs.Names.{starts_op, quoted_op}
use Rattle.hdc_syntax.proofs.Good.{Good, Spells, Some_of, good_refuse, good_deep, good_as, good_either, good_at_most_from}
use Rattle.hdc_syntax.proofs.Steps.{some_name, good_then, good_key, good_small, good_capital, good_symbol, good_minus, good_literal, good_look, good_if, good_return}
use Rattle.hdc_syntax.proofs.NameRules.{always, good_op}
use Rattle.hdc_syntax.proofs.Tests.{both}
use Rattle.hdc_syntax.proofs.Several.{good_many}
use Rattle.hdc_syntax.proofs.Several as several
use Rattle.hdc_syntax.proofs.PatternWords.{good_pat, good_apats}
use Rattle.hdc_expression.specs.declared.qualifier.QualHead.{QualHead}
use Rattle.hdc_expression.specs.declared.qualifier.QualHead.TheVariants as head
use Rattle.hdc_expression.specs.ExpressionReader.{Opened, Inner, starts_aexp, ends_qual, made, linked, whole, comma_exp, comma_exps, tuple_exp, paren_exp, left_section, parens_behind, inside, right_section, unit_exp, cons_exp, cons_in, operator_name, symbol_before, symbol_in, quoted_in, parens_by, parens, generator, condition, qual_head, qual_behind, let_exp, let_qual, qual, comma_qual, comma_quals, range, comprehension, members, brackets_by, brackets_behind, nil_exp, brackets, name_exp, con_exp, literal_exp, aexp_by, aexp, aexps, apply, lambda, let_in, choice, last_op, cases, signed, after_op, operands, chain_by, chain, exp_level}
use Rattle.hdc_expression.proofs.Opened.{tail, OpenedWord, GoodInner}

-- ---- signs and operators before a text

pub sign_append : (s : Sign) (w k : List Token) → sign_onto s w ++ k ≡ sign_onto s (w ++ k)
sign_append sign.Absent w k = refl
sign_append (sign.Minus at) w k = refl

sign_both : (s : Sign) (w v k : List Token) → sign_onto s (w ++ (v ++ k)) ≡ sign_onto s (w ++ v) ++ k
sign_both s w v k = ap (sign_onto s) (sym (append_assoc w v k)) ∙ sym (sign_append s (w ++ v) k)

pub op_append : (y : Op) (w k : List Token) → op_onto y w ++ k ≡ op_onto y (w ++ k)
op_append (operator.Var (var_op.Symbol name)) w k = refl
op_append (operator.Var (var_op.Quoted open_at name close_at)) w k = refl
op_append (operator.Cons at) w k = refl
op_append (operator.Con open_at name close_at) w k = refl

-- a name whose text is that of the sign is spelled as the sign
pub minus_name : (name : Name) (k : List Token) → is_minus_text name.text ≡ true → minus_onto name.at k ≡ symbol_onto name k
minus_name name k e = ap (λ z. record { at = name.at; word = word.Sym z } ∷ k) (sym ((bytes_eq-Decides name.text (codes "-")).0 e))

-- the operator is not `-`
abbrev pub no_minus : Op → Bool
no_minus y = not (form.is_minus y)

-- an operator in backquotes is not `-`
good_quoted : Good Op quoted_op (Spells Op op_onto no_minus)
unfolding quoted_op
good_quoted = good_key key.KBackquote (λ open_at. good_look (λ c. good_if (is_capital c)
    (good_capital (λ name. good_key key.KBackquote (λ close_at. good_return (operator.Con open_at name close_at) (record { spelled = λ k. refl; sound = refl }))))
    (good_small (λ name. good_key key.KBackquote (λ close_at. good_return (operator.Var (var_op.Quoted open_at name close_at)) (record { spelled = λ k. refl; sound = refl }))))))

-- ---- the beginning of a qualifier

abbrev pub qual_head_onto : QualHead → Puts
qual_head_onto (head.Source p arrow) k = pat_onto p (key_onto arrow key.KLeftArrow k)
qual_head_onto (head.Condition e) k = exp_onto e k

abbrev pub formed_qual_head : QualHead → Bool
formed_qual_head (head.Source p arrow) = formed_pat p
formed_qual_head (head.Condition e) = formed_exp e

-- ---- one of each

some_aexp : Some_of Aexp (Spells Aexp aexp_onto formed_aexp)
some_aexp = record { value = a.Var (var.Plain some_name); word = small_onto some_name []; is = record { spelled = λ k. aexp_var (var.Plain some_name) k; sound = formed_aexp_var (var.Plain some_name) }; regular = refl }

abbrev some_apply : Apply
some_apply = roll-Apply (record { head = a.Var (var.Plain some_name); args = [] })

some_applied : Spells Operand operand_onto formed_operand (o.Applied some_apply) (small_onto some_name [])
some_applied = record {
  spelled = λ k. operand_applied some_apply k ∙ apply_made (a.Var (var.Plain some_name)) [] k ∙ aexp_var (var.Plain some_name) k;
  sound = formed_operand_applied some_apply ∙ formed_apply_made (a.Var (var.Plain some_name)) [] ∙ both _ _ (formed_aexp_var (var.Plain some_name)) refl;
}

-- ---- the operator that ends a section

-- w is the spelling of the operator, which stands only in parentheses
pub record Ending (section : Bool) (end : Option Op) (w : List Token) : Type 0 where
  pub spelled : (k : List Token) → tail end k ≡ w ++ k
  pub closed : section ≡ false → end ≡ None

-- without a sign that was taken before, an expression alone
opened_alone : (section : Bool) (taken : Sign) (e : Exp) (w : List Token) → OpenedWord section taken (e, None) w → Spells Exp exp_onto formed_exp e (sign_onto taken w)
opened_alone section taken e w h = record { spelled = λ k. h.spelled k ∙ sym (sign_append taken w k); sound = h.sound }

-- ---- chains

-- w is what is read of a chain behind the links that are there, without the sign that was taken before
pub record Linked (section : Bool) (links : List Link) (taken : Sign) (x : Opened) (w : List Token) : Type 0 where
  pub more : List Link
  pub sign : Sign
  pub last : Operand
  pub value : x.0 ≡ made (links ++ more) sign last
  pub spelled : (k : List Token) → each_onto link_onto more (sign_onto sign (operand_onto last (tail x.1 k))) ≡ sign_onto taken (w ++ k)
  pub each : each_formed formed_link more ≡ true
  pub sound : formed_operand last ≡ true
  pub closed : section ≡ false → x.1 ≡ None

linked_last : {section : Bool} {w : List Token} (links : List Link) (taken : Sign) (last : Operand) (end : Option Op) → ((k : List Token) → operand_onto last (tail end k) ≡ w ++ k) → formed_operand last ≡ true → (section ≡ false → end ≡ None)
    → Linked section links taken (made links taken last, end) w
linked_last {section} {w} links taken last end h s n = record {
  more = [];
  sign = taken;
  last = last;
  value = ap (λ z. made z taken last) (sym (append-nil links));
  spelled = λ k. ap (sign_onto taken) (h k);
  each = refl;
  sound = s;
  closed = n;
}

linked_more : (section : Bool) (links : List Link) (taken : Sign) (left : Apply) (y : Op) (x : Opened) (w u v : List Token) → Spells Apply apply_onto formed_apply left w → Spells Op op_onto always y u
    → Linked section (linked links taken left y) sign.Absent x v → Linked section links taken x (w ++ (u ++ v))
linked_more section links taken left y x w u v h i more = record {
  more = roll-Link (record { sign = taken; left = left; op = y }) ∷ more.more;
  sign = more.sign;
  last = more.last;
  value = more.value ∙ ap (λ z. made z more.sign more.last) (append_assoc links (roll-Link (record { sign = taken; left = left; op = y }) ∷ []) more.more);
  spelled = λ k. let f = h.spelled in let s = i.spelled in let m = more.spelled in simp (link_made, m, s, f, append_assoc);
  each = both _ _ (formed_link_made taken left y ∙ h.sound) more.each;
  sound = more.sound;
  closed = more.closed;
}

linked_signed : (section : Bool) (links : List Link) (s taken : Sign) (x : Opened) (w v : List Token) → ((k : List Token) → sign_onto s k ≡ sign_onto taken (w ++ k)) → Linked section links s x v → Linked section links taken x (w ++ v)
linked_signed section links s taken x w v h more = record {
  more = more.more;
  sign = more.sign;
  last = more.last;
  value = more.value;
  spelled = λ k. more.spelled k ∙ h (v ++ k) ∙ ap (sign_onto taken) (sym (append_assoc w v k));
  each = more.each;
  sound = more.sound;
  closed = more.closed;
}

linked_none : (section : Bool) (taken : Sign) (x : Opened) (w : List Token) → Linked section [] taken x w → OpenedWord section taken x w
linked_none section taken x w more = record {
  spelled = λ k. ap (λ z. exp_onto z (tail x.1 k)) more.value ∙ exp_made more.more more.sign more.last (tail x.1 k) ∙ more.spelled k;
  sound = ap formed_exp more.value ∙ formed_exp_made more.more more.sign more.last ∙ both _ _ more.each more.sound;
  closed = more.closed;
}

-- what is known of the tokens behind an operator
abbrev Behind_op : Bool → List Link → Sign → Apply → Op → Opened → List Token → Type 0
Behind_op section links s x y z v = (u : List Token) → Spells Op op_onto always y u → (w : List Token) → Spells Apply apply_onto formed_apply x w → Linked section links s z (w ++ (u ++ v))

section_end : (links : List Link) (s : Sign) (x : Apply) (y : Op) → Behind_op true links s x y (made links s (o.Applied x), Some y) []
section_end links s x y u i w h = linked_last links s (o.Applied x) (Some y) (λ k. let f = h.spelled in let m = i.spelled in simp (operand_applied, f, m, append_assoc, append-nil)) (formed_operand_applied x ∙ h.sound) (λ e. absurd (cc))

ended : (section b : Bool) (links : List Link) (s : Sign) (x : Apply) (y : Op) {p : Parser Opened} → Good Opened p (Behind_op section links s x y) → Good Opened (cond (section && b) (pure (made links s (o.Applied x), Some y)) p) (Behind_op section links s x y)
ended false b links s x y g = g
ended true true links s x y g = good_return (made links s (o.Applied x), Some y) (section_end links s x y)
ended true false links s x y g = g

-- the rules at one depth, by the parsers of what nests
module _ (turns : ℕ) (inner : Inner) (g : GoodInner inner) where
  pub good_whole : Good Exp (whole turns inner) (Spells Exp exp_onto formed_exp)
  unfolding whole
  good_whole = good_then (g.exp false sign.Absent) (λ x. good_return x.0 (λ w h. record {
    spelled = λ k. subst (λ (z : Option Op). exp_onto x.0 (tail z k) ≡ (w ++ []) ++ k) (h.closed refl) (h.spelled k ∙ ap (λ z. z ++ k) (sym (append-nil w)));
    sound = h.sound;
  }))

  pub good_comma_exp : Good CommaExp (comma_exp turns inner) (Spells CommaExp comma_exp_onto formed_comma_exp)
  unfolding comma_exp
  good_comma_exp = good_key key.KComma (λ comma. good_then good_whole (λ e. good_return (roll-CommaExp (record { comma = comma; exp = e })) (λ w h. record {
    spelled = λ k. let f = h.spelled in simp (comma_exp_made, f, append-nil);
    sound = formed_comma_exp_made comma e ∙ h.sound;
  })))

  pub good_comma_exps : Good (List CommaExp) (comma_exps turns inner) (Spells (List CommaExp) (each_onto comma_exp_onto) (each_formed formed_comma_exp))
  good_comma_exps = good_many comma_exp_onto formed_comma_exp (is key.KComma) turns good_comma_exp

  -- in parentheses

  pub good_tuple_exp : (open_at : At) (first : Exp) → Good Aexp (tuple_exp turns inner open_at first) (λ x v. (w : List Token) → Spells Exp exp_onto formed_exp first w → Spells Aexp aexp_onto formed_aexp x (key_onto open_at key.KOpenParen (w ++ v)))
  unfolding tuple_exp
  good_tuple_exp open_at first = good_then good_comma_exp (λ second.
      good_then (good_at_most_from CommaExp comma_exp_onto formed_comma_exp (is key.KComma) (comma_exp turns inner) good_comma_exp 5 (second ∷ [])) (λ rest.
      good_key key.KCloseParen (λ close_at. good_return (a.Tuple open_at first rest close_at) (λ wr hr ws hs w h. let m = several.members second rest ws wr hs hr in record {
        spelled = λ k. let f = h.spelled in let s = m.spelled in simp (aexp_tuple, f, s, append_assoc);
        sound = formed_aexp_tuple open_at first rest close_at ∙ both _ _ h.sound (both _ _ m.each m.some);
      }))))

  pub good_paren_exp : (open_at : At) (e : Exp) → Good Aexp (paren_exp turns inner open_at e) (λ x v. (w : List Token) → Spells Exp exp_onto formed_exp e w → Spells Aexp aexp_onto formed_aexp x (key_onto open_at key.KOpenParen (w ++ v)))
  good_paren_exp open_at e = good_key key.KCloseParen (λ close_at. good_return (a.Paren open_at e close_at) (λ w h. record {
    spelled = λ k. let f = h.spelled in simp (aexp_paren, f, append_assoc);
    sound = formed_aexp_paren open_at e close_at ∙ h.sound;
  }))

  pub good_left_section : (open_at : At) (taken : Sign) (e : Exp) (y : Op) → Good Aexp (left_section turns inner open_at e y) (λ x v. (w : List Token) → OpenedWord true taken (e, Some y) w → Spells Aexp aexp_onto formed_aexp x (key_onto open_at key.KOpenParen (sign_onto taken (w ++ v))))
  good_left_section open_at taken e y = good_key key.KCloseParen (λ close_at. good_return (a.LeftSection open_at e y close_at) (λ w h. record {
    spelled = λ k. aexp_left_section open_at e y close_at k ∙ ap (key_onto open_at key.KOpenParen) (h.spelled (key_onto close_at key.KCloseParen k) ∙ sign_both taken w (key_onto close_at key.KCloseParen []) k);
    sound = formed_aexp_left_section open_at e y close_at ∙ h.sound;
  }))

  pub good_parens_behind : (open_at : At) (taken : Sign) (e : Exp) (end : Option Op) → Good Aexp (parens_behind turns inner open_at e end) (λ x v. (w : List Token) → OpenedWord true taken (e, end) w → Spells Aexp aexp_onto formed_aexp x (key_onto open_at key.KOpenParen (sign_onto taken (w ++ v))))
  good_parens_behind open_at taken e (Some y) = good_left_section open_at taken e y
  good_parens_behind open_at taken e None = good_as Aexp (parens_behind turns inner open_at e None) (λ x v. (w : List Token) → Spells Exp exp_onto formed_exp e w → Spells Aexp aexp_onto formed_aexp x (key_onto open_at key.KOpenParen (w ++ v)))
      (λ x v. (w : List Token) → OpenedWord true taken (e, None) w → Spells Aexp aexp_onto formed_aexp x (key_onto open_at key.KOpenParen (sign_onto taken (w ++ v))))
      (good_look (λ c. good_if (is key.KCloseParen c) (good_paren_exp open_at e) (good_tuple_exp open_at e)))
      (λ x v f w h. subst (λ (z : List Token). Spells Aexp aexp_onto formed_aexp x (key_onto open_at key.KOpenParen z)) (sign_append taken w v) (f (sign_onto taken w) (opened_alone true taken e w h)))

  pub good_inside : (open_at : At) (taken : Sign) → Good Aexp (inside turns inner open_at taken) (λ x v. Spells Aexp aexp_onto formed_aexp x (key_onto open_at key.KOpenParen (sign_onto taken v)))
  unfolding inside
  good_inside open_at taken = good_then (g.exp true taken) (λ x. good_parens_behind open_at taken x.0 x.1)

  pub good_right_section : (open_at : At) (y : Op) → Good Aexp (right_section turns inner open_at y) (λ x v. no_minus y ≡ true → Spells Aexp aexp_onto formed_aexp x (key_onto open_at key.KOpenParen (op_onto y v)))
  unfolding right_section
  good_right_section open_at y = good_then good_whole (λ e. good_key key.KCloseParen (λ close_at. good_return (a.RightSection open_at y e close_at) (λ w h n. record {
    spelled = λ k. let f = h.spelled in simp (aexp_right_section, f, op_append, append_assoc);
    sound = formed_aexp_right_section open_at y e close_at ∙ both _ _ h.sound n;
  })))

  pub good_unit_exp : (open_at : At) → Good Aexp (unit_exp turns inner open_at) (λ x v. Spells Aexp aexp_onto formed_aexp x (key_onto open_at key.KOpenParen v))
  good_unit_exp open_at = good_key key.KCloseParen (λ close_at. good_return (a.Unit open_at close_at) (record { spelled = λ k. aexp_unit open_at close_at k; sound = formed_aexp_unit open_at close_at }))

  pub good_cons_exp : (open_at at : At) → Good Aexp (cons_exp turns inner open_at at) (λ x v. Spells Aexp aexp_onto formed_aexp x (key_onto open_at key.KOpenParen (key_onto at key.KColon v)))
  good_cons_exp open_at at = good_key key.KCloseParen (λ close_at. good_return (a.Cons open_at at close_at) (record { spelled = λ k. aexp_cons open_at at close_at k; sound = formed_aexp_cons open_at at close_at }))

  pub good_cons_in : (open_at : At) → Good Aexp (cons_in turns inner open_at) (λ x v. Spells Aexp aexp_onto formed_aexp x (key_onto open_at key.KOpenParen v))
  unfolding cons_in
  good_cons_in open_at = good_key key.KColon (λ at. good_look (λ c. good_if (is key.KCloseParen c) (good_cons_exp open_at at)
      (good_as Aexp (right_section turns inner open_at (operator.Cons at)) (λ x v. no_minus (operator.Cons at) ≡ true → Spells Aexp aexp_onto formed_aexp x (key_onto open_at key.KOpenParen (op_onto (operator.Cons at) v)))
      (λ x v. Spells Aexp aexp_onto formed_aexp x (key_onto open_at key.KOpenParen (key_onto at key.KColon v))) (good_right_section open_at (operator.Cons at)) (λ x v f. f refl))))

  pub good_operator_name : (open_at : At) (name : Name) → Good Aexp (operator_name turns inner open_at name) (λ x v. Spells Aexp aexp_onto formed_aexp x (key_onto open_at key.KOpenParen (symbol_onto name v)))
  good_operator_name open_at name = good_key key.KCloseParen (λ close_at. good_return (a.Var (var.Operator open_at name close_at)) (record { spelled = λ k. aexp_var (var.Operator open_at name close_at) k; sound = formed_aexp_var (var.Operator open_at name close_at) }))

  good_symbol_by : (open_at : At) (name : Name) (b : Bool) → is_minus_text name.text ≡ b
      → Good Aexp (cond b (inside turns inner open_at (sign.Minus name.at)) (right_section turns inner open_at (operator.Var (var_op.Symbol name)))) (λ x v. Spells Aexp aexp_onto formed_aexp x (key_onto open_at key.KOpenParen (symbol_onto name v)))
  good_symbol_by open_at name true e = good_as Aexp (inside turns inner open_at (sign.Minus name.at)) (λ x v. Spells Aexp aexp_onto formed_aexp x (key_onto open_at key.KOpenParen (minus_onto name.at v)))
      (λ x v. Spells Aexp aexp_onto formed_aexp x (key_onto open_at key.KOpenParen (symbol_onto name v))) (good_inside open_at (sign.Minus name.at))
      (λ x v h. subst (λ (z : List Token). Spells Aexp aexp_onto formed_aexp x (key_onto open_at key.KOpenParen z)) (minus_name name v e) h)
  good_symbol_by open_at name false e = good_as Aexp (right_section turns inner open_at (operator.Var (var_op.Symbol name)))
      (λ x v. no_minus (operator.Var (var_op.Symbol name)) ≡ true → Spells Aexp aexp_onto formed_aexp x (key_onto open_at key.KOpenParen (symbol_onto name v)))
      (λ x v. Spells Aexp aexp_onto formed_aexp x (key_onto open_at key.KOpenParen (symbol_onto name v))) (good_right_section open_at (operator.Var (var_op.Symbol name))) (λ x v f. f (ap not e))

  pub good_symbol_before : (open_at : At) (name : Name) → Good Aexp (symbol_before turns inner open_at name) (λ x v. Spells Aexp aexp_onto formed_aexp x (key_onto open_at key.KOpenParen (symbol_onto name v)))
  good_symbol_before open_at name = good_symbol_by open_at name (is_minus_text name.text) refl

  pub good_symbol_in : (open_at : At) → Good Aexp (symbol_in turns inner open_at) (λ x v. Spells Aexp aexp_onto formed_aexp x (key_onto open_at key.KOpenParen v))
  unfolding symbol_in
  good_symbol_in open_at = good_symbol (λ name. good_look (λ c. good_if (is key.KCloseParen c) (good_operator_name open_at name) (good_symbol_before open_at name)))

  pub good_quoted_in : (open_at : At) → Good Aexp (quoted_in turns inner open_at) (λ x v. Spells Aexp aexp_onto formed_aexp x (key_onto open_at key.KOpenParen v))
  good_quoted_in open_at = good_then good_quoted (λ y. good_as Aexp (right_section turns inner open_at y) (λ x v. no_minus y ≡ true → Spells Aexp aexp_onto formed_aexp x (key_onto open_at key.KOpenParen (op_onto y v)))
      (λ x v. (w : List Token) → Spells Op op_onto no_minus y w → Spells Aexp aexp_onto formed_aexp x (key_onto open_at key.KOpenParen (w ++ v))) (good_right_section open_at y)
      (λ x v f w h. subst (λ (z : List Token). Spells Aexp aexp_onto formed_aexp x (key_onto open_at key.KOpenParen z)) (h.spelled v) (f h.sound)))

  pub good_parens_by : (open_at : At) (c : Option Token) → Good Aexp (parens_by turns inner open_at c) (λ x v. Spells Aexp aexp_onto formed_aexp x (key_onto open_at key.KOpenParen v))
  good_parens_by open_at c = good_if (is key.KCloseParen c) (good_unit_exp open_at) (good_if (is key.KColon c) (good_cons_in open_at) (good_if (is_symbol c) (good_symbol_in open_at)
      (good_if (is key.KBackquote c) (good_quoted_in open_at) (good_inside open_at sign.Absent))))

  pub good_parens : Good Aexp (parens turns inner) (Spells Aexp aexp_onto formed_aexp)
  unfolding parens
  good_parens = good_key key.KOpenParen (λ open_at. good_look (good_parens_by open_at))

  -- qualifiers

  pub good_generator : Good QualHead (generator turns inner) (Spells QualHead qual_head_onto formed_qual_head)
  unfolding generator
  good_generator = good_then (good_pat turns inner.apat g.apat) (λ p. good_key key.KLeftArrow (λ arrow. good_return (head.Source p arrow) (λ w h. record {
    spelled = λ k. let f = h.spelled in simp (f, append_assoc);
    sound = h.sound;
  })))

  pub good_condition : Good QualHead (condition turns inner) (Spells QualHead qual_head_onto formed_qual_head)
  unfolding condition
  good_condition = good_then good_whole (λ e. good_look (λ c. good_if (ends_qual c)
      (good_return (head.Condition e) (λ w h. record { spelled = λ k. let f = h.spelled in simp (f, append-nil); sound = h.sound }))
      (good_refuse QualHead (λ x v. (w : List Token) → Spells Exp exp_onto formed_exp e w → Spells QualHead qual_head_onto formed_qual_head x (w ++ v)) (record {
        value = head.Condition e;
        word = [];
        is = λ w h. record { spelled = λ k. let f = h.spelled in simp (f, append-nil); sound = h.sound };
        regular = refl;
      }))))

  pub good_qual_head : Good QualHead (qual_head turns inner) (Spells QualHead qual_head_onto formed_qual_head)
  good_qual_head = good_either QualHead (generator turns inner) (condition turns inner) (Spells QualHead qual_head_onto formed_qual_head) good_generator good_condition

  pub good_qual_behind : (x : QualHead) → Good Qual (qual_behind turns inner x) (λ y v. (w : List Token) → Spells QualHead qual_head_onto formed_qual_head x w → Spells Qual qual_onto formed_qual y (w ++ v))
  good_qual_behind (head.Source p arrow) = good_then good_whole (λ e. good_return (q.Generator p arrow e) (λ we he w h. record {
    spelled = λ k. qual_generator p arrow e k ∙ h.spelled (exp_onto e k) ∙ ap (λ z. w ++ z) (he.spelled k) ∙ simp (append_assoc, append-nil);
    sound = formed_qual_generator p arrow e ∙ both _ _ h.sound he.sound;
  }))
  good_qual_behind (head.Condition e) = good_return (q.Condition e) (λ w h. record {
    spelled = λ k. let f = h.spelled in simp (qual_condition, f, append-nil);
    sound = formed_qual_condition e ∙ h.sound;
  })

  pub good_let_exp : (at : At) (decls : Block) → Good Qual (let_exp turns inner at decls) (λ x v. (w : List Token) → Spells Block block_onto formed_block decls w → Spells Qual qual_onto formed_qual x (key_onto at key.KLet (w ++ v)))
  good_let_exp at decls = good_key key.KIn (λ in_at. good_then good_whole (λ e. good_return (q.Condition (made [] sign.Absent (o.Let at decls in_at e))) (λ we he w h. record {
    spelled = λ k. let f = h.spelled in let s = he.spelled in qual_condition (made [] sign.Absent (o.Let at decls in_at e)) k ∙ exp_made [] sign.Absent (o.Let at decls in_at e) k ∙ simp (operand_let, f, s, append_assoc, append-nil);
    sound = formed_qual_condition (made [] sign.Absent (o.Let at decls in_at e)) ∙ formed_exp_made [] sign.Absent (o.Let at decls in_at e) ∙ formed_operand_let at decls in_at e ∙ both _ _ h.sound he.sound;
  })))

  pub good_let_qual : Good Qual (let_qual turns inner) (Spells Qual qual_onto formed_qual)
  unfolding let_qual
  good_let_qual = good_key key.KLet (λ at. good_then g.block (λ decls. good_look (λ c. good_if (is key.KIn c) (good_let_exp at decls) (good_return (q.Local at decls) (λ w h. record {
    spelled = λ k. let f = h.spelled in simp (qual_local, f, append-nil);
    sound = formed_qual_local at decls ∙ h.sound;
  })))))

  pub good_qual : Good Qual (qual turns inner) (Spells Qual qual_onto formed_qual)
  unfolding qual
  good_qual = good_look (λ c. good_if (is key.KLet c) good_let_qual (good_then good_qual_head good_qual_behind))

  pub good_comma_qual : Good CommaQual (comma_qual turns inner) (Spells CommaQual comma_qual_onto formed_comma_qual)
  unfolding comma_qual
  good_comma_qual = good_key key.KComma (λ comma. good_then good_qual (λ x. good_return (roll-CommaQual (record { comma = comma; qual = x })) (λ w h. record {
    spelled = λ k. let f = h.spelled in simp (comma_qual_made, f, append-nil);
    sound = formed_comma_qual_made comma x ∙ h.sound;
  })))

  pub good_comma_quals : Good (List CommaQual) (comma_quals turns inner) (Spells (List CommaQual) (each_onto comma_qual_onto) (each_formed formed_comma_qual))
  good_comma_quals = good_many comma_qual_onto formed_comma_qual (is key.KComma) turns good_comma_qual

  -- in brackets

  pub good_range : (open_at : At) (low : Exp) → Good Aexp (range turns inner open_at low) (λ x v. (w : List Token) → Spells Exp exp_onto formed_exp low w → Spells Aexp aexp_onto formed_aexp x (key_onto open_at key.KOpenBracket (w ++ v)))
  unfolding range
  good_range open_at low = good_key key.KDots (λ dots. good_then good_whole (λ high. good_key key.KCloseBracket (λ close_at. good_return (a.List (l.Range open_at low dots high close_at)) (λ wh hh w h. record {
    spelled = λ k. let f = h.spelled in let s = hh.spelled in simp (aexp_list, list_exp_range, f, s, append_assoc);
    sound = formed_aexp_list (l.Range open_at low dots high close_at) ∙ formed_list_exp_range open_at low dots high close_at ∙ both _ _ h.sound hh.sound;
  }))))

  pub good_comprehension : (open_at : At) (e : Exp) → Good Aexp (comprehension turns inner open_at e) (λ x v. (w : List Token) → Spells Exp exp_onto formed_exp e w → Spells Aexp aexp_onto formed_aexp x (key_onto open_at key.KOpenBracket (w ++ v)))
  unfolding comprehension
  good_comprehension open_at e = good_key key.KBar (λ bar. good_then good_qual (λ first. good_then good_comma_quals (λ rest. good_key key.KCloseBracket (λ close_at. good_return (a.List (l.Comprehension open_at e bar first rest close_at)) (λ ws hs wq hq w h. record {
    spelled = λ k. let f = h.spelled in let m = hq.spelled in let s = hs.spelled in simp (aexp_list, list_exp_comprehension, f, m, s, append_assoc);
    sound = formed_aexp_list (l.Comprehension open_at e bar first rest close_at) ∙ formed_list_exp_comprehension open_at e bar first rest close_at ∙ both _ _ h.sound (both _ _ hq.sound hs.sound);
  })))))

  pub good_members : (open_at : At) (first : Exp) → Good Aexp (members turns inner open_at first) (λ x v. (w : List Token) → Spells Exp exp_onto formed_exp first w → Spells Aexp aexp_onto formed_aexp x (key_onto open_at key.KOpenBracket (w ++ v)))
  unfolding members
  good_members open_at first = good_then good_comma_exps (λ rest. good_key key.KCloseBracket (λ close_at. good_return (a.List (l.Members open_at first rest close_at)) (λ ws hs w h. record {
    spelled = λ k. let f = h.spelled in let s = hs.spelled in simp (aexp_list, list_exp_members, f, s, append_assoc);
    sound = formed_aexp_list (l.Members open_at first rest close_at) ∙ formed_list_exp_members open_at first rest close_at ∙ both _ _ h.sound hs.sound;
  })))

  pub good_brackets_by : (open_at : At) (first : Exp) (c : Option Token) → Good Aexp (brackets_by turns inner open_at first c) (λ x v. (w : List Token) → Spells Exp exp_onto formed_exp first w → Spells Aexp aexp_onto formed_aexp x (key_onto open_at key.KOpenBracket (w ++ v)))
  good_brackets_by open_at first c = good_if (is key.KDots c) (good_range open_at first) (good_if (is key.KBar c) (good_comprehension open_at first) (good_members open_at first))

  pub good_brackets_behind : (open_at : At) (first : Exp) → Good Aexp (brackets_behind turns inner open_at first) (λ x v. (w : List Token) → Spells Exp exp_onto formed_exp first w → Spells Aexp aexp_onto formed_aexp x (key_onto open_at key.KOpenBracket (w ++ v)))
  good_brackets_behind open_at first = good_look (good_brackets_by open_at first)

  pub good_nil_exp : (open_at : At) → Good Aexp (nil_exp turns inner open_at) (λ x v. Spells Aexp aexp_onto formed_aexp x (key_onto open_at key.KOpenBracket v))
  good_nil_exp open_at = good_key key.KCloseBracket (λ close_at. good_return (a.Nil open_at close_at) (record { spelled = λ k. aexp_nil open_at close_at k; sound = formed_aexp_nil open_at close_at }))

  pub good_brackets : Good Aexp (brackets turns inner) (Spells Aexp aexp_onto formed_aexp)
  unfolding brackets
  good_brackets = good_key key.KOpenBracket (λ open_at. good_look (λ c. good_if (is key.KCloseBracket c) (good_nil_exp open_at) (good_then good_whole (good_brackets_behind open_at))))

  -- arguments

  pub good_name_exp : Good Aexp (name_exp turns inner) (Spells Aexp aexp_onto formed_aexp)
  good_name_exp = good_small (λ name. good_return (a.Var (var.Plain name)) (record { spelled = λ k. aexp_var (var.Plain name) k; sound = formed_aexp_var (var.Plain name) }))

  pub good_con_exp : Good Aexp (con_exp turns inner) (Spells Aexp aexp_onto formed_aexp)
  good_con_exp = good_capital (λ name. good_return (a.Con name) (record { spelled = λ k. aexp_con name k; sound = formed_aexp_con name }))

  pub good_literal_exp : Good Aexp (literal_exp turns inner) (Spells Aexp aexp_onto formed_aexp)
  good_literal_exp = good_literal (λ x. good_return (a.Literal x.0 x.1) (record { spelled = λ k. aexp_literal x.0 x.1 k; sound = formed_aexp_literal x.0 x.1 }))

  pub good_aexp_by : (c : Option Token) → Good Aexp (aexp_by turns inner c) (Spells Aexp aexp_onto formed_aexp)
  good_aexp_by c = good_if (is_small c) good_name_exp (good_if (is_capital c) good_con_exp (good_if (is_literal c) good_literal_exp (good_if (is key.KOpenParen c) good_parens
      (good_if (is key.KOpenBracket c) good_brackets (good_refuse Aexp (Spells Aexp aexp_onto formed_aexp) some_aexp)))))

  pub good_aexp : Good Aexp (aexp turns inner) (Spells Aexp aexp_onto formed_aexp)
  unfolding aexp
  good_aexp = good_look good_aexp_by

  pub good_aexps : Good (List Aexp) (aexps turns inner) (Spells (List Aexp) (each_onto aexp_onto) (each_formed formed_aexp))
  good_aexps = good_many aexp_onto formed_aexp starts_aexp turns good_aexp

  pub good_apply : Good Apply (apply turns inner) (Spells Apply apply_onto formed_apply)
  unfolding apply
  good_apply = good_then good_aexp (λ f. good_then good_aexps (λ xs. good_return (roll-Apply (record { head = f; args = xs })) (λ ws hs w h. record {
    spelled = λ k. let f = h.spelled in let s = hs.spelled in simp (apply_made, f, s, append_assoc, append-nil);
    sound = formed_apply_made f xs ∙ both _ _ h.sound hs.sound;
  })))

  -- operands that stand last

  pub good_lambda : (section : Bool) (links : List Link) (s : Sign) → Good Opened (lambda turns inner section links s) (Linked section links s)
  unfolding lambda
  good_lambda section links s = good_key key.KBackslash (λ at. good_then g.apat (λ first. good_then (good_apats turns inner.apat g.apat) (λ rest. good_key key.KRightArrow (λ arrow. good_then (g.exp section sign.Absent) (λ e.
      good_return (made links s (o.Lambda at first rest arrow e.0), e.1) (λ we he ws hs w h. linked_last links s (o.Lambda at first rest arrow e.0) e.1
      (λ k. let f = h.spelled in let m = hs.spelled in let n = he.spelled in simp (operand_lambda, f, m, n, append_assoc, append-nil))
      (formed_operand_lambda at first rest arrow e.0 ∙ both _ _ h.sound (both _ _ hs.sound he.sound)) he.closed))))))

  pub good_let_in : (section : Bool) (links : List Link) (s : Sign) → Good Opened (let_in turns inner section links s) (Linked section links s)
  unfolding let_in
  good_let_in section links s = good_key key.KLet (λ at. good_then g.block (λ decls. good_key key.KIn (λ in_at. good_then (g.exp section sign.Absent) (λ e.
      good_return (made links s (o.Let at decls in_at e.0), e.1) (λ we he w h. linked_last links s (o.Let at decls in_at e.0) e.1
      (λ k. let f = h.spelled in let n = he.spelled in simp (operand_let, f, n, append_assoc, append-nil))
      (formed_operand_let at decls in_at e.0 ∙ both _ _ h.sound he.sound) he.closed)))))

  pub good_choice : (section : Bool) (links : List Link) (s : Sign) → Good Opened (choice turns inner section links s) (Linked section links s)
  unfolding choice
  good_choice section links s = good_key key.KIf (λ at. good_then good_whole (λ c. good_key key.KThen (λ then_at. good_then good_whole (λ d. good_key key.KElse (λ else_at. good_then (g.exp section sign.Absent) (λ e.
      good_return (made links s (o.If at c then_at d else_at e.0), e.1) (λ we he wd hd w h. linked_last links s (o.If at c then_at d else_at e.0) e.1
      (λ k. let f = h.spelled in let m = hd.spelled in let n = he.spelled in simp (operand_if, f, m, n, append_assoc, append-nil))
      (formed_operand_if at c then_at d else_at e.0 ∙ both _ _ h.sound (both _ _ hd.sound he.sound)) he.closed)))))))

  pub good_last_op : (section : Bool) → Good (Option Op) (last_op turns inner section) (Ending section)
  good_last_op true = good_look (λ c. good_if (starts_op c) (good_then good_op (λ y. good_return (Some y) (λ w h. record { spelled = λ k. h.spelled k ∙ ap (λ z. z ++ k) (sym (append-nil w)); closed = λ e. absurd (cc) })))
      (good_return None (record { spelled = λ k. refl; closed = λ e. refl })))
  good_last_op false = good_look (λ c. good_return None (record { spelled = λ k. refl; closed = λ e. refl }))

  pub good_cases : (section : Bool) (links : List Link) (s : Sign) → Good Opened (cases turns inner section links s) (Linked section links s)
  unfolding cases
  good_cases section links s = good_key key.KCase (λ at. good_then good_whole (λ subject. good_key key.KOf (λ of_at. good_then g.alts (λ alts. good_then (good_last_op section) (λ end.
      good_return (made links s (o.Case at subject of_at alts), end) (λ we he wa ha w h. linked_last links s (o.Case at subject of_at alts) end
      (λ k. let f = h.spelled in let m = ha.spelled in let n = he.spelled in simp (operand_case, f, m, n, append_assoc, append-nil))
      (formed_operand_case at subject of_at alts ∙ both _ _ h.sound ha.sound) he.closed))))))

  -- chains

  pub good_signed : (taken : Sign) → Good Sign (signed turns inner taken) (λ s v. (k : List Token) → sign_onto s k ≡ sign_onto taken (v ++ k))
  good_signed (sign.Minus at) = good_return (sign.Minus at) (λ k. refl)
  good_signed sign.Absent = good_look (λ c. good_if (is_minus c) (good_minus (λ at. good_return (sign.Minus at) (λ k. refl))) (good_return sign.Absent (λ k. refl)))

  -- by what reads the operands behind an operator
  module _ (section : Bool) (go : List Link → Parser Opened) (gg : (links : List Link) → Good Opened (go links) (Linked section links sign.Absent)) where
    pub good_after_op : (links : List Link) (s : Sign) (x : Apply) → Good Opened (after_op turns inner go section links s x) (λ y v. (w : List Token) → Spells Apply apply_onto formed_apply x w → Linked section links s y (w ++ v))
    unfolding after_op
    good_after_op links s x = good_then good_op (λ y. good_look (λ c. ended section (is key.KCloseParen c) links s x y
        (good_as Opened (go (linked links s x y)) (Linked section (linked links s x y) sign.Absent) (Behind_op section links s x y)
        (gg (linked links s x y)) (λ z v more u i w h. linked_more section links s x y z w u v h i more))))

    pub good_operands : (links : List Link) (s : Sign) → Good Opened (operands turns inner go section links s) (Linked section links s)
    unfolding operands
    good_operands links s = good_then good_apply (λ x. good_look (λ c. good_if (starts_op c) (good_after_op links s x) (good_return (made links s (o.Applied x), None) (λ w h. linked_last links s (o.Applied x) None
        (λ k. let f = h.spelled in simp (operand_applied, f, append-nil)) (formed_operand_applied x ∙ h.sound) (λ _. refl)))))

    pub good_chain_by : (links : List Link) (s : Sign) (c : Option Token) → Good Opened (chain_by turns inner go section links s c) (Linked section links s)
    good_chain_by links s c = good_if (is key.KBackslash c) (good_lambda section links s) (good_if (is key.KLet c) (good_let_in section links s) (good_if (is key.KIf c) (good_choice section links s)
        (good_if (is key.KCase c) (good_cases section links s) (good_operands links s))))

  pub good_chain : (section : Bool) (n : ℕ) (taken : Sign) (links : List Link) → Good Opened (chain turns inner section n taken links) (Linked section links taken)
  unfolding chain
  good_chain section zero taken links = good_deep Opened (Linked section links taken) (record {
    value = (made links taken (o.Applied some_apply), None);
    word = small_onto some_name [];
    is = linked_last links taken (o.Applied some_apply) None (λ k. some_applied.spelled k) some_applied.sound (λ _. refl);
    regular = refl;
  })
  good_chain section (suc n) taken links = good_then (good_signed taken) (λ s. good_as Opened (peek >>= chain_by turns inner (chain turns inner section n sign.Absent) section links s) (Linked section links s)
      (λ x v. (w : List Token) → ((k : List Token) → sign_onto s k ≡ sign_onto taken (w ++ k)) → Linked section links taken x (w ++ v))
      (good_look (good_chain_by section (chain turns inner section n sign.Absent) (good_chain section n sign.Absent) links s))
      (λ x v more w h. linked_signed section links s taken x w v h more))

  pub good_exp_level : (section : Bool) (taken : Sign) → Good Opened (exp_level turns inner section taken) (OpenedWord section taken)
  good_exp_level section taken = good_as Opened (exp_level turns inner section taken) (Linked section [] taken) (OpenedWord section taken) (good_chain section turns taken []) (linked_none section taken)
