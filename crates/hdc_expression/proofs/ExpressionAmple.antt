-- No limit comes in the rules of expressions where the turns are more than the text is long and the depth suffices for the nesting.
use Rattle.std.proofs.Common.{◌≡◌, ℕ, zero, suc, ◌<◌, ◌≤◌, Bool, true, false, ◌&&◌, List, [], ◌∷◌, ◌++◌, Option, Some, None, refl, sym, ◌∙◌, ap, subst, arith, append-nil}
use Rattle.hdc_base.specs.declared.place.At.{At}
use Rattle.hdc_base.specs.declared.token.Key.TheVariants as key
use Rattle.hdc_base.specs.declared.token.Token.{Token}
use Rattle.hdc_tree.specs.declared.name.Name.{Name}
use Rattle.hdc_tree.specs.declared.name.Var.TheVariants as var
use Rattle.hdc_tree.specs.declared.name.VarOp.TheVariants as var_op
use Rattle.hdc_tree.specs.declared.name.Op.{Op}
use Rattle.hdc_tree.specs.declared.name.Op.TheVariants as operator
use Rattle.hdc_tree.specs.declared.name.Sign.{Sign}
use Rattle.hdc_tree.specs.declared.name.Sign.TheVariants as sign
use Rattle.hdc_tree.specs.declared.pattern.Apat.{Apat}
use Rattle.hdc_tree.specs.declared.type_tree.Atype.{Atype}
use Rattle.hdc_tree.specs.declared.expression.Aexp.{Aexp}
use Rattle.hdc_tree.specs.declared.expression.Aexp.TheVariants as a
use Rattle.hdc_tree.specs.declared.expression.Alts.{Alts}
use Rattle.hdc_tree.specs.declared.expression.Apply.{Apply, roll-Apply}
use Rattle.hdc_tree.specs.declared.expression.Block.{Block}
use Rattle.hdc_tree.specs.declared.expression.CommaExp.{CommaExp, roll-CommaExp}
use Rattle.hdc_tree.specs.declared.expression.CommaQual.{CommaQual, roll-CommaQual}
use Rattle.hdc_tree.specs.declared.expression.Exp.{Exp}
use Rattle.hdc_tree.specs.declared.expression.Link.{Link}
use Rattle.hdc_tree.specs.declared.expression.ListExp.TheVariants as l
use Rattle.hdc_tree.specs.declared.expression.Operand.TheVariants as o
use Rattle.hdc_tree.specs.declared.expression.Qual.{Qual}
use Rattle.hdc_tree.specs.declared.expression.Qual.TheVariants as q
use Rattle.hdc_tree.specs.NameSpelling.{op_onto, sign_onto}
use Rattle.hdc_tree.specs.ExpressionSpelling.{aexp_onto, comma_exp_onto, comma_qual_onto, exp_onto}
use Rattle.hdc_tree.specs.ExpressionForm.{formed_aexp, formed_comma_exp, formed_comma_qual}
use Rattle.hdc_nesting.specs.Nesting.{Levels}
use Rattle.hdc_syntax.specs.Parser.{Parser}
use Rattle.hdc_syntax.specs.Words.{is, is_small, is_capital, is_symbol, is_minus, is_minus_text, is_literal, small_of, capital_of, minus_of, literal_of}
use Rattle.hdc_syntax.specs.Names.{starts_op}
use Rattle.hdc_syntax.proofs.NameRules.{always, good_op, good_quoted_op, op_starts}
use Rattle.hdc_syntax.proofs.Balanced.{Balanced, BalancedWord, Balances, word_by, put_free, put_none, put_both, put_divide, put_op}
use Rattle.hdc_syntax.proofs.Keeping.{keeps_here, keeps_floor, spelled_balanced}
use Rattle.hdc_syntax.proofs.Ample.{here, floor, Keeps, Free, free_pure, free_refuse, free_then, free_token, free_look, free_if, free_last, Ample, ample_free, ample_less, ample_floor, ample_then, ample_look, ample_if, ample_either, nonempty}
use Rattle.hdc_syntax.proofs.AmpleSteps.{each_word, ample_last, ample_first, then_here, then_floor, past_key, past_comma, past_counting, past_counting_floor, past_open, past_symbol, many_here, many_floor, members_floor, free_quoted_op, free_op}
use Rattle.hdc_syntax.proofs.PatternWords.{good_apats}
use Rattle.hdc_syntax.proofs.PatternBalanced.{apat_word, pat_word}
use Rattle.hdc_syntax.proofs.PatternAmple.{ample_apats, ample_pat}
use Rattle.hdc_expression.specs.declared.qualifier.QualHead.{QualHead}
use Rattle.hdc_expression.specs.declared.qualifier.QualHead.TheVariants as h
use Rattle.hdc_expression.specs.ExpressionReader.{Opened, Inner, starts_aexp, ends_qual, made, linked, whole, comma_exp, comma_exps, tuple_exp, parens_behind, inside, right_section, cons_in, symbol_before, symbol_in, quoted_in, parens_by, parens, generator, condition, qual_head, qual_behind, let_exp, let_qual, qual, comma_qual, comma_quals, range, comprehension, members, brackets_by, brackets_behind, brackets, aexp_by, aexp, aexps, apply, lambda, let_in, choice, last_op, cases, signed, after_op, operands, chain_by, chain, exp_level}
use Rattle.hdc_expression.proofs.Opened.{tail, OpenedWord, GoodInner}
use Rattle.hdc_expression.proofs.ExpressionWords.{qual_head_onto, good_whole, good_comma_exp, good_qual_head, good_qual, good_comma_qual, good_aexp, good_apply, good_signed}
use Rattle.hdc_expression.proofs.ExpressionStarts.{aexp_starts, comma_exp_starts, comma_qual_starts}
use Rattle.hdc_expression.proofs.ExpressionBalanced.{aexp_word, apply_word, block_word, comma_exp_word, comma_qual_word, exp_word, qual_word}

-- no limit comes in the parsers of what nests
pub record AmpleInner (inner : Inner) (most n depth : ℕ) : Type 0 where
  pub exp : (section : Bool) (taken : Sign) → Ample Opened (inner.exp section taken) most n depth here
  pub block : Ample Block inner.block most n depth here
  pub alts : Ample Alts inner.alts most n depth here
  pub apat : Ample Apat inner.apat most n depth here
  pub atype : Ample Atype inner.atype most n depth here

-- ---- words

op_word : (y : Op) → BalancedWord Op op_onto false y
op_word y = word_by (λ k. refl) (put_op false y)

qual_head_word : (x : QualHead) → BalancedWord QualHead qual_head_onto true x
qual_head_word (h.Source p arrow) = word_by (λ k. refl) (put_both (put_free (pat_word p)) (put_divide arrow key.KLeftArrow refl))
qual_head_word (h.Condition e) = word_by (λ k. refl) (put_free (exp_word e))

-- a sign changes no count
sign_keeps : (m : Levels ℕ → ℕ) (s : Sign) → Keeps m (sign_onto s [])
sign_keeps m sign.Absent = λ c. omega arith
sign_keeps m (sign.Minus at) = λ c. omega arith

without_sign : (m : Levels ℕ → ℕ) (s : Sign) (w : List Token) → Keeps m (sign_onto s w) → Keeps m w
without_sign m sign.Absent w k = k
without_sign m (sign.Minus at) w k = k

put_tail : (end : Option Op) → Balances true (tail end)
put_tail None = put_none true
put_tail (Some y) = put_op true y

-- the words of an expression with the operator that ends it, behind a sign that was taken before
opened_keeps : (section : Bool) (taken : Sign) (x : Opened) (w : List Token) → OpenedWord section taken x w → Keeps floor w
opened_keeps section taken x w r =
    let b : Balances true (λ k. exp_onto x.0 (tail x.1 k)) = put_both (put_free (exp_word x.0)) (put_tail x.1) in
    without_sign floor taken w (keeps_floor (subst (Balanced true) (sym (append-nil b.word) ∙ sym (b.spelled []) ∙ r.spelled [] ∙ ap (sign_onto taken) (append-nil w)) b.balanced))

-- the words of the sign of an operand
signed_keeps : (taken s : Sign) (v : List Token) → ((k : List Token) → sign_onto s k ≡ sign_onto taken (v ++ k)) → Keeps here v
signed_keeps taken s v e = without_sign here taken v (subst (Keeps here) (e [] ∙ ap (sign_onto taken) (append-nil v)) (sign_keeps here s))

-- the rules at one depth, by the parsers of what nests
module _ (turns : ℕ) (inner : Inner) (good : GoodInner inner) (most n depth : ℕ) (lt : n < turns) (g : AmpleInner inner most n depth) where
  pub ample_whole : Ample Exp (whole turns inner) most n depth here
  unfolding whole
  ample_whole = ample_last (g.exp false sign.Absent) (λ x. free_pure x.0)

  -- in a bracket

  pub ample_comma_exp : Ample CommaExp (comma_exp turns inner) most n depth floor
  unfolding comma_exp
  ample_comma_exp = past_comma key.KComma refl (λ comma. ample_last (ample_floor ample_whole) (λ e. free_pure (roll-CommaExp (record { comma = comma; exp = e }))))

  pub ample_comma_exps : Ample (List CommaExp) (comma_exps turns inner) most n depth floor
  ample_comma_exps = many_floor comma_exp_onto formed_comma_exp (is key.KComma) refl comma_exp_starts (good_comma_exp turns inner good) lt comma_exp_word [] ample_comma_exp

  pub ample_tuple_exp : (open_at : At) (first : Exp) → Ample Aexp (tuple_exp turns inner open_at first) most n depth floor
  unfolding tuple_exp
  ample_tuple_exp open_at first = then_floor ample_comma_exp (good_comma_exp turns inner good) comma_exp_word (λ second.
      ample_last (members_floor comma_exp_onto formed_comma_exp (is key.KComma) 5 (second ∷ []) (good_comma_exp turns inner good) comma_exp_word ample_comma_exp) (λ rest.
      free_last key.KCloseParen (λ close_at. free_pure (a.Tuple open_at first rest close_at))))

  pub ample_parens_behind : (open_at : At) (e : Exp) (end : Option Op) → Ample Aexp (parens_behind turns inner open_at e end) most n depth floor
  ample_parens_behind open_at e (Some y) = ample_free (free_last key.KCloseParen (λ close_at. free_pure (a.LeftSection open_at e y close_at)))
  ample_parens_behind open_at e None = ample_look (λ c. ample_if (is key.KCloseParen c) (ample_free (free_last key.KCloseParen (λ close_at. free_pure (a.Paren open_at e close_at)))) (ample_tuple_exp open_at e))

  pub ample_inside : (open_at : At) (taken : Sign) → Ample Aexp (inside turns inner open_at taken) most n depth floor
  unfolding inside
  ample_inside open_at taken = ample_then (ample_floor (g.exp true taken)) (good.exp true taken) (opened_keeps true taken) (λ x. ample_parens_behind open_at x.0 x.1)

  pub ample_right_section : (open_at : At) (y : Op) → Ample Aexp (right_section turns inner open_at y) most n depth floor
  unfolding right_section
  ample_right_section open_at y = ample_last (ample_floor ample_whole) (λ e. free_last key.KCloseParen (λ close_at. free_pure (a.RightSection open_at y e close_at)))

  pub ample_cons_in : (open_at : At) → Ample Aexp (cons_in turns inner open_at) most n depth floor
  unfolding cons_in
  ample_cons_in open_at = past_key key.KColon refl (λ at. ample_look (λ c. ample_if (is key.KCloseParen c) (ample_free (free_last key.KCloseParen (λ close_at. free_pure (a.Cons open_at at close_at)))) (ample_right_section open_at (operator.Cons at))))

  pub ample_symbol_before : (open_at : At) (name : Name) → Ample Aexp (symbol_before turns inner open_at name) most n depth floor
  ample_symbol_before open_at name = ample_if (is_minus_text name.text) (ample_inside open_at (sign.Minus name.at)) (ample_right_section open_at (operator.Var (var_op.Symbol name)))

  pub ample_symbol_in : (open_at : At) → Ample Aexp (symbol_in turns inner open_at) most n depth floor
  unfolding symbol_in
  ample_symbol_in open_at = past_symbol (λ name. ample_look (λ c. ample_if (is key.KCloseParen c) (ample_free (free_last key.KCloseParen (λ close_at. free_pure (a.Var (var.Operator open_at name close_at))))) (ample_symbol_before open_at name)))

  pub ample_quoted_in : (open_at : At) → Ample Aexp (quoted_in turns inner open_at) most n depth floor
  ample_quoted_in open_at = then_floor (ample_free free_quoted_op) good_quoted_op op_word (ample_right_section open_at)

  pub ample_parens_by : (open_at : At) (c : Option Token) → Ample Aexp (parens_by turns inner open_at c) most n depth floor
  ample_parens_by open_at c = ample_if (is key.KCloseParen c) (ample_free (free_last key.KCloseParen (λ close_at. free_pure (a.Unit open_at close_at)))) (ample_if (is key.KColon c) (ample_cons_in open_at)
      (ample_if (is_symbol c) (ample_symbol_in open_at) (ample_if (is key.KBackquote c) (ample_quoted_in open_at) (ample_inside open_at sign.Absent))))

  -- qualifiers

  pub ample_generator : Ample QualHead (generator turns inner) most n depth floor
  unfolding generator
  ample_generator = ample_last (ample_floor (ample_pat turns inner.apat good.apat most n depth lt g.apat)) (λ p. free_last key.KLeftArrow (λ arrow. free_pure (h.Source p arrow)))

  pub ample_condition : Ample QualHead (condition turns inner) most n depth floor
  unfolding condition
  ample_condition = ample_last (ample_floor ample_whole) (λ e. free_look (λ c. free_if (ends_qual c) (free_pure (h.Condition e)) free_refuse))

  pub ample_qual_head : Ample QualHead (qual_head turns inner) most n depth floor
  ample_qual_head = ample_either ample_generator ample_condition

  pub ample_qual_behind : (x : QualHead) → Ample Qual (qual_behind turns inner x) most n depth floor
  ample_qual_behind (h.Source p arrow) = ample_last (ample_floor ample_whole) (λ e. free_pure (q.Generator p arrow e))
  ample_qual_behind (h.Condition e) = ample_free (free_pure (q.Condition e))

  pub ample_let_exp : (at : At) (decls : Block) → Ample Qual (let_exp turns inner at decls) most n depth floor
  ample_let_exp at decls = past_key key.KIn refl (λ in_at. ample_last (ample_floor ample_whole) (λ e. free_pure (q.Condition (made [] sign.Absent (o.Let at decls in_at e)))))

  pub ample_let_qual : Ample Qual (let_qual turns inner) most n depth floor
  unfolding let_qual
  ample_let_qual = past_counting_floor key.KLet refl (λ at. then_floor (ample_floor g.block) good.block block_word (λ decls. ample_look (λ c. ample_if (is key.KIn c) (ample_let_exp at decls) (ample_free (free_pure (q.Local at decls))))))

  pub ample_qual : Ample Qual (qual turns inner) most n depth floor
  unfolding qual
  ample_qual = ample_look (λ c. ample_if (is key.KLet c) ample_let_qual (then_floor ample_qual_head (good_qual_head turns inner good) qual_head_word ample_qual_behind))

  pub ample_comma_qual : Ample CommaQual (comma_qual turns inner) most n depth floor
  unfolding comma_qual
  ample_comma_qual = past_comma key.KComma refl (λ comma. ample_last ample_qual (λ x. free_pure (roll-CommaQual (record { comma = comma; qual = x }))))

  pub ample_comma_quals : Ample (List CommaQual) (comma_quals turns inner) most n depth floor
  ample_comma_quals = many_floor comma_qual_onto formed_comma_qual (is key.KComma) refl comma_qual_starts (good_comma_qual turns inner good) lt comma_qual_word [] ample_comma_qual

  -- lists

  pub ample_range : (open_at : At) (low : Exp) → Ample Aexp (range turns inner open_at low) most n depth floor
  unfolding range
  ample_range open_at low = past_key key.KDots refl (λ dots. ample_last (ample_floor ample_whole) (λ high. free_last key.KCloseBracket (λ close_at. free_pure (a.List (l.Range open_at low dots high close_at)))))

  pub ample_comprehension : (open_at : At) (e : Exp) → Ample Aexp (comprehension turns inner open_at e) most n depth floor
  unfolding comprehension
  ample_comprehension open_at e = past_key key.KBar refl (λ bar. then_floor ample_qual (good_qual turns inner good) qual_word (λ first. ample_last ample_comma_quals (λ rest.
      free_last key.KCloseBracket (λ close_at. free_pure (a.List (l.Comprehension open_at e bar first rest close_at))))))

  pub ample_members : (open_at : At) (first : Exp) → Ample Aexp (members turns inner open_at first) most n depth floor
  unfolding members
  ample_members open_at first = ample_last ample_comma_exps (λ rest. free_last key.KCloseBracket (λ close_at. free_pure (a.List (l.Members open_at first rest close_at))))

  pub ample_brackets_by : (open_at : At) (first : Exp) (c : Option Token) → Ample Aexp (brackets_by turns inner open_at first c) most n depth floor
  ample_brackets_by open_at first c = ample_if (is key.KDots c) (ample_range open_at first) (ample_if (is key.KBar c) (ample_comprehension open_at first) (ample_members open_at first))

  pub ample_brackets_behind : (open_at : At) (first : Exp) → Ample Aexp (brackets_behind turns inner open_at first) most n depth floor
  ample_brackets_behind open_at first = ample_look (ample_brackets_by open_at first)

  -- arguments, one depth further out

  pub ample_parens : Ample Aexp (parens turns inner) most n (suc depth) here
  unfolding parens
  ample_parens = past_open key.KOpenParen refl (λ open_at. ample_look (ample_parens_by open_at))

  pub ample_brackets : Ample Aexp (brackets turns inner) most n (suc depth) here
  unfolding brackets
  ample_brackets = past_open key.KOpenBracket refl (λ open_at. ample_look (λ c. ample_if (is key.KCloseBracket c) (ample_free (free_last key.KCloseBracket (λ close_at. free_pure (a.Nil open_at close_at))))
      (then_floor (ample_floor ample_whole) (good_whole turns inner good) exp_word (ample_brackets_behind open_at))))

  pub ample_aexp_by : (c : Option Token) → Ample Aexp (aexp_by turns inner c) most n (suc depth) here
  ample_aexp_by c = ample_if (is_small c) (ample_free (free_then (free_token small_of) (λ name. free_pure (a.Var (var.Plain name))))) (ample_if (is_capital c) (ample_free (free_then (free_token capital_of) (λ name. free_pure (a.Con name))))
      (ample_if (is_literal c) (ample_free (free_then (free_token literal_of) (λ x. free_pure (a.Literal x.0 x.1)))) (ample_if (is key.KOpenParen c) ample_parens (ample_if (is key.KOpenBracket c) ample_brackets (ample_free free_refuse)))))

  pub ample_aexp : Ample Aexp (aexp turns inner) most n (suc depth) here
  unfolding aexp
  ample_aexp = ample_look ample_aexp_by

  pub ample_aexps : Ample (List Aexp) (aexps turns inner) most n (suc depth) here
  ample_aexps = many_here aexp_onto formed_aexp starts_aexp refl aexp_starts (good_aexp turns inner good) lt aexp_word [] ample_aexp

  pub ample_apply : Ample Apply (apply turns inner) most n (suc depth) here
  unfolding apply
  ample_apply = then_here ample_aexp (good_aexp turns inner good) aexp_word (λ f. ample_last ample_aexps (λ xs. free_pure (roll-Apply (record { head = f; args = xs }))))

  -- operands that stand last

  pub ample_lambda : (section : Bool) (links : List Link) (s : Sign) → Ample Opened (lambda turns inner section links s) most n (suc depth) here
  unfolding lambda
  ample_lambda section links s = past_counting key.KBackslash refl (λ at. then_here g.apat good.apat apat_word (λ first.
      then_here (ample_apats turns inner.apat good.apat most n depth lt g.apat) (good_apats turns inner.apat good.apat) (each_word apat_word) (λ rest.
      past_key key.KRightArrow refl (λ arrow. ample_last (g.exp section sign.Absent) (λ e. free_pure (made links s (o.Lambda at first rest arrow e.0), e.1))))))

  pub ample_let_in : (section : Bool) (links : List Link) (s : Sign) → Ample Opened (let_in turns inner section links s) most n (suc depth) here
  unfolding let_in
  ample_let_in section links s = past_counting key.KLet refl (λ at. then_here g.block good.block block_word (λ decls. past_key key.KIn refl (λ in_at.
      ample_last (g.exp section sign.Absent) (λ e. free_pure (made links s (o.Let at decls in_at e.0), e.1)))))

  pub ample_choice : (section : Bool) (links : List Link) (s : Sign) → Ample Opened (choice turns inner section links s) most n (suc depth) here
  unfolding choice
  ample_choice section links s = past_counting key.KIf refl (λ at. then_here ample_whole (good_whole turns inner good) exp_word (λ c. past_key key.KThen refl (λ then_at.
      then_here ample_whole (good_whole turns inner good) exp_word (λ d. past_key key.KElse refl (λ else_at.
      ample_last (g.exp section sign.Absent) (λ e. free_pure (made links s (o.If at c then_at d else_at e.0), e.1)))))))

  free_last_op : (section : Bool) → Free (Option Op) (last_op turns inner section)
  free_last_op section = free_look (λ c. free_if (section && starts_op c) (free_then free_op (λ x. free_pure (Some x))) (free_pure None))

  pub ample_cases : (section : Bool) (links : List Link) (s : Sign) → Ample Opened (cases turns inner section links s) most n (suc depth) here
  unfolding cases
  ample_cases section links s = past_counting key.KCase refl (λ at. then_here ample_whole (good_whole turns inner good) exp_word (λ subject. past_key key.KOf refl (λ of_at.
      ample_last g.alts (λ alts. free_then (free_last_op section) (λ end. free_pure (made links s (o.Case at subject of_at alts), end))))))

  -- chains

  free_signed : (taken : Sign) → Free Sign (signed turns inner taken)
  free_signed (sign.Minus at) = free_pure (sign.Minus at)
  free_signed sign.Absent = free_look (λ c. free_if (is_minus c) (free_then (free_token minus_of) (λ at. free_pure (sign.Minus at))) (free_pure sign.Absent))

  -- by what reads the operands behind an operator, of a text of at most j tokens
  module _ (section : Bool) (go : List Link → Parser Opened) (j : ℕ) (le : j ≤ n) (behind : (links : List Link) (i : ℕ) → i < j → Ample Opened (go links) most i (suc depth) here) where
    ample_after_op : (links : List Link) (s : Sign) (x : Apply) → Ample Opened (after_op turns inner go section links s x) most j (suc depth) here
    unfolding after_op
    ample_after_op links s x = ample_first free_op good_op (λ y w r. keeps_here (spelled_balanced (op_word y) r)) (nonempty op_onto always starts_op refl op_starts) (λ y i l.
        ample_look (λ c. ample_if (section && is key.KCloseParen c) (ample_free (free_pure (made links s (o.Applied x), Some y))) (behind (linked links s x y) i l)))

    ample_operands : (links : List Link) (s : Sign) → Ample Opened (operands turns inner go section links s) most j (suc depth) here
    unfolding operands
    ample_operands links s = then_here (ample_less le ample_apply) (good_apply turns inner good) apply_word (λ x.
        ample_look (λ c. ample_if (starts_op c) (ample_after_op links s x) (ample_free (free_pure (made links s (o.Applied x), None)))))

    ample_chain_by : (links : List Link) (s : Sign) (c : Option Token) → Ample Opened (chain_by turns inner go section links s c) most j (suc depth) here
    ample_chain_by links s c = ample_if (is key.KBackslash c) (ample_less le (ample_lambda section links s)) (ample_if (is key.KLet c) (ample_less le (ample_let_in section links s))
        (ample_if (is key.KIf c) (ample_less le (ample_choice section links s)) (ample_if (is key.KCase c) (ample_less le (ample_cases section links s)) (ample_operands links s))))

  pub ample_chain : (section : Bool) (k : ℕ) (taken : Sign) (links : List Link) (j : ℕ) → j < k → j ≤ n → Ample Opened (chain turns inner section k taken links) most j (suc depth) here
  unfolding chain
  ample_chain section zero taken links j lk le = absurd (omega arith)
  ample_chain section (suc k) taken links j lk le = ample_then (ample_free (free_signed taken)) (good_signed turns inner good taken) (signed_keeps taken) (λ s.
      ample_look (ample_chain_by section (chain turns inner section k sign.Absent) j le (λ ls i l. ample_chain section k sign.Absent ls i (omega arith) (omega arith)) links s))

  pub ample_exp_level : (section : Bool) (taken : Sign) → Ample Opened (exp_level turns inner section taken) most n (suc depth) here
  ample_exp_level section taken = ample_chain section turns taken [] n lt (omega arith)
