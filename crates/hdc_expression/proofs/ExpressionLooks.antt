-- No rule of expressions looks past the token where it ends or stops.
use Rattle.std.proofs.Common.{ℕ, zero, suc, Bool, true, false, ◌&&◌, List, [], ◌∷◌, Option, Some, None}
use Rattle.hdc_base.specs.declared.place.At.{At}
use Rattle.hdc_base.specs.declared.token.Key.TheVariants as key
use Rattle.hdc_base.specs.declared.token.Token.{Token}
use Rattle.hdc_tree.specs.declared.name.Name.{Name}
use Rattle.hdc_tree.specs.declared.name.Var.TheVariants as var
use Rattle.hdc_tree.specs.declared.name.VarOp.TheVariants as var_op
use Rattle.hdc_tree.specs.declared.name.Op.{Op}
use Rattle.hdc_tree.specs.declared.name.Op.TheVariants as operator
use Rattle.hdc_tree.specs.declared.name.Sign.{Sign}
use Rattle.hdc_tree.specs.declared.name.Sign.TheVariants as sign
use Rattle.hdc_tree.specs.declared.expression.Aexp.{Aexp}
use Rattle.hdc_tree.specs.declared.expression.Aexp.TheVariants as a
use Rattle.hdc_tree.specs.declared.expression.Apply.{Apply, roll-Apply}
use Rattle.hdc_tree.specs.declared.expression.Block.{Block}
use Rattle.hdc_tree.specs.declared.expression.CommaExp.{CommaExp, roll-CommaExp}
use Rattle.hdc_tree.specs.declared.expression.CommaQual.{CommaQual, roll-CommaQual}
use Rattle.hdc_tree.specs.declared.expression.Exp.{Exp}
use Rattle.hdc_tree.specs.declared.expression.Link.{Link}
use Rattle.hdc_tree.specs.declared.expression.ListExp.TheVariants as l
use Rattle.hdc_tree.specs.declared.expression.Operand.TheVariants as o
use Rattle.hdc_tree.specs.declared.expression.Qual.{Qual}
use Rattle.hdc_tree.specs.declared.expression.Qual.TheVariants as q
use Rattle.hdc_syntax.specs.Parser.{Parser}
use Rattle.hdc_syntax.specs.Words.{is, is_small, is_capital, is_symbol, is_minus, is_minus_text, is_literal}
use Rattle.hdc_syntax.specs.Names.{starts_op}
use Rattle.hdc_syntax.proofs.Local.{Local, Within, local_pure, local_refuse, local_deep, local_either, local_many_from, local_at_most_from}
use Rattle.hdc_syntax.proofs.Steps.{local_then, local_key, local_small, local_capital, local_symbol, local_minus, local_literal, local_look, local_if}
use Rattle.hdc_syntax.proofs.NameRules.{local_op, local_quoted_op}
use Rattle.hdc_syntax.proofs.PatternLooks.{local_pat, local_apats}
use Rattle.hdc_expression.specs.declared.qualifier.QualHead.{QualHead}
use Rattle.hdc_expression.specs.declared.qualifier.QualHead.TheVariants as head
use Rattle.hdc_expression.specs.ExpressionReader.{Opened, Inner, starts_aexp, ends_qual, made, linked, whole, comma_exp, comma_exps, tuple_exp, paren_exp, left_section, parens_behind, inside, right_section, unit_exp, cons_exp, cons_in, operator_name, symbol_before, symbol_in, quoted_in, parens_by, parens, generator, condition, qual_head, qual_behind, let_exp, let_qual, qual, comma_qual, comma_quals, range, comprehension, members, brackets_by, brackets_behind, nil_exp, brackets, name_exp, con_exp, literal_exp, aexp_by, aexp, aexps, apply, lambda, let_in, choice, last_op, cases, signed, after_op, operands, chain_by, chain, exp_level}
use Rattle.hdc_expression.proofs.Opened.{LocalInner}

-- the rules at one depth, by the parsers of what nests, of which the two forms of a qualifier show early which it is
module _ (turns : ℕ) (inner : Inner) (g : LocalInner inner) (apart : Within QualHead (generator turns inner) (condition turns inner)) where
  pub local_whole : Local Exp (whole turns inner)
  unfolding whole
  local_whole = local_then (g.exp false sign.Absent) (λ x. local_pure Exp x.0)

  pub local_comma_exp : Local CommaExp (comma_exp turns inner)
  unfolding comma_exp
  local_comma_exp = local_key key.KComma (λ comma. local_then local_whole (λ e. local_pure CommaExp (roll-CommaExp (record { comma = comma; exp = e }))))

  pub local_comma_exps : Local (List CommaExp) (comma_exps turns inner)
  local_comma_exps = local_many_from CommaExp (is key.KComma) (comma_exp turns inner) local_comma_exp turns []

  -- in parentheses

  pub local_tuple_exp : (open_at : At) (first : Exp) → Local Aexp (tuple_exp turns inner open_at first)
  unfolding tuple_exp
  local_tuple_exp open_at first = local_then local_comma_exp (λ second. local_then (local_at_most_from CommaExp (is key.KComma) (comma_exp turns inner) local_comma_exp 5 (second ∷ [])) (λ rest.
      local_key key.KCloseParen (λ close_at. local_pure Aexp (a.Tuple open_at first rest close_at))))

  pub local_paren_exp : (open_at : At) (e : Exp) → Local Aexp (paren_exp turns inner open_at e)
  local_paren_exp open_at e = local_key key.KCloseParen (λ close_at. local_pure Aexp (a.Paren open_at e close_at))

  pub local_left_section : (open_at : At) (e : Exp) (y : Op) → Local Aexp (left_section turns inner open_at e y)
  local_left_section open_at e y = local_key key.KCloseParen (λ close_at. local_pure Aexp (a.LeftSection open_at e y close_at))

  pub local_parens_behind : (open_at : At) (e : Exp) (end : Option Op) → Local Aexp (parens_behind turns inner open_at e end)
  local_parens_behind open_at e (Some y) = local_left_section open_at e y
  local_parens_behind open_at e None = local_look (λ c. local_if (is key.KCloseParen c) (local_paren_exp open_at e) (local_tuple_exp open_at e))

  pub local_inside : (open_at : At) (taken : Sign) → Local Aexp (inside turns inner open_at taken)
  unfolding inside
  local_inside open_at taken = local_then (g.exp true taken) (λ x. local_parens_behind open_at x.0 x.1)

  pub local_right_section : (open_at : At) (y : Op) → Local Aexp (right_section turns inner open_at y)
  unfolding right_section
  local_right_section open_at y = local_then local_whole (λ e. local_key key.KCloseParen (λ close_at. local_pure Aexp (a.RightSection open_at y e close_at)))

  pub local_unit_exp : (open_at : At) → Local Aexp (unit_exp turns inner open_at)
  local_unit_exp open_at = local_key key.KCloseParen (λ close_at. local_pure Aexp (a.Unit open_at close_at))

  pub local_cons_exp : (open_at at : At) → Local Aexp (cons_exp turns inner open_at at)
  local_cons_exp open_at at = local_key key.KCloseParen (λ close_at. local_pure Aexp (a.Cons open_at at close_at))

  pub local_cons_in : (open_at : At) → Local Aexp (cons_in turns inner open_at)
  unfolding cons_in
  local_cons_in open_at = local_key key.KColon (λ at. local_look (λ c. local_if (is key.KCloseParen c) (local_cons_exp open_at at) (local_right_section open_at (operator.Cons at))))

  pub local_operator_name : (open_at : At) (name : Name) → Local Aexp (operator_name turns inner open_at name)
  local_operator_name open_at name = local_key key.KCloseParen (λ close_at. local_pure Aexp (a.Var (var.Operator open_at name close_at)))

  pub local_symbol_before : (open_at : At) (name : Name) → Local Aexp (symbol_before turns inner open_at name)
  local_symbol_before open_at name = local_if (is_minus_text name.text) (local_inside open_at (sign.Minus name.at)) (local_right_section open_at (operator.Var (var_op.Symbol name)))

  pub local_symbol_in : (open_at : At) → Local Aexp (symbol_in turns inner open_at)
  unfolding symbol_in
  local_symbol_in open_at = local_symbol (λ name. local_look (λ c. local_if (is key.KCloseParen c) (local_operator_name open_at name) (local_symbol_before open_at name)))

  pub local_quoted_in : (open_at : At) → Local Aexp (quoted_in turns inner open_at)
  local_quoted_in open_at = local_then local_quoted_op (local_right_section open_at)

  pub local_parens_by : (open_at : At) (c : Option Token) → Local Aexp (parens_by turns inner open_at c)
  local_parens_by open_at c = local_if (is key.KCloseParen c) (local_unit_exp open_at) (local_if (is key.KColon c) (local_cons_in open_at) (local_if (is_symbol c) (local_symbol_in open_at)
      (local_if (is key.KBackquote c) (local_quoted_in open_at) (local_inside open_at sign.Absent))))

  pub local_parens : Local Aexp (parens turns inner)
  unfolding parens
  local_parens = local_key key.KOpenParen (λ open_at. local_look (local_parens_by open_at))

  -- qualifiers

  pub local_generator : Local QualHead (generator turns inner)
  unfolding generator
  local_generator = local_then (local_pat turns inner.apat g.apat) (λ p. local_key key.KLeftArrow (λ arrow. local_pure QualHead (head.Source p arrow)))

  pub local_condition : Local QualHead (condition turns inner)
  unfolding condition
  local_condition = local_then local_whole (λ e. local_look (λ c. local_if (ends_qual c) (local_pure QualHead (head.Condition e)) (local_refuse QualHead)))

  pub local_qual_head : Local QualHead (qual_head turns inner)
  local_qual_head = local_either QualHead (generator turns inner) (condition turns inner) local_generator local_condition apart

  pub local_qual_behind : (x : QualHead) → Local Qual (qual_behind turns inner x)
  local_qual_behind (head.Source p arrow) = local_then local_whole (λ e. local_pure Qual (q.Generator p arrow e))
  local_qual_behind (head.Condition e) = local_pure Qual (q.Condition e)

  pub local_let_exp : (at : At) (decls : Block) → Local Qual (let_exp turns inner at decls)
  local_let_exp at decls = local_key key.KIn (λ in_at. local_then local_whole (λ e. local_pure Qual (q.Condition (made [] sign.Absent (o.Let at decls in_at e)))))

  pub local_let_qual : Local Qual (let_qual turns inner)
  unfolding let_qual
  local_let_qual = local_key key.KLet (λ at. local_then g.block (λ decls. local_look (λ c. local_if (is key.KIn c) (local_let_exp at decls) (local_pure Qual (q.Local at decls)))))

  pub local_qual : Local Qual (qual turns inner)
  unfolding qual
  local_qual = local_look (λ c. local_if (is key.KLet c) local_let_qual (local_then local_qual_head local_qual_behind))

  pub local_comma_qual : Local CommaQual (comma_qual turns inner)
  unfolding comma_qual
  local_comma_qual = local_key key.KComma (λ comma. local_then local_qual (λ x. local_pure CommaQual (roll-CommaQual (record { comma = comma; qual = x }))))

  pub local_comma_quals : Local (List CommaQual) (comma_quals turns inner)
  local_comma_quals = local_many_from CommaQual (is key.KComma) (comma_qual turns inner) local_comma_qual turns []

  -- in brackets

  pub local_range : (open_at : At) (low : Exp) → Local Aexp (range turns inner open_at low)
  unfolding range
  local_range open_at low = local_key key.KDots (λ dots. local_then local_whole (λ high. local_key key.KCloseBracket (λ close_at. local_pure Aexp (a.List (l.Range open_at low dots high close_at)))))

  pub local_comprehension : (open_at : At) (e : Exp) → Local Aexp (comprehension turns inner open_at e)
  unfolding comprehension
  local_comprehension open_at e = local_key key.KBar (λ bar. local_then local_qual (λ first. local_then local_comma_quals (λ rest. local_key key.KCloseBracket (λ close_at. local_pure Aexp (a.List (l.Comprehension open_at e bar first rest close_at))))))

  pub local_members : (open_at : At) (first : Exp) → Local Aexp (members turns inner open_at first)
  unfolding members
  local_members open_at first = local_then local_comma_exps (λ rest. local_key key.KCloseBracket (λ close_at. local_pure Aexp (a.List (l.Members open_at first rest close_at))))

  pub local_brackets_by : (open_at : At) (first : Exp) (c : Option Token) → Local Aexp (brackets_by turns inner open_at first c)
  local_brackets_by open_at first c = local_if (is key.KDots c) (local_range open_at first) (local_if (is key.KBar c) (local_comprehension open_at first) (local_members open_at first))

  pub local_brackets_behind : (open_at : At) (first : Exp) → Local Aexp (brackets_behind turns inner open_at first)
  local_brackets_behind open_at first = local_look (local_brackets_by open_at first)

  pub local_nil_exp : (open_at : At) → Local Aexp (nil_exp turns inner open_at)
  local_nil_exp open_at = local_key key.KCloseBracket (λ close_at. local_pure Aexp (a.Nil open_at close_at))

  pub local_brackets : Local Aexp (brackets turns inner)
  unfolding brackets
  local_brackets = local_key key.KOpenBracket (λ open_at. local_look (λ c. local_if (is key.KCloseBracket c) (local_nil_exp open_at) (local_then local_whole (local_brackets_behind open_at))))

  -- arguments

  pub local_name_exp : Local Aexp (name_exp turns inner)
  local_name_exp = local_small (λ name. local_pure Aexp (a.Var (var.Plain name)))

  pub local_con_exp : Local Aexp (con_exp turns inner)
  local_con_exp = local_capital (λ name. local_pure Aexp (a.Con name))

  pub local_literal_exp : Local Aexp (literal_exp turns inner)
  local_literal_exp = local_literal (λ x. local_pure Aexp (a.Literal x.0 x.1))

  pub local_aexp_by : (c : Option Token) → Local Aexp (aexp_by turns inner c)
  local_aexp_by c = local_if (is_small c) local_name_exp (local_if (is_capital c) local_con_exp (local_if (is_literal c) local_literal_exp (local_if (is key.KOpenParen c) local_parens
      (local_if (is key.KOpenBracket c) local_brackets (local_refuse Aexp)))))

  pub local_aexp : Local Aexp (aexp turns inner)
  unfolding aexp
  local_aexp = local_look local_aexp_by

  pub local_aexps : Local (List Aexp) (aexps turns inner)
  local_aexps = local_many_from Aexp starts_aexp (aexp turns inner) local_aexp turns []

  pub local_apply : Local Apply (apply turns inner)
  unfolding apply
  local_apply = local_then local_aexp (λ f. local_then local_aexps (λ xs. local_pure Apply (roll-Apply (record { head = f; args = xs }))))

  -- operands that stand last

  pub local_lambda : (section : Bool) (links : List Link) (s : Sign) → Local Opened (lambda turns inner section links s)
  unfolding lambda
  local_lambda section links s = local_key key.KBackslash (λ at. local_then g.apat (λ first. local_then (local_apats turns inner.apat g.apat) (λ rest. local_key key.KRightArrow (λ arrow. local_then (g.exp section sign.Absent) (λ e.
      local_pure Opened (made links s (o.Lambda at first rest arrow e.0), e.1))))))

  pub local_let_in : (section : Bool) (links : List Link) (s : Sign) → Local Opened (let_in turns inner section links s)
  unfolding let_in
  local_let_in section links s = local_key key.KLet (λ at. local_then g.block (λ decls. local_key key.KIn (λ in_at. local_then (g.exp section sign.Absent) (λ e. local_pure Opened (made links s (o.Let at decls in_at e.0), e.1)))))

  pub local_choice : (section : Bool) (links : List Link) (s : Sign) → Local Opened (choice turns inner section links s)
  unfolding choice
  local_choice section links s = local_key key.KIf (λ at. local_then local_whole (λ c. local_key key.KThen (λ then_at. local_then local_whole (λ d. local_key key.KElse (λ else_at. local_then (g.exp section sign.Absent) (λ e.
      local_pure Opened (made links s (o.If at c then_at d else_at e.0), e.1)))))))

  pub local_last_op : (section : Bool) → Local (Option Op) (last_op turns inner section)
  local_last_op section = local_look (λ c. local_if (section && starts_op c) (local_then local_op (λ y. local_pure (Option Op) (Some y))) (local_pure (Option Op) None))

  pub local_cases : (section : Bool) (links : List Link) (s : Sign) → Local Opened (cases turns inner section links s)
  unfolding cases
  local_cases section links s = local_key key.KCase (λ at. local_then local_whole (λ subject. local_key key.KOf (λ of_at. local_then g.alts (λ alts. local_then (local_last_op section) (λ end.
      local_pure Opened (made links s (o.Case at subject of_at alts), end))))))

  -- chains

  pub local_signed : (taken : Sign) → Local Sign (signed turns inner taken)
  local_signed (sign.Minus at) = local_pure Sign (sign.Minus at)
  local_signed sign.Absent = local_look (λ c. local_if (is_minus c) (local_minus (λ at. local_pure Sign (sign.Minus at))) (local_pure Sign sign.Absent))

  -- by what reads the operands behind an operator
  module _ (section : Bool) (go : List Link → Parser Opened) (gg : (links : List Link) → Local Opened (go links)) where
    pub local_after_op : (links : List Link) (s : Sign) (x : Apply) → Local Opened (after_op turns inner go section links s x)
    unfolding after_op
    local_after_op links s x = local_then local_op (λ y. local_look (λ c. local_if (section && is key.KCloseParen c) (local_pure Opened (made links s (o.Applied x), Some y)) (gg (linked links s x y))))

    pub local_operands : (links : List Link) (s : Sign) → Local Opened (operands turns inner go section links s)
    unfolding operands
    local_operands links s = local_then local_apply (λ x. local_look (λ c. local_if (starts_op c) (local_after_op links s x) (local_pure Opened (made links s (o.Applied x), None))))

    pub local_chain_by : (links : List Link) (s : Sign) (c : Option Token) → Local Opened (chain_by turns inner go section links s c)
    local_chain_by links s c = local_if (is key.KBackslash c) (local_lambda section links s) (local_if (is key.KLet c) (local_let_in section links s) (local_if (is key.KIf c) (local_choice section links s)
        (local_if (is key.KCase c) (local_cases section links s) (local_operands links s))))

  pub local_chain : (section : Bool) (n : ℕ) (taken : Sign) (links : List Link) → Local Opened (chain turns inner section n taken links)
  unfolding chain
  local_chain section zero taken links = local_deep Opened
  local_chain section (suc n) taken links = local_then (local_signed taken) (λ s. local_look (local_chain_by section (chain turns inner section n sign.Absent) (local_chain section n sign.Absent) links s))

  pub local_exp_level : (section : Bool) (taken : Sign) → Local Opened (exp_level turns inner section taken)
  local_exp_level section taken = local_chain section turns taken []
