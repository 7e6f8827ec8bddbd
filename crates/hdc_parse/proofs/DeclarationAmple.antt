-- No limit comes in the rules of declarations and alternatives where the turns are more than the text is long and the depth suffices for the nesting.
use Rattle.std.proofs.Common.{ℕ, suc, ◌<◌, Bool, false, ◌&&◌, ◌||◌, not, List, [], ◌∷◌, Option, refl, ap}
use Rattle.hdc_base.specs.declared.place.At.{At}
use Rattle.hdc_base.specs.declared.token.Key.TheVariants as key
use Rattle.hdc_base.specs.declared.token.Token.{Token}
use Rattle.hdc_tree.specs.declared.name.Name.{Name}
use Rattle.hdc_tree.specs.declared.name.Var.{Var}
use Rattle.hdc_tree.specs.declared.name.Var.TheVariants as var
use Rattle.hdc_tree.specs.declared.name.VarOp.{VarOp}
use Rattle.hdc_tree.specs.declared.name.CommaVar.{CommaVar}
use Rattle.hdc_tree.specs.declared.pattern.Apat.{Apat}
use Rattle.hdc_tree.specs.declared.pattern.Apat.TheVariants as a
use Rattle.hdc_tree.specs.declared.pattern.ConsPat.{ConsPat}
use Rattle.hdc_tree.specs.declared.pattern.LeftPat.{LeftPat}
use Rattle.hdc_tree.specs.declared.pattern.LeftPat.TheVariants as l
use Rattle.hdc_tree.specs.declared.pattern.Pat.{Pat, roll-Pat}
use Rattle.hdc_tree.specs.declared.head.Head.TheVariants as lhs
use Rattle.hdc_tree.specs.declared.expression.Alt.{Alt}
use Rattle.hdc_tree.specs.declared.expression.Alt.TheVariants as alternative
use Rattle.hdc_tree.specs.declared.expression.Alts.{Alts, roll-Alts}
use Rattle.hdc_tree.specs.declared.expression.ArrowGuard.{ArrowGuard, roll-ArrowGuard}
use Rattle.hdc_tree.specs.declared.expression.Block.{Block, roll-Block}
use Rattle.hdc_tree.specs.declared.expression.Decl.{Decl}
use Rattle.hdc_tree.specs.declared.expression.Decl.TheVariants as d
use Rattle.hdc_tree.specs.declared.expression.EqualGuard.{EqualGuard, roll-EqualGuard}
use Rattle.hdc_tree.specs.declared.expression.NextAlt.{NextAlt, roll-NextAlt}
use Rattle.hdc_tree.specs.declared.expression.NextDecl.{NextDecl, roll-NextDecl}
use Rattle.hdc_tree.specs.declared.expression.Rhs.{Rhs}
use Rattle.hdc_tree.specs.declared.expression.Rhs.TheVariants as right
use Rattle.hdc_tree.specs.declared.expression.Where.{Where}
use Rattle.hdc_tree.specs.declared.expression.Where.TheVariants as wh
use Rattle.hdc_tree.specs.Form.{any_of}
use Rattle.hdc_tree.specs.NameSpelling.{var_op_onto, comma_var_onto}
use Rattle.hdc_tree.specs.PatternSpelling.{cons_pat_onto}
use Rattle.hdc_tree.specs.PatternForm.{formed_cons_pat}
use Rattle.hdc_tree.specs.ExpressionSpelling.{arrow_guard_onto, equal_guard_onto, next_alt_onto, next_decl_onto}
use Rattle.hdc_tree.specs.ExpressionForm.{filled_alt, formed_arrow_guard, formed_equal_guard, formed_next_alt, filled_next_alt, formed_next_decl}
use Rattle.hdc_tree.proofs.ExpressionEquations.{arrow_guard_parts, equal_guard_parts, next_alt_parts, next_decl_parts}
use Rattle.hdc_syntax.specs.Parser.{head}
use Rattle.hdc_syntax.specs.Words.{is, is_small, is_capital, is_symbol, is_minus, is_minus_text}
use Rattle.hdc_syntax.specs.Names.{starts_var_op}
use Rattle.hdc_syntax.proofs.Good.{good_many_from}
use Rattle.hdc_syntax.proofs.NameRules.{always, good_var_op}
use Rattle.hdc_syntax.proofs.Balanced.{BalancedWord, balanced_free, word_by, put_var_op, comma_var_word}
use Rattle.hdc_syntax.proofs.Keeping.{keeps_floor, keeps_outer, spelled_balanced}
use Rattle.hdc_syntax.proofs.Ample.{here, floor, outer, free_pure, free_refuse, free_then, free_if, free_last, Ample, ample_free, ample_floor, ample_outer, ample_then, ample_look, ample_if}
use Rattle.hdc_syntax.specs.PatternReader.{starts_apat, cons_pat}
use Rattle.hdc_syntax.proofs.PatternWords.{good_apats, good_applied_pat, good_negative_pat, good_cons_pat, good_pat}
use Rattle.hdc_syntax.proofs.PatternAgain.{cons_pat_starts}
use Rattle.hdc_syntax.proofs.PatternBalanced.{apat_word, left_pat_word, cons_pat_word, pat_word}
use Rattle.hdc_syntax.proofs.PatternAmple.{leads_pat_behind, leads_pat_behind_floor, leads_parens_behind, ample_apats, ample_applied_pat, free_negative_pat, ample_cons_pat, ample_pat_behind, ample_pat, ample_parens_behind_outer}
use Rattle.hdc_syntax.proofs.TypeAmple.{ample_type_exp}
use Rattle.hdc_syntax.proofs.AmpleSteps.{each_word, grown_balanced, ample_last, then_floor, then_outer, ample_lead, past_key, past_comma, past_counting_floor, past_open, past_open_floor, past_close, past_small, past_capital, past_symbol, past_number, many_floor, free_var, free_var_op}
use Rattle.hdc_expression.specs.ExpressionReader.{Inner}
use Rattle.hdc_expression.specs.DeclarationReader.{ends_member, local, arrow_guard, arrow_guards, arrow_alt, guarded_alt, filled, alt, next_alt, next_alts, alts, equal_guard, equal_guards, equal_rhs, guards_rhs, rhs, comma_var, comma_vars, signature, prefix_decl, var_behind, infix_decl, binding, left_behind, apat_behind, as_decl, cons_decl, named_by, named, applied_behind, constructed, negative, paren_infix, paren_left, paren_behind, operator_decl, minus_decl, symbol_by, symbol_decl, unit_decl, paren_applied, paren_constructed, parens_by, parens, decl_by, stated, decl, next_decl, next_decls, block}
use Rattle.hdc_expression.proofs.Opened.{GoodInner}
use Rattle.hdc_expression.proofs.ExpressionWords.{good_whole}
use Rattle.hdc_expression.proofs.ExpressionBalanced.{alt_word, arrow_guard_word, decl_word, equal_guard_word, exp_word, next_alt_word, next_decl_word}
use Rattle.hdc_expression.proofs.ExpressionAmple.{AmpleInner, ample_whole}
use Rattle.hdc_parse.proofs.DeclarationWords.{good_arrow_guard, good_arrow_guards, good_alt, good_next_alt, good_equal_guard, good_equal_guards, good_comma_var, good_comma_vars, good_decl, good_next_decl}

var_op_word : (y : VarOp) → BalancedWord VarOp var_op_onto false y
var_op_word y = word_by (λ k. refl) (put_var_op false y)

-- the rules at one depth, by the parsers of what nests
module _ (turns : ℕ) (inner : Inner) (good : GoodInner inner) (most n depth : ℕ) (lt : n < turns) (g : AmpleInner inner most n depth) where
  pub ample_local : Ample Where (local turns inner) most n depth floor
  unfolding local
  ample_local = ample_look (λ c. ample_if (is key.KWhere c) (past_key key.KWhere refl (λ at. ample_last (ample_floor g.block) (λ decls. free_pure (wh.Present at decls)))) (ample_free (free_pure wh.Absent)))

  -- alternatives

  pub ample_arrow_guard : Ample ArrowGuard (arrow_guard turns inner) most n depth floor
  unfolding arrow_guard
  ample_arrow_guard = past_key key.KBar refl (λ bar. then_floor (ample_floor (ample_whole turns inner good most n depth lt g)) (good_whole turns inner good) exp_word (λ condition. past_key key.KRightArrow refl (λ arrow.
      ample_last (ample_floor (ample_whole turns inner good most n depth lt g)) (λ e. free_pure (roll-ArrowGuard (record { bar = bar; condition = condition; arrow = arrow; exp = e }))))))

  pub ample_arrow_guards : Ample (List ArrowGuard) (arrow_guards turns inner) most n depth floor
  ample_arrow_guards = many_floor arrow_guard_onto formed_arrow_guard (is key.KBar) refl (λ x k. ap (λ z. is key.KBar (head z)) (arrow_guard_parts x k)) (good_arrow_guard turns inner good) lt arrow_guard_word [] ample_arrow_guard

  pub ample_arrow_alt : (p : Pat) → Ample Alt (arrow_alt turns inner p) most n depth floor
  unfolding arrow_alt
  ample_arrow_alt p = past_key key.KRightArrow refl (λ arrow. then_floor (ample_floor (ample_whole turns inner good most n depth lt g)) (good_whole turns inner good) exp_word (λ e. ample_last ample_local (λ decls. free_pure (alternative.Arrow p arrow e decls))))

  pub ample_guarded_alt : (p : Pat) → Ample Alt (guarded_alt turns inner p) most n depth floor
  unfolding guarded_alt
  ample_guarded_alt p = then_floor ample_arrow_guard (good_arrow_guard turns inner good) arrow_guard_word (λ first. then_floor ample_arrow_guards (good_arrow_guards turns inner good) (each_word arrow_guard_word) (λ rest.
      ample_last ample_local (λ decls. free_pure (alternative.Guarded p first rest decls))))

  pub ample_filled : Ample Alt (filled turns inner) most n depth floor
  unfolding filled
  ample_filled = then_floor (ample_floor (ample_pat turns inner.apat good.apat most n depth lt g.apat)) (good_pat turns inner.apat good.apat) pat_word (λ p. ample_look (λ c. ample_if (is key.KBar c) (ample_guarded_alt p) (ample_arrow_alt p)))

  pub ample_alt : Ample Alt (alt turns inner) most n depth floor
  unfolding alt
  ample_alt = ample_look (λ c. ample_if (ends_member c) (ample_free (free_pure alternative.Blank)) ample_filled)

  pub ample_next_alt : Ample NextAlt (next_alt turns inner) most n depth floor
  unfolding next_alt
  ample_next_alt = past_comma key.KSemicolon refl (λ semicolon. ample_last ample_alt (λ x. free_pure (roll-NextAlt (record { semicolon = semicolon; alt = x }))))

  pub ample_next_alts : Ample (List NextAlt) (next_alts turns inner) most n depth floor
  ample_next_alts = many_floor next_alt_onto formed_next_alt (is key.KSemicolon) refl (λ x k. ap (λ z. is key.KSemicolon (head z)) (next_alt_parts x k)) (good_next_alt turns inner good) lt next_alt_word [] ample_next_alt

  -- one depth further out
  pub ample_alts : Ample Alts (alts turns inner) most n (suc depth) here
  unfolding alts
  ample_alts = past_open key.KOpenBrace refl (λ open_at. then_floor ample_alt (good_alt turns inner good) alt_word (λ first. ample_last ample_next_alts (λ rest. free_if (filled_alt first || any_of filled_next_alt rest)
      (free_last key.KCloseBrace (λ close_at. free_pure (roll-Alts (record { open_at = open_at; first = first; rest = rest; close_at = close_at })))) free_refuse)))

  -- right sides

  pub ample_equal_guard : Ample EqualGuard (equal_guard turns inner) most n depth floor
  unfolding equal_guard
  ample_equal_guard = past_key key.KBar refl (λ bar. then_floor (ample_floor (ample_whole turns inner good most n depth lt g)) (good_whole turns inner good) exp_word (λ condition. past_key key.KEqual refl (λ equal.
      ample_last (ample_floor (ample_whole turns inner good most n depth lt g)) (λ e. free_pure (roll-EqualGuard (record { bar = bar; condition = condition; equal = equal; exp = e }))))))

  pub ample_equal_guards : Ample (List EqualGuard) (equal_guards turns inner) most n depth floor
  ample_equal_guards = many_floor equal_guard_onto formed_equal_guard (is key.KBar) refl (λ x k. ap (λ z. is key.KBar (head z)) (equal_guard_parts x k)) (good_equal_guard turns inner good) lt equal_guard_word [] ample_equal_guard

  pub ample_equal_rhs : Ample Rhs (equal_rhs turns inner) most n depth floor
  unfolding equal_rhs
  ample_equal_rhs = past_key key.KEqual refl (λ equal. then_floor (ample_floor (ample_whole turns inner good most n depth lt g)) (good_whole turns inner good) exp_word (λ e. ample_last ample_local (λ decls. free_pure (right.Equal equal e decls))))

  pub ample_guards_rhs : Ample Rhs (guards_rhs turns inner) most n depth floor
  unfolding guards_rhs
  ample_guards_rhs = then_floor ample_equal_guard (good_equal_guard turns inner good) equal_guard_word (λ first. then_floor ample_equal_guards (good_equal_guards turns inner good) (each_word equal_guard_word) (λ rest.
      ample_last ample_local (λ decls. free_pure (right.Guards first rest decls))))

  pub ample_rhs : Ample Rhs (rhs turns inner) most n depth floor
  unfolding rhs
  ample_rhs = ample_look (λ c. ample_if (is key.KBar c) ample_guards_rhs ample_equal_rhs)

  -- signatures and equations

  pub ample_comma_var : Ample CommaVar (comma_var turns inner) most n depth floor
  unfolding comma_var
  ample_comma_var = past_comma key.KComma refl (λ comma. ample_free (free_then free_var (λ v. free_pure (record { comma = comma; var = v }))))

  pub ample_comma_vars : Ample (List CommaVar) (comma_vars turns inner) most n depth floor
  ample_comma_vars = many_floor comma_var_onto always (is key.KComma) refl (λ x k. refl) (good_comma_var turns inner good) lt comma_var_word [] ample_comma_var

  pub ample_signature : (first : Var) → Ample Decl (signature turns inner first) most n depth floor
  unfolding signature
  ample_signature first = then_floor ample_comma_vars (good_comma_vars turns inner good) (each_word comma_var_word) (λ rest. past_key key.KDoubleColon refl (λ at.
      ample_last (ample_floor (ample_type_exp turns inner.atype good.atype most n depth lt g.atype)) (λ part. free_pure (d.Signature first rest at part))))

  pub ample_prefix_decl : (v : Var) → Ample Decl (prefix_decl turns inner v) most n depth floor
  unfolding prefix_decl
  ample_prefix_decl v = then_floor (ample_floor (ample_apats turns inner.apat good.apat most n depth lt g.apat)) (good_apats turns inner.apat good.apat) (each_word apat_word) (λ ps. ample_last ample_rhs (λ x. free_pure (d.Equation (lhs.Prefix v ps) x)))

  pub ample_var_behind : (v : Var) → Ample Decl (var_behind turns inner v) most n depth floor
  ample_var_behind v = ample_look (λ c. ample_if (is key.KComma c || is key.KDoubleColon c) (ample_signature v) (ample_prefix_decl v))

  pub ample_infix_decl : (p : Apat) → Ample Decl (infix_decl turns inner p) most n depth floor
  unfolding infix_decl
  ample_infix_decl p = then_floor (ample_free free_var_op) good_var_op var_op_word (λ o. then_floor (ample_floor g.apat) good.apat apat_word (λ q. ample_last ample_rhs (λ x. free_pure (d.Equation (lhs.Infix p o q) x))))

  -- patterns that are bound

  pub ample_binding : (p : Pat) → Ample Decl (binding turns inner p) most n depth floor
  ample_binding p = ample_last ample_rhs (λ x. free_pure (d.Binding p x))

  pub ample_left_behind : (first : LeftPat) → Ample Decl (left_behind turns inner first) most n depth floor
  unfolding left_behind
  ample_left_behind first = ample_lead (ample_floor (ample_pat_behind turns inner.apat good.apat most n depth lt g.apat first)) (leads_pat_behind_floor turns inner.apat good.apat first) ample_binding

  pub ample_apat_behind : (top : Bool) (x : Apat) → Ample Decl (apat_behind turns inner top x) most n depth floor
  ample_apat_behind top x = ample_look (λ c. ample_if (top || starts_var_op c) (ample_infix_decl x) (ample_left_behind (l.Plain x)))

  pub ample_as_decl : (top : Bool) (name : Name) → Ample Decl (as_decl turns inner top name) most n depth floor
  unfolding as_decl
  ample_as_decl top name = past_counting_floor key.KAt refl (λ at. then_floor (ample_floor g.apat) good.apat apat_word (λ x. ample_apat_behind top (a.As name at x)))

  pub ample_cons_decl : (name : Name) → Ample Decl (cons_decl turns inner name) most n depth floor
  unfolding cons_decl
  ample_cons_decl name = then_floor (ample_floor (ample_cons_pat turns inner.apat good.apat most n depth lt g.apat)) (good_cons_pat turns inner.apat good.apat) cons_pat_word (λ first. ample_then
      (many_floor cons_pat_onto formed_cons_pat (is key.KColon) refl cons_pat_starts (good_cons_pat turns inner.apat good.apat) lt cons_pat_word (first ∷ []) (ample_floor (ample_cons_pat turns inner.apat good.apat most n depth lt g.apat)))
      (good_many_from ConsPat cons_pat_onto formed_cons_pat (is key.KColon) (cons_pat turns inner.apat) (good_cons_pat turns inner.apat good.apat) turns (first ∷ []))
      (λ xs w r. keeps_floor (balanced_free (grown_balanced cons_pat_word r)))
      (λ rest. ample_binding (roll-Pat (record { first = l.Plain (a.Var name); rest = rest }))))

  pub ample_named_by : (top : Bool) (name : Name) (c : Option Token) → Ample Decl (named_by turns inner top name c) most n depth floor
  ample_named_by top name c = ample_if (is key.KAt c) (ample_as_decl top name) (ample_if (not top && is key.KColon c) (ample_cons_decl name) (ample_if (starts_var_op c) (ample_infix_decl (a.Var name)) (ample_var_behind (var.Plain name))))

  pub ample_named : (top : Bool) → Ample Decl (named turns inner top) most n depth floor
  unfolding named
  ample_named top = past_small (λ name. ample_look (ample_named_by top name))

  pub ample_applied_behind : (name : Name) → Ample Decl (applied_behind turns inner name) most n depth floor
  ample_applied_behind name = ample_then (ample_floor (ample_applied_pat turns inner.apat good.apat most n depth lt g.apat name)) (good_applied_pat turns inner.apat good.apat name) (λ x w r. keeps_floor (balanced_free (spelled_balanced (left_pat_word x) r))) ample_left_behind

  pub ample_constructed : (top : Bool) → Ample Decl (constructed turns inner top) most n depth floor
  unfolding constructed
  ample_constructed top = past_capital (λ name. ample_look (λ c. ample_if (not top && starts_apat c) (ample_applied_behind name) (ample_apat_behind top (a.Con name))))

  pub ample_negative : Ample Decl (negative turns inner) most n depth floor
  unfolding negative
  ample_negative = then_floor (ample_free (free_negative_pat turns inner.apat good.apat most n depth lt g.apat)) (good_negative_pat turns inner.apat good.apat) left_pat_word ample_left_behind

  -- in the parenthesis with which a declaration begins

  pub ample_paren_infix : (open_at : At) (p : Apat) → Ample Decl (paren_infix turns inner open_at p) most n depth outer
  unfolding paren_infix
  ample_paren_infix open_at p = then_outer (ample_free free_var_op) good_var_op var_op_word (λ o. then_outer (ample_outer (ample_floor g.apat)) good.apat apat_word (λ q. past_close key.KCloseParen refl (λ close_at.
      then_floor (ample_floor g.apat) good.apat apat_word (λ first. then_floor (ample_floor (ample_apats turns inner.apat good.apat most n depth lt g.apat)) (good_apats turns inner.apat good.apat) (each_word apat_word) (λ rest.
      ample_last ample_rhs (λ x. free_pure (d.Equation (lhs.Paren open_at p o q close_at first rest) x)))))))

  pub ample_paren_left : (top : Bool) (open_at : At) (first : LeftPat) → Ample Decl (paren_left turns inner top open_at first) most n depth outer
  unfolding paren_left
  ample_paren_left top open_at first = ample_lead (ample_outer (ample_floor (ample_pat_behind turns inner.apat good.apat most n depth lt g.apat first))) (leads_pat_behind turns inner.apat good.apat first) (λ p.
      ample_lead (ample_parens_behind_outer turns inner.apat good.apat most n depth lt g.apat open_at p) (leads_parens_behind turns inner.apat good.apat open_at p) (ample_apat_behind top))

  pub ample_paren_behind : (top : Bool) (open_at : At) (x : Apat) → Ample Decl (paren_behind turns inner top open_at x) most n depth outer
  ample_paren_behind top open_at x = ample_look (λ c. ample_if (starts_var_op c) (ample_paren_infix open_at x) (ample_paren_left top open_at (l.Plain x)))

  pub ample_operator_decl : (open_at : At) (name : Name) → Ample Decl (operator_decl turns inner open_at name) most n depth outer
  ample_operator_decl open_at name = past_close key.KCloseParen refl (λ close_at. ample_var_behind (var.Operator open_at name close_at))

  pub ample_minus_decl : (top : Bool) (open_at : At) (name : Name) → Ample Decl (minus_decl turns inner top open_at name) most n depth outer
  ample_minus_decl top open_at name = past_number (λ number. ample_paren_left top open_at (l.Negative name.at number.0 number.1))

  pub ample_symbol_by : (top : Bool) (open_at : At) (name : Name) (c : Option Token) → Ample Decl (symbol_by turns inner top open_at name c) most n depth outer
  ample_symbol_by top open_at name c = ample_if (is key.KCloseParen c) (ample_operator_decl open_at name) (ample_if (is_minus_text name.text) (ample_minus_decl top open_at name) (ample_free free_refuse))

  pub ample_symbol_decl : (top : Bool) (open_at : At) → Ample Decl (symbol_decl turns inner top open_at) most n depth outer
  unfolding symbol_decl
  ample_symbol_decl top open_at = past_symbol (λ name. ample_look (ample_symbol_by top open_at name))

  pub ample_unit_decl : (top : Bool) (open_at : At) → Ample Decl (unit_decl turns inner top open_at) most n depth outer
  ample_unit_decl top open_at = past_close key.KCloseParen refl (λ close_at. ample_apat_behind top (a.Unit open_at close_at))

  pub ample_paren_applied : (top : Bool) (open_at : At) (name : Name) → Ample Decl (paren_applied turns inner top open_at name) most n depth outer
  ample_paren_applied top open_at name = ample_then (ample_outer (ample_floor (ample_applied_pat turns inner.apat good.apat most n depth lt g.apat name))) (good_applied_pat turns inner.apat good.apat name)
      (λ x w r. keeps_outer (balanced_free (spelled_balanced (left_pat_word x) r))) (ample_paren_left top open_at)

  pub ample_paren_constructed : (top : Bool) (open_at : At) → Ample Decl (paren_constructed turns inner top open_at) most n depth outer
  unfolding paren_constructed
  ample_paren_constructed top open_at = past_capital (λ name. ample_look (λ c. ample_if (starts_apat c) (ample_paren_applied top open_at name) (ample_paren_behind top open_at (a.Con name))))

  pub ample_parens_by : (top : Bool) (open_at : At) (c : Option Token) → Ample Decl (parens_by turns inner top open_at c) most n depth outer
  ample_parens_by top open_at c = ample_if (is_symbol c) (ample_symbol_decl top open_at) (ample_if (is key.KCloseParen c) (ample_unit_decl top open_at) (ample_if (is_capital c) (ample_paren_constructed top open_at)
      (then_outer (ample_outer (ample_floor g.apat)) good.apat apat_word (ample_paren_behind top open_at))))

  pub ample_parens : (top : Bool) → Ample Decl (parens turns inner top) most n depth floor
  unfolding parens
  ample_parens top = past_open_floor key.KOpenParen refl (λ open_at. ample_look (ample_parens_by top open_at))

  -- declarations

  pub ample_decl_by : (top : Bool) (c : Option Token) → Ample Decl (decl_by turns inner top c) most n depth floor
  ample_decl_by top c = ample_if (is_small c) (ample_named top) (ample_if (is key.KOpenParen c) (ample_parens top) (ample_if (is_capital c) (ample_constructed top) (ample_if (not top && is_minus c) ample_negative
      (then_floor (ample_floor g.apat) good.apat apat_word (ample_apat_behind top)))))

  pub ample_stated : (top : Bool) → Ample Decl (stated turns inner top) most n depth floor
  unfolding stated
  ample_stated top = ample_look (ample_decl_by top)

  pub ample_decl : Ample Decl (decl turns inner) most n depth floor
  unfolding decl
  ample_decl = ample_look (λ c. ample_if (ends_member c) (ample_free (free_pure d.Empty)) (ample_stated false))

  pub ample_next_decl : Ample NextDecl (next_decl turns inner) most n depth floor
  unfolding next_decl
  ample_next_decl = past_comma key.KSemicolon refl (λ semicolon. ample_last ample_decl (λ x. free_pure (roll-NextDecl (record { semicolon = semicolon; decl = x }))))

  pub ample_next_decls : Ample (List NextDecl) (next_decls turns inner) most n depth floor
  ample_next_decls = many_floor next_decl_onto formed_next_decl (is key.KSemicolon) refl (λ x k. ap (λ z. is key.KSemicolon (head z)) (next_decl_parts x k)) (good_next_decl turns inner good) lt next_decl_word [] ample_next_decl

  -- one depth further out
  pub ample_block : Ample Block (block turns inner) most n (suc depth) here
  unfolding block
  ample_block = past_open key.KOpenBrace refl (λ open_at. then_floor ample_decl (good_decl turns inner good) decl_word (λ first. ample_last ample_next_decls (λ rest.
      free_last key.KCloseBrace (λ close_at. free_pure (roll-Block (record { open_at = open_at; first = first; rest = rest; close_at = close_at }))))))
