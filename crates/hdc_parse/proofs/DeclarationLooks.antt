-- No rule of declarations looks past the token where it ends or stops.
use Rattle.std.proofs.Common.{ℕ, Bool, false, not, ◌&&◌, ◌||◌, List, [], ◌∷◌, Option}
use Rattle.hdc_base.specs.declared.place.At.{At}
use Rattle.hdc_base.specs.declared.token.Key.TheVariants as key
use Rattle.hdc_base.specs.declared.token.Token.{Token}
use Rattle.hdc_tree.specs.declared.name.Name.{Name}
use Rattle.hdc_tree.specs.declared.name.CommaVar.{CommaVar}
use Rattle.hdc_tree.specs.declared.name.Var.{Var}
use Rattle.hdc_tree.specs.declared.name.Var.TheVariants as var
use Rattle.hdc_tree.specs.declared.pattern.Apat.{Apat}
use Rattle.hdc_tree.specs.declared.pattern.Apat.TheVariants as a
use Rattle.hdc_tree.specs.declared.pattern.ConsPat.{ConsPat}
use Rattle.hdc_tree.specs.declared.pattern.LeftPat.{LeftPat}
use Rattle.hdc_tree.specs.declared.pattern.LeftPat.TheVariants as l
use Rattle.hdc_tree.specs.declared.pattern.Pat.{Pat, roll-Pat}
use Rattle.hdc_tree.specs.declared.head.Head.TheVariants as lhs
use Rattle.hdc_tree.specs.declared.expression.Alt.{Alt}
use Rattle.hdc_tree.specs.declared.expression.Alt.TheVariants as alternative
use Rattle.hdc_tree.specs.declared.expression.Alts.{Alts, roll-Alts}
use Rattle.hdc_tree.specs.declared.expression.ArrowGuard.{ArrowGuard, roll-ArrowGuard}
use Rattle.hdc_tree.specs.declared.expression.Block.{Block, roll-Block}
use Rattle.hdc_tree.specs.declared.expression.Decl.{Decl}
use Rattle.hdc_tree.specs.declared.expression.Decl.TheVariants as d
use Rattle.hdc_tree.specs.declared.expression.EqualGuard.{EqualGuard, roll-EqualGuard}
use Rattle.hdc_tree.specs.declared.expression.NextAlt.{NextAlt, roll-NextAlt}
use Rattle.hdc_tree.specs.declared.expression.NextDecl.{NextDecl, roll-NextDecl}
use Rattle.hdc_tree.specs.declared.expression.Rhs.{Rhs}
use Rattle.hdc_tree.specs.declared.expression.Rhs.TheVariants as r
use Rattle.hdc_tree.specs.declared.expression.Where.{Where}
use Rattle.hdc_tree.specs.declared.expression.Where.TheVariants as wh
use Rattle.hdc_tree.specs.Form.{any_of}
use Rattle.hdc_tree.specs.ExpressionForm.{filled_alt, filled_next_alt}
use Rattle.hdc_syntax.specs.Words.{is, is_small, is_capital, is_symbol, is_minus, is_minus_text}
use Rattle.hdc_syntax.specs.Names.{starts_var_op}
use Rattle.hdc_syntax.proofs.Local.{Local, Within, local_pure, local_refuse, local_many_from}
use Rattle.hdc_syntax.proofs.Steps.{local_then, local_key, local_small, local_capital, local_symbol, local_number, local_look, local_if}
use Rattle.hdc_syntax.proofs.NameRules.{local_var, local_var_op}
use Rattle.hdc_syntax.specs.PatternReader.{starts_apat, cons_pat}
use Rattle.hdc_syntax.proofs.PatternLooks.{local_apats, local_applied_pat, local_negative_pat, local_cons_pat, local_pat_behind, local_parens_behind, local_pat}
use Rattle.hdc_syntax.proofs.TypeLooks.{local_type_exp}
use Rattle.hdc_expression.specs.declared.qualifier.QualHead.{QualHead}
use Rattle.hdc_expression.specs.ExpressionReader.{Inner, generator, condition}
use Rattle.hdc_expression.proofs.Opened.{LocalInner}
use Rattle.hdc_expression.proofs.ExpressionLooks.{local_whole}
use Rattle.hdc_expression.specs.DeclarationReader.{ends_member, local, arrow_guard, arrow_guards, arrow_alt, guarded_alt, filled, alt, next_alt, next_alts, alts_closed, alts, equal_guard, equal_guards, equal_rhs, guards_rhs, rhs, comma_var, comma_vars, signature, prefix_decl, var_behind, infix_decl, binding, left_behind, apat_behind, as_decl, cons_decl, named_by, named, applied_behind, constructed, negative, paren_infix, paren_left, paren_behind, operator_decl, minus_decl, symbol_by, symbol_decl, unit_decl, paren_applied, paren_constructed, parens_by, parens, decl_by, stated, decl, next_decl, next_decls, block}

-- the rules at one depth, by the parsers of what nests, of which the two forms of a qualifier show early which it is
module _ (turns : ℕ) (inner : Inner) (g : LocalInner inner) (apart : Within QualHead (generator turns inner) (condition turns inner)) where
  pub local_local : Local Where (local turns inner)
  unfolding local
  local_local = local_look (λ c. local_if (is key.KWhere c) (local_key key.KWhere (λ at. local_then g.block (λ decls. local_pure Where (wh.Present at decls)))) (local_pure Where wh.Absent))

  -- alternatives

  pub local_arrow_guard : Local ArrowGuard (arrow_guard turns inner)
  unfolding arrow_guard
  local_arrow_guard = local_key key.KBar (λ bar. local_then (local_whole turns inner g apart) (λ condition. local_key key.KRightArrow (λ arrow. local_then (local_whole turns inner g apart) (λ e.
      local_pure ArrowGuard (roll-ArrowGuard (record { bar = bar; condition = condition; arrow = arrow; exp = e }))))))

  pub local_arrow_guards : Local (List ArrowGuard) (arrow_guards turns inner)
  local_arrow_guards = local_many_from ArrowGuard (is key.KBar) (arrow_guard turns inner) local_arrow_guard turns []

  pub local_arrow_alt : (p : Pat) → Local Alt (arrow_alt turns inner p)
  unfolding arrow_alt
  local_arrow_alt p = local_key key.KRightArrow (λ arrow. local_then (local_whole turns inner g apart) (λ e. local_then local_local (λ decls. local_pure Alt (alternative.Arrow p arrow e decls))))

  pub local_guarded_alt : (p : Pat) → Local Alt (guarded_alt turns inner p)
  unfolding guarded_alt
  local_guarded_alt p = local_then local_arrow_guard (λ first. local_then local_arrow_guards (λ rest. local_then local_local (λ decls. local_pure Alt (alternative.Guarded p first rest decls))))

  pub local_filled : Local Alt (filled turns inner)
  unfolding filled
  local_filled = local_then (local_pat turns inner.apat g.apat) (λ p. local_look (λ c. local_if (is key.KBar c) (local_guarded_alt p) (local_arrow_alt p)))

  pub local_alt : Local Alt (alt turns inner)
  unfolding alt
  local_alt = local_look (λ c. local_if (ends_member c) (local_pure Alt alternative.Blank) local_filled)

  pub local_next_alt : Local NextAlt (next_alt turns inner)
  unfolding next_alt
  local_next_alt = local_key key.KSemicolon (λ semicolon. local_then local_alt (λ x. local_pure NextAlt (roll-NextAlt (record { semicolon = semicolon; alt = x }))))

  pub local_next_alts : Local (List NextAlt) (next_alts turns inner)
  local_next_alts = local_many_from NextAlt (is key.KSemicolon) (next_alt turns inner) local_next_alt turns []

  pub local_alts_closed : (open_at : At) (first : Alt) (rest : List NextAlt) → Local Alts (alts_closed turns inner open_at first rest)
  local_alts_closed open_at first rest = local_key key.KCloseBrace (λ close_at. local_pure Alts (roll-Alts (record { open_at = open_at; first = first; rest = rest; close_at = close_at })))

  pub local_alts : Local Alts (alts turns inner)
  unfolding alts
  local_alts = local_key key.KOpenBrace (λ open_at. local_then local_alt (λ first. local_then local_next_alts (λ rest. local_if (filled_alt first || any_of filled_next_alt rest) (local_alts_closed open_at first rest) (local_refuse Alts))))

  -- right sides

  pub local_equal_guard : Local EqualGuard (equal_guard turns inner)
  unfolding equal_guard
  local_equal_guard = local_key key.KBar (λ bar. local_then (local_whole turns inner g apart) (λ condition. local_key key.KEqual (λ equal. local_then (local_whole turns inner g apart) (λ e.
      local_pure EqualGuard (roll-EqualGuard (record { bar = bar; condition = condition; equal = equal; exp = e }))))))

  pub local_equal_guards : Local (List EqualGuard) (equal_guards turns inner)
  local_equal_guards = local_many_from EqualGuard (is key.KBar) (equal_guard turns inner) local_equal_guard turns []

  pub local_equal_rhs : Local Rhs (equal_rhs turns inner)
  unfolding equal_rhs
  local_equal_rhs = local_key key.KEqual (λ equal. local_then (local_whole turns inner g apart) (λ e. local_then local_local (λ decls. local_pure Rhs (r.Equal equal e decls))))

  pub local_guards_rhs : Local Rhs (guards_rhs turns inner)
  unfolding guards_rhs
  local_guards_rhs = local_then local_equal_guard (λ first. local_then local_equal_guards (λ rest. local_then local_local (λ decls. local_pure Rhs (r.Guards first rest decls))))

  pub local_rhs : Local Rhs (rhs turns inner)
  unfolding rhs
  local_rhs = local_look (λ c. local_if (is key.KBar c) local_guards_rhs local_equal_rhs)

  -- signatures and equations

  pub local_comma_var : Local CommaVar (comma_var turns inner)
  unfolding comma_var
  local_comma_var = local_key key.KComma (λ comma. local_then local_var (λ v. local_pure CommaVar (record { comma = comma; var = v })))

  pub local_comma_vars : Local (List CommaVar) (comma_vars turns inner)
  local_comma_vars = local_many_from CommaVar (is key.KComma) (comma_var turns inner) local_comma_var turns []

  pub local_signature : (first : Var) → Local Decl (signature turns inner first)
  unfolding signature
  local_signature first = local_then local_comma_vars (λ rest. local_key key.KDoubleColon (λ at. local_then (local_type_exp turns inner.atype g.atype) (λ part. local_pure Decl (d.Signature first rest at part))))

  pub local_prefix_decl : (first : Var) → Local Decl (prefix_decl turns inner first)
  unfolding prefix_decl
  local_prefix_decl first = local_then (local_apats turns inner.apat g.apat) (λ ps. local_then local_rhs (λ right. local_pure Decl (d.Equation (lhs.Prefix first ps) right)))

  pub local_var_behind : (first : Var) → Local Decl (var_behind turns inner first)
  local_var_behind first = local_look (λ c. local_if (is key.KComma c || is key.KDoubleColon c) (local_signature first) (local_prefix_decl first))

  pub local_infix_decl : (p : Apat) → Local Decl (infix_decl turns inner p)
  unfolding infix_decl
  local_infix_decl p = local_then local_var_op (λ o. local_then g.apat (λ q. local_then local_rhs (λ right. local_pure Decl (d.Equation (lhs.Infix p o q) right))))

  -- bindings

  pub local_binding : (p : Pat) → Local Decl (binding turns inner p)
  local_binding p = local_then local_rhs (λ right. local_pure Decl (d.Binding p right))

  pub local_left_behind : (first : LeftPat) → Local Decl (left_behind turns inner first)
  unfolding left_behind
  local_left_behind first = local_then (local_pat_behind turns inner.apat g.apat first) local_binding

  pub local_apat_behind : (top : Bool) (x : Apat) → Local Decl (apat_behind turns inner top x)
  local_apat_behind top x = local_look (λ c. local_if (top || starts_var_op c) (local_infix_decl x) (local_left_behind (l.Plain x)))

  -- what begins with a name

  pub local_as_decl : (top : Bool) (name : Name) → Local Decl (as_decl turns inner top name)
  unfolding as_decl
  local_as_decl top name = local_key key.KAt (λ at. local_then g.apat (λ x. local_apat_behind top (a.As name at x)))

  pub local_cons_decl : (name : Name) → Local Decl (cons_decl turns inner name)
  unfolding cons_decl
  local_cons_decl name = local_then (local_cons_pat turns inner.apat g.apat) (λ first. local_then (local_many_from ConsPat (is key.KColon) (cons_pat turns inner.apat) (local_cons_pat turns inner.apat g.apat) turns (first ∷ [])) (λ rest.
      local_binding (roll-Pat (record { first = l.Plain (a.Var name); rest = rest }))))

  pub local_named_by : (top : Bool) (name : Name) (c : Option Token) → Local Decl (named_by turns inner top name c)
  local_named_by top name c = local_if (is key.KAt c) (local_as_decl top name) (local_if (not top && is key.KColon c) (local_cons_decl name) (local_if (starts_var_op c) (local_infix_decl (a.Var name)) (local_var_behind (var.Plain name))))

  pub local_named : (top : Bool) → Local Decl (named turns inner top)
  unfolding named
  local_named top = local_small (λ name. local_look (local_named_by top name))

  -- what begins with a constructor or a sign

  pub local_applied_behind : (name : Name) → Local Decl (applied_behind turns inner name)
  local_applied_behind name = local_then (local_applied_pat turns inner.apat g.apat name) local_left_behind

  pub local_constructed : (top : Bool) → Local Decl (constructed turns inner top)
  unfolding constructed
  local_constructed top = local_capital (λ name. local_look (λ c. local_if (not top && starts_apat c) (local_applied_behind name) (local_apat_behind top (a.Con name))))

  pub local_negative : Local Decl (negative turns inner)
  unfolding negative
  local_negative = local_then (local_negative_pat turns inner.apat g.apat) local_left_behind

  -- what begins with a parenthesis

  pub local_paren_infix : (open_at : At) (p : Apat) → Local Decl (paren_infix turns inner open_at p)
  unfolding paren_infix
  local_paren_infix open_at p = local_then local_var_op (λ o. local_then g.apat (λ q. local_key key.KCloseParen (λ close_at. local_then g.apat (λ first. local_then (local_apats turns inner.apat g.apat) (λ rest. local_then local_rhs (λ right.
      local_pure Decl (d.Equation (lhs.Paren open_at p o q close_at first rest) right)))))))

  pub local_paren_left : (top : Bool) (open_at : At) (first : LeftPat) → Local Decl (paren_left turns inner top open_at first)
  unfolding paren_left
  local_paren_left top open_at first = local_then (local_pat_behind turns inner.apat g.apat first) (λ p. local_then (local_parens_behind turns inner.apat g.apat open_at p) (local_apat_behind top))

  pub local_paren_behind : (top : Bool) (open_at : At) (x : Apat) → Local Decl (paren_behind turns inner top open_at x)
  local_paren_behind top open_at x = local_look (λ c. local_if (starts_var_op c) (local_paren_infix open_at x) (local_paren_left top open_at (l.Plain x)))

  pub local_operator_decl : (open_at : At) (name : Name) → Local Decl (operator_decl turns inner open_at name)
  local_operator_decl open_at name = local_key key.KCloseParen (λ close_at. local_var_behind (var.Operator open_at name close_at))

  pub local_minus_decl : (top : Bool) (open_at : At) (name : Name) → Local Decl (minus_decl turns inner top open_at name)
  local_minus_decl top open_at name = local_number (λ n. local_paren_left top open_at (l.Negative name.at n.0 n.1))

  pub local_symbol_by : (top : Bool) (open_at : At) (name : Name) (c : Option Token) → Local Decl (symbol_by turns inner top open_at name c)
  local_symbol_by top open_at name c = local_if (is key.KCloseParen c) (local_operator_decl open_at name) (local_if (is_minus_text name.text) (local_minus_decl top open_at name) (local_refuse Decl))

  pub local_symbol_decl : (top : Bool) (open_at : At) → Local Decl (symbol_decl turns inner top open_at)
  unfolding symbol_decl
  local_symbol_decl top open_at = local_symbol (λ name. local_look (local_symbol_by top open_at name))

  pub local_unit_decl : (top : Bool) (open_at : At) → Local Decl (unit_decl turns inner top open_at)
  local_unit_decl top open_at = local_key key.KCloseParen (λ close_at. local_apat_behind top (a.Unit open_at close_at))

  pub local_paren_applied : (top : Bool) (open_at : At) (name : Name) → Local Decl (paren_applied turns inner top open_at name)
  local_paren_applied top open_at name = local_then (local_applied_pat turns inner.apat g.apat name) (local_paren_left top open_at)

  pub local_paren_constructed : (top : Bool) (open_at : At) → Local Decl (paren_constructed turns inner top open_at)
  unfolding paren_constructed
  local_paren_constructed top open_at = local_capital (λ name. local_look (λ c. local_if (starts_apat c) (local_paren_applied top open_at name) (local_paren_behind top open_at (a.Con name))))

  pub local_parens_by : (top : Bool) (open_at : At) (c : Option Token) → Local Decl (parens_by turns inner top open_at c)
  local_parens_by top open_at c = local_if (is_symbol c) (local_symbol_decl top open_at) (local_if (is key.KCloseParen c) (local_unit_decl top open_at) (local_if (is_capital c) (local_paren_constructed top open_at) (local_then g.apat (local_paren_behind top open_at))))

  pub local_parens : (top : Bool) → Local Decl (parens turns inner top)
  unfolding parens
  local_parens top = local_key key.KOpenParen (λ open_at. local_look (local_parens_by top open_at))

  -- declarations and blocks

  pub local_decl_by : (top : Bool) (c : Option Token) → Local Decl (decl_by turns inner top c)
  local_decl_by top c = local_if (is_small c) (local_named top) (local_if (is key.KOpenParen c) (local_parens top) (local_if (is_capital c) (local_constructed top) (local_if (not top && is_minus c) local_negative (local_then g.apat (local_apat_behind top)))))

  pub local_stated : (top : Bool) → Local Decl (stated turns inner top)
  unfolding stated
  local_stated top = local_look (local_decl_by top)

  pub local_decl : Local Decl (decl turns inner)
  unfolding decl
  local_decl = local_look (λ c. local_if (ends_member c) (local_pure Decl d.Empty) (local_stated false))

  pub local_next_decl : Local NextDecl (next_decl turns inner)
  unfolding next_decl
  local_next_decl = local_key key.KSemicolon (λ semicolon. local_then local_decl (λ x. local_pure NextDecl (roll-NextDecl (record { semicolon = semicolon; decl = x }))))

  pub local_next_decls : Local (List NextDecl) (next_decls turns inner)
  local_next_decls = local_many_from NextDecl (is key.KSemicolon) (next_decl turns inner) local_next_decl turns []

  pub local_block : Local Block (block turns inner)
  unfolding block
  local_block = local_key key.KOpenBrace (λ open_at. local_then local_decl (λ first. local_then local_next_decls (λ rest. local_key key.KCloseBrace (λ close_at. local_pure Block (roll-Block (record { open_at = open_at; first = first; rest = rest; close_at = close_at }))))))
