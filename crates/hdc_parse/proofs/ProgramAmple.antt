-- No limit comes in the rules of programs where the turns are more than the text is long and the depth suffices for the nesting.
use Rattle.std.proofs.Common.{◌≡◌, ℕ, suc, ◌<◌, true, List, [], ◌∷◌, Option, Err, refl}
use Rattle.hdc_base.specs.declared.place.At.{At}
use Rattle.hdc_base.specs.declared.token.Key.{Key}
use Rattle.hdc_base.specs.declared.token.Key.TheVariants as key
use Rattle.hdc_base.specs.declared.token.Word.TheVariants as word
use Rattle.hdc_base.specs.declared.token.Token.{Token}
use Rattle.hdc_nesting.specs.declared.role.Role.TheVariants as role
use Rattle.hdc_nesting.specs.Roles.{role_of}
use Rattle.hdc_tree.specs.declared.name.Name.{Name}
use Rattle.hdc_tree.specs.declared.expression.Alt.{Alt}
use Rattle.hdc_tree.specs.declared.expression.Aexp.{Aexp}
use Rattle.hdc_tree.specs.declared.expression.ListExp.{ListExp}
use Rattle.hdc_tree.specs.declared.expression.Operand.{Operand}
use Rattle.hdc_tree.specs.declared.expression.Qual.{Qual}
use Rattle.hdc_tree.specs.declared.expression.Where.{Where}
use Rattle.hdc_tree.specs.declared.expression.Alts.{Alts}
use Rattle.hdc_tree.specs.declared.expression.Apply.{Apply}
use Rattle.hdc_tree.specs.declared.expression.ArrowGuard.{ArrowGuard}
use Rattle.hdc_tree.specs.declared.expression.Block.{Block}
use Rattle.hdc_tree.specs.declared.expression.CommaExp.{CommaExp}
use Rattle.hdc_tree.specs.declared.expression.CommaQual.{CommaQual}
use Rattle.hdc_tree.specs.declared.expression.EqualGuard.{EqualGuard}
use Rattle.hdc_tree.specs.declared.expression.Exp.{Exp}
use Rattle.hdc_tree.specs.declared.expression.Link.{Link}
use Rattle.hdc_tree.specs.declared.expression.NextAlt.{NextAlt}
use Rattle.hdc_tree.specs.declared.expression.NextDecl.{NextDecl}
use Rattle.hdc_tree.specs.declared.expression.Rhs.{Rhs}
use Rattle.hdc_tree.specs.declared.expression.Decl.{Decl, Decl-F, out-Decl}
use Rattle.hdc_tree.specs.declared.program.Associativity.{Associativity}
use Rattle.hdc_tree.specs.declared.program.Associativity.TheVariants as side
use Rattle.hdc_tree.specs.declared.program.BarConstr.{BarConstr}
use Rattle.hdc_tree.specs.declared.program.CommaExport.{CommaExport}
use Rattle.hdc_tree.specs.declared.program.CommaName.{CommaName}
use Rattle.hdc_tree.specs.declared.program.CommaVarOp.{CommaVarOp}
use Rattle.hdc_tree.specs.declared.program.Constr.{Constr}
use Rattle.hdc_tree.specs.declared.program.Deriving.{Deriving}
use Rattle.hdc_tree.specs.declared.program.Deriving.TheVariants as derive
use Rattle.hdc_tree.specs.declared.program.Export.{Export}
use Rattle.hdc_tree.specs.declared.program.Export.TheVariants as exported
use Rattle.hdc_tree.specs.declared.program.ModuleHead.{ModuleHead}
use Rattle.hdc_tree.specs.declared.program.ModuleHead.TheVariants as h
use Rattle.hdc_tree.specs.declared.program.NextTop.{NextTop}
use Rattle.hdc_tree.specs.declared.program.Top.{Top}
use Rattle.hdc_tree.specs.declared.program.Top.TheVariants as t
use Rattle.hdc_tree.specs.declared.program.Tree.{Tree}
use Rattle.hdc_tree.specs.NameSpelling.{small_onto}
use Rattle.hdc_tree.specs.ProgramSpelling.{comma_export_onto, bar_constr_onto, comma_name_onto, comma_var_op_onto, next_top_onto}
use Rattle.hdc_tree.specs.ProgramForm.{formed_bar_constr, formed_next_top}
use Rattle.hdc_syntax.specs.declared.stop.Stop.{Stop}
use Rattle.hdc_syntax.specs.Words.{is, is_small, is_capital, small_of, capital_of}
use Rattle.hdc_syntax.proofs.Good.{Spells}
use Rattle.hdc_syntax.proofs.Meets.{IsLimit}
use Rattle.hdc_syntax.proofs.NameRules.{always, good_var_op}
use Rattle.hdc_syntax.proofs.Keeping.{keeps_outer, spelled_balanced}
use Rattle.hdc_syntax.proofs.Ample.{here, floor, outer, Free, free_pure, free_refuse, free_then, free_token, free_look, free_if, free_last, Ample, ample_free, ample_floor, ample_look, ample_if, ample_many, nonempty}
use Rattle.hdc_syntax.proofs.AmpleSteps.{each_word, ample_last, then_here, then_floor, past_key, past_comma, past_open, past_open_floor, past_capital, many_floor, free_var, free_var_op}
use Rattle.hdc_syntax.proofs.TypeAmple.{ample_atypes, ample_type_exp}
use Rattle.hdc_expression.specs.ExpressionReader.{Inner}
use Rattle.hdc_expression.specs.DeclarationReader.{ends_member}
use Rattle.hdc_expression.specs.Nested.{nested}
use Rattle.hdc_expression.proofs.Opened.{GoodInner}
use Rattle.hdc_expression.proofs.ExpressionAmple.{AmpleInner}
use Rattle.hdc_parse.proofs.DeclarationAmple.{ample_stated}
use Rattle.hdc_parse.specs.ProgramReader.{export, comma_export, precedence_of, comma_name, comma_var_op, top_layer, top_of, comma_exports, exporting, named_head, module_head, params, constr, bar_constr, bar_constrs, comma_names, derived_list, derived_parens, derived, data_top, synonym_top, comma_var_ops, fixity_top, top_by, top, next_top, next_tops, tree, at_end, program}
use Rattle.hdc_parse.proofs.ProgramWords.{good_export, good_comma_export, good_precedence, good_small_name, good_comma_name, good_comma_var_op, good_module_head, good_params, good_constr, good_bar_constr, good_bar_constrs, good_top, good_next_top}
use Rattle.hdc_parse.proofs.ProgramBalanced.{small_word, comma_name_word, var_op_word, comma_var_op_word, precedence_word, export_word, comma_export_word, module_head_word, constr_word, bar_constr_word, top_word, next_top_word}

-- ---- what has no limit

free_export : Free Export export
unfolding export
free_export = free_look (λ c. free_if (is_capital c) (free_then (free_token capital_of) (λ name. free_pure (exported.Con name))) (free_then free_var (λ x. free_pure (exported.Var x))))

free_comma_export : Free CommaExport comma_export
unfolding comma_export
free_comma_export = free_last key.KComma (λ comma. free_then free_export (λ x. free_pure (record { comma = comma; export = x })))

free_comma_name : Free CommaName comma_name
unfolding comma_name
free_comma_name = free_last key.KComma (λ comma. free_then (free_token capital_of) (λ name. free_pure (record { comma = comma; name = name })))

free_comma_var_op : Free CommaVarOp comma_var_op
unfolding comma_var_op
free_comma_var_op = free_last key.KComma (λ comma. free_then free_var_op (λ x. free_pure (record { comma = comma; op = x })))

free_layer : (y : Decl-F Aexp Alt Decl ListExp Operand Qual Rhs Where Alts Apply ArrowGuard Block CommaExp CommaQual EqualGuard Exp Link NextAlt NextDecl) → Free Top (top_layer y)
free_layer (Decl-F.Signature first rest at part) = free_pure (t.Signature first rest at part)
free_layer (Decl-F.Equation what right) = free_pure (t.Equation what right)
free_layer (Decl-F.Binding p right) = free_refuse
free_layer Decl-F.Empty = free_refuse

free_top_of : (x : Decl) → Free Top (top_of x)
free_top_of x = free_layer (out-Decl x)

end_never : (ts : List Token) (s : Stop) → IsLimit s → at_end ts ≡ Err s → ⊥
end_never [] s l e = absurd (cc)
end_never (c ∷ cs) s l e = free_refuse.never (c ∷ cs) s l e

free_at_end : Free (Unit {0}) at_end
free_at_end = record { never = end_never }

-- ---- the rules, by the parsers of what nests in a program's braces

module _ (turns : ℕ) (inner : Inner) (good : GoodInner inner) (most n depth : ℕ) (lt : n < turns) (g : AmpleInner inner most n depth) where
  -- the head

  pub ample_comma_exports : Ample (List CommaExport) (comma_exports turns) most n depth floor
  ample_comma_exports = many_floor comma_export_onto always (is key.KComma) refl (λ x k. refl) good_comma_export lt comma_export_word [] (ample_free free_comma_export)

  pub ample_exporting : (at : At) (name : Name) → Ample ModuleHead (exporting turns at name) most n (suc depth) here
  unfolding exporting
  ample_exporting at name = past_open key.KOpenParen refl (λ open_at. then_floor (ample_free free_export) good_export export_word (λ first. ample_last ample_comma_exports (λ rest.
      free_last key.KCloseParen (λ close_at. free_last key.KWhere (λ where_at. free_pure (h.Exporting at name open_at first rest close_at where_at))))))

  pub ample_named_head : Ample ModuleHead (named_head turns) most n (suc depth) here
  unfolding named_head
  ample_named_head = past_key key.KModule refl (λ at. past_capital (λ name. ample_look (λ c. ample_if (is key.KOpenParen c) (ample_exporting at name) (ample_free (free_last key.KWhere (λ where_at. free_pure (h.Plain at name where_at)))))))

  pub ample_module_head : Ample ModuleHead (module_head turns) most n (suc depth) here
  unfolding module_head
  ample_module_head = ample_look (λ c. ample_if (is key.KModule c) ample_named_head (ample_free (free_pure h.Absent)))

  -- types

  pub ample_params : Ample (List Name) (params turns) most n depth floor
  ample_params = many_floor small_onto always is_small refl (λ x k. refl) good_small_name lt small_word [] (ample_free (free_token small_of))

  pub ample_constr : Ample Constr (constr turns inner) most n depth floor
  unfolding constr
  ample_constr = past_capital (λ name. ample_last (ample_floor (ample_atypes turns inner.atype good.atype most n depth lt g.atype)) (λ fields. free_pure (record { name = name; fields = fields })))

  pub ample_bar_constr : Ample BarConstr (bar_constr turns inner) most n depth floor
  unfolding bar_constr
  ample_bar_constr = past_key key.KBar refl (λ bar. ample_last ample_constr (λ x. free_pure (record { bar = bar; constr = x })))

  pub ample_bar_constrs : Ample (List BarConstr) (bar_constrs turns inner) most n depth floor
  ample_bar_constrs = many_floor bar_constr_onto formed_bar_constr (is key.KBar) refl (λ x k. refl) (good_bar_constr turns inner good) lt bar_constr_word [] ample_bar_constr

  -- in the parentheses
  pub ample_comma_names : Ample (List CommaName) (comma_names turns) most n depth outer
  ample_comma_names = ample_many CommaName (is key.KComma) comma_name (Spells CommaName comma_name_onto always) most depth outer good_comma_name (λ x w r. keeps_outer (spelled_balanced (comma_name_word x) r))
      (nonempty comma_name_onto always (is key.KComma) refl (λ x k. refl)) turns n [] lt (ample_free free_comma_name)

  pub ample_derived_list : (at open_at : At) → Ample Deriving (derived_list turns at open_at) most n depth outer
  unfolding derived_list
  ample_derived_list at open_at = past_capital (λ first. ample_last ample_comma_names (λ rest. free_last key.KCloseParen (λ close_at. free_pure (derive.List at open_at first rest close_at))))

  pub ample_derived_parens : (at : At) → Ample Deriving (derived_parens turns at) most n depth floor
  unfolding derived_parens
  ample_derived_parens at = past_open_floor key.KOpenParen refl (λ open_at. ample_look (λ c. ample_if (is key.KCloseParen c) (ample_free (free_last key.KCloseParen (λ close_at. free_pure (derive.Unit at open_at close_at)))) (ample_derived_list at open_at)))

  pub ample_derived : Ample Deriving (derived turns) most n depth floor
  unfolding derived
  ample_derived = ample_look (λ c. ample_if (is key.KDeriving c)
      (past_key key.KDeriving refl (λ at. ample_look (λ d. ample_if (is_capital d) (ample_free (free_then (free_token capital_of) (λ name. free_pure (derive.Con at name)))) (ample_derived_parens at))))
      (ample_free (free_pure derive.Absent)))

  pub ample_data_top : Ample Top (data_top turns inner) most n depth floor
  unfolding data_top
  ample_data_top = past_key key.KData refl (λ at. past_capital (λ name. then_floor ample_params (good_params turns inner good) (each_word small_word) (λ ps. past_key key.KEqual refl (λ equal.
      then_floor ample_constr (good_constr turns inner good) constr_word (λ first. then_floor ample_bar_constrs (good_bar_constrs turns inner good) (each_word bar_constr_word) (λ rest.
      ample_last ample_derived (λ what. free_pure (t.Data (record { at = at; name = name; params = ps; equal = equal; first = first; rest = rest; derived = what })))))))))

  pub ample_synonym_top : Ample Top (synonym_top turns inner) most n depth floor
  unfolding synonym_top
  ample_synonym_top = past_key key.KType refl (λ at. past_capital (λ name. then_floor ample_params (good_params turns inner good) (each_word small_word) (λ ps. past_key key.KEqual refl (λ equal.
      ample_last (ample_floor (ample_type_exp turns inner.atype good.atype most n depth lt g.atype)) (λ meaning. free_pure (t.Synonym (record { at = at; name = name; params = ps; equal = equal; meaning = meaning })))))))

  -- fixities

  pub ample_comma_var_ops : Ample (List CommaVarOp) (comma_var_ops turns) most n depth floor
  ample_comma_var_ops = many_floor comma_var_op_onto always (is key.KComma) refl (λ x k. refl) good_comma_var_op lt comma_var_op_word [] (ample_free free_comma_var_op)

  pub ample_fixity_top : (k : Key) (associativity : Associativity) → role_of (word.Key k) ≡ role.Other → Ample Top (fixity_top turns k associativity) most n depth floor
  unfolding fixity_top
  ample_fixity_top k associativity r = past_key k r (λ at. then_floor (ample_free (free_token precedence_of)) good_precedence precedence_word (λ number. then_floor (ample_free free_var_op) good_var_op var_op_word (λ first.
      ample_last ample_comma_var_ops (λ rest. free_pure (t.Fixity (record { at = at; associativity = associativity; number_at = number.0; number = number.1; first = first; rest = rest }))))))

  -- top declarations

  pub ample_top_by : (c : Option Token) → Ample Top (top_by turns inner c) most n depth floor
  ample_top_by c = ample_if (ends_member c) (ample_free (free_pure t.Empty)) (ample_if (is key.KData c) ample_data_top (ample_if (is key.KType c) ample_synonym_top
      (ample_if (is key.KInfix c) (ample_fixity_top key.KInfix side.Neither refl) (ample_if (is key.KInfixl c) (ample_fixity_top key.KInfixl side.Left refl) (ample_if (is key.KInfixr c) (ample_fixity_top key.KInfixr side.Right refl)
      (ample_last (ample_stated turns inner good most n depth lt g true) free_top_of))))))

  pub ample_top : Ample Top (top turns inner) most n depth floor
  unfolding top
  ample_top = ample_look ample_top_by

  pub ample_next_top : Ample NextTop (next_top turns inner) most n depth floor
  unfolding next_top
  ample_next_top = past_comma key.KSemicolon refl (λ semicolon. ample_last ample_top (λ x. free_pure (record { semicolon = semicolon; top = x })))

  pub ample_next_tops : Ample (List NextTop) (next_tops turns inner) most n depth floor
  ample_next_tops = many_floor next_top_onto formed_next_top (is key.KSemicolon) refl (λ x k. refl) (good_next_top turns inner good) lt next_top_word [] ample_next_top

  -- one depth further out

  pub ample_tree : Ample Tree (tree turns inner) most n (suc depth) here
  unfolding tree
  ample_tree = then_here ample_module_head (good_module_head turns inner good) module_head_word (λ head. past_open key.KOpenBrace refl (λ open_at.
      then_floor ample_top (good_top turns inner good) top_word (λ first. ample_last ample_next_tops (λ rest. free_last key.KCloseBrace (λ close_at.
      free_pure (record { head = head; open_at = open_at; first = first; rest = rest; close_at = close_at }))))))

pub ample_program : (turns most depth n : ℕ) → n < turns → GoodInner (nested turns depth) → AmpleInner (nested turns depth) most n depth → Ample Tree (program turns depth) most n (suc depth) here
unfolding program
ample_program turns most depth n lt good g = ample_last (ample_tree turns (nested turns depth) good most n depth lt g) (λ x. free_then free_at_end (λ y. free_pure x))
