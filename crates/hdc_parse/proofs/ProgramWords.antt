-- What each rule of programs reads is a program's spelling, and where a rule stops the tokens so far begin one.
use Rattle.std.proofs.Common.{◌≡◌, ℕ, Bool, true, false, cond, nat_le, List, [], ◌∷◌, ◌++◌, length, Option, Some, None, Ok, Err, refl, sym, ◌∙◌, ap, subst, append_assoc, append-nil}
use Rattle.hdc_base.specs.declared.place.At.{At}
use Rattle.hdc_base.specs.declared.token.Key.TheVariants as key
use Rattle.hdc_base.specs.declared.token.Word.{Word}
use Rattle.hdc_base.specs.declared.token.Word.TheVariants as word
use Rattle.hdc_base.specs.declared.token.Token.{Token}
use Rattle.hdc_tree.specs.declared.name.Name.{Name}
use Rattle.hdc_tree.specs.declared.expression.Alt.{Alt}
use Rattle.hdc_tree.specs.declared.expression.Aexp.{Aexp}
use Rattle.hdc_tree.specs.declared.expression.ListExp.{ListExp}
use Rattle.hdc_tree.specs.declared.expression.Operand.{Operand}
use Rattle.hdc_tree.specs.declared.expression.Qual.{Qual}
use Rattle.hdc_tree.specs.declared.expression.Where.{Where}
use Rattle.hdc_tree.specs.declared.expression.Alts.{Alts}
use Rattle.hdc_tree.specs.declared.expression.Apply.{Apply}
use Rattle.hdc_tree.specs.declared.expression.ArrowGuard.{ArrowGuard}
use Rattle.hdc_tree.specs.declared.expression.Block.{Block}
use Rattle.hdc_tree.specs.declared.expression.CommaExp.{CommaExp}
use Rattle.hdc_tree.specs.declared.expression.CommaQual.{CommaQual}
use Rattle.hdc_tree.specs.declared.expression.EqualGuard.{EqualGuard}
use Rattle.hdc_tree.specs.declared.expression.Exp.{Exp}
use Rattle.hdc_tree.specs.declared.expression.Link.{Link}
use Rattle.hdc_tree.specs.declared.expression.NextAlt.{NextAlt}
use Rattle.hdc_tree.specs.declared.expression.NextDecl.{NextDecl}
use Rattle.hdc_tree.specs.declared.expression.Rhs.{Rhs}
use Rattle.hdc_tree.specs.declared.expression.Decl.{Decl, Decl-F, roll-Decl, out-Decl, roll-out-Decl}
use Rattle.hdc_tree.specs.declared.expression.Decl.TheVariants as v_decl
use Rattle.hdc_tree.specs.declared.program.Associativity.{Associativity}
use Rattle.hdc_tree.specs.declared.program.Associativity.TheVariants as side
use Rattle.hdc_tree.specs.declared.program.BarConstr.{BarConstr}
use Rattle.hdc_tree.specs.declared.program.CommaExport.{CommaExport}
use Rattle.hdc_tree.specs.declared.program.CommaName.{CommaName}
use Rattle.hdc_tree.specs.declared.program.CommaVarOp.{CommaVarOp}
use Rattle.hdc_tree.specs.declared.program.Constr.{Constr}
use Rattle.hdc_tree.specs.declared.program.Deriving.{Deriving}
use Rattle.hdc_tree.specs.declared.program.Deriving.TheVariants as derive
use Rattle.hdc_tree.specs.declared.program.Export.{Export}
use Rattle.hdc_tree.specs.declared.program.Export.TheVariants as exported
use Rattle.hdc_tree.specs.declared.program.ModuleHead.{ModuleHead}
use Rattle.hdc_tree.specs.declared.program.ModuleHead.TheVariants as h
use Rattle.hdc_tree.specs.declared.program.NextTop.{NextTop}
use Rattle.hdc_tree.specs.declared.program.Top.{Top}
use Rattle.hdc_tree.specs.declared.program.Top.TheVariants as t
use Rattle.hdc_tree.specs.declared.program.Tree.{Tree}
use Rattle.hdc_tree.specs.Form.{each_formed}
use Rattle.hdc_tree.specs.NameSpelling.{Puts, word_onto, key_onto, small_onto, capital_onto, each_onto}
use Rattle.hdc_tree.specs.ExpressionSpelling.{decl_onto}
use Rattle.hdc_tree.specs.ExpressionForm.{formed_decl}
use Rattle.hdc_tree.specs.ProgramSpelling.{export_onto, comma_export_onto, module_head_onto, constr_onto, bar_constr_onto, comma_name_onto, deriving_onto, fixity_key, comma_var_op_onto, top_onto, next_top_onto, tree_onto}
use Rattle.hdc_tree.specs.ProgramForm.{formed_constr, formed_bar_constr, formed_top, formed_next_top, formed_tree}
use Rattle.hdc_tree.proofs.ExpressionEquations.{decl_signature, decl_equation}
use Rattle.hdc_tree.proofs.ExpressionFormed.{formed_decl_signature, formed_decl_equation}
use Rattle.hdc_syntax.specs.declared.stop.Stop.TheVariants.{Syntax}
use Rattle.hdc_syntax.specs.Parser.{◌>>=◌, pure}
use Rattle.hdc_syntax.specs.Words.{is, is_small, is_capital, small, small_of}
use Rattle.hdc_syntax.proofs.Good.{Good, Reads, Begins, Spells, Token_of, good_as, good_token, good_refuse, bind_ok, ok_same}
use Rattle.hdc_syntax.proofs.Steps.{some_at, some_name, token_of, small_token, small_is, number_token, good_then, good_key, good_capital, good_look, good_if, good_return}
use Rattle.hdc_syntax.proofs.NameRules.{always, good_var, good_var_op}
use Rattle.hdc_syntax.proofs.Tests.{both}
use Rattle.hdc_syntax.proofs.Several.{good_many}
use Rattle.hdc_syntax.proofs.TypeWords.{good_atypes, good_type_exp}
use Rattle.hdc_expression.specs.ExpressionReader.{Inner}
use Rattle.hdc_expression.specs.DeclarationReader.{ends_member}
use Rattle.hdc_expression.specs.Nested.{nested}
use Rattle.hdc_expression.proofs.Opened.{GoodInner}
use Rattle.hdc_parse.proofs.DeclarationWords.{is_plain_layer, Stated, good_stated}
use Rattle.hdc_parse.specs.ProgramReader.{export, comma_export, precedence_word_at, precedence_of, precedence, comma_name, comma_var_op, top_layer, top_of, comma_exports, exporting, plain_head, named_head, module_head, params, constr, bar_constr, bar_constrs, comma_names, derived_list, derived_none, derived_parens, derived_con, derived, data_top, synonym_top, comma_var_ops, fixity_top, stated_top, top_by, top, next_top, next_tops, tree, at_end, program}

-- ---- the head

pub good_export : Good Export export (Spells Export export_onto always)
unfolding export
good_export = good_look (λ c. good_if (is_capital c)
    (good_capital (λ name. good_return (exported.Con name) (record { spelled = λ k. refl; sound = refl })))
    (good_then good_var (λ x. good_return (exported.Var x) (λ w s. record { spelled = λ k. let f = s.spelled in simp (f, append-nil); sound = refl }))))

pub good_comma_export : Good CommaExport comma_export (Spells CommaExport comma_export_onto always)
unfolding comma_export
good_comma_export = good_key key.KComma (λ comma. good_then good_export (λ x. good_return (record { comma = comma; export = x }) (λ w s. record {
  spelled = λ k. let f = s.spelled in simp (f, append-nil);
  sound = refl;
})))

-- ---- precedences

-- a number at its place
abbrev pub precedence_onto : At × ℕ → Puts
precedence_onto n k = word_onto n.0 (word.Num n.1) k

-- it is from 0 to 9
abbrev pub formed_precedence : At × ℕ → Bool
formed_precedence n = nat_le n.1 9

abbrev held : At × ℕ → Bool → Option (At × ℕ)
held x b = cond b (Some x) None

held_is : (x y : At × ℕ) (b : Bool) → held x b ≡ Some y → (b ≡ true) × (x ≡ y)
held_is x y true e = (refl, cc)
held_is x y false e = absurd (cc)

precedence_word_is : (w : Word) (there : At) (n : At × ℕ) → precedence_word_at there w ≡ Some n → (token_of there w ≡ number_token n) × (formed_precedence n ≡ true)
precedence_word_is (word.Num x) there n e = let s = held_is (there, x) n (nat_le x 9) e in (ap number_token s.1, ap formed_precedence (sym s.1) ∙ s.0)
precedence_word_is _ there n e = absurd (cc)

pub precedence_is : (d : Token) (n : At × ℕ) → precedence_of d ≡ Some n → (d ≡ number_token n) × (formed_precedence n ≡ true)
precedence_is d n e = precedence_word_is d.word d.at n e

pub good_precedence : Good (At × ℕ) precedence (Spells (At × ℕ) precedence_onto formed_precedence)
good_precedence = good_as (At × ℕ) precedence (Token_of (At × ℕ) precedence_of) (Spells (At × ℕ) precedence_onto formed_precedence)
    (good_token (At × ℕ) precedence_of (number_token (some_at, 0)) (some_at, 0) refl refl)
    (λ n w s. let p = precedence_is s.0 n s.2 in record { spelled = λ k. ap (λ d. d ∷ k) (sym p.0) ∙ ap (λ z. z ++ k) (sym s.1); sound = p.1 })

-- ---- names and operators in rows

pub good_small_name : Good Name small (Spells Name small_onto always)
good_small_name = good_as Name small (Token_of Name small_of) (Spells Name small_onto always) (good_token Name small_of (small_token some_name) some_name refl refl)
    (λ n w s. record { spelled = λ k. ap (λ d. d ∷ k) (sym (small_is s.0 n s.2)) ∙ ap (λ z. z ++ k) (sym s.1); sound = refl })

pub good_comma_name : Good CommaName comma_name (Spells CommaName comma_name_onto always)
unfolding comma_name
good_comma_name = good_key key.KComma (λ comma. good_capital (λ name. good_return (record { comma = comma; name = name }) (record { spelled = λ k. refl; sound = refl })))

pub good_comma_var_op : Good CommaVarOp comma_var_op (Spells CommaVarOp comma_var_op_onto always)
unfolding comma_var_op
good_comma_var_op = good_key key.KComma (λ comma. good_then good_var_op (λ x. good_return (record { comma = comma; op = x }) (λ w s. record {
  spelled = λ k. let f = s.spelled in simp (f, append-nil);
  sound = refl;
})))

-- ---- declarations at top level

abbrev Behind : Decl → Top → List Token → Type 0
Behind x y v = (w : List Token) → Stated true x w → Spells Top top_onto formed_top y (w ++ v)

good_layer : (x : Decl) (y : Decl-F Aexp Alt Decl ListExp Operand Qual Rhs Where Alts Apply ArrowGuard Block CommaExp CommaQual EqualGuard Exp Link NextAlt NextDecl) → out-Decl x ≡ y → Good Top (top_layer y) (Behind x)
good_layer x (Decl-F.Signature first rest at part) e =
    let same : x ≡ v_decl.Signature first rest at part = sym (roll-out-Decl x) ∙ ap roll-Decl e ∙ v_decl.rolls-Signature first rest at part in
    good_return (t.Signature first rest at part) (λ w s. record {
      spelled = λ k. sym (decl_signature first rest at part k) ∙ ap (λ z. decl_onto z k) (sym same) ∙ s.spells.spelled k ∙ ap (λ z. z ++ k) (sym (append-nil w));
      sound = sym (formed_decl_signature first rest at part) ∙ ap formed_decl (sym same) ∙ s.spells.sound;
    })
good_layer x (Decl-F.Equation what right) e =
    let same : x ≡ v_decl.Equation what right = sym (roll-out-Decl x) ∙ ap roll-Decl e ∙ v_decl.rolls-Equation what right in
    good_return (t.Equation what right) (λ w s. record {
      spelled = λ k. sym (decl_equation what right k) ∙ ap (λ z. decl_onto z k) (sym same) ∙ s.spells.spelled k ∙ ap (λ z. z ++ k) (sym (append-nil w));
      sound = sym (formed_decl_equation what right) ∙ ap formed_decl (sym same) ∙ s.spells.sound;
    })
good_layer x (Decl-F.Binding p right) e = good_refuse Top (Behind x) (record {
  value = t.Empty;
  word = [];
  is = λ w s. let f : false ≡ true = ap is_plain_layer (sym e) ∙ s.plain refl in absurd (cc);
  regular = refl;
})
good_layer x Decl-F.Empty e = good_refuse Top (Behind x) (record {
  value = t.Empty;
  word = [];
  is = λ w s. let f : false ≡ true = ap is_plain_layer (sym e) ∙ s.plain refl in absurd (cc);
  regular = refl;
})

pub good_top_of : (x : Decl) → Good Top (top_of x) (λ y v. (w : List Token) → Stated true x w → Spells Top top_onto formed_top y (w ++ v))
good_top_of x = good_layer x (out-Decl x) refl

-- ---- the rules, by the parsers of what nests in a program's braces

module _ (turns : ℕ) (inner : Inner) (g : GoodInner inner) where
  pub good_comma_exports : Good (List CommaExport) (comma_exports turns) (Spells (List CommaExport) (each_onto comma_export_onto) (each_formed always))
  good_comma_exports = good_many comma_export_onto always (is key.KComma) turns good_comma_export

  pub good_exporting : (at : At) (name : Name) → Good ModuleHead (exporting turns at name) (λ x v. Spells ModuleHead module_head_onto always x (key_onto at key.KModule (capital_onto name v)))
  unfolding exporting
  good_exporting at name = good_key key.KOpenParen (λ open_at. good_then good_export (λ first. good_then good_comma_exports (λ rest. good_key key.KCloseParen (λ close_at. good_key key.KWhere (λ where_at.
      good_return (h.Exporting at name open_at first rest close_at where_at) (λ ws s w f. record {
        spelled = λ k. let a = f.spelled in let b = s.spelled in simp (a, b, append_assoc);
        sound = refl;
      }))))))

  pub good_plain_head : (at : At) (name : Name) → Good ModuleHead (plain_head turns at name) (λ x v. Spells ModuleHead module_head_onto always x (key_onto at key.KModule (capital_onto name v)))
  good_plain_head at name = good_key key.KWhere (λ where_at. good_return (h.Plain at name where_at) (record { spelled = λ k. refl; sound = refl }))

  pub good_named_head : Good ModuleHead (named_head turns) (Spells ModuleHead module_head_onto always)
  unfolding named_head
  good_named_head = good_key key.KModule (λ at. good_capital (λ name. good_look (λ c. good_if (is key.KOpenParen c) (good_exporting at name) (good_plain_head at name))))

  pub good_module_head : Good ModuleHead (module_head turns) (Spells ModuleHead module_head_onto always)
  unfolding module_head
  good_module_head = good_look (λ c. good_if (is key.KModule c) good_named_head (good_return h.Absent (record { spelled = λ k. refl; sound = refl })))

  pub good_params : Good (List Name) (params turns) (Spells (List Name) (each_onto small_onto) (each_formed always))
  good_params = good_many small_onto always is_small turns good_small_name

  pub good_constr : Good Constr (constr turns inner) (Spells Constr constr_onto formed_constr)
  unfolding constr
  good_constr = good_capital (λ name. good_then (good_atypes turns inner.atype g.atype) (λ fields. good_return (record { name = name; fields = fields }) (λ w s. record {
    spelled = λ k. let f = s.spelled in simp (f, append-nil);
    sound = s.sound;
  })))

  pub good_bar_constr : Good BarConstr (bar_constr turns inner) (Spells BarConstr bar_constr_onto formed_bar_constr)
  unfolding bar_constr
  good_bar_constr = good_key key.KBar (λ bar. good_then good_constr (λ x. good_return (record { bar = bar; constr = x }) (λ w s. record {
    spelled = λ k. let f = s.spelled in simp (f, append-nil);
    sound = s.sound;
  })))

  pub good_bar_constrs : Good (List BarConstr) (bar_constrs turns inner) (Spells (List BarConstr) (each_onto bar_constr_onto) (each_formed formed_bar_constr))
  good_bar_constrs = good_many bar_constr_onto formed_bar_constr (is key.KBar) turns good_bar_constr

  pub good_comma_names : Good (List CommaName) (comma_names turns) (Spells (List CommaName) (each_onto comma_name_onto) (each_formed always))
  good_comma_names = good_many comma_name_onto always (is key.KComma) turns good_comma_name

  pub good_derived_list : (at open_at : At) → Good Deriving (derived_list turns at open_at) (λ x v. Spells Deriving deriving_onto always x (key_onto at key.KDeriving (key_onto open_at key.KOpenParen v)))
  unfolding derived_list
  good_derived_list at open_at = good_capital (λ first. good_then good_comma_names (λ rest. good_key key.KCloseParen (λ close_at. good_return (derive.List at open_at first rest close_at) (λ w s. record {
    spelled = λ k. let f = s.spelled in simp (f, append_assoc);
    sound = refl;
  }))))

  pub good_derived_none : (at open_at : At) → Good Deriving (derived_none turns at open_at) (λ x v. Spells Deriving deriving_onto always x (key_onto at key.KDeriving (key_onto open_at key.KOpenParen v)))
  good_derived_none at open_at = good_key key.KCloseParen (λ close_at. good_return (derive.Unit at open_at close_at) (record { spelled = λ k. refl; sound = refl }))

  pub good_derived_parens : (at : At) → Good Deriving (derived_parens turns at) (λ x v. Spells Deriving deriving_onto always x (key_onto at key.KDeriving v))
  unfolding derived_parens
  good_derived_parens at = good_key key.KOpenParen (λ open_at. good_look (λ c. good_if (is key.KCloseParen c) (good_derived_none at open_at) (good_derived_list at open_at)))

  pub good_derived_con : (at : At) → Good Deriving (derived_con turns at) (λ x v. Spells Deriving deriving_onto always x (key_onto at key.KDeriving v))
  good_derived_con at = good_capital (λ name. good_return (derive.Con at name) (record { spelled = λ k. refl; sound = refl }))

  pub good_derived : Good Deriving (derived turns) (Spells Deriving deriving_onto always)
  unfolding derived
  good_derived = good_look (λ c. good_if (is key.KDeriving c)
      (good_key key.KDeriving (λ at. good_look (λ d. good_if (is_capital d) (good_derived_con at) (good_derived_parens at))))
      (good_return derive.Absent (record { spelled = λ k. refl; sound = refl })))

  pub good_data_top : Good Top (data_top turns inner) (Spells Top top_onto formed_top)
  unfolding data_top
  good_data_top = good_key key.KData (λ at. good_capital (λ name. good_then good_params (λ ps. good_key key.KEqual (λ equal. good_then good_constr (λ first. good_then good_bar_constrs (λ rest. good_then good_derived (λ what.
      good_return (t.Data (record { at = at; name = name; params = ps; equal = equal; first = first; rest = rest; derived = what })) (λ wd d wr r wf f wp p. record {
        spelled = λ k. let a = p.spelled in let b = f.spelled in let c = r.spelled in let e = d.spelled in simp (a, b, c, e, append_assoc, append-nil);
        sound = both _ _ f.sound r.sound;
      }))))))))

  pub good_synonym_top : Good Top (synonym_top turns inner) (Spells Top top_onto formed_top)
  unfolding synonym_top
  good_synonym_top = good_key key.KType (λ at. good_capital (λ name. good_then good_params (λ ps. good_key key.KEqual (λ equal. good_then (good_type_exp turns inner.atype g.atype) (λ meaning.
      good_return (t.Synonym (record { at = at; name = name; params = ps; equal = equal; meaning = meaning })) (λ wm m wp p. record {
        spelled = λ k. let a = p.spelled in let b = m.spelled in simp (a, b, append_assoc, append-nil);
        sound = m.sound;
      }))))))

  pub good_comma_var_ops : Good (List CommaVarOp) (comma_var_ops turns) (Spells (List CommaVarOp) (each_onto comma_var_op_onto) (each_formed always))
  good_comma_var_ops = good_many comma_var_op_onto always (is key.KComma) turns good_comma_var_op

  pub good_fixity_top : (associativity : Associativity) → Good Top (fixity_top turns (fixity_key associativity) associativity) (Spells Top top_onto formed_top)
  unfolding fixity_top
  good_fixity_top associativity = good_key (fixity_key associativity) (λ at. good_then good_precedence (λ number. good_then good_var_op (λ first. good_then good_comma_var_ops (λ rest.
      good_return (t.Fixity (record { at = at; associativity = associativity; number_at = number.0; number = number.1; first = first; rest = rest })) (λ wr r wf f wn n. record {
        spelled = λ k. let a = n.spelled in let b = f.spelled in let c = r.spelled in ap (key_onto at (fixity_key associativity)) (simp (a, b, c, append_assoc, append-nil));
        sound = n.sound;
      })))))

  pub good_stated_top : Good Top (stated_top turns inner) (Spells Top top_onto formed_top)
  good_stated_top = good_then (good_stated turns inner g true) good_top_of

  pub good_top_by : (c : Option Token) → Good Top (top_by turns inner c) (Spells Top top_onto formed_top)
  good_top_by c = good_if (ends_member c) (good_return t.Empty (record { spelled = λ k. refl; sound = refl })) (good_if (is key.KData c) good_data_top (good_if (is key.KType c) good_synonym_top
      (good_if (is key.KInfix c) (good_fixity_top side.Neither) (good_if (is key.KInfixl c) (good_fixity_top side.Left) (good_if (is key.KInfixr c) (good_fixity_top side.Right) good_stated_top)))))

  pub good_top : Good Top (top turns inner) (Spells Top top_onto formed_top)
  unfolding top
  good_top = good_look good_top_by

  pub good_next_top : Good NextTop (next_top turns inner) (Spells NextTop next_top_onto formed_next_top)
  unfolding next_top
  good_next_top = good_key key.KSemicolon (λ semicolon. good_then good_top (λ x. good_return (record { semicolon = semicolon; top = x }) (λ w s. record {
    spelled = λ k. let f = s.spelled in simp (f, append-nil);
    sound = s.sound;
  })))

  pub good_next_tops : Good (List NextTop) (next_tops turns inner) (Spells (List NextTop) (each_onto next_top_onto) (each_formed formed_next_top))
  good_next_tops = good_many next_top_onto formed_next_top (is key.KSemicolon) turns good_next_top

  pub good_tree : Good Tree (tree turns inner) (Spells Tree tree_onto formed_tree)
  unfolding tree
  good_tree = good_then good_module_head (λ head. good_key key.KOpenBrace (λ open_at. good_then good_top (λ first. good_then good_next_tops (λ rest. good_key key.KCloseBrace (λ close_at.
      good_return (record { head = head; open_at = open_at; first = first; rest = rest; close_at = close_at }) (λ wr r wf f wh m. record {
        spelled = λ k. let a = m.spelled in let b = f.spelled in let c = r.spelled in simp (a, b, c, append_assoc);
        sound = both _ _ f.sound r.sound;
      }))))))

-- ---- a whole text

abbrev Nothing : Unit {0} → List Token → Type 0
Nothing x w = w ≡ []

end_found : (ts : List Token) (x : Unit {0}) (rest : List Token) → at_end ts ≡ Ok (x, rest) → Reads (Unit {0}) Nothing ts x rest
end_found [] x rest e = record { word = []; splits = (ok_same (Unit {0}) (tt, []) (x, rest) e).1; is = refl }
end_found (c ∷ cs) x rest e = absurd (cc)

end_stopped : (ts : List Token) (n : ℕ) → at_end ts ≡ Err (Syntax n) → Begins (Unit {0}) Nothing ts n
end_stopped [] n e = absurd (cc)
end_stopped (c ∷ cs) n e = let el : length (c ∷ cs) ≡ n = cc in record { front = []; rest = c ∷ cs; splits = refl; left = sym el; value = tt; more = []; is = refl; regular = refl }

good_at_end : Good (Unit {0}) at_end Nothing
good_at_end = record { found = end_found; stopped = end_stopped; some = record { value = tt; word = []; is = refl; regular = refl } }

pub good_program : (turns depth : ℕ) → GoodInner (nested turns depth) → Good Tree (program turns depth) (Spells Tree tree_onto formed_tree)
unfolding program
good_program turns depth g = good_then (good_tree turns (nested turns depth) g) (λ x. good_then good_at_end (λ y. good_return x (λ v e w r. subst (λ z. Spells Tree tree_onto formed_tree x z) (sym (ap (λ z. w ++ (z ++ [])) e ∙ append-nil w)) r)))

end_rest : (ts : List Token) (x : Unit {0}) (rest : List Token) → at_end ts ≡ Ok (x, rest) → rest ≡ []
end_rest [] x rest e = sym (ok_same (Unit {0}) (tt, []) (x, rest) e).1
end_rest (c ∷ cs) x rest e = absurd (cc)

-- nothing is left of what the parser of programs reads
pub program_rest : (turns depth : ℕ) (ts : List Token) (x : Tree) (rest : List Token) → program turns depth ts ≡ Ok (x, rest) → rest ≡ []
unfolding program
program_rest turns depth ts x rest e =
    let b = bind_ok (tree turns (nested turns depth) ts) (λ y. at_end >>= (λ z. pure y)) x rest e in
    let a = bind_ok (at_end b.1) (λ z. pure b.0) x rest b.3 in
    sym (ok_same Tree (b.0, a.1) (x, rest) a.3).1 ∙ end_rest b.1 a.0 a.1 a.2
