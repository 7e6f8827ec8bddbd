-- Each rule of programs reads again what is spelled, unless a limit comes.
use Rattle.std.proofs.Common.{◌≡◌, ℕ, Bool, true, false, cond, nat_le, ◌&&◌, not, List, [], ◌∷◌, Option, Some, None, Ok, inl, refl, sym, ◌∙◌, ap, subst}
use Rattle.hdc_base.specs.declared.place.At.{At}
use Rattle.hdc_base.specs.declared.token.Key.TheVariants as key
use Rattle.hdc_base.specs.declared.token.Word.TheVariants as word
use Rattle.hdc_base.specs.declared.token.Token.{Token}
use Rattle.hdc_tree.specs.declared.name.Name.{Name}
use Rattle.hdc_tree.specs.declared.name.Var.{Var}
use Rattle.hdc_tree.specs.declared.name.Var.TheVariants as var
use Rattle.hdc_tree.specs.declared.name.VarOp.{VarOp}
use Rattle.hdc_tree.specs.declared.name.CommaVar.{CommaVar}
use Rattle.hdc_tree.specs.declared.type_tree.TypeExp.{TypeExp}
use Rattle.hdc_tree.specs.declared.head.Head.{Head}
use Rattle.hdc_tree.specs.declared.head.Head.TheVariants as defined
use Rattle.hdc_tree.specs.declared.expression.Exp.{Exp}
use Rattle.hdc_tree.specs.declared.expression.Rhs.{Rhs}
use Rattle.hdc_tree.specs.declared.expression.Decl.{Decl-F, out-Decl, out-roll-Decl}
use Rattle.hdc_tree.specs.declared.expression.Decl.TheVariants as v_decl
use Rattle.hdc_tree.specs.declared.program.Associativity.{Associativity}
use Rattle.hdc_tree.specs.declared.program.Associativity.TheVariants as side
use Rattle.hdc_tree.specs.declared.program.BarConstr.{BarConstr}
use Rattle.hdc_tree.specs.declared.program.CommaExport.{CommaExport}
use Rattle.hdc_tree.specs.declared.program.CommaName.{CommaName}
use Rattle.hdc_tree.specs.declared.program.CommaVarOp.{CommaVarOp}
use Rattle.hdc_tree.specs.declared.program.Constr.{Constr}
use Rattle.hdc_tree.specs.declared.program.Data.{Data}
use Rattle.hdc_tree.specs.declared.program.Deriving.{Deriving}
use Rattle.hdc_tree.specs.declared.program.Deriving.TheVariants as derive
use Rattle.hdc_tree.specs.declared.program.Export.{Export}
use Rattle.hdc_tree.specs.declared.program.Export.TheVariants as exported
use Rattle.hdc_tree.specs.declared.program.Fixity.{Fixity}
use Rattle.hdc_tree.specs.declared.program.ModuleHead.{ModuleHead}
use Rattle.hdc_tree.specs.declared.program.ModuleHead.TheVariants as h
use Rattle.hdc_tree.specs.declared.program.NextTop.{NextTop}
use Rattle.hdc_tree.specs.declared.program.Synonym.{Synonym}
use Rattle.hdc_tree.specs.declared.program.Top.{Top}
use Rattle.hdc_tree.specs.declared.program.Top.TheVariants as t
use Rattle.hdc_tree.specs.declared.program.Tree.{Tree}
use Rattle.hdc_tree.specs.Form.{each_formed}
use Rattle.hdc_tree.specs.NameSpelling.{word_onto, key_onto, small_onto, var_onto, var_op_onto, comma_var_onto, each_onto}
use Rattle.hdc_tree.specs.HeadSpelling.{head_onto}
use Rattle.hdc_tree.specs.PatternSpelling.{apat_onto}
use Rattle.hdc_tree.specs.TypeSpelling.{type_exp_onto}
use Rattle.hdc_tree.specs.TypeForm.{formed_type_exp}
use Rattle.hdc_tree.specs.HeadForm.{formed_head}
use Rattle.hdc_tree.specs.ExpressionSpelling.{exp_onto, rhs_onto}
use Rattle.hdc_tree.specs.ExpressionForm.{formed_rhs}
use Rattle.hdc_tree.specs.ProgramSpelling.{export_onto, comma_export_onto, module_head_onto, constr_onto, bar_constr_onto, comma_name_onto, deriving_onto, data_onto, synonym_onto, fixity_key, comma_var_op_onto, fixity_onto, top_onto, next_top_onto, tree_onto, spell}
use Rattle.hdc_tree.specs.ProgramForm.{formed_constr, formed_bar_constr, formed_data, formed_synonym, formed_fixity, formed_top, formed_next_top, formed_tree}
use Rattle.hdc_tree.proofs.ExpressionEquations.{decl_signature, decl_equation}
use Rattle.hdc_tree.proofs.ExpressionFormed.{formed_decl_signature, formed_decl_equation}
use Rattle.hdc_syntax.specs.Parser.{token_by, head}
use Rattle.hdc_syntax.specs.Words.{fixed, is, is_small, small}
use Rattle.hdc_syntax.specs.Names.{operator_var, var}
use Rattle.hdc_syntax.proofs.Meets.{Meets, meets_return, meets_then, meets_yes, meets_no, Items, may_all, meets_many}
use Rattle.hdc_syntax.proofs.NameRules.{always, again_var_op}
use Rattle.hdc_syntax.proofs.Tests.{first_part, second_part, not_true}
use Rattle.hdc_syntax.specs.TypeReader.{starts_atype}
use Rattle.hdc_syntax.specs.PatternReader.{starts_apat}
use Rattle.hdc_syntax.proofs.PatternAgain.{not_key, apat_starts}
use Rattle.hdc_syntax.proofs.TypeAgain.{ends_btype, type_ends_btype, again_atypes, again_type_exp}
use Rattle.hdc_expression.specs.declared.qualifier.QualHead.{QualHead}
use Rattle.hdc_expression.specs.ExpressionReader.{Inner, ends_qual, generator}
use Rattle.hdc_expression.specs.DeclarationReader.{ends_member}
use Rattle.hdc_expression.specs.Nested.{nested}
use Rattle.hdc_expression.proofs.Opened.{GoodInner, MeetsInner}
use Rattle.hdc_expression.proofs.Apart.{no_generator}
use Rattle.hdc_parse.proofs.DeclarationStarts.{each_always, member_ends_type}
use Rattle.hdc_parse.proofs.DeclarationAgain.{again_stated_signature, again_stated_equation}
use Rattle.hdc_parse.specs.ProgramReader.{export, comma_export, precedence, comma_name, comma_var_op, top_layer, comma_exports, exporting, named_head, module_head, params, constr, bar_constr, bar_constrs, comma_names, derived_list, derived_parens, derived, data_top, synonym_top, comma_var_ops, fixity_top, stated_top, top_by, top, next_top, next_tops, tree, program}

-- ---- the token behind a top declaration, which ends a member, begins no type

member_no_type : (c : Option Token) → ends_member c ≡ true → starts_atype c ≡ false
member_no_type c e = not_true (starts_atype c) (type_ends_btype c (member_ends_type c e))

-- ---- the first token of a signature or an equation begins a pattern that may be an argument

var_starts_apat : (x : Var) (k : List Token) → starts_apat (head (var_onto x k)) ≡ true
var_starts_apat (var.Plain n) k = refl
var_starts_apat (var.Operator open_at n close_at) k = refl

head_starts_apat : (x : Head) (k : List Token) → starts_apat (head (head_onto x k)) ≡ true
head_starts_apat (defined.Prefix v ps) k = var_starts_apat v (each_onto apat_onto ps k)
head_starts_apat (defined.Infix p o q) k = apat_starts p (var_op_onto o (apat_onto q k))
head_starts_apat (defined.Paren open_at p o q close_at r rs) k = refl

-- ---- the head

pub again_export : (x : Export) (k : List Token) → Meets Export (export (export_onto x k)) x k
unfolding export var operator_var
again_export (exported.Con n) k = meets_return (exported.Con n) k
again_export (exported.Var (var.Plain n)) k = meets_return (exported.Var (var.Plain n)) k
again_export (exported.Var (var.Operator open_at n close_at)) k = meets_return (exported.Var (var.Operator open_at n close_at)) k

pub again_comma_export : (x : CommaExport) (k : List Token) → Meets CommaExport (comma_export (comma_export_onto x k)) x k
unfolding comma_export
again_comma_export x k = meets_then _ (again_export x.export k) (meets_return x k)

-- ---- names and operators in rows

pub again_precedence : (at : At) (n : ℕ) → nat_le n 9 ≡ true → (k : List Token) → Meets (At × ℕ) (precedence (word_onto at (word.Num n) k)) (at, n) k
again_precedence at n e k = subst (λ (b : Bool). Meets (At × ℕ) (token_by (cond b (Some (at, n)) None) (record { at = at; word = word.Num n }) k) (at, n) k) (sym e) (meets_return (at, n) k)

pub again_comma_name : (x : CommaName) (k : List Token) → Meets CommaName (comma_name (comma_name_onto x k)) x k
unfolding comma_name
again_comma_name x k = meets_return x k

pub again_comma_var_op : (x : CommaVarOp) (k : List Token) → Meets CommaVarOp (comma_var_op (comma_var_op_onto x k)) x k
unfolding comma_var_op
again_comma_var_op x k = meets_then _ (again_var_op x.op k) (meets_return x k)

-- ---- the rules, by the parsers of what nests in a program's braces

module _ (turns : ℕ) (inner : Inner) (m : MeetsInner inner)
    (none : (e : Exp) (k : List Token) → ends_qual (head k) ≡ true → (y : QualHead) (rest : List Token) → generator turns inner (exp_onto e k) ≡ Ok (y, rest) → ⊥) where
  more_exports : Items CommaExport comma_export_onto always (is key.KComma) always comma_export
  more_exports = record { reads = λ x w k e. again_comma_export x k; begins = λ x k. refl; follows = λ x k. refl }

  pub again_comma_exports : (xs : List CommaExport) (k : List Token) → is key.KComma (head k) ≡ false → Meets (List CommaExport) (comma_exports turns (each_onto comma_export_onto xs k)) xs k
  again_comma_exports xs k e = meets_many CommaExport comma_export_onto always (is key.KComma) always comma_export more_exports turns [] xs k (each_always xs) e refl

  pub again_exporting : (at : At) (n : Name) (open_at : At) (first : Export) (rest : List CommaExport) (close_at where_at : At) (k : List Token)
      → Meets ModuleHead (exporting turns at n (key_onto open_at key.KOpenParen (export_onto first (each_onto comma_export_onto rest (key_onto close_at key.KCloseParen (key_onto where_at key.KWhere k)))))) (h.Exporting at n open_at first rest close_at where_at) k
  unfolding exporting
  again_exporting at n open_at first rest close_at where_at k =
      let k1 : List Token = key_onto close_at key.KCloseParen (key_onto where_at key.KWhere k) in
      meets_then _ (again_export first (each_onto comma_export_onto rest k1)) (meets_then _ (again_comma_exports rest k1 refl) (meets_return (h.Exporting at n open_at first rest close_at where_at) k))

  pub again_module_head : (x : ModuleHead) (k : List Token) → is key.KModule (head k) ≡ false → Meets ModuleHead (module_head turns (module_head_onto x k)) x k
  unfolding module_head named_head
  again_module_head h.Absent k e = meets_no _ _ e (meets_return h.Absent k)
  again_module_head (h.Plain at n where_at) k e = meets_return (h.Plain at n where_at) k
  again_module_head (h.Exporting at n open_at first rest close_at where_at) k e = again_exporting at n open_at first rest close_at where_at k

  -- types

  more_params : Items Name small_onto always is_small always small
  more_params = record { reads = λ x w k e. meets_return x k; begins = λ x k. refl; follows = λ x k. refl }

  pub again_params : (xs : List Name) (k : List Token) → is_small (head k) ≡ false → Meets (List Name) (params turns (each_onto small_onto xs k)) xs k
  again_params xs k e = meets_many Name small_onto always is_small always small more_params turns [] xs k (each_always xs) e refl

  pub again_constr : (x : Constr) → formed_constr x ≡ true → (k : List Token) → starts_atype (head k) ≡ false → Meets Constr (constr turns inner (constr_onto x k)) x k
  unfolding constr
  again_constr x w k e = meets_then _ (again_atypes turns inner.atype m.atype x.fields w k e) (meets_return x k)

  pub again_bar_constr : (x : BarConstr) → formed_bar_constr x ≡ true → (k : List Token) → starts_atype (head k) ≡ false → Meets BarConstr (bar_constr turns inner (bar_constr_onto x k)) x k
  unfolding bar_constr
  again_bar_constr x w k e = meets_then _ (again_constr x.constr w k e) (meets_return x k)

  more_constrs : Items BarConstr bar_constr_onto formed_bar_constr (is key.KBar) ends_btype (bar_constr turns inner)
  more_constrs = record { reads = λ x w k e. again_bar_constr x w k (not_true (starts_atype (head k)) e); begins = λ x k. refl; follows = λ x k. refl }

  pub again_bar_constrs : (xs : List BarConstr) → each_formed formed_bar_constr xs ≡ true → (k : List Token) → is key.KBar (head k) ≡ false → starts_atype (head k) ≡ false
      → Meets (List BarConstr) (bar_constrs turns inner (each_onto bar_constr_onto xs k)) xs k
  again_bar_constrs xs w k e f = meets_many BarConstr bar_constr_onto formed_bar_constr (is key.KBar) ends_btype (bar_constr turns inner) more_constrs turns [] xs k w e (ap not f)

  -- before `|` and what follows it no type goes on
  bar_constrs_end_types : (xs : List BarConstr) (k : List Token) → starts_atype (head k) ≡ false → starts_atype (head (each_onto bar_constr_onto xs k)) ≡ false
  bar_constrs_end_types [] k e = e
  bar_constrs_end_types (x ∷ xs) k e = refl

  more_names : Items CommaName comma_name_onto always (is key.KComma) always comma_name
  more_names = record { reads = λ x w k e. again_comma_name x k; begins = λ x k. refl; follows = λ x k. refl }

  pub again_comma_names : (xs : List CommaName) (k : List Token) → is key.KComma (head k) ≡ false → Meets (List CommaName) (comma_names turns (each_onto comma_name_onto xs k)) xs k
  again_comma_names xs k e = meets_many CommaName comma_name_onto always (is key.KComma) always comma_name more_names turns [] xs k (each_always xs) e refl

  pub again_derived : (x : Deriving) (k : List Token) → is key.KDeriving (head k) ≡ false → Meets Deriving (derived turns (deriving_onto x k)) x k
  unfolding derived derived_parens derived_list
  again_derived derive.Absent k e = meets_no _ _ e (meets_return derive.Absent k)
  again_derived (derive.Con at n) k e = meets_return (derive.Con at n) k
  again_derived (derive.Unit at open_at close_at) k e = meets_return (derive.Unit at open_at close_at) k
  again_derived (derive.List at open_at first rest close_at) k e = meets_then _ (again_comma_names rest (key_onto close_at key.KCloseParen k) refl) (meets_return (derive.List at open_at first rest close_at) k)

  -- what is derived goes on with no constructor and no type
  derived_no_bar : (x : Deriving) (k : List Token) → ends_member (head k) ≡ true → is key.KBar (head (deriving_onto x k)) ≡ false
  derived_no_bar derive.Absent k e = not_key ends_member key.KBar (λ at. refl) (head k) e
  derived_no_bar (derive.Con at n) k e = refl
  derived_no_bar (derive.Unit at open_at close_at) k e = refl
  derived_no_bar (derive.List at open_at first rest close_at) k e = refl

  derived_no_type : (x : Deriving) (k : List Token) → ends_member (head k) ≡ true → starts_atype (head (deriving_onto x k)) ≡ false
  derived_no_type derive.Absent k e = member_no_type (head k) e
  derived_no_type (derive.Con at n) k e = refl
  derived_no_type (derive.Unit at open_at close_at) k e = refl
  derived_no_type (derive.List at open_at first rest close_at) k e = refl

  pub again_data_top : (x : Data) → formed_data x ≡ true → (k : List Token) → ends_member (head k) ≡ true → Meets Top (data_top turns inner (data_onto x k)) (t.Data x) k
  unfolding data_top
  again_data_top x w k e =
      let k1 : List Token = deriving_onto x.derived k in
      let k2 : List Token = each_onto bar_constr_onto x.rest k1 in
      let first_formed = first_part (formed_constr x.first) (each_formed formed_bar_constr x.rest) w in
      let rest_formed = second_part (formed_constr x.first) (each_formed formed_bar_constr x.rest) w in
      let no_type = derived_no_type x.derived k e in
      meets_then _ (again_params x.params (key_onto x.equal key.KEqual (constr_onto x.first k2)) refl)
      (meets_then _ (again_constr x.first first_formed k2 (bar_constrs_end_types x.rest k1 no_type))
      (meets_then _ (again_bar_constrs x.rest rest_formed k1 (derived_no_bar x.derived k e) no_type)
      (meets_then _ (again_derived x.derived k (not_key ends_member key.KDeriving (λ at. refl) (head k) e))
      (meets_return (t.Data x) k))))

  pub again_synonym_top : (x : Synonym) → formed_synonym x ≡ true → (k : List Token) → ends_member (head k) ≡ true → Meets Top (synonym_top turns inner (synonym_onto x k)) (t.Synonym x) k
  unfolding synonym_top
  again_synonym_top x w k e = meets_then _ (again_params x.params (key_onto x.equal key.KEqual (type_exp_onto x.meaning k)) refl)
      (meets_then _ (again_type_exp turns inner.atype m.atype x.meaning w k (member_ends_type (head k) e)) (meets_return (t.Synonym x) k))

  -- fixities

  more_ops : Items CommaVarOp comma_var_op_onto always (is key.KComma) always comma_var_op
  more_ops = record { reads = λ x w k e. again_comma_var_op x k; begins = λ x k. refl; follows = λ x k. refl }

  pub again_comma_var_ops : (xs : List CommaVarOp) (k : List Token) → is key.KComma (head k) ≡ false → Meets (List CommaVarOp) (comma_var_ops turns (each_onto comma_var_op_onto xs k)) xs k
  again_comma_var_ops xs k e = meets_many CommaVarOp comma_var_op_onto always (is key.KComma) always comma_var_op more_ops turns [] xs k (each_always xs) e refl

  pub again_fixity_top : (x : Fixity) → formed_fixity x ≡ true → (k : List Token) → ends_member (head k) ≡ true → ((ts : List Token) → fixed (fixity_key x.associativity) (key_onto x.at (fixity_key x.associativity) ts) ≡ Ok (x.at, ts))
      → Meets Top (fixity_top turns (fixity_key x.associativity) x.associativity (fixity_onto x k)) (t.Fixity x) k
  unfolding fixity_top
  again_fixity_top x w k e takes =
      let k1 : List Token = each_onto comma_var_op_onto x.rest k in
      meets_then _ (record { is = inl (takes (word_onto x.number_at (word.Num x.number) (var_op_onto x.first k1))) })
      (meets_then _ (again_precedence x.number_at x.number w (var_op_onto x.first k1))
      (meets_then _ (again_var_op x.first k1)
      (meets_then _ (again_comma_var_ops x.rest k (not_key ends_member key.KComma (λ at. refl) (head k) e))
      (meets_return (t.Fixity x) k))))

  -- signatures and equations

  layer_signature : (first : Var) (rest : List CommaVar) (at : At) (part : TypeExp) → out-Decl (v_decl.Signature first rest at part) ≡ Decl-F.Signature first rest at part
  layer_signature first rest at part = ap out-Decl (sym (v_decl.rolls-Signature first rest at part)) ∙ out-roll-Decl (Decl-F.Signature first rest at part)

  layer_equation : (what : Head) (right : Rhs) → out-Decl (v_decl.Equation what right) ≡ Decl-F.Equation what right
  layer_equation what right = ap out-Decl (sym (v_decl.rolls-Equation what right)) ∙ out-roll-Decl (Decl-F.Equation what right)

  again_signature : (first : Var) (rest : List CommaVar) (at : At) (part : TypeExp) → formed_type_exp part ≡ true → (k : List Token) → ends_member (head k) ≡ true
      → Meets Top (stated_top turns inner (top_onto (t.Signature first rest at part) k)) (t.Signature first rest at part) k
  again_signature first rest at part w k e = subst (λ (z : List Token). Meets Top (stated_top turns inner z) (t.Signature first rest at part) k) (decl_signature first rest at part k)
      (meets_then _ (again_stated_signature turns inner m none true first rest at part (formed_decl_signature first rest at part ∙ w) k e)
      (subst (λ z. Meets Top (top_layer z k) (t.Signature first rest at part) k) (sym (layer_signature first rest at part)) (meets_return (t.Signature first rest at part) k)))

  again_equation : (what : Head) (right : Rhs) → (formed_head what && formed_rhs right) ≡ true → (k : List Token) → ends_member (head k) ≡ true
      → Meets Top (stated_top turns inner (top_onto (t.Equation what right) k)) (t.Equation what right) k
  again_equation what right w k e = subst (λ (z : List Token). Meets Top (stated_top turns inner z) (t.Equation what right) k) (decl_equation what right k)
      (meets_then _ (again_stated_equation turns inner m none true what right (formed_decl_equation what right ∙ w) k e)
      (subst (λ z. Meets Top (top_layer z k) (t.Equation what right) k) (sym (layer_equation what right)) (meets_return (t.Equation what right) k)))

  -- what begins a pattern begins none of the others
  by_stated : (c : Option Token) (ts : List Token) (x : Top) (k : List Token) → starts_apat c ≡ true → Meets Top (stated_top turns inner ts) x k → Meets Top (top_by turns inner c ts) x k
  by_stated c ts x k e n =
      let semicolon = not_key starts_apat key.KSemicolon (λ at. refl) c e in
      let brace = not_key starts_apat key.KCloseBrace (λ at. refl) c e in
      meets_no _ _ (ap (λ z. cond z true (is key.KCloseBrace c)) semicolon ∙ brace)
      (meets_no _ _ (not_key starts_apat key.KData (λ at. refl) c e) (meets_no _ _ (not_key starts_apat key.KType (λ at. refl) c e)
      (meets_no _ _ (not_key starts_apat key.KInfix (λ at. refl) c e) (meets_no _ _ (not_key starts_apat key.KInfixl (λ at. refl) c e) (meets_no _ _ (not_key starts_apat key.KInfixr (λ at. refl) c e) n)))))

  -- top declarations

  pub again_fixity : (at : At) (associativity : Associativity) (number_at : At) (number : ℕ) (first : VarOp) (rest : List CommaVarOp) → nat_le number 9 ≡ true → (k : List Token) → ends_member (head k) ≡ true
      → Meets Top (top turns inner (fixity_onto (record { at = at; associativity = associativity; number_at = number_at; number = number; first = first; rest = rest }) k))
      (t.Fixity (record { at = at; associativity = associativity; number_at = number_at; number = number; first = first; rest = rest })) k
  unfolding top
  again_fixity at side.Neither number_at number first rest w k e = again_fixity_top (record { at = at; associativity = side.Neither; number_at = number_at; number = number; first = first; rest = rest }) w k e (λ ts. refl)
  again_fixity at side.Left number_at number first rest w k e = again_fixity_top (record { at = at; associativity = side.Left; number_at = number_at; number = number; first = first; rest = rest }) w k e (λ ts. refl)
  again_fixity at side.Right number_at number first rest w k e = again_fixity_top (record { at = at; associativity = side.Right; number_at = number_at; number = number; first = first; rest = rest }) w k e (λ ts. refl)

  pub again_top : (x : Top) → formed_top x ≡ true → (k : List Token) → ends_member (head k) ≡ true → Meets Top (top turns inner (top_onto x k)) x k
  unfolding top
  again_top t.Empty w k e = meets_yes _ _ e (meets_return t.Empty k)
  again_top (t.Data x) w k e = again_data_top x w k e
  again_top (t.Synonym x) w k e = again_synonym_top x w k e
  again_top (t.Fixity x) w k e = again_fixity x.at x.associativity x.number_at x.number x.first x.rest w k e
  again_top (t.Signature first rest at part) w k e =
      let ts : List Token = top_onto (t.Signature first rest at part) k in
      by_stated (head ts) ts (t.Signature first rest at part) k (var_starts_apat first (each_onto comma_var_onto rest (key_onto at key.KDoubleColon (type_exp_onto part k)))) (again_signature first rest at part w k e)
  again_top (t.Equation what right) w k e =
      let ts : List Token = top_onto (t.Equation what right) k in
      by_stated (head ts) ts (t.Equation what right) k (head_starts_apat what (rhs_onto right k)) (again_equation what right w k e)

  pub again_next_top : (x : NextTop) → formed_next_top x ≡ true → (k : List Token) → ends_member (head k) ≡ true → Meets NextTop (next_top turns inner (next_top_onto x k)) x k
  unfolding next_top
  again_next_top x w k e = meets_then _ (again_top x.top w k e) (meets_return x k)

  more_tops : Items NextTop next_top_onto formed_next_top (is key.KSemicolon) ends_member (next_top turns inner)
  more_tops = record { reads = again_next_top; begins = λ x k. refl; follows = λ x k. refl }

  pub again_next_tops : (xs : List NextTop) → each_formed formed_next_top xs ≡ true → (k : List Token) → is key.KSemicolon (head k) ≡ false → ends_member (head k) ≡ true → Meets (List NextTop) (next_tops turns inner (each_onto next_top_onto xs k)) xs k
  again_next_tops xs w k e f = meets_many NextTop next_top_onto formed_next_top (is key.KSemicolon) ends_member (next_top turns inner) more_tops turns [] xs k w e f

  pub again_tree : (x : Tree) → formed_tree x ≡ true → (k : List Token) → Meets Tree (tree turns inner (tree_onto x k)) x k
  unfolding tree
  again_tree x w k =
      let k1 : List Token = key_onto x.close_at key.KCloseBrace k in
      let k2 : List Token = each_onto next_top_onto x.rest k1 in
      meets_then _ (again_module_head x.head (key_onto x.open_at key.KOpenBrace (top_onto x.first k2)) refl)
      (meets_then _ (again_top x.first (first_part (formed_top x.first) (each_formed formed_next_top x.rest) w) k2 (may_all NextTop next_top_onto formed_next_top (is key.KSemicolon) ends_member (next_top turns inner) more_tops x.rest k1 refl))
      (meets_then _ (again_next_tops x.rest (second_part (formed_top x.first) (each_formed formed_next_top x.rest) w) k1 refl refl)
      (meets_return x k)))

pub again_program : (turns depth : ℕ) → GoodInner (nested turns depth) → MeetsInner (nested turns depth) → (x : Tree) → formed_tree x ≡ true → Meets Tree (program turns depth (spell x)) x []
unfolding program
again_program turns depth good m x w = meets_then _ (again_tree turns (nested turns depth) m (no_generator turns (nested turns depth) good) x w []) (meets_return x [])
