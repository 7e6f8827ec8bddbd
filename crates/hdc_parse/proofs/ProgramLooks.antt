-- No rule of programs looks past the token where it ends or stops.
use Rattle.std.proofs.Common.{◌≡◌, ℕ, true, List, [], ◌∷◌, ◌++◌, length, ◌<◌, ◌≤◌, Option, Ok, Err, ap, arith}
use Rattle.hdc_base.specs.declared.place.At.{At}
use Rattle.hdc_base.specs.declared.token.Key.{Key}
use Rattle.hdc_base.specs.declared.token.Key.TheVariants as key
use Rattle.hdc_base.specs.declared.token.Token.{Token}
use Rattle.hdc_tree.specs.declared.name.Name.{Name}
use Rattle.hdc_tree.specs.declared.expression.Alt.{Alt}
use Rattle.hdc_tree.specs.declared.expression.Aexp.{Aexp}
use Rattle.hdc_tree.specs.declared.expression.ListExp.{ListExp}
use Rattle.hdc_tree.specs.declared.expression.Operand.{Operand}
use Rattle.hdc_tree.specs.declared.expression.Qual.{Qual}
use Rattle.hdc_tree.specs.declared.expression.Where.{Where}
use Rattle.hdc_tree.specs.declared.expression.Alts.{Alts}
use Rattle.hdc_tree.specs.declared.expression.Apply.{Apply}
use Rattle.hdc_tree.specs.declared.expression.ArrowGuard.{ArrowGuard}
use Rattle.hdc_tree.specs.declared.expression.Block.{Block}
use Rattle.hdc_tree.specs.declared.expression.CommaExp.{CommaExp}
use Rattle.hdc_tree.specs.declared.expression.CommaQual.{CommaQual}
use Rattle.hdc_tree.specs.declared.expression.EqualGuard.{EqualGuard}
use Rattle.hdc_tree.specs.declared.expression.Exp.{Exp}
use Rattle.hdc_tree.specs.declared.expression.Link.{Link}
use Rattle.hdc_tree.specs.declared.expression.NextAlt.{NextAlt}
use Rattle.hdc_tree.specs.declared.expression.NextDecl.{NextDecl}
use Rattle.hdc_tree.specs.declared.expression.Rhs.{Rhs}
use Rattle.hdc_tree.specs.declared.expression.Decl.{Decl, Decl-F, out-Decl}
use Rattle.hdc_tree.specs.declared.program.Associativity.{Associativity}
use Rattle.hdc_tree.specs.declared.program.Associativity.TheVariants as side
use Rattle.hdc_tree.specs.declared.program.BarConstr.{BarConstr}
use Rattle.hdc_tree.specs.declared.program.CommaExport.{CommaExport}
use Rattle.hdc_tree.specs.declared.program.CommaName.{CommaName}
use Rattle.hdc_tree.specs.declared.program.CommaVarOp.{CommaVarOp}
use Rattle.hdc_tree.specs.declared.program.Constr.{Constr}
use Rattle.hdc_tree.specs.declared.program.Deriving.{Deriving}
use Rattle.hdc_tree.specs.declared.program.Deriving.TheVariants as derive
use Rattle.hdc_tree.specs.declared.program.Export.{Export}
use Rattle.hdc_tree.specs.declared.program.Export.TheVariants as exported
use Rattle.hdc_tree.specs.declared.program.ModuleHead.{ModuleHead}
use Rattle.hdc_tree.specs.declared.program.ModuleHead.TheVariants as h
use Rattle.hdc_tree.specs.declared.program.NextTop.{NextTop}
use Rattle.hdc_tree.specs.declared.program.Top.{Top}
use Rattle.hdc_tree.specs.declared.program.Top.TheVariants as t
use Rattle.hdc_tree.specs.declared.program.Tree.{Tree}
use Rattle.hdc_syntax.specs.declared.stop.Stop.TheVariants.{Syntax}
use Rattle.hdc_syntax.specs.Words.{is, is_small, is_capital, small, small_of}
use Rattle.hdc_syntax.proofs.Good.{ok_same}
use Rattle.hdc_syntax.proofs.Local.{Local, Within, Keeps, Halts, local_pure, local_refuse, local_token, local_many_from}
use Rattle.hdc_syntax.proofs.Steps.{local_then, local_key, local_capital, local_look, local_if}
use Rattle.hdc_syntax.proofs.NameRules.{local_var, local_var_op}
use Rattle.hdc_syntax.proofs.TypeLooks.{local_atypes, local_type_exp}
use Rattle.hdc_expression.specs.declared.qualifier.QualHead.{QualHead}
use Rattle.hdc_expression.specs.ExpressionReader.{Inner, generator, condition}
use Rattle.hdc_expression.specs.DeclarationReader.{ends_member}
use Rattle.hdc_expression.specs.Nested.{nested}
use Rattle.hdc_expression.proofs.Opened.{GoodInner, LocalInner}
use Rattle.hdc_expression.proofs.Apart.{apart}
use Rattle.hdc_parse.proofs.DeclarationLooks.{local_stated}
use Rattle.hdc_parse.specs.ProgramReader.{export, comma_export, precedence_of, precedence, comma_name, comma_var_op, top_layer, top_of, comma_exports, exporting, plain_head, named_head, module_head, params, constr, bar_constr, bar_constrs, comma_names, derived_list, derived_none, derived_parens, derived_con, derived, data_top, synonym_top, comma_var_ops, fixity_top, stated_top, top_by, top, next_top, next_tops, tree, at_end, program}

-- the head
pub local_export : Local Export export
unfolding export
local_export = local_look (λ c. local_if (is_capital c) (local_capital (λ name. local_pure Export (exported.Con name))) (local_then local_var (λ x. local_pure Export (exported.Var x))))

pub local_comma_export : Local CommaExport comma_export
unfolding comma_export
local_comma_export = local_key key.KComma (λ comma. local_then local_export (λ x. local_pure CommaExport (record { comma = comma; export = x })))

-- names and operators in rows
pub local_precedence : Local (At × ℕ) precedence
local_precedence = local_token (At × ℕ) precedence_of

pub local_comma_name : Local CommaName comma_name
unfolding comma_name
local_comma_name = local_key key.KComma (λ comma. local_capital (λ name. local_pure CommaName (record { comma = comma; name = name })))

pub local_comma_var_op : Local CommaVarOp comma_var_op
unfolding comma_var_op
local_comma_var_op = local_key key.KComma (λ comma. local_then local_var_op (λ x. local_pure CommaVarOp (record { comma = comma; op = x })))

-- declarations at top level
local_layer : (y : Decl-F Aexp Alt Decl ListExp Operand Qual Rhs Where Alts Apply ArrowGuard Block CommaExp CommaQual EqualGuard Exp Link NextAlt NextDecl) → Local Top (top_layer y)
local_layer (Decl-F.Signature first rest at part) = local_pure Top (t.Signature first rest at part)
local_layer (Decl-F.Equation what right) = local_pure Top (t.Equation what right)
local_layer (Decl-F.Binding p right) = local_refuse Top
local_layer Decl-F.Empty = local_refuse Top

pub local_top_of : (x : Decl) → Local Top (top_of x)
local_top_of x = local_layer (out-Decl x)

-- the rules, by the parsers of what nests in a program's braces
module _ (turns : ℕ) (inner : Inner) (g : LocalInner inner) (apart : Within QualHead (generator turns inner) (condition turns inner)) where
  pub local_comma_exports : Local (List CommaExport) (comma_exports turns)
  local_comma_exports = local_many_from CommaExport (is key.KComma) comma_export local_comma_export turns []

  pub local_exporting : (at : At) (name : Name) → Local ModuleHead (exporting turns at name)
  unfolding exporting
  local_exporting at name = local_key key.KOpenParen (λ open_at. local_then local_export (λ first. local_then local_comma_exports (λ rest. local_key key.KCloseParen (λ close_at. local_key key.KWhere (λ where_at.
      local_pure ModuleHead (h.Exporting at name open_at first rest close_at where_at))))))

  pub local_plain_head : (at : At) (name : Name) → Local ModuleHead (plain_head turns at name)
  local_plain_head at name = local_key key.KWhere (λ where_at. local_pure ModuleHead (h.Plain at name where_at))

  pub local_named_head : Local ModuleHead (named_head turns)
  unfolding named_head
  local_named_head = local_key key.KModule (λ at. local_capital (λ name. local_look (λ c. local_if (is key.KOpenParen c) (local_exporting at name) (local_plain_head at name))))

  pub local_module_head : Local ModuleHead (module_head turns)
  unfolding module_head
  local_module_head = local_look (λ c. local_if (is key.KModule c) local_named_head (local_pure ModuleHead h.Absent))

  pub local_params : Local (List Name) (params turns)
  local_params = local_many_from Name is_small small (local_token Name small_of) turns []

  pub local_constr : Local Constr (constr turns inner)
  unfolding constr
  local_constr = local_capital (λ name. local_then (local_atypes turns inner.atype g.atype) (λ fields. local_pure Constr (record { name = name; fields = fields })))

  pub local_bar_constr : Local BarConstr (bar_constr turns inner)
  unfolding bar_constr
  local_bar_constr = local_key key.KBar (λ bar. local_then local_constr (λ x. local_pure BarConstr (record { bar = bar; constr = x })))

  pub local_bar_constrs : Local (List BarConstr) (bar_constrs turns inner)
  local_bar_constrs = local_many_from BarConstr (is key.KBar) (bar_constr turns inner) local_bar_constr turns []

  pub local_comma_names : Local (List CommaName) (comma_names turns)
  local_comma_names = local_many_from CommaName (is key.KComma) comma_name local_comma_name turns []

  pub local_derived_list : (at open_at : At) → Local Deriving (derived_list turns at open_at)
  unfolding derived_list
  local_derived_list at open_at = local_capital (λ first. local_then local_comma_names (λ rest. local_key key.KCloseParen (λ close_at. local_pure Deriving (derive.List at open_at first rest close_at))))

  pub local_derived_none : (at open_at : At) → Local Deriving (derived_none turns at open_at)
  local_derived_none at open_at = local_key key.KCloseParen (λ close_at. local_pure Deriving (derive.Unit at open_at close_at))

  pub local_derived_parens : (at : At) → Local Deriving (derived_parens turns at)
  unfolding derived_parens
  local_derived_parens at = local_key key.KOpenParen (λ open_at. local_look (λ c. local_if (is key.KCloseParen c) (local_derived_none at open_at) (local_derived_list at open_at)))

  pub local_derived_con : (at : At) → Local Deriving (derived_con turns at)
  local_derived_con at = local_capital (λ name. local_pure Deriving (derive.Con at name))

  pub local_derived : Local Deriving (derived turns)
  unfolding derived
  local_derived = local_look (λ c. local_if (is key.KDeriving c)
      (local_key key.KDeriving (λ at. local_look (λ d. local_if (is_capital d) (local_derived_con at) (local_derived_parens at))))
      (local_pure Deriving derive.Absent))

  pub local_data_top : Local Top (data_top turns inner)
  unfolding data_top
  local_data_top = local_key key.KData (λ at. local_capital (λ name. local_then local_params (λ ps. local_key key.KEqual (λ equal. local_then local_constr (λ first. local_then local_bar_constrs (λ rest. local_then local_derived (λ what.
      local_pure Top (t.Data (record { at = at; name = name; params = ps; equal = equal; first = first; rest = rest; derived = what })))))))))

  pub local_synonym_top : Local Top (synonym_top turns inner)
  unfolding synonym_top
  local_synonym_top = local_key key.KType (λ at. local_capital (λ name. local_then local_params (λ ps. local_key key.KEqual (λ equal. local_then (local_type_exp turns inner.atype g.atype) (λ meaning.
      local_pure Top (t.Synonym (record { at = at; name = name; params = ps; equal = equal; meaning = meaning })))))))

  pub local_comma_var_ops : Local (List CommaVarOp) (comma_var_ops turns)
  local_comma_var_ops = local_many_from CommaVarOp (is key.KComma) comma_var_op local_comma_var_op turns []

  pub local_fixity_top : (k : Key) (associativity : Associativity) → Local Top (fixity_top turns k associativity)
  unfolding fixity_top
  local_fixity_top k associativity = local_key k (λ at. local_then local_precedence (λ number. local_then local_var_op (λ first. local_then local_comma_var_ops (λ rest.
      local_pure Top (t.Fixity (record { at = at; associativity = associativity; number_at = number.0; number = number.1; first = first; rest = rest }))))))

  pub local_stated_top : Local Top (stated_top turns inner)
  local_stated_top = local_then (local_stated turns inner g apart true) local_top_of

  pub local_top_by : (c : Option Token) → Local Top (top_by turns inner c)
  local_top_by c = local_if (ends_member c) (local_pure Top t.Empty) (local_if (is key.KData c) local_data_top (local_if (is key.KType c) local_synonym_top
      (local_if (is key.KInfix c) (local_fixity_top key.KInfix side.Neither) (local_if (is key.KInfixl c) (local_fixity_top key.KInfixl side.Left) (local_if (is key.KInfixr c) (local_fixity_top key.KInfixr side.Right) local_stated_top)))))

  pub local_top : Local Top (top turns inner)
  unfolding top
  local_top = local_look local_top_by

  pub local_next_top : Local NextTop (next_top turns inner)
  unfolding next_top
  local_next_top = local_key key.KSemicolon (λ semicolon. local_then local_top (λ x. local_pure NextTop (record { semicolon = semicolon; top = x })))

  pub local_next_tops : Local (List NextTop) (next_tops turns inner)
  local_next_tops = local_many_from NextTop (is key.KSemicolon) (next_top turns inner) local_next_top turns []

  pub local_tree : Local Tree (tree turns inner)
  unfolding tree
  local_tree = local_then local_module_head (λ head. local_key key.KOpenBrace (λ open_at. local_then local_top (λ first. local_then local_next_tops (λ rest. local_key key.KCloseBrace (λ close_at.
      local_pure Tree (record { head = head; open_at = open_at; first = first; rest = rest; close_at = close_at }))))))

-- ---- the end of the text, where the rule reads on at no token

end_shrinks : (ts : List Token) (x : Unit {0}) (rest : List Token) → at_end ts ≡ Ok (x, rest) → length rest ≤ length ts
end_shrinks [] x rest e = let z : [] ≡ rest = (ok_same (Unit {0}) (tt, []) (x, rest) e).1 in omega (arith, ap length z)
end_shrinks (c ∷ cs) x rest e = absurd (cc)

end_counts : (ts : List Token) (n : ℕ) → at_end ts ≡ Err (Syntax n) → n ≤ length ts
end_counts [] n e = absurd (cc)
end_counts (c ∷ cs) n e = let z : length (c ∷ cs) ≡ n = cc in omega (arith, z)

end_found : (q : List Token) (c : Token) (r s : List Token) (x : Unit {0}) (u : List Token) → at_end (q ++ c ∷ r) ≡ Ok (x, u) → length r < length u → Keeps (Unit {0}) at_end q c r s x u
end_found [] c r s x u e lt = absurd (cc)
end_found (d ∷ q) c r s x u e lt = absurd (cc)

end_stopped : (q : List Token) (c : Token) (r s : List Token) (n : ℕ) → at_end (q ++ c ∷ r) ≡ Err (Syntax n) → length r < n → Halts (Unit {0}) at_end q c r s n
end_stopped [] c r s n e lt = let k = (local_refuse (Unit {0})).stopped [] c r s n e lt in record { before = k.before; is = k.is; again = k.again }
end_stopped (d ∷ q) c r s n e lt = let k = (local_refuse (Unit {0})).stopped (d ∷ q) c r s n e lt in record { before = k.before; is = k.is; again = k.again }

local_at_end : Local (Unit {0}) at_end
local_at_end = record { shrinks = end_shrinks; counts = end_counts; found = end_found; stopped = end_stopped }

pub local_program : (turns depth : ℕ) → GoodInner (nested turns depth) → LocalInner (nested turns depth) → Local Tree (program turns depth)
unfolding program
local_program turns depth good g = local_then (local_tree turns (nested turns depth) g (apart turns (nested turns depth) good)) (λ x. local_then local_at_end (λ y. local_pure Tree x))
