-- No rule of types looks past the token where it ends or stops.
use Rattle.std.proofs.Common.{ℕ, zero, suc, List, [], ◌∷◌, Option}
use Rattle.hdc_base.specs.declared.place.At.{At}
use Rattle.hdc_base.specs.declared.token.Key.TheVariants as key
use Rattle.hdc_base.specs.declared.token.Token.{Token}
use Rattle.hdc_tree.specs.declared.name.Name.{Name}
use Rattle.hdc_tree.specs.declared.type_tree.Atype.{Atype}
use Rattle.hdc_tree.specs.declared.type_tree.Atype.TheVariants as a
use Rattle.hdc_tree.specs.declared.type_tree.Btype.{Btype}
use Rattle.hdc_tree.specs.declared.type_tree.Btype.TheVariants as b
use Rattle.hdc_tree.specs.declared.type_tree.ArrowType.{ArrowType, roll-ArrowType}
use Rattle.hdc_tree.specs.declared.type_tree.CommaType.{CommaType, roll-CommaType}
use Rattle.hdc_tree.specs.declared.type_tree.TypeExp.{TypeExp, roll-TypeExp}
use Rattle.hdc_syntax.specs.Parser.{Parser}
use Rattle.hdc_syntax.specs.Words.{is, is_small, is_capital}
use Rattle.hdc_syntax.proofs.Local.{Local, local_pure, local_refuse, local_deep, local_many_from, local_at_most_from}
use Rattle.hdc_syntax.proofs.Steps.{local_then, local_key, local_small, local_capital, local_look, local_if}
use Rattle.hdc_syntax.specs.TypeReader.{starts_atype, atypes, applied_type, constructor_type, plain_type, btype, arrow_type, arrow_types, type_exp, comma_type, tuple_type, paren_type, parens_type_behind, unit_type, parens_type, list_type, con_type, var_type, atype_by, atype_level, atype}

-- the rules at one depth, by the parser of types that may be arguments
module _ (turns : ℕ) (atype : Parser Atype) (g : Local Atype atype) where
  pub local_atypes : Local (List Atype) (atypes turns atype)
  local_atypes = local_many_from Atype starts_atype atype g turns []

  pub local_applied_type : (name : Name) → Local Btype (applied_type turns atype name)
  unfolding applied_type
  local_applied_type name = local_then g (λ first. local_then local_atypes (λ rest. local_pure Btype (b.Applied name first rest)))

  pub local_constructor_type : Local Btype (constructor_type turns atype)
  unfolding constructor_type
  local_constructor_type = local_capital (λ name. local_look (λ c. local_if (starts_atype c) (local_applied_type name) (local_pure Btype (b.Plain (a.Con name)))))

  pub local_plain_type : Local Btype (plain_type turns atype)
  local_plain_type = local_then g (λ x. local_pure Btype (b.Plain x))

  pub local_btype : Local Btype (btype turns atype)
  unfolding btype
  local_btype = local_look (λ c. local_if (is_capital c) local_constructor_type local_plain_type)

  pub local_arrow_type : Local ArrowType (arrow_type turns atype)
  unfolding arrow_type
  local_arrow_type = local_key key.KRightArrow (λ arrow. local_then local_btype (λ x. local_pure ArrowType (roll-ArrowType (record { arrow = arrow; part = x }))))

  pub local_arrow_types : Local (List ArrowType) (arrow_types turns atype)
  local_arrow_types = local_many_from ArrowType (is key.KRightArrow) (arrow_type turns atype) local_arrow_type turns []

  pub local_type_exp : Local TypeExp (type_exp turns atype)
  unfolding type_exp
  local_type_exp = local_then local_btype (λ first. local_then local_arrow_types (λ rest. local_pure TypeExp (roll-TypeExp (record { first = first; rest = rest }))))

  pub local_comma_type : Local CommaType (comma_type turns atype)
  unfolding comma_type
  local_comma_type = local_key key.KComma (λ comma. local_then local_type_exp (λ x. local_pure CommaType (roll-CommaType (record { comma = comma; part = x }))))

  pub local_tuple_type : (open_at : At) (first : TypeExp) → Local Atype (tuple_type turns atype open_at first)
  unfolding tuple_type
  local_tuple_type open_at first = local_then local_comma_type (λ second. local_then (local_at_most_from CommaType (is key.KComma) (comma_type turns atype) local_comma_type 5 (second ∷ [])) (λ rest.
      local_key key.KCloseParen (λ close_at. local_pure Atype (a.Tuple open_at first rest close_at))))

  pub local_paren_type : (open_at : At) (inner : TypeExp) → Local Atype (paren_type turns atype open_at inner)
  local_paren_type open_at inner = local_key key.KCloseParen (λ close_at. local_pure Atype (a.Paren open_at inner close_at))

  pub local_parens_type_behind : (open_at : At) (first : TypeExp) → Local Atype (parens_type_behind turns atype open_at first)
  local_parens_type_behind open_at first = local_look (λ c. local_if (is key.KCloseParen c) (local_paren_type open_at first) (local_tuple_type open_at first))

  pub local_unit_type : (open_at : At) → Local Atype (unit_type turns atype open_at)
  local_unit_type open_at = local_key key.KCloseParen (λ close_at. local_pure Atype (a.Unit open_at close_at))

  pub local_parens_type : Local Atype (parens_type turns atype)
  unfolding parens_type
  local_parens_type = local_key key.KOpenParen (λ open_at. local_look (λ c. local_if (is key.KCloseParen c) (local_unit_type open_at) (local_then local_type_exp (local_parens_type_behind open_at))))

  pub local_list_type : Local Atype (list_type turns atype)
  unfolding list_type
  local_list_type = local_key key.KOpenBracket (λ open_at. local_then local_type_exp (λ inner. local_key key.KCloseBracket (λ close_at. local_pure Atype (a.List open_at inner close_at))))

  pub local_con_type : Local Atype (con_type turns atype)
  local_con_type = local_capital (λ name. local_pure Atype (a.Con name))

  pub local_var_type : Local Atype (var_type turns atype)
  local_var_type = local_small (λ name. local_pure Atype (a.Var name))

  pub local_atype_by : (c : Option Token) → Local Atype (atype_by turns atype c)
  local_atype_by c = local_if (is_small c) local_var_type (local_if (is_capital c) local_con_type (local_if (is key.KOpenParen c) local_parens_type (local_if (is key.KOpenBracket c) local_list_type (local_refuse Atype))))

  pub local_atype_level : Local Atype (atype_level turns atype)
  unfolding atype_level
  local_atype_level = local_look local_atype_by

pub local_atype : (turns depth : ℕ) → Local Atype (atype turns depth)
unfolding atype
local_atype turns zero = local_deep Atype
local_atype turns (suc depth) = local_atype_level turns (atype turns depth) (local_atype turns depth)
