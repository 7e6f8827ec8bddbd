-- No rule of patterns looks past the token where it ends or stops.
use Rattle.std.proofs.Common.{ℕ, zero, suc, List, [], ◌∷◌, Option}
use Rattle.hdc_base.specs.declared.place.At.{At}
use Rattle.hdc_base.specs.declared.token.Key.TheVariants as key
use Rattle.hdc_base.specs.declared.token.Token.{Token}
use Rattle.hdc_tree.specs.declared.name.Name.{Name}
use Rattle.hdc_tree.specs.declared.pattern.Apat.{Apat}
use Rattle.hdc_tree.specs.declared.pattern.Apat.TheVariants as a
use Rattle.hdc_tree.specs.declared.pattern.LeftPat.{LeftPat}
use Rattle.hdc_tree.specs.declared.pattern.LeftPat.TheVariants as l
use Rattle.hdc_tree.specs.declared.pattern.CommaPat.{CommaPat, roll-CommaPat}
use Rattle.hdc_tree.specs.declared.pattern.ConsPat.{ConsPat, roll-ConsPat}
use Rattle.hdc_tree.specs.declared.pattern.Pat.{Pat, roll-Pat}
use Rattle.hdc_syntax.specs.Parser.{Parser}
use Rattle.hdc_syntax.specs.Words.{is, is_small, is_capital, is_minus, is_literal}
use Rattle.hdc_syntax.proofs.Local.{Local, local_pure, local_refuse, local_deep, local_many_from, local_at_most_from}
use Rattle.hdc_syntax.proofs.Steps.{local_then, local_key, local_small, local_capital, local_minus, local_number, local_literal, local_look, local_if}
use Rattle.hdc_syntax.specs.PatternReader.{starts_apat, apats, applied_pat, constructor_pat, negative_pat, plain_pat, left_pat, cons_pat, cons_pats, pat_behind, pat, comma_pat, tuple_pat, paren_pat, parens_behind, unit_pat, parens_pat, nil_pat, comma_pats, members_pat, list_pat, as_pat, named_pat, con_pat, literal_pat, wildcard_pat, apat_by, apat_level, apat}

-- the rules at one depth, by the parser of patterns that may be arguments
module _ (turns : ℕ) (apat : Parser Apat) (g : Local Apat apat) where
  pub local_apats : Local (List Apat) (apats turns apat)
  local_apats = local_many_from Apat starts_apat apat g turns []

  pub local_applied_pat : (name : Name) → Local LeftPat (applied_pat turns apat name)
  unfolding applied_pat
  local_applied_pat name = local_then g (λ first. local_then local_apats (λ rest. local_pure LeftPat (l.Applied name first rest)))

  pub local_constructor_pat : Local LeftPat (constructor_pat turns apat)
  unfolding constructor_pat
  local_constructor_pat = local_capital (λ name. local_look (λ c. local_if (starts_apat c) (local_applied_pat name) (local_pure LeftPat (l.Plain (a.Con name)))))

  pub local_negative_pat : Local LeftPat (negative_pat turns apat)
  unfolding negative_pat
  local_negative_pat = local_minus (λ at. local_number (λ n. local_pure LeftPat (l.Negative at n.0 n.1)))

  pub local_plain_pat : Local LeftPat (plain_pat turns apat)
  local_plain_pat = local_then g (λ x. local_pure LeftPat (l.Plain x))

  pub local_left_pat : Local LeftPat (left_pat turns apat)
  unfolding left_pat
  local_left_pat = local_look (λ c. local_if (is_capital c) local_constructor_pat (local_if (is_minus c) local_negative_pat local_plain_pat))

  pub local_cons_pat : Local ConsPat (cons_pat turns apat)
  unfolding cons_pat
  local_cons_pat = local_key key.KColon (λ colon. local_then local_left_pat (λ x. local_pure ConsPat (roll-ConsPat (record { colon = colon; pat = x }))))

  pub local_cons_pats : Local (List ConsPat) (cons_pats turns apat)
  local_cons_pats = local_many_from ConsPat (is key.KColon) (cons_pat turns apat) local_cons_pat turns []

  pub local_pat_behind : (first : LeftPat) → Local Pat (pat_behind turns apat first)
  local_pat_behind first = local_then local_cons_pats (λ rest. local_pure Pat (roll-Pat (record { first = first; rest = rest })))

  pub local_pat : Local Pat (pat turns apat)
  unfolding pat
  local_pat = local_then local_left_pat local_pat_behind

  pub local_comma_pat : Local CommaPat (comma_pat turns apat)
  unfolding comma_pat
  local_comma_pat = local_key key.KComma (λ comma. local_then local_pat (λ x. local_pure CommaPat (roll-CommaPat (record { comma = comma; pat = x }))))

  pub local_comma_pats : Local (List CommaPat) (comma_pats turns apat)
  local_comma_pats = local_many_from CommaPat (is key.KComma) (comma_pat turns apat) local_comma_pat turns []

  pub local_tuple_pat : (open_at : At) (first : Pat) → Local Apat (tuple_pat turns apat open_at first)
  unfolding tuple_pat
  local_tuple_pat open_at first = local_then local_comma_pat (λ second. local_then (local_at_most_from CommaPat (is key.KComma) (comma_pat turns apat) local_comma_pat 5 (second ∷ [])) (λ rest.
      local_key key.KCloseParen (λ close_at. local_pure Apat (a.Tuple open_at first rest close_at))))

  pub local_paren_pat : (open_at : At) (inner : Pat) → Local Apat (paren_pat turns apat open_at inner)
  local_paren_pat open_at inner = local_key key.KCloseParen (λ close_at. local_pure Apat (a.Paren open_at inner close_at))

  pub local_parens_behind : (open_at : At) (first : Pat) → Local Apat (parens_behind turns apat open_at first)
  local_parens_behind open_at first = local_look (λ c. local_if (is key.KCloseParen c) (local_paren_pat open_at first) (local_tuple_pat open_at first))

  pub local_unit_pat : (open_at : At) → Local Apat (unit_pat turns apat open_at)
  local_unit_pat open_at = local_key key.KCloseParen (λ close_at. local_pure Apat (a.Unit open_at close_at))

  pub local_parens_pat : Local Apat (parens_pat turns apat)
  unfolding parens_pat
  local_parens_pat = local_key key.KOpenParen (λ open_at. local_look (λ c. local_if (is key.KCloseParen c) (local_unit_pat open_at) (local_then local_pat (local_parens_behind open_at))))

  pub local_nil_pat : (open_at : At) → Local Apat (nil_pat turns apat open_at)
  local_nil_pat open_at = local_key key.KCloseBracket (λ close_at. local_pure Apat (a.Nil open_at close_at))

  pub local_members_pat : (open_at : At) → Local Apat (members_pat turns apat open_at)
  unfolding members_pat
  local_members_pat open_at = local_then local_pat (λ first. local_then local_comma_pats (λ rest. local_key key.KCloseBracket (λ close_at. local_pure Apat (a.List open_at first rest close_at))))

  pub local_list_pat : Local Apat (list_pat turns apat)
  unfolding list_pat
  local_list_pat = local_key key.KOpenBracket (λ open_at. local_look (λ c. local_if (is key.KCloseBracket c) (local_nil_pat open_at) (local_members_pat open_at)))

  pub local_as_pat : (name : Name) → Local Apat (as_pat turns apat name)
  local_as_pat name = local_key key.KAt (λ at. local_then g (λ x. local_pure Apat (a.As name at x)))

  pub local_named_pat : Local Apat (named_pat turns apat)
  unfolding named_pat
  local_named_pat = local_small (λ name. local_look (λ c. local_if (is key.KAt c) (local_as_pat name) (local_pure Apat (a.Var name))))

  pub local_con_pat : Local Apat (con_pat turns apat)
  local_con_pat = local_capital (λ name. local_pure Apat (a.Con name))

  pub local_literal_pat : Local Apat (literal_pat turns apat)
  local_literal_pat = local_literal (λ x. local_pure Apat (a.Literal x.0 x.1))

  pub local_wildcard_pat : Local Apat (wildcard_pat turns apat)
  local_wildcard_pat = local_key key.KUnderscore (λ at. local_pure Apat (a.Wildcard at))

  pub local_apat_by : (c : Option Token) → Local Apat (apat_by turns apat c)
  local_apat_by c = local_if (is_small c) local_named_pat (local_if (is_capital c) local_con_pat (local_if (is_literal c) local_literal_pat (local_if (is key.KUnderscore c) local_wildcard_pat
      (local_if (is key.KOpenParen c) local_parens_pat (local_if (is key.KOpenBracket c) local_list_pat (local_refuse Apat))))))

  pub local_apat_level : Local Apat (apat_level turns apat)
  unfolding apat_level
  local_apat_level = local_look local_apat_by

pub local_apat : (turns depth : ℕ) → Local Apat (apat turns depth)
unfolding apat
local_apat turns zero = local_deep Apat
local_apat turns (suc depth) = local_apat_level turns (apat turns depth) (local_apat turns depth)
