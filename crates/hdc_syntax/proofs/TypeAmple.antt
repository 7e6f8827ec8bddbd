-- No limit comes in the rules of types where the turns are more than the text is long and the depth suffices for the nesting.
use Rattle.std.proofs.Common.{ℕ, zero, suc, ◌<◌, List, [], ◌∷◌, Option, refl}
use Rattle.hdc_base.specs.declared.place.At.{At}
use Rattle.hdc_base.specs.declared.token.Key.TheVariants as key
use Rattle.hdc_base.specs.declared.token.Token.{Token}
use Rattle.hdc_tree.specs.declared.name.Name.{Name}
use Rattle.hdc_tree.specs.declared.type_tree.Atype.{Atype}
use Rattle.hdc_tree.specs.declared.type_tree.Atype.TheVariants as a
use Rattle.hdc_tree.specs.declared.type_tree.Btype.{Btype}
use Rattle.hdc_tree.specs.declared.type_tree.Btype.TheVariants as b
use Rattle.hdc_tree.specs.declared.type_tree.ArrowType.{ArrowType, roll-ArrowType}
use Rattle.hdc_tree.specs.declared.type_tree.CommaType.{CommaType, roll-CommaType}
use Rattle.hdc_tree.specs.declared.type_tree.TypeExp.{TypeExp, roll-TypeExp}
use Rattle.hdc_tree.specs.TypeSpelling.{atype_onto, arrow_type_onto, comma_type_onto}
use Rattle.hdc_tree.specs.TypeForm.{formed_atype, formed_arrow_type, formed_comma_type}
use Rattle.hdc_syntax.specs.Parser.{Parser}
use Rattle.hdc_syntax.specs.Words.{is, is_small, is_capital, small_of, capital_of}
use Rattle.hdc_syntax.proofs.Good.{Good, Spells}
use Rattle.hdc_syntax.proofs.Ample.{here, floor, free_pure, free_refuse, free_then, free_token, free_last, Ample, ample_free, ample_floor, ample_none, ample_look, ample_if}
use Rattle.hdc_syntax.specs.TypeReader.{starts_atype, atypes, applied_type, constructor_type, plain_type, btype, arrow_type, arrow_types, type_exp, comma_type, tuple_type, parens_type_behind, parens_type, list_type, atype_by, atype_level, atype}
use Rattle.hdc_syntax.proofs.TypeWords.{good_btype, good_arrow_type, good_type_exp, good_comma_type, good_atype}
use Rattle.hdc_syntax.proofs.TypeAgain.{atype_starts, arrow_type_starts}
use Rattle.hdc_syntax.proofs.TypeBalanced.{atype_word, btype_word, arrow_type_word, comma_type_word, type_exp_word}
use Rattle.hdc_syntax.proofs.AmpleSteps.{ample_last, then_here, then_floor, past_key, past_comma, past_open, past_capital, many_here, members_floor}

-- the rules at one depth, by the parser of types that may be arguments
module _ (turns : ℕ) (atype : Parser Atype) (good : Good Atype atype (Spells Atype atype_onto formed_atype)) (most n depth : ℕ) (lt : n < turns) (g : Ample Atype atype most n depth here) where
  pub ample_atypes : Ample (List Atype) (atypes turns atype) most n depth here
  ample_atypes = many_here atype_onto formed_atype starts_atype refl atype_starts good lt atype_word [] g

  pub ample_applied_type : (name : Name) → Ample Btype (applied_type turns atype name) most n depth here
  unfolding applied_type
  ample_applied_type name = then_here g good atype_word (λ first. ample_last ample_atypes (λ rest. free_pure (b.Applied name first rest)))

  pub ample_constructor_type : Ample Btype (constructor_type turns atype) most n depth here
  unfolding constructor_type
  ample_constructor_type = past_capital (λ name. ample_look (λ c. ample_if (starts_atype c) (ample_applied_type name) (ample_free (free_pure (b.Plain (a.Con name))))))

  pub ample_plain_type : Ample Btype (plain_type turns atype) most n depth here
  ample_plain_type = ample_last g (λ x. free_pure (b.Plain x))

  pub ample_btype : Ample Btype (btype turns atype) most n depth here
  unfolding btype
  ample_btype = ample_look (λ c. ample_if (is_capital c) ample_constructor_type ample_plain_type)

  pub ample_arrow_type : Ample ArrowType (arrow_type turns atype) most n depth here
  unfolding arrow_type
  ample_arrow_type = past_key key.KRightArrow refl (λ arrow. ample_last ample_btype (λ x. free_pure (roll-ArrowType (record { arrow = arrow; part = x }))))

  pub ample_arrow_types : Ample (List ArrowType) (arrow_types turns atype) most n depth here
  ample_arrow_types = many_here arrow_type_onto formed_arrow_type (is key.KRightArrow) refl arrow_type_starts (good_arrow_type turns atype good) lt arrow_type_word [] ample_arrow_type

  pub ample_type_exp : Ample TypeExp (type_exp turns atype) most n depth here
  unfolding type_exp
  ample_type_exp = then_here ample_btype (good_btype turns atype good) btype_word (λ first. ample_last ample_arrow_types (λ rest. free_pure (roll-TypeExp (record { first = first; rest = rest }))))

  -- in a bracket

  pub ample_comma_type : Ample CommaType (comma_type turns atype) most n depth floor
  unfolding comma_type
  ample_comma_type = past_comma key.KComma refl (λ comma. ample_last (ample_floor ample_type_exp) (λ x. free_pure (roll-CommaType (record { comma = comma; part = x }))))

  pub ample_tuple_type : (open_at : At) (first : TypeExp) → Ample Atype (tuple_type turns atype open_at first) most n depth floor
  unfolding tuple_type
  ample_tuple_type open_at first = then_floor ample_comma_type (good_comma_type turns atype good) comma_type_word (λ second.
      ample_last (members_floor comma_type_onto formed_comma_type (is key.KComma) 5 (second ∷ []) (good_comma_type turns atype good) comma_type_word ample_comma_type) (λ rest.
      free_last key.KCloseParen (λ close_at. free_pure (a.Tuple open_at first rest close_at))))

  pub ample_parens_type_behind : (open_at : At) (first : TypeExp) → Ample Atype (parens_type_behind turns atype open_at first) most n depth floor
  ample_parens_type_behind open_at first = ample_look (λ c. ample_if (is key.KCloseParen c) (ample_free (free_last key.KCloseParen (λ close_at. free_pure (a.Paren open_at first close_at)))) (ample_tuple_type open_at first))

  -- one depth further out

  pub ample_parens_type : Ample Atype (parens_type turns atype) most n (suc depth) here
  unfolding parens_type
  ample_parens_type = past_open key.KOpenParen refl (λ open_at. ample_look (λ c. ample_if (is key.KCloseParen c) (ample_free (free_last key.KCloseParen (λ close_at. free_pure (a.Unit open_at close_at))))
      (then_floor (ample_floor ample_type_exp) (good_type_exp turns atype good) type_exp_word (ample_parens_type_behind open_at))))

  pub ample_list_type : Ample Atype (list_type turns atype) most n (suc depth) here
  unfolding list_type
  ample_list_type = past_open key.KOpenBracket refl (λ open_at. ample_last (ample_floor ample_type_exp) (λ inner. free_last key.KCloseBracket (λ close_at. free_pure (a.List open_at inner close_at))))

  pub ample_atype_by : (c : Option Token) → Ample Atype (atype_by turns atype c) most n (suc depth) here
  ample_atype_by c = ample_if (is_small c) (ample_free (free_then (free_token small_of) (λ name. free_pure (a.Var name)))) (ample_if (is_capital c) (ample_free (free_then (free_token capital_of) (λ name. free_pure (a.Con name))))
      (ample_if (is key.KOpenParen c) ample_parens_type (ample_if (is key.KOpenBracket c) ample_list_type (ample_free free_refuse))))

  pub ample_atype_level : Ample Atype (atype_level turns atype) most n (suc depth) here
  unfolding atype_level
  ample_atype_level = ample_look ample_atype_by

pub ample_atype : (turns most depth n : ℕ) → n < turns → Ample Atype (atype turns depth) most n depth here
unfolding atype
ample_atype turns most zero n lt = ample_none
ample_atype turns most (suc depth) n lt = ample_atype_level turns (atype turns depth) (good_atype turns depth) most n depth lt (ample_atype turns most depth n lt)
