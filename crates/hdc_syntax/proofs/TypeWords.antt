-- What each rule of types reads is a type's spelling, and where a rule stops the tokens so far begin one.
use Rattle.std.proofs.Common.{ℕ, zero, suc, List, [], ◌∷◌, ◌++◌, Option, refl, ◌∙◌, append_assoc, append-nil}
use Rattle.hdc_base.specs.declared.place.At.{At}
use Rattle.hdc_base.specs.declared.token.Key.TheVariants as key
use Rattle.hdc_base.specs.declared.token.Token.{Token}
use Rattle.hdc_tree.specs.declared.name.Name.{Name}
use Rattle.hdc_tree.specs.declared.type_tree.Atype.{Atype}
use Rattle.hdc_tree.specs.declared.type_tree.Atype.TheVariants as a
use Rattle.hdc_tree.specs.declared.type_tree.Btype.{Btype}
use Rattle.hdc_tree.specs.declared.type_tree.Btype.TheVariants as b
use Rattle.hdc_tree.specs.declared.type_tree.ArrowType.{ArrowType, roll-ArrowType}
use Rattle.hdc_tree.specs.declared.type_tree.CommaType.{CommaType, roll-CommaType}
use Rattle.hdc_tree.specs.declared.type_tree.TypeExp.{TypeExp, roll-TypeExp}
use Rattle.hdc_tree.specs.Form.{each_formed}
use Rattle.hdc_tree.specs.NameSpelling.{key_onto, capital_onto, each_onto}
use Rattle.hdc_tree.specs.TypeSpelling.{atype_onto, btype_onto, arrow_type_onto, comma_type_onto, type_exp_onto}
use Rattle.hdc_tree.specs.TypeForm.{formed_atype, formed_btype, formed_arrow_type, formed_comma_type, formed_type_exp}
use Rattle.hdc_tree.proofs.TypeEquations.{atype_con, atype_var, atype_unit, atype_paren, atype_tuple, atype_list, btype_plain, btype_applied, arrow_type_made, comma_type_made, type_exp_made}
use Rattle.hdc_tree.proofs.TypeFormed.{formed_atype_con, formed_atype_var, formed_atype_unit, formed_atype_paren, formed_atype_tuple, formed_atype_list, formed_btype_plain, formed_btype_applied, formed_arrow_type_made, formed_comma_type_made, formed_type_exp_made}
use Rattle.hdc_syntax.specs.Parser.{Parser}
use Rattle.hdc_syntax.specs.Words.{is, is_small, is_capital}
use Rattle.hdc_syntax.proofs.Good.{Good, Spells, Some_of, good_refuse, good_deep, good_at_most_from}
use Rattle.hdc_syntax.proofs.Steps.{some_name, good_then, good_key, good_small, good_capital, good_look, good_if, good_return}
use Rattle.hdc_syntax.proofs.Tests.{both}
use Rattle.hdc_syntax.specs.TypeReader.{starts_atype, atypes, applied_type, constructor_type, plain_type, btype, arrow_type, arrow_types, type_exp, comma_type, tuple_type, paren_type, parens_type_behind, unit_type, parens_type, list_type, con_type, var_type, atype_by, atype_level, atype}
use Rattle.hdc_syntax.proofs.Several.{good_many, members}

some_atype : Some_of Atype (Spells Atype atype_onto formed_atype)
some_atype = record { value = a.Con some_name; word = capital_onto some_name []; is = record { spelled = λ k. atype_con some_name k; sound = formed_atype_con some_name }; regular = refl }

-- the rules at one depth, by the parser of types that may be arguments
module _ (turns : ℕ) (atype : Parser Atype) (g : Good Atype atype (Spells Atype atype_onto formed_atype)) where
  pub good_atypes : Good (List Atype) (atypes turns atype) (Spells (List Atype) (each_onto atype_onto) (each_formed formed_atype))
  good_atypes = good_many atype_onto formed_atype starts_atype turns g

  pub good_applied_type : (name : Name) → Good Btype (applied_type turns atype name) (λ x v. Spells Btype btype_onto formed_btype x (capital_onto name v))
  unfolding applied_type
  good_applied_type name = good_then g (λ first. good_then good_atypes (λ rest. good_return (b.Applied name first rest) (λ ws hs w h. record {
    spelled = λ k. let f = h.spelled in let s = hs.spelled in simp (btype_applied, f, s, append_assoc, append-nil);
    sound = formed_btype_applied name first rest ∙ both _ _ h.sound hs.sound;
  })))

  pub good_constructor_type : Good Btype (constructor_type turns atype) (Spells Btype btype_onto formed_btype)
  unfolding constructor_type
  good_constructor_type = good_capital (λ name. good_look (λ c. good_if (starts_atype c) (good_applied_type name) (good_return (b.Plain (a.Con name)) (record {
    spelled = λ k. btype_plain (a.Con name) k ∙ atype_con name k;
    sound = formed_btype_plain (a.Con name) ∙ formed_atype_con name;
  }))))

  pub good_plain_type : Good Btype (plain_type turns atype) (Spells Btype btype_onto formed_btype)
  good_plain_type = good_then g (λ x. good_return (b.Plain x) (λ w h. record {
    spelled = λ k. let f = h.spelled in simp (btype_plain, f, append-nil);
    sound = formed_btype_plain x ∙ h.sound;
  }))

  pub good_btype : Good Btype (btype turns atype) (Spells Btype btype_onto formed_btype)
  unfolding btype
  good_btype = good_look (λ c. good_if (is_capital c) good_constructor_type good_plain_type)

  pub good_arrow_type : Good ArrowType (arrow_type turns atype) (Spells ArrowType arrow_type_onto formed_arrow_type)
  unfolding arrow_type
  good_arrow_type = good_key key.KRightArrow (λ arrow. good_then good_btype (λ x. good_return (roll-ArrowType (record { arrow = arrow; part = x })) (λ w h. record {
    spelled = λ k. let f = h.spelled in simp (arrow_type_made, f, append-nil);
    sound = formed_arrow_type_made arrow x ∙ h.sound;
  })))

  pub good_arrow_types : Good (List ArrowType) (arrow_types turns atype) (Spells (List ArrowType) (each_onto arrow_type_onto) (each_formed formed_arrow_type))
  good_arrow_types = good_many arrow_type_onto formed_arrow_type (is key.KRightArrow) turns good_arrow_type

  pub good_type_exp : Good TypeExp (type_exp turns atype) (Spells TypeExp type_exp_onto formed_type_exp)
  unfolding type_exp
  good_type_exp = good_then good_btype (λ first. good_then good_arrow_types (λ rest. good_return (roll-TypeExp (record { first = first; rest = rest })) (λ ws hs w h. record {
    spelled = λ k. let f = h.spelled in let s = hs.spelled in simp (type_exp_made, f, s, append_assoc, append-nil);
    sound = formed_type_exp_made first rest ∙ both _ _ h.sound hs.sound;
  })))

  pub good_comma_type : Good CommaType (comma_type turns atype) (Spells CommaType comma_type_onto formed_comma_type)
  unfolding comma_type
  good_comma_type = good_key key.KComma (λ comma. good_then good_type_exp (λ x. good_return (roll-CommaType (record { comma = comma; part = x })) (λ w h. record {
    spelled = λ k. let f = h.spelled in simp (comma_type_made, f, append-nil);
    sound = formed_comma_type_made comma x ∙ h.sound;
  })))

  pub good_tuple_type : (open_at : At) (first : TypeExp) → Good Atype (tuple_type turns atype open_at first) (λ x v. (w : List Token) → Spells TypeExp type_exp_onto formed_type_exp first w → Spells Atype atype_onto formed_atype x (key_onto open_at key.KOpenParen (w ++ v)))
  unfolding tuple_type
  good_tuple_type open_at first = good_then good_comma_type (λ second.
      good_then (good_at_most_from CommaType comma_type_onto formed_comma_type (is key.KComma) (comma_type turns atype) good_comma_type 5 (second ∷ [])) (λ rest.
      good_key key.KCloseParen (λ close_at. good_return (a.Tuple open_at first rest close_at) (λ wr hr ws hs w h. let m = members second rest ws wr hs hr in record {
        spelled = λ k. let f = h.spelled in let s = m.spelled in simp (atype_tuple, f, s, append_assoc);
        sound = formed_atype_tuple open_at first rest close_at ∙ both _ _ h.sound (both _ _ m.each m.some);
      }))))

  pub good_paren_type : (open_at : At) (inner : TypeExp) → Good Atype (paren_type turns atype open_at inner) (λ x v. (w : List Token) → Spells TypeExp type_exp_onto formed_type_exp inner w → Spells Atype atype_onto formed_atype x (key_onto open_at key.KOpenParen (w ++ v)))
  good_paren_type open_at inner = good_key key.KCloseParen (λ close_at. good_return (a.Paren open_at inner close_at) (λ w h. record {
    spelled = λ k. let f = h.spelled in simp (atype_paren, f, append_assoc);
    sound = formed_atype_paren open_at inner close_at ∙ h.sound;
  }))

  pub good_parens_type_behind : (open_at : At) (first : TypeExp) → Good Atype (parens_type_behind turns atype open_at first) (λ x v. (w : List Token) → Spells TypeExp type_exp_onto formed_type_exp first w → Spells Atype atype_onto formed_atype x (key_onto open_at key.KOpenParen (w ++ v)))
  good_parens_type_behind open_at first = good_look (λ c. good_if (is key.KCloseParen c) (good_paren_type open_at first) (good_tuple_type open_at first))

  pub good_unit_type : (open_at : At) → Good Atype (unit_type turns atype open_at) (λ x v. Spells Atype atype_onto formed_atype x (key_onto open_at key.KOpenParen v))
  good_unit_type open_at = good_key key.KCloseParen (λ close_at. good_return (a.Unit open_at close_at) (record {
    spelled = λ k. atype_unit open_at close_at k;
    sound = formed_atype_unit open_at close_at;
  }))

  pub good_parens_type : Good Atype (parens_type turns atype) (Spells Atype atype_onto formed_atype)
  unfolding parens_type
  good_parens_type = good_key key.KOpenParen (λ open_at. good_look (λ c. good_if (is key.KCloseParen c) (good_unit_type open_at) (good_then good_type_exp (good_parens_type_behind open_at))))

  pub good_list_type : Good Atype (list_type turns atype) (Spells Atype atype_onto formed_atype)
  unfolding list_type
  good_list_type = good_key key.KOpenBracket (λ open_at. good_then good_type_exp (λ inner. good_key key.KCloseBracket (λ close_at. good_return (a.List open_at inner close_at) (λ w h. record {
    spelled = λ k. let f = h.spelled in simp (atype_list, f, append_assoc);
    sound = formed_atype_list open_at inner close_at ∙ h.sound;
  }))))

  pub good_con_type : Good Atype (con_type turns atype) (Spells Atype atype_onto formed_atype)
  good_con_type = good_capital (λ name. good_return (a.Con name) (record { spelled = λ k. atype_con name k; sound = formed_atype_con name }))

  pub good_var_type : Good Atype (var_type turns atype) (Spells Atype atype_onto formed_atype)
  good_var_type = good_small (λ name. good_return (a.Var name) (record { spelled = λ k. atype_var name k; sound = formed_atype_var name }))

  pub good_atype_by : (c : Option Token) → Good Atype (atype_by turns atype c) (Spells Atype atype_onto formed_atype)
  good_atype_by c = good_if (is_small c) good_var_type (good_if (is_capital c) good_con_type (good_if (is key.KOpenParen c) good_parens_type (good_if (is key.KOpenBracket c) good_list_type
      (good_refuse Atype (Spells Atype atype_onto formed_atype) some_atype))))

  pub good_atype_level : Good Atype (atype_level turns atype) (Spells Atype atype_onto formed_atype)
  unfolding atype_level
  good_atype_level = good_look good_atype_by

pub good_atype : (turns depth : ℕ) → Good Atype (atype turns depth) (Spells Atype atype_onto formed_atype)
unfolding atype
good_atype turns zero = good_deep Atype (Spells Atype atype_onto formed_atype) some_atype
good_atype turns (suc depth) = good_atype_level turns (atype turns depth) (good_atype turns depth)
