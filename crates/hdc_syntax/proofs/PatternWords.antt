-- What each rule of patterns reads is a pattern's spelling, and where a rule stops the tokens so far begin one.
use Rattle.std.proofs.Common.{ℕ, zero, suc, List, [], ◌∷◌, ◌++◌, Option, refl, ◌∙◌, append_assoc, append-nil}
use Rattle.hdc_base.specs.declared.place.At.{At}
use Rattle.hdc_base.specs.declared.token.Key.TheVariants as key
use Rattle.hdc_base.specs.declared.token.Token.{Token}
use Rattle.hdc_tree.specs.declared.name.Name.{Name}
use Rattle.hdc_tree.specs.declared.pattern.Apat.{Apat}
use Rattle.hdc_tree.specs.declared.pattern.Apat.TheVariants as a
use Rattle.hdc_tree.specs.declared.pattern.LeftPat.{LeftPat}
use Rattle.hdc_tree.specs.declared.pattern.LeftPat.TheVariants as l
use Rattle.hdc_tree.specs.declared.pattern.CommaPat.{CommaPat, roll-CommaPat}
use Rattle.hdc_tree.specs.declared.pattern.ConsPat.{ConsPat, roll-ConsPat}
use Rattle.hdc_tree.specs.declared.pattern.Pat.{Pat, roll-Pat}
use Rattle.hdc_tree.specs.Form.{each_formed}
use Rattle.hdc_tree.specs.NameSpelling.{key_onto, small_onto, capital_onto, each_onto}
use Rattle.hdc_tree.specs.PatternSpelling.{apat_onto, left_pat_onto, comma_pat_onto, cons_pat_onto, pat_onto}
use Rattle.hdc_tree.specs.PatternForm.{formed_apat, formed_left_pat, formed_comma_pat, formed_cons_pat, formed_pat}
use Rattle.hdc_tree.proofs.PatternEquations.{apat_var, apat_as, apat_wildcard, apat_con, apat_literal, apat_unit, apat_nil, apat_paren, apat_tuple, apat_list, left_pat_plain, left_pat_applied, left_pat_negative, comma_pat_made, cons_pat_made, pat_made}
use Rattle.hdc_tree.proofs.PatternFormed.{formed_apat_var, formed_apat_as, formed_apat_wildcard, formed_apat_con, formed_apat_literal, formed_apat_unit, formed_apat_nil, formed_apat_paren, formed_apat_tuple, formed_apat_list, formed_left_pat_plain, formed_left_pat_applied, formed_left_pat_negative, formed_comma_pat_made, formed_cons_pat_made, formed_pat_made}
use Rattle.hdc_syntax.specs.Parser.{Parser}
use Rattle.hdc_syntax.specs.Words.{is, is_small, is_capital, is_minus, is_literal}
use Rattle.hdc_syntax.proofs.Good.{Good, Spells, Some_of, good_refuse, good_deep, good_at_most_from}
use Rattle.hdc_syntax.proofs.Steps.{some_at, good_then, good_key, good_small, good_capital, good_minus, good_number, good_literal, good_look, good_if, good_return}
use Rattle.hdc_syntax.proofs.Tests.{both}
use Rattle.hdc_syntax.specs.PatternReader.{starts_apat, apats, applied_pat, constructor_pat, negative_pat, plain_pat, left_pat, cons_pat, cons_pats, pat_behind, pat, comma_pat, tuple_pat, paren_pat, parens_behind, unit_pat, parens_pat, nil_pat, comma_pats, members_pat, list_pat, as_pat, named_pat, con_pat, literal_pat, wildcard_pat, apat_by, apat_level, apat}
use Rattle.hdc_syntax.proofs.Several.{good_many, members}

some_apat : Some_of Apat (Spells Apat apat_onto formed_apat)
some_apat = record { value = a.Wildcard some_at; word = key_onto some_at key.KUnderscore []; is = record { spelled = λ k. apat_wildcard some_at k; sound = formed_apat_wildcard some_at }; regular = refl }

-- the rules at one depth, by the parser of patterns that may be arguments
module _ (turns : ℕ) (apat : Parser Apat) (g : Good Apat apat (Spells Apat apat_onto formed_apat)) where
  pub good_apats : Good (List Apat) (apats turns apat) (Spells (List Apat) (each_onto apat_onto) (each_formed formed_apat))
  good_apats = good_many apat_onto formed_apat starts_apat turns g

  pub good_applied_pat : (name : Name) → Good LeftPat (applied_pat turns apat name) (λ x v. Spells LeftPat left_pat_onto formed_left_pat x (capital_onto name v))
  unfolding applied_pat
  good_applied_pat name = good_then g (λ first. good_then good_apats (λ rest. good_return (l.Applied name first rest) (λ ws hs w h. record {
    spelled = λ k. let f = h.spelled in let s = hs.spelled in simp (left_pat_applied, f, s, append_assoc, append-nil);
    sound = formed_left_pat_applied name first rest ∙ both _ _ h.sound hs.sound;
  })))

  pub good_constructor_pat : Good LeftPat (constructor_pat turns apat) (Spells LeftPat left_pat_onto formed_left_pat)
  unfolding constructor_pat
  good_constructor_pat = good_capital (λ name. good_look (λ c. good_if (starts_apat c) (good_applied_pat name) (good_return (l.Plain (a.Con name)) (record {
    spelled = λ k. left_pat_plain (a.Con name) k ∙ apat_con name k;
    sound = formed_left_pat_plain (a.Con name) ∙ formed_apat_con name;
  }))))

  pub good_negative_pat : Good LeftPat (negative_pat turns apat) (Spells LeftPat left_pat_onto formed_left_pat)
  unfolding negative_pat
  good_negative_pat = good_minus (λ at. good_number (λ n. good_return (l.Negative at n.0 n.1) (record {
    spelled = λ k. left_pat_negative at n.0 n.1 k;
    sound = formed_left_pat_negative at n.0 n.1;
  })))

  pub good_plain_pat : Good LeftPat (plain_pat turns apat) (Spells LeftPat left_pat_onto formed_left_pat)
  good_plain_pat = good_then g (λ x. good_return (l.Plain x) (λ w h. record {
    spelled = λ k. let f = h.spelled in simp (left_pat_plain, f, append-nil);
    sound = formed_left_pat_plain x ∙ h.sound;
  }))

  pub good_left_pat : Good LeftPat (left_pat turns apat) (Spells LeftPat left_pat_onto formed_left_pat)
  unfolding left_pat
  good_left_pat = good_look (λ c. good_if (is_capital c) good_constructor_pat (good_if (is_minus c) good_negative_pat good_plain_pat))

  pub good_cons_pat : Good ConsPat (cons_pat turns apat) (Spells ConsPat cons_pat_onto formed_cons_pat)
  unfolding cons_pat
  good_cons_pat = good_key key.KColon (λ colon. good_then good_left_pat (λ x. good_return (roll-ConsPat (record { colon = colon; pat = x })) (λ w h. record {
    spelled = λ k. let f = h.spelled in simp (cons_pat_made, f, append-nil);
    sound = formed_cons_pat_made colon x ∙ h.sound;
  })))

  pub good_cons_pats : Good (List ConsPat) (cons_pats turns apat) (Spells (List ConsPat) (each_onto cons_pat_onto) (each_formed formed_cons_pat))
  good_cons_pats = good_many cons_pat_onto formed_cons_pat (is key.KColon) turns good_cons_pat

  pub good_pat_behind : (first : LeftPat) → Good Pat (pat_behind turns apat first) (λ x v. (w : List Token) → Spells LeftPat left_pat_onto formed_left_pat first w → Spells Pat pat_onto formed_pat x (w ++ v))
  good_pat_behind first = good_then good_cons_pats (λ rest. good_return (roll-Pat (record { first = first; rest = rest })) (λ ws hs w h. record {
    spelled = λ k. let f = h.spelled in let s = hs.spelled in simp (pat_made, f, s, append_assoc, append-nil);
    sound = formed_pat_made first rest ∙ both _ _ h.sound hs.sound;
  }))

  pub good_pat : Good Pat (pat turns apat) (Spells Pat pat_onto formed_pat)
  unfolding pat
  good_pat = good_then good_left_pat good_pat_behind

  pub good_comma_pat : Good CommaPat (comma_pat turns apat) (Spells CommaPat comma_pat_onto formed_comma_pat)
  unfolding comma_pat
  good_comma_pat = good_key key.KComma (λ comma. good_then good_pat (λ x. good_return (roll-CommaPat (record { comma = comma; pat = x })) (λ w h. record {
    spelled = λ k. let f = h.spelled in simp (comma_pat_made, f, append-nil);
    sound = formed_comma_pat_made comma x ∙ h.sound;
  })))

  pub good_comma_pats : Good (List CommaPat) (comma_pats turns apat) (Spells (List CommaPat) (each_onto comma_pat_onto) (each_formed formed_comma_pat))
  good_comma_pats = good_many comma_pat_onto formed_comma_pat (is key.KComma) turns good_comma_pat

  pub good_tuple_pat : (open_at : At) (first : Pat) → Good Apat (tuple_pat turns apat open_at first) (λ x v. (w : List Token) → Spells Pat pat_onto formed_pat first w → Spells Apat apat_onto formed_apat x (key_onto open_at key.KOpenParen (w ++ v)))
  unfolding tuple_pat
  good_tuple_pat open_at first = good_then good_comma_pat (λ second.
      good_then (good_at_most_from CommaPat comma_pat_onto formed_comma_pat (is key.KComma) (comma_pat turns apat) good_comma_pat 5 (second ∷ [])) (λ rest.
      good_key key.KCloseParen (λ close_at. good_return (a.Tuple open_at first rest close_at) (λ wr hr ws hs w h. let m = members second rest ws wr hs hr in record {
        spelled = λ k. let f = h.spelled in let s = m.spelled in simp (apat_tuple, f, s, append_assoc);
        sound = formed_apat_tuple open_at first rest close_at ∙ both _ _ h.sound (both _ _ m.each m.some);
      }))))

  pub good_paren_pat : (open_at : At) (inner : Pat) → Good Apat (paren_pat turns apat open_at inner) (λ x v. (w : List Token) → Spells Pat pat_onto formed_pat inner w → Spells Apat apat_onto formed_apat x (key_onto open_at key.KOpenParen (w ++ v)))
  good_paren_pat open_at inner = good_key key.KCloseParen (λ close_at. good_return (a.Paren open_at inner close_at) (λ w h. record {
    spelled = λ k. let f = h.spelled in simp (apat_paren, f, append_assoc);
    sound = formed_apat_paren open_at inner close_at ∙ h.sound;
  }))

  pub good_parens_behind : (open_at : At) (first : Pat) → Good Apat (parens_behind turns apat open_at first) (λ x v. (w : List Token) → Spells Pat pat_onto formed_pat first w → Spells Apat apat_onto formed_apat x (key_onto open_at key.KOpenParen (w ++ v)))
  good_parens_behind open_at first = good_look (λ c. good_if (is key.KCloseParen c) (good_paren_pat open_at first) (good_tuple_pat open_at first))

  pub good_unit_pat : (open_at : At) → Good Apat (unit_pat turns apat open_at) (λ x v. Spells Apat apat_onto formed_apat x (key_onto open_at key.KOpenParen v))
  good_unit_pat open_at = good_key key.KCloseParen (λ close_at. good_return (a.Unit open_at close_at) (record {
    spelled = λ k. apat_unit open_at close_at k;
    sound = formed_apat_unit open_at close_at;
  }))

  pub good_parens_pat : Good Apat (parens_pat turns apat) (Spells Apat apat_onto formed_apat)
  unfolding parens_pat
  good_parens_pat = good_key key.KOpenParen (λ open_at. good_look (λ c. good_if (is key.KCloseParen c) (good_unit_pat open_at) (good_then good_pat (good_parens_behind open_at))))

  pub good_nil_pat : (open_at : At) → Good Apat (nil_pat turns apat open_at) (λ x v. Spells Apat apat_onto formed_apat x (key_onto open_at key.KOpenBracket v))
  good_nil_pat open_at = good_key key.KCloseBracket (λ close_at. good_return (a.Nil open_at close_at) (record {
    spelled = λ k. apat_nil open_at close_at k;
    sound = formed_apat_nil open_at close_at;
  }))

  pub good_members_pat : (open_at : At) → Good Apat (members_pat turns apat open_at) (λ x v. Spells Apat apat_onto formed_apat x (key_onto open_at key.KOpenBracket v))
  unfolding members_pat
  good_members_pat open_at = good_then good_pat (λ first. good_then good_comma_pats (λ rest. good_key key.KCloseBracket (λ close_at. good_return (a.List open_at first rest close_at) (λ ws hs w h. record {
    spelled = λ k. let f = h.spelled in let s = hs.spelled in simp (apat_list, f, s, append_assoc);
    sound = formed_apat_list open_at first rest close_at ∙ both _ _ h.sound hs.sound;
  }))))

  pub good_list_pat : Good Apat (list_pat turns apat) (Spells Apat apat_onto formed_apat)
  unfolding list_pat
  good_list_pat = good_key key.KOpenBracket (λ open_at. good_look (λ c. good_if (is key.KCloseBracket c) (good_nil_pat open_at) (good_members_pat open_at)))

  pub good_as_pat : (name : Name) → Good Apat (as_pat turns apat name) (λ x v. Spells Apat apat_onto formed_apat x (small_onto name v))
  good_as_pat name = good_key key.KAt (λ at. good_then g (λ x. good_return (a.As name at x) (λ w h. record {
    spelled = λ k. let f = h.spelled in simp (apat_as, f, append-nil);
    sound = formed_apat_as name at x ∙ h.sound;
  })))

  pub good_named_pat : Good Apat (named_pat turns apat) (Spells Apat apat_onto formed_apat)
  unfolding named_pat
  good_named_pat = good_small (λ name. good_look (λ c. good_if (is key.KAt c) (good_as_pat name) (good_return (a.Var name) (record { spelled = λ k. apat_var name k; sound = formed_apat_var name }))))

  pub good_con_pat : Good Apat (con_pat turns apat) (Spells Apat apat_onto formed_apat)
  good_con_pat = good_capital (λ name. good_return (a.Con name) (record { spelled = λ k. apat_con name k; sound = formed_apat_con name }))

  pub good_literal_pat : Good Apat (literal_pat turns apat) (Spells Apat apat_onto formed_apat)
  good_literal_pat = good_literal (λ x. good_return (a.Literal x.0 x.1) (record { spelled = λ k. apat_literal x.0 x.1 k; sound = formed_apat_literal x.0 x.1 }))

  pub good_wildcard_pat : Good Apat (wildcard_pat turns apat) (Spells Apat apat_onto formed_apat)
  good_wildcard_pat = good_key key.KUnderscore (λ at. good_return (a.Wildcard at) (record { spelled = λ k. apat_wildcard at k; sound = formed_apat_wildcard at }))

  pub good_apat_by : (c : Option Token) → Good Apat (apat_by turns apat c) (Spells Apat apat_onto formed_apat)
  good_apat_by c = good_if (is_small c) good_named_pat (good_if (is_capital c) good_con_pat (good_if (is_literal c) good_literal_pat (good_if (is key.KUnderscore c) good_wildcard_pat
      (good_if (is key.KOpenParen c) good_parens_pat (good_if (is key.KOpenBracket c) good_list_pat (good_refuse Apat (Spells Apat apat_onto formed_apat) some_apat))))))

  pub good_apat_level : Good Apat (apat_level turns apat) (Spells Apat apat_onto formed_apat)
  unfolding apat_level
  good_apat_level = good_look good_apat_by

pub good_apat : (turns depth : ℕ) → Good Apat (apat turns depth) (Spells Apat apat_onto formed_apat)
unfolding apat
good_apat turns zero = good_deep Apat (Spells Apat apat_onto formed_apat) some_apat
good_apat turns (suc depth) = good_apat_level turns (apat turns depth) (good_apat turns depth)
