-- No limit comes in the rules of patterns where the turns are more than the text is long and the depth suffices for the nesting.
use Rattle.std.proofs.Common.{ℕ, zero, suc, ◌<◌, List, [], ◌∷◌, Option, refl}
use Rattle.hdc_base.specs.declared.place.At.{At}
use Rattle.hdc_base.specs.declared.token.Key.TheVariants as key
use Rattle.hdc_base.specs.declared.token.Token.{Token}
use Rattle.hdc_tree.specs.declared.name.Name.{Name}
use Rattle.hdc_tree.specs.declared.pattern.Apat.{Apat}
use Rattle.hdc_tree.specs.declared.pattern.Apat.TheVariants as a
use Rattle.hdc_tree.specs.declared.pattern.LeftPat.{LeftPat}
use Rattle.hdc_tree.specs.declared.pattern.LeftPat.TheVariants as l
use Rattle.hdc_tree.specs.declared.pattern.CommaPat.{CommaPat, roll-CommaPat}
use Rattle.hdc_tree.specs.declared.pattern.ConsPat.{ConsPat, roll-ConsPat}
use Rattle.hdc_tree.specs.declared.pattern.Pat.{Pat, roll-Pat}
use Rattle.hdc_tree.specs.PatternSpelling.{apat_onto, comma_pat_onto, cons_pat_onto}
use Rattle.hdc_tree.specs.PatternForm.{formed_apat, formed_comma_pat, formed_cons_pat}
use Rattle.hdc_syntax.specs.Parser.{Parser}
use Rattle.hdc_syntax.specs.Words.{is, is_small, is_capital, is_minus, is_literal, capital_of, minus_of, number_of, literal_of}
use Rattle.hdc_syntax.proofs.Good.{Good, Spells}
use Rattle.hdc_syntax.proofs.Balanced.{balanced_free}
use Rattle.hdc_syntax.proofs.Keeping.{keeps_floor, keeps_outer, spelled_balanced}
use Rattle.hdc_syntax.proofs.Ample.{here, floor, outer, Free, free_pure, free_refuse, free_then, free_token, free_last, Ample, ample_free, ample_floor, ample_outer, ample_none, ample_look, ample_if}
use Rattle.hdc_syntax.specs.PatternReader.{starts_apat, apats, applied_pat, constructor_pat, negative_pat, plain_pat, left_pat, cons_pat, cons_pats, pat_behind, pat, comma_pat, tuple_pat, parens_behind, parens_pat, comma_pats, members_pat, list_pat, as_pat, named_pat, apat_by, apat_level, apat}
use Rattle.hdc_syntax.proofs.PatternWords.{good_left_pat, good_cons_pat, good_cons_pats, good_pat, good_comma_pat, good_apat}
use Rattle.hdc_syntax.proofs.PatternAgain.{apat_starts, cons_pat_starts, comma_pat_starts}
use Rattle.hdc_syntax.proofs.PatternBalanced.{apat_word, left_pat_word, comma_pat_word, cons_pat_word, pat_word}
use Rattle.hdc_syntax.proofs.AmpleSteps.{each_word, ample_last, then_here, then_floor, then_outer, Leads, leads_pure, leads_look, leads_if, leads_good, leads_then, leads_close, past_key, past_comma, past_comma_outer, past_counting, past_open, past_small, past_capital, many_here, many_floor, members_floor, members_outer, members_lead}

-- what the rules leave
module _ (turns : ℕ) (apat : Parser Apat) (good : Good Apat apat (Spells Apat apat_onto formed_apat)) where
  pub leads_pat_behind : (first : LeftPat) → Leads Pat (pat_behind turns apat first) outer outer
  leads_pat_behind first = leads_then (leads_good (good_cons_pats turns apat good) (λ xs w r. keeps_outer (balanced_free (spelled_balanced (each_word cons_pat_word xs) r)))) (λ rest. leads_pure (roll-Pat (record { first = first; rest = rest })))

  pub leads_pat_behind_floor : (first : LeftPat) → Leads Pat (pat_behind turns apat first) floor floor
  leads_pat_behind_floor first = leads_then (leads_good (good_cons_pats turns apat good) (λ xs w r. keeps_floor (balanced_free (spelled_balanced (each_word cons_pat_word xs) r)))) (λ rest. leads_pure (roll-Pat (record { first = first; rest = rest })))

  leads_tuple_pat : (open_at : At) (first : Pat) → Leads Apat (tuple_pat turns apat open_at first) outer floor
  unfolding tuple_pat
  leads_tuple_pat open_at first = leads_then (leads_good (good_comma_pat turns apat good) (λ x w r. keeps_outer (spelled_balanced (comma_pat_word x) r))) (λ second.
      leads_then (members_lead comma_pat_onto formed_comma_pat (is key.KComma) 5 (second ∷ []) (good_comma_pat turns apat good) comma_pat_word) (λ rest.
      leads_close key.KCloseParen refl (λ close_at. leads_pure (a.Tuple open_at first rest close_at))))

  pub leads_parens_behind : (open_at : At) (first : Pat) → Leads Apat (parens_behind turns apat open_at first) outer floor
  leads_parens_behind open_at first = leads_look (λ c. leads_if (is key.KCloseParen c) (leads_close key.KCloseParen refl (λ close_at. leads_pure (a.Paren open_at first close_at))) (leads_tuple_pat open_at first))

-- the rules at one depth, by the parser of patterns that may be arguments
module _ (turns : ℕ) (apat : Parser Apat) (good : Good Apat apat (Spells Apat apat_onto formed_apat)) (most n depth : ℕ) (lt : n < turns) (g : Ample Apat apat most n depth here) where
  pub ample_apats : Ample (List Apat) (apats turns apat) most n depth here
  ample_apats = many_here apat_onto formed_apat starts_apat refl apat_starts good lt apat_word [] g

  pub ample_applied_pat : (name : Name) → Ample LeftPat (applied_pat turns apat name) most n depth here
  unfolding applied_pat
  ample_applied_pat name = then_here g good apat_word (λ first. ample_last ample_apats (λ rest. free_pure (l.Applied name first rest)))

  pub ample_constructor_pat : Ample LeftPat (constructor_pat turns apat) most n depth here
  unfolding constructor_pat
  ample_constructor_pat = past_capital (λ name. ample_look (λ c. ample_if (starts_apat c) (ample_applied_pat name) (ample_free (free_pure (l.Plain (a.Con name))))))

  pub free_negative_pat : Free LeftPat (negative_pat turns apat)
  unfolding negative_pat
  free_negative_pat = free_then (free_token minus_of) (λ at. free_then (free_token number_of) (λ n. free_pure (l.Negative at n.0 n.1)))

  pub ample_plain_pat : Ample LeftPat (plain_pat turns apat) most n depth here
  ample_plain_pat = ample_last g (λ x. free_pure (l.Plain x))

  pub ample_left_pat : Ample LeftPat (left_pat turns apat) most n depth here
  unfolding left_pat
  ample_left_pat = ample_look (λ c. ample_if (is_capital c) ample_constructor_pat (ample_if (is_minus c) (ample_free free_negative_pat) ample_plain_pat))

  pub ample_cons_pat : Ample ConsPat (cons_pat turns apat) most n depth here
  unfolding cons_pat
  ample_cons_pat = past_key key.KColon refl (λ colon. ample_last ample_left_pat (λ x. free_pure (roll-ConsPat (record { colon = colon; pat = x }))))

  pub ample_cons_pats : Ample (List ConsPat) (cons_pats turns apat) most n depth here
  ample_cons_pats = many_here cons_pat_onto formed_cons_pat (is key.KColon) refl cons_pat_starts (good_cons_pat turns apat good) lt cons_pat_word [] ample_cons_pat

  pub ample_pat_behind : (first : LeftPat) → Ample Pat (pat_behind turns apat first) most n depth here
  ample_pat_behind first = ample_last ample_cons_pats (λ rest. free_pure (roll-Pat (record { first = first; rest = rest })))

  pub ample_pat : Ample Pat (pat turns apat) most n depth here
  unfolding pat
  ample_pat = then_here ample_left_pat (good_left_pat turns apat good) left_pat_word ample_pat_behind

  -- in a bracket

  pub ample_comma_pat : Ample CommaPat (comma_pat turns apat) most n depth floor
  unfolding comma_pat
  ample_comma_pat = past_comma key.KComma refl (λ comma. ample_last (ample_floor ample_pat) (λ x. free_pure (roll-CommaPat (record { comma = comma; pat = x }))))

  pub ample_comma_pat_outer : Ample CommaPat (comma_pat turns apat) most n depth outer
  unfolding comma_pat
  ample_comma_pat_outer = past_comma_outer key.KComma refl (λ comma. ample_last (ample_outer (ample_floor ample_pat)) (λ x. free_pure (roll-CommaPat (record { comma = comma; pat = x }))))

  pub ample_comma_pats : Ample (List CommaPat) (comma_pats turns apat) most n depth floor
  ample_comma_pats = many_floor comma_pat_onto formed_comma_pat (is key.KComma) refl comma_pat_starts (good_comma_pat turns apat good) lt comma_pat_word [] ample_comma_pat

  pub ample_tuple_pat : (open_at : At) (first : Pat) → Ample Apat (tuple_pat turns apat open_at first) most n depth floor
  unfolding tuple_pat
  ample_tuple_pat open_at first = then_floor ample_comma_pat (good_comma_pat turns apat good) comma_pat_word (λ second.
      ample_last (members_floor comma_pat_onto formed_comma_pat (is key.KComma) 5 (second ∷ []) (good_comma_pat turns apat good) comma_pat_word ample_comma_pat) (λ rest.
      free_last key.KCloseParen (λ close_at. free_pure (a.Tuple open_at first rest close_at))))

  ample_tuple_pat_outer : (open_at : At) (first : Pat) → Ample Apat (tuple_pat turns apat open_at first) most n depth outer
  unfolding tuple_pat
  ample_tuple_pat_outer open_at first = then_outer ample_comma_pat_outer (good_comma_pat turns apat good) comma_pat_word (λ second.
      ample_last (members_outer comma_pat_onto formed_comma_pat (is key.KComma) 5 (second ∷ []) (good_comma_pat turns apat good) comma_pat_word ample_comma_pat_outer) (λ rest.
      free_last key.KCloseParen (λ close_at. free_pure (a.Tuple open_at first rest close_at))))

  pub ample_parens_behind : (open_at : At) (first : Pat) → Ample Apat (parens_behind turns apat open_at first) most n depth floor
  ample_parens_behind open_at first = ample_look (λ c. ample_if (is key.KCloseParen c) (ample_free (free_last key.KCloseParen (λ close_at. free_pure (a.Paren open_at first close_at)))) (ample_tuple_pat open_at first))

  pub ample_parens_behind_outer : (open_at : At) (first : Pat) → Ample Apat (parens_behind turns apat open_at first) most n depth outer
  ample_parens_behind_outer open_at first = ample_look (λ c. ample_if (is key.KCloseParen c) (ample_free (free_last key.KCloseParen (λ close_at. free_pure (a.Paren open_at first close_at)))) (ample_tuple_pat_outer open_at first))

  pub ample_members_pat : (open_at : At) → Ample Apat (members_pat turns apat open_at) most n depth floor
  unfolding members_pat
  ample_members_pat open_at = then_floor (ample_floor ample_pat) (good_pat turns apat good) pat_word (λ first. ample_last ample_comma_pats (λ rest. free_last key.KCloseBracket (λ close_at. free_pure (a.List open_at first rest close_at))))

  -- one depth further out

  pub ample_parens_pat : Ample Apat (parens_pat turns apat) most n (suc depth) here
  unfolding parens_pat
  ample_parens_pat = past_open key.KOpenParen refl (λ open_at. ample_look (λ c. ample_if (is key.KCloseParen c) (ample_free (free_last key.KCloseParen (λ close_at. free_pure (a.Unit open_at close_at))))
      (then_floor (ample_floor ample_pat) (good_pat turns apat good) pat_word (ample_parens_behind open_at))))

  pub ample_list_pat : Ample Apat (list_pat turns apat) most n (suc depth) here
  unfolding list_pat
  ample_list_pat = past_open key.KOpenBracket refl (λ open_at. ample_look (λ c. ample_if (is key.KCloseBracket c) (ample_free (free_last key.KCloseBracket (λ close_at. free_pure (a.Nil open_at close_at)))) (ample_members_pat open_at)))

  pub ample_as_pat : (name : Name) → Ample Apat (as_pat turns apat name) most n (suc depth) here
  ample_as_pat name = past_counting key.KAt refl (λ at. ample_last g (λ x. free_pure (a.As name at x)))

  pub ample_named_pat : Ample Apat (named_pat turns apat) most n (suc depth) here
  unfolding named_pat
  ample_named_pat = past_small (λ name. ample_look (λ c. ample_if (is key.KAt c) (ample_as_pat name) (ample_free (free_pure (a.Var name)))))

  pub ample_apat_by : (c : Option Token) → Ample Apat (apat_by turns apat c) most n (suc depth) here
  ample_apat_by c = ample_if (is_small c) ample_named_pat (ample_if (is_capital c) (ample_free (free_then (free_token capital_of) (λ name. free_pure (a.Con name))))
      (ample_if (is_literal c) (ample_free (free_then (free_token literal_of) (λ x. free_pure (a.Literal x.0 x.1)))) (ample_if (is key.KUnderscore c) (ample_free (free_last key.KUnderscore (λ at. free_pure (a.Wildcard at))))
      (ample_if (is key.KOpenParen c) ample_parens_pat (ample_if (is key.KOpenBracket c) ample_list_pat (ample_free free_refuse))))))

  pub ample_apat_level : Ample Apat (apat_level turns apat) most n (suc depth) here
  unfolding apat_level
  ample_apat_level = ample_look ample_apat_by

pub ample_apat : (turns most depth n : ℕ) → n < turns → Ample Apat (apat turns depth) most n depth here
unfolding apat
ample_apat turns most zero n lt = ample_none
ample_apat turns most (suc depth) n lt = ample_apat_level turns (apat turns depth) (good_apat turns depth) most n depth lt (ample_apat turns most depth n lt)
